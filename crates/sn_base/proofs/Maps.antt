-- Laws of finite maps with unsigned numbers as their keys, and what ties them to the entries of a `BTreeMap`.
use Rattle.std.proofs.Common.{◌≡◌, ◌≢◌, ℕ, true, false, cond, List, [], ◌∷◌, length, refl, ap, sym, ◌∙◌, ◌⊎◌, inl, inr}
use Rattle.std.proofs.Common.{◌↔◌}
use Rattle.std.specs.Prelude.{Some, None}
use Rattle.std.specs.FinMap.{FinMap, get, insert, remove, empty, from_entries, entries, len, find, put, get-empty}
use Rattle.std.specs.FinMap.{get-insert, get-remove, get-from_entries, len-empty, len-entries, entries-insert, same_map}
use Rattle.std.specs.FinMap.{nat_cmp-IsAntisymmetric}
use Rattle.std.specs.Ordering.{nat_cmp, eq_by_cmp, is_eq}
use Rattle.std.specs.declared.cmp.Ordering.TheVariants.{Less, Equal, Greater}
use Rattle.std.specs.Cmp.{nat_cmp_total, eq_by_cmp_equiv, tied_itself}
use Rattle.std.specs.Map.{keys_of, lookup}
use Rattle.std.specs.BTreeMap.{is_at}
use Rattle.std.specs.List.Sorted.{IsStrictlySortedBy}
use Rattle.std.proofs.lemmas.Map.Keys.{sorted_head, sorted_tail}
use Rattle.std.proofs.lemmas.List.{nil_from_length}

-- ---- one key, or two

same_key : (k : ℕ) → eq_by_cmp nat_cmp k k ≡ true
same_key k = ap is_eq (tied_itself nat_cmp_total k)

other_key : (q k : ℕ) → q ≢ k → eq_by_cmp nat_cmp q k ≡ false
other_key q k h =
    elim (nat_cmp q k) as (λ o. nat_cmp q k ≡ o → is_eq o ≡ false) [
      | Less ↦ λ _. refl
      | Equal ↦ λ p. absurd (h (nat_cmp-IsAntisymmetric q k p))
      | Greater ↦ λ _. refl
    ] refl

one_or_two : (q k : ℕ) → ((q ≡ k) × (eq_by_cmp nat_cmp q k ≡ true)) ⊎ (eq_by_cmp nat_cmp q k ≡ false)
one_or_two q k =
    elim (nat_cmp q k) as (λ o. nat_cmp q k ≡ o → ((q ≡ k) × (is_eq o ≡ true)) ⊎ (is_eq o ≡ false)) [
      | Less ↦ λ _. inr refl
      | Equal ↦ λ p. inl (nat_cmp-IsAntisymmetric q k p, refl)
      | Greater ↦ λ _. inr refl
    ] refl

module _ {V : Type 0} where
  -- ---- what a map has at a key

  -- two maps that answer alike are one
  pub same_by_get : (m n : FinMap nat_cmp V) → ((q : ℕ) → get m q ≡ get n q) → m ≡ n
  same_by_get m n h = same_map nat_cmp_total nat_cmp-IsAntisymmetric m n h

  pub get_of_empty : (q : ℕ) → get (empty {X = V} {R = nat_cmp}) q ≡ None
  get_of_empty q = get-empty nat_cmp q

  pub get-insert_same : (m : FinMap nat_cmp V) (k : ℕ) (v : V) → get (insert m k v) k ≡ Some v
  get-insert_same m k v = get-insert nat_cmp_total m k v k ∙ ap (λ b. cond b (Some v) (get m k)) (same_key k)

  pub get-insert_other : (m : FinMap nat_cmp V) (k q : ℕ) (v : V) → k ≢ q → get (insert m k v) q ≡ get m q
  get-insert_other m k q v h =
      get-insert nat_cmp_total m k v q ∙ ap (λ b. cond b (Some v) (get m q)) (other_key q k (λ e. h (sym e)))

  pub get-remove_same : (m : FinMap nat_cmp V) (k : ℕ) → get (remove m k) k ≡ None
  get-remove_same m k = get-remove nat_cmp_total m k k ∙ ap (λ b. cond b None (get m k)) (same_key k)

  pub get-remove_other : (m : FinMap nat_cmp V) (k q : ℕ) → k ≢ q → get (remove m k) q ≡ get m q
  get-remove_other m k q h =
      get-remove nat_cmp_total m k q ∙ ap (λ b. cond b None (get m q)) (other_key q k (λ e. h (sym e)))

  -- a map's answers decide each question by the two cases, that q is the key, and that it is another
  by_key : (m n : FinMap nat_cmp V) (k : ℕ) → get m k ≡ get n k → ((q : ℕ) → k ≢ q → get m q ≡ get n q) → m ≡ n
  by_key m n k at others = same_by_get m n (λ q.
      elim (one_or_two q k) [
        | inl p ↦ ap (get m) p.0 ∙ at ∙ sym (ap (get n) p.0)
        | inr d ↦ others q (λ e. apart q d e)
      ])
    where
      apart : (q : ℕ) → eq_by_cmp nat_cmp q k ≡ false → k ≢ q
      apart q d e = cc (same_key k, ap (λ x. eq_by_cmp nat_cmp x k) e, d)

  -- ---- changes that come to the same

  -- to insert what is there changes nothing
  pub insert_same : (m : FinMap nat_cmp V) (k : ℕ) (v : V) → get m k ≡ Some v → insert m k v ≡ m
  insert_same m k v e = by_key _ _ k (get-insert_same m k v ∙ sym e) (λ q d. get-insert_other m k q v d)

  -- of two values at one key the last stays
  pub insert-insert : (m : FinMap nat_cmp V) (k : ℕ) (v w : V) → insert (insert m k v) k w ≡ insert m k w
  insert-insert m k v w =
      by_key _ _ k (get-insert_same _ k w ∙ sym (get-insert_same m k w)) (λ q d. get-insert_other _ k q w d
      ∙ get-insert_other m k q v d ∙ sym (get-insert_other m k q w d))

  -- to remove what is not there changes nothing
  pub remove_absent : (m : FinMap nat_cmp V) (k : ℕ) → get m k ≡ None → remove m k ≡ m
  remove_absent m k e = by_key _ _ k (get-remove_same m k ∙ sym e) (λ q d. get-remove_other m k q d)

  pub remove-insert : (m : FinMap nat_cmp V) (k : ℕ) (v : V) → remove (insert m k v) k ≡ remove m k
  remove-insert m k v =
      by_key _ _ k (get-remove_same _ k ∙ sym (get-remove_same m k)) (λ q d. get-remove_other _ k q d
      ∙ get-insert_other m k q v d ∙ sym (get-remove_other m k q d))

  pub insert-remove : (m : FinMap nat_cmp V) (k : ℕ) (v : V) → insert (remove m k) k v ≡ insert m k v
  insert-remove m k v =
      by_key _ _ k (get-insert_same _ k v ∙ sym (get-insert_same m k v)) (λ q d. get-insert_other _ k q v d
      ∙ get-remove_other m k q d ∙ sym (get-insert_other m k q v d))

  -- ---- the map of a list of entries

  find_key : (es : List (ℕ × V)) (q : ℕ) → find nat_cmp q es ≡ lookup (is_at (nat_cmp q)) es
  find_key [] q = refl
  find_key (e ∷ es) q = ap (cond (is_at (nat_cmp q) e.0) (Some e.1)) (find_key es q)

  -- what it has at a key
  pub get_entry : (es : List (ℕ × V)) (q : ℕ) → get (from_entries {R = nat_cmp} es) q ≡ lookup (is_at (nat_cmp q)) es
  get_entry es q = get-from_entries nat_cmp_total es q ∙ find_key es q

  -- entries that have v at k, and are alike elsewhere
  pub one_inserted : (es fs : List (ℕ × V)) (k : ℕ) (v : V)
      → ((q : ℕ) → lookup (is_at (nat_cmp q)) fs ≡ cond (is_at (nat_cmp k) q) (Some v) (lookup (is_at (nat_cmp q)) es))
      → from_entries {R = nat_cmp} fs ≡ insert (from_entries es) k v
  one_inserted es fs k v h = same_by_get _ _ (λ q.
      get_entry fs q ∙ h q
      ∙ ap (λ b. cond b (Some v) (lookup (is_at (nat_cmp q)) es)) ((eq_by_cmp_equiv nat_cmp_total).symm k q)
      ∙ sym (get-insert nat_cmp_total (from_entries es) k v q
      ∙ ap (cond (is_at (nat_cmp q) k) (Some v)) (get_entry es q)))

  -- entries that have nothing at k, and are alike elsewhere
  pub one_removed : (es fs : List (ℕ × V)) (k : ℕ)
      → ((q : ℕ) → lookup (is_at (nat_cmp q)) fs ≡ cond (is_at (nat_cmp k) q) None (lookup (is_at (nat_cmp q)) es))
      → from_entries {R = nat_cmp} fs ≡ remove (from_entries es) k
  one_removed es fs k h = same_by_get _ _ (λ q.
      get_entry fs q ∙ h q
      ∙ ap (λ b. cond b None (lookup (is_at (nat_cmp q)) es)) ((eq_by_cmp_equiv nat_cmp_total).symm k q)
      ∙ sym (get-remove nat_cmp_total (from_entries es) k q ∙ ap (cond (is_at (nat_cmp q) k) None) (get_entry es q)))

  put_first : (k : ℕ) (v : V) (es : List (ℕ × V)) → IsStrictlySortedBy nat_cmp (k ∷ keys_of es)
      → put nat_cmp k v es ≡ (k, v) ∷ es
  put_first k v [] h = refl
  put_first k v (e ∷ es) h =
      let below : nat_cmp k e.0 ≡ Less = (sorted_head nat_cmp k (keys_of (e ∷ es)) h).0 in
      rw below refl

  -- entries with ascending keys are those of their map
  pub entries-from_entries : (es : List (ℕ × V)) → IsStrictlySortedBy nat_cmp (keys_of es)
      → entries (from_entries {R = nat_cmp} es) ≡ es
  entries-from_entries [] h = nil_from_length _ (sym (len-entries _) ∙ len-empty nat_cmp V)
  entries-from_entries (e ∷ es) h =
      entries-insert nat_cmp_total (from_entries es) e.0 e.1
      ∙ ap (put nat_cmp e.0 e.1) (entries-from_entries es (sorted_tail nat_cmp e.0 (keys_of es) h))
      ∙ put_first e.0 e.1 es h

  pub len-from_entries : (es : List (ℕ × V)) → IsStrictlySortedBy nat_cmp (keys_of es)
      → len (from_entries {R = nat_cmp} es) ≡ length es
  len-from_entries es h = len-entries _ ∙ ap length (entries-from_entries es h)

  -- the map of no entries is the empty one, and of some entries another
  pub empty_entries : (es : List (ℕ × V)) → (length es ≡ 0) ↔ (from_entries {R = nat_cmp} es ≡ empty)
  empty_entries [] = (λ _. refl, λ _. refl)
  empty_entries (e ∷ es) = (
    λ h. absurd (cc h),
    λ h. absurd (cc (get-insert_same (from_entries es) e.0 e.1, get_of_empty e.0)),
  )

-- what a map has after each call, for `grind`
pub ruleset map_laws = (
  get_of_empty,
  get-insert_same,
  get-insert_other,
  get-remove_same,
  get-remove_other,
  insert_same,
  insert-insert,
  remove_absent,
  remove-insert,
  insert-remove,
)
