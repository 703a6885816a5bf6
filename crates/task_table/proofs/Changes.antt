-- Laws of changes of one entry, of some in turn, and of every entry.
use Rattle.std.proofs.Common.{◌≡◌, ℕ, ◌+◌, ◌<◌, Bool, true, false, cond, eqb, ◌||◌, List, [], ◌∷◌, ◌++◌, map, length}
use Rattle.std.proofs.Common.{take, get_or, refl, ap, sym, ◌∙◌}
use Rattle.std.specs.Prelude.{Option, Some, None, is_some}
use Rattle.std.specs.List.{list_any}
use Rattle.std.specs.Option.{option_map, option_map_or}
use Rattle.std.specs.FinMap.{FinMap, get, insert, entries, keys, find, get-entries, get-from_entries}
use Rattle.std.specs.Ordering.{nat_cmp, eq_by_cmp}
use Rattle.std.specs.Cmp.{nat_cmp_total, unsigned_tied}
use Rattle.std.proofs.lemmas.Bool.{eqb-true, eq-eqb}
use Rattle.std.proofs.lemmas.List.{take_more}
use Rattle.sn_base.proofs.Maps.{same_by_get}
use Rattle.task_table.specs.Entries.{changed_at, each_changed}
use Rattle.task_table.proofs.Numbers.{get_after, keys-insert_there, among_keys}

-- a test that a change leaves
pub alike : {A : Type 0} {B : Type 0} (f : A → A) (test : A → B) (d : B) (same : (x : A) → test (f x) ≡ test x)
    (b : Bool) (o : Option A) → option_map_or test (cond b (option_map f o) o) d ≡ option_map_or test o d
alike f test d same true None = refl
alike f test d same true (Some x) = same x
alike f test d same false o = refl

module _ {V : Type 0} where
  -- ---- one entry

  -- what an entry is after one was changed
  pub get-changed_at : (f : V → V) (m : FinMap nat_cmp V) (n q : ℕ)
      → get (changed_at f m n) q ≡ cond (eqb q n) (option_map f (get m q)) (get m q)
  get-changed_at f m n q =
      elim (get m n) as (λ o. get m n ≡ o → get (option_map_or (λ v. insert m n (f v)) o m) q
      ≡ cond (eqb q n) (option_map f (get m q)) (get m q)) [
        | None ↦ λ e. none (eqb q n) refl e
        | Some v ↦ λ e. get_after m n (f v) q ∙ some v (eqb q n) refl e
      ] refl
    where
      none : (b : Bool) → eqb q n ≡ b → get m n ≡ None → get m q ≡ cond b (option_map f (get m q)) (get m q)
      none true is e = let at = ap (get m) (eqb-true q n is) ∙ e in at ∙ sym (ap (option_map f) at)
      none false is e = refl

      some : (v : V) (b : Bool) → eqb q n ≡ b → get m n ≡ Some v
          → cond b (Some (f v)) (get m q) ≡ cond b (option_map f (get m q)) (get m q)
      some v true is e = sym (ap (option_map f) (ap (get m) (eqb-true q n is) ∙ e))
      some v false is e = refl

  pub keys-changed_at : (f : V → V) (m : FinMap nat_cmp V) (n : ℕ) → keys (changed_at f m n) ≡ keys m
  keys-changed_at f m n =
      elim (get m n) as (λ o. get m n ≡ o → keys (option_map_or (λ v. insert m n (f v)) o m) ≡ keys m) [
        | None ↦ λ e. refl
        | Some v ↦ λ e. keys-insert_there m n (f v) (ap is_some e)
      ] refl

  -- ---- entries in turn

  -- the entries of these numbers changed, one after another
  abbrev pub changed_along : (ℕ → V → V) → FinMap nat_cmp V → List ℕ → FinMap nat_cmp V
  changed_along f m [] = m
  changed_along f m (n ∷ ns) = changed_along f (changed_at (f n) m n) ns

  pub changed_along-push : (f : ℕ → V → V) (m : FinMap nat_cmp V) (ns : List ℕ) (n : ℕ)
      → changed_along f m (ns ++ n ∷ []) ≡ changed_at (f n) (changed_along f m ns) n
  changed_along-push f m [] n = refl
  changed_along-push f m (x ∷ ns) n = changed_along-push f (changed_at (f x) m x) ns n

  -- a loop's step
  pub changed_along_more : (f : ℕ → V → V) (m : FinMap nat_cmp V) (ns : List ℕ) (i : ℕ) → i < length ns
      → changed_along f m (take (i + 1) ns)
      ≡ changed_at (f (get_or ns i 0)) (changed_along f m (take i ns)) (get_or ns i 0)
  changed_along_more f m ns i h =
      ap (changed_along f m) (take_more ns i 0 h) ∙ changed_along-push f m (take i ns) (get_or ns i 0)

  pub keys-changed_along : (f : ℕ → V → V) (m : FinMap nat_cmp V) (ns : List ℕ) → keys (changed_along f m ns) ≡ keys m
  keys-changed_along f m [] = refl
  keys-changed_along f m (n ∷ ns) = keys-changed_along f (changed_at (f n) m n) ns ∙ keys-changed_at (f n) m n

  -- what an entry is then, where to change it twice is to change it once
  pub get-changed_along : (f : ℕ → V → V) → ((n : ℕ) (v : V) → f n (f n v) ≡ f n v)
      → (m : FinMap nat_cmp V) (ns : List ℕ) (q : ℕ)
      → get (changed_along f m ns) q ≡ cond (list_any (eqb q) ns) (option_map (f q) (get m q)) (get m q)
  get-changed_along f once m [] q = refl
  get-changed_along f once m (n ∷ ns) q =
      get-changed_along f once (changed_at (f n) m n) ns q
      ∙ ap (λ o. cond (list_any (eqb q) ns) (option_map (f q) o) o) (get-changed_at (f n) m n q)
      ∙ joined (eqb q n) refl (list_any (eqb q) ns)
    where
      twice : (o : Option V) → option_map (f q) (option_map (f q) o) ≡ option_map (f q) o
      twice None = refl
      twice (Some v) = ap Some (once q v)

      joined : (a : Bool) → eqb q n ≡ a → (b : Bool)
          → cond b (option_map (f q) (cond a (option_map (f n) (get m q)) (get m q)))
          (cond a (option_map (f n) (get m q)) (get m q)) ≡ cond (a || b) (option_map (f q) (get m q)) (get m q)
      joined true is true =
          ap (λ x. option_map (f q) (option_map (f x) (get m q))) (sym (eqb-true q n is)) ∙ twice (get m q)
      joined true is false = ap (λ x. option_map (f x) (get m q)) (sym (eqb-true q n is))
      joined false is b = refl

  -- ---- every entry

  find_changed : (f : ℕ → V → V) (es : List (ℕ × V)) (q : ℕ) → find nat_cmp q (map (λ e. (e.0, f e.0 e.1)) es)
      ≡ option_map (f q) (find nat_cmp q es)
  find_changed f [] q = refl
  find_changed f (e ∷ es) q =
      elim (eq_by_cmp nat_cmp q e.0) as (λ b. eq_by_cmp nat_cmp q e.0 ≡ b
      → cond b (Some (f e.0 e.1)) (find nat_cmp q (map (λ e. (e.0, f e.0 e.1)) es))
      ≡ option_map (f q) (cond b (Some e.1) (find nat_cmp q es))) [
        | true ↦ λ is. ap (λ x. Some (f x e.1)) (sym (eqb-true q e.0 (sym (unsigned_tied q e.0) ∙ is)))
        | false ↦ λ is. find_changed f es q
      ] refl

  -- what an entry is after each was changed
  pub get-each_changed : (f : ℕ → V → V) (m : FinMap nat_cmp V) (q : ℕ)
      → get (each_changed f m) q ≡ option_map (f q) (get m q)
  unfolding each_changed
  get-each_changed f m q =
      get-from_entries nat_cmp_total (map (λ e. (e.0, f e.0 e.1)) (entries m)) q ∙ find_changed f (entries m) q
      ∙ ap (option_map (f q)) (sym (get-entries m q))

  -- an entry that is changed after some were, itself maybe among them, is what it is where every entry is changed
  pub get-changed_after : (f : ℕ → V → V) → ((n : ℕ) (v : V) → f n (f n v) ≡ f n v)
      → (m : FinMap nat_cmp V) (ns : List ℕ) (q : ℕ) → get (changed_at (f q) (changed_along f m ns) q) q
      ≡ get (each_changed f m) q
  get-changed_after f once m ns q =
      let before = get (changed_along f m ns) q in
      get-changed_at (f q) (changed_along f m ns) q q
      ∙ ap (λ b. cond b (option_map (f q) before) before) (eq-eqb q q refl)
      ∙ ap (option_map (f q)) (get-changed_along f once m ns q)
      ∙ again (list_any (eqb q) ns) (get m q)
      ∙ sym (get-each_changed f m q)
    where
      again : (b : Bool) (o : Option V) → option_map (f q) (cond b (option_map (f q) o) o) ≡ option_map (f q) o
      again true None = refl
      again true (Some v) = ap Some (once q v)
      again false o = refl

  -- to change those in turn that are not what they would be comes to the same
  pub changed_along_all : (f : ℕ → V → V) → ((n : ℕ) (v : V) → f n (f n v) ≡ f n v)
      → (m : FinMap nat_cmp V) (ns : List ℕ)
      → ((q : ℕ) (v : V) → get m q ≡ Some v → list_any (eqb q) ns ≡ false → f q v ≡ v)
      → changed_along f m ns ≡ each_changed f m
  changed_along_all f once m ns rest =
      same_by_get _ _ (λ q. get-changed_along f once m ns q ∙ at q (list_any (eqb q) ns) refl (get m q) refl
      ∙ sym (get-each_changed f m q))
    where
      at : (q : ℕ) (b : Bool) → list_any (eqb q) ns ≡ b → (o : Option V) → get m q ≡ o
          → cond b (option_map (f q) o) o ≡ option_map (f q) o
      at q true is o e = refl
      at q false is None e = refl
      at q false is (Some v) e = sym (ap Some (rest q v e is))

  pub keys-each_changed : (f : ℕ → V → V) → ((n : ℕ) (v : V) → f n (f n v) ≡ f n v) → (m : FinMap nat_cmp V)
      → keys (each_changed f m) ≡ keys m
  keys-each_changed f once m =
      ap keys (sym (changed_along_all f once m (keys m) (λ q v e out. absurd (cc (ap is_some e, among_keys m q, out)))))
      ∙ keys-changed_along f m (keys m)
