-- A map that is copied key by key, from the last to the first.
use Rattle.std.proofs.Common.{◌≡◌, ℕ, ◌+◌, ◌-◌, ◌<◌, ◌≤◌, Bool, true, false, cond, List, [], ◌∷◌, length, drop, get_or}
use Rattle.std.proofs.Common.{Option, Some, None, refl, ap, sym, ◌∙◌, arith}
use Rattle.std.specs.Prelude.{is_some, ◌||◌}
use Rattle.std.proofs.lemmas.List.{drop_more}
use Rattle.std.specs.List.{list_any}
use Rattle.std.specs.Cmp.{nat_cmp_total}
use Rattle.std.specs.FinMap.{FinMap, get, insert, empty, keys, contains_key-keys, get-insert, nat_cmp-IsAntisymmetric}
use Rattle.std.specs.Ordering.{nat_cmp, eq_by_cmp, is_eq}
use Rattle.std.specs.declared.cmp.Ordering.TheVariants.{Less, Equal, Greater}
use Rattle.sn_base.proofs.Maps.{same_by_get, get_of_empty, insert_same}

module _ {V : Type 0} where
  -- a map with what was found for a key
  abbrev pub with_found : ℕ → Option V → FinMap nat_cmp V → FinMap nat_cmp V
  with_found key None copy = copy
  with_found key (Some value) copy = insert copy key value

  -- the copy of a map at these keys
  abbrev pub of_keys : FinMap nat_cmp V → List ℕ → FinMap nat_cmp V
  of_keys m [] = empty
  of_keys m (key ∷ rest) = with_found key (get m key) (of_keys m rest)

  module _ (m : FinMap nat_cmp V) where
    -- a key that ties with another has the same
    get_tie : (q key : ℕ) → eq_by_cmp nat_cmp q key ≡ true → get m key ≡ get m q
    get_tie q key = by (nat_cmp q key) refl
      where
        by : (o : _) → nat_cmp q key ≡ o → is_eq o ≡ true → get m key ≡ get m q
        by Less e is = absurd (cc is)
        by Equal e is = ap (get m) (sym (nat_cmp-IsAntisymmetric q key e))
        by Greater e is = absurd (cc is)

    -- the copy has at its keys what the map has, and nothing else
    get_of_keys : (ks : List ℕ) (q : ℕ)
        → get (of_keys m ks) q ≡ cond (list_any (eq_by_cmp nat_cmp q) ks) (get m q) None
    get_of_keys [] q = get_of_empty q
    get_of_keys (key ∷ rest) q = by (get m key) refl (eq_by_cmp nat_cmp q key) refl (get_of_keys rest q)
      where
        nothing : (b : Bool) → get m q ≡ None → cond b (get m q) None ≡ get m q
        nothing true e = refl
        nothing false e = sym e

        by : (found : Option V) → get m key ≡ found → (b : Bool) → eq_by_cmp nat_cmp q key ≡ b
            → get (of_keys m rest) q ≡ cond (list_any (eq_by_cmp nat_cmp q) rest) (get m q) None
            → get (with_found key found (of_keys m rest)) q
            ≡ cond (b || list_any (eq_by_cmp nat_cmp q) rest) (get m q) None
        by None e true t so_far =
            so_far ∙ nothing (list_any (eq_by_cmp nat_cmp q) rest) (sym (get_tie q key t) ∙ e)
        by None e false t so_far = so_far
        by (Some value) e true t so_far =
            get-insert nat_cmp_total (of_keys m rest) key value q
            ∙ ap (λ b. cond b (Some value) (get (of_keys m rest) q)) t ∙ sym e ∙ get_tie q key t
        by (Some value) e false t so_far =
            get-insert nat_cmp_total (of_keys m rest) key value q
            ∙ ap (λ b. cond b (Some value) (get (of_keys m rest) q)) t ∙ so_far

    -- so that at all its keys is the map
    pub of_all_keys : of_keys m (keys m) ≡ m
    of_all_keys = same_by_get (of_keys m (keys m)) m (λ q.
        get_of_keys (keys m) q
        ∙ ap (λ b. cond b (get m q) None) (sym (contains_key-keys m q))
        ∙ by (get m q))
      where
        by : (o : Option V) → cond (is_some o) o None ≡ o
        by None = refl
        by (Some value) = refl

    -- a value that is set back where it was found leaves the map
    pub set_back : (now : FinMap nat_cmp V) (key : ℕ) (value after : V) → now ≡ m → Some value ≡ get now key
        → after ≡ value → insert now key after ≡ m
    set_back now key value after is found same =
        ap (insert now key) same ∙ insert_same now key value (sym found) ∙ is

    -- one key more is copied, in front of the others
    pub one_more : (ks told : List ℕ) (n : ℕ) (now copy : FinMap nat_cmp V) (value after : V) → 0 < n
        → n ≤ length told → told ≡ ks → now ≡ m → copy ≡ of_keys m (drop n ks)
        → Some value ≡ get now (get_or told (n - 1) 0) → after ≡ value
        → insert copy (get_or told (n - 1) 0) after ≡ of_keys m (drop (n - 1) ks)
    one_more ks told n now copy value after some within all is so_far found same =
        let key : ℕ = get_or told (n - 1) 0 in
        let next : n - 1 + 1 ≡ n = omega arith in
        let found_in : get m key ≡ Some value = ap (λ x. get x key) (sym is) ∙ sym found in
        ap (insert copy key) same
        ∙ ap (λ c. insert c key value) (so_far ∙ ap (λ xs. of_keys m (drop n xs)) (sym all)
        ∙ ap (λ i. of_keys m (drop i told)) (sym next))
        ∙ ap (λ o. with_found key o (of_keys m (drop (n - 1 + 1) told))) (sym found_in)
        ∙ ap (of_keys m) (sym (drop_more told (n - 1) 0 (omega arith)))
        ∙ ap (λ xs. of_keys m (drop (n - 1) xs)) all

    -- and from the first key on that is all
    pub all_copied : (ks : List ℕ) (n : ℕ) (copy : FinMap nat_cmp V) → n ≤ 0 → ks ≡ keys m
        → copy ≡ of_keys m (drop n ks) → copy ≡ m
    all_copied ks n copy none are so_far =
        let first : n ≡ 0 = omega arith in
        so_far ∙ ap (λ i. of_keys m (drop i ks)) first ∙ ap (of_keys m) are ∙ of_all_keys
