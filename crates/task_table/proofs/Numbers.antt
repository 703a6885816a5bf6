-- Laws of numbered entries: the keys of a map after a change, and the numbers whose values pass a test.
use Rattle.std.proofs.Common.{◌≡◌, ℕ, ◌<◌, Bool, true, false, cond, eqb, ◌&&◌, ◌||◌, List, [], ◌∷◌, ◌++◌, map, refl, ap}
use Rattle.std.proofs.Common.{sym, ◌∙◌, arith}
use Rattle.std.specs.Prelude.{T, Option, Some, None, is_some, filter}
use Rattle.std.specs.List.{list_any}
use Rattle.std.specs.Option.{option_map_or}
use Rattle.std.specs.FinMap.{FinMap, get, insert, entries, keys, contains_key, find, put, is_sorted, get-insert}
use Rattle.std.specs.FinMap.{get-entries, entries-insert, entries_sorted, contains_key-keys}
use Rattle.std.specs.FinMap.Entries.{below_all, by_order}
use Rattle.std.specs.Ordering.{nat_cmp, eq_by_cmp, is_lt, is_eq}
use Rattle.std.specs.declared.cmp.Ordering.{Ordering}
use Rattle.std.specs.declared.cmp.Ordering.TheVariants.{Less, Equal, Greater}
use Rattle.std.specs.Cmp.{nat_cmp_total, unsigned_tied, tied_itself, ranked}
use Rattle.std.proofs.lemmas.Bool.{eqb-true, eq-eqb, ne_eqb, or_left, or_right}
use Rattle.std.proofs.lemmas.List.Elements.{filter-append}
use Rattle.task_table.specs.Entries.{passes, numbers_where}

-- ---- lists of numbers

-- tests that agree on a list's numbers keep the same of them
pub filter_alike : (p r : ℕ → Bool) (xs : List ℕ) → ((q : ℕ) → list_any (eqb q) xs ≡ true → p q ≡ r q)
    → filter p xs ≡ filter r xs
filter_alike p r [] same = refl
filter_alike p r (x ∷ xs) same =
    let rest : filter p xs ≡ filter r xs = filter_alike p r xs (λ q among. same q (or_second (eqb q x) _ among)) in
    let here : p x ≡ r x = same x (or_first _ (list_any (eqb x) xs) (eq-eqb x x refl)) in
    ap (λ b. cond b (x ∷ filter p xs) (filter p xs)) here ∙ ap (λ ys. cond (r x) (x ∷ ys) ys) rest
  where
    or_second : (a b : Bool) → b ≡ true → (a || b) ≡ true
    or_second true b e = refl
    or_second false b e = e

    or_first : (a b : Bool) → a ≡ true → (a || b) ≡ true
    or_first true b e = refl
    or_first false b e = absurd (cc e)

-- of two tests of which the second implies the first, the first changes nothing
pub filter_narrowed : (p r : ℕ → Bool) (xs : List ℕ) → ((q : ℕ) → p q ≡ true → r q ≡ true)
    → filter p (filter r xs) ≡ filter p xs
filter_narrowed p r [] h = refl
filter_narrowed p r (x ∷ xs) h =
    elim (r x) as (λ b. r x ≡ b → filter p (cond b (x ∷ filter r xs) (filter r xs))
    ≡ cond (p x) (x ∷ filter p xs) (filter p xs)) [
      | true ↦ λ _. ap (λ ys. cond (p x) (x ∷ ys) ys) (filter_narrowed p r xs h)
      | false ↦ λ e. filter_narrowed p r xs h ∙ left e (p x) refl
    ] refl
  where
    left : r x ≡ false → (b : Bool) → p x ≡ b → filter p xs ≡ cond b (x ∷ filter p xs) (filter p xs)
    left e true is = absurd (cc (e, h x is))
    left e false is = refl

-- what is among the numbers that pass
pub among_filter : (p : ℕ → Bool) (q : ℕ) (xs : List ℕ) → list_any (eqb q) (filter p xs) ≡ (p q && list_any (eqb q) xs)
among_filter p q [] = elim (p q) as (λ b. false ≡ (b && false)) [ true ↦ refl | false ↦ refl ]
among_filter p q (x ∷ xs) =
    elim (p x) as (λ b. p x ≡ b → list_any (eqb q) (cond b (x ∷ filter p xs) (filter p xs))
    ≡ (p q && (eqb q x || list_any (eqb q) xs))) [
      | true ↦ λ e. ap (λ b. eqb q x || b) (among_filter p q xs) ∙ passing e (eqb q x) refl (p q) refl
      | false ↦ λ e. among_filter p q xs ∙ failing e (eqb q x) refl (p q) refl
    ] refl
  where
    passing : p x ≡ true → (a : Bool) → eqb q x ≡ a → (b : Bool) → p q ≡ b → (a || (b && list_any (eqb q) xs))
        ≡ (b && (a || list_any (eqb q) xs))
    passing e true is true at = refl
    passing e true is false at = absurd (cc (ap p (eqb-true q x is), e, at))
    passing e false is true at = refl
    passing e false is false at = refl

    failing : p x ≡ false → (a : Bool) → eqb q x ≡ a → (b : Bool) → p q ≡ b
        → (b && list_any (eqb q) xs) ≡ (b && (a || list_any (eqb q) xs))
    failing e true is true at = absurd (cc (ap p (eqb-true q x is), e, at))
    failing e true is false at = refl
    failing e false is b at = refl

-- a number that is among them and passes is one that passes
pub any_passing : (p : ℕ → Bool) (q : ℕ) (xs : List ℕ) → list_any (eqb q) xs ≡ true → p q ≡ true → list_any p xs ≡ true
any_passing p q [] among h = among
any_passing p q (x ∷ xs) among h =
    elim (eqb q x) as (λ b. eqb q x ≡ b → (b || list_any (eqb q) xs) ≡ true → (p x || list_any p xs) ≡ true) [
      | true ↦ λ is _. or_left (p x) (list_any p xs) (ap p (sym (eqb-true q x is)) ∙ h)
      | false ↦ λ _ rest. or_right (p x) (list_any p xs) (any_passing p q xs rest h)
    ] refl among

any_tied : (q : ℕ) (xs : List ℕ) → list_any (eq_by_cmp nat_cmp q) xs ≡ list_any (eqb q) xs
any_tied q [] = refl
any_tied q (x ∷ xs) =
    ap (λ b. b || list_any (eq_by_cmp nat_cmp q) xs) (unsigned_tied q x) ∙ ap (λ b. eqb q x || b) (any_tied q xs)

module _ {V : Type 0} where
  -- ---- keys

  -- what a key has after an insert
  pub get_after : (m : FinMap nat_cmp V) (k : ℕ) (v : V) (q : ℕ)
      → get (insert m k v) q ≡ cond (eqb q k) (Some v) (get m q)
  get_after m k v q = get-insert nat_cmp_total m k v q ∙ ap (λ b. cond b (Some v) (get m q)) (unsigned_tied q k)

  -- what is among the keys
  pub among_keys : (m : FinMap nat_cmp V) (q : ℕ) → list_any (eqb q) (keys m) ≡ contains_key m q
  among_keys m q = sym (contains_key-keys m q ∙ any_tied q (keys m))

  below_first : (k x : ℕ) (es : List (ℕ × V)) → nat_cmp k x ≡ Less → T (below_all nat_cmp x es)
      → find nat_cmp k es ≡ None
  below_first k x [] p h = refl
  below_first k x (e ∷ es) p h =
      ap (λ o. cond (is_eq o) (Some e.1) (find nat_cmp k es))
      (nat_cmp_total.trans k x e.0 p (less (nat_cmp x e.0) (first _ _ h)))
      ∙ below_first k x es p (second _ _ h)
    where
      less : (o : Ordering) → T (is_lt o) → o ≡ Less
      less Less t = refl
      less Equal t = absurd t
      less Greater t = absurd t

      first : (a b : Bool) → T (a && b) → T a
      first true b t = tt
      first false b t = t

      second : (a b : Bool) → T (a && b) → T b
      second true b t = t
      second false b t = absurd t

  keys_put : (k : ℕ) (v : V) (es : List (ℕ × V)) → T (is_sorted nat_cmp es) → is_some (find nat_cmp k es) ≡ true
      → map (λ e. e.0) (put nat_cmp k v es) ≡ map (λ e. e.0) es
  keys_put k v [] s h = absurd (cc h)
  keys_put k v (e ∷ es) s h =
      elim (nat_cmp k e.0) as (λ o. nat_cmp k e.0 ≡ o → is_some (cond (is_eq o) (Some e.1) (find nat_cmp k es)) ≡ true
      → map (λ e. e.0) (by_order o ((k, v) ∷ e ∷ es) ((e.0, v) ∷ es) (e ∷ put nat_cmp k v es))
      ≡ e.0 ∷ map (λ e. e.0) es) [
        | Less ↦ λ p there. absurd (cc (there, ap is_some (below_first k e.0 es p (first _ _ s))))
        | Equal ↦ λ p there. refl
        | Greater ↦ λ p there. ap (λ ks. e.0 ∷ ks) (keys_put k v es (second _ _ s) there)
      ] refl h
    where
      first : (a b : Bool) → T (a && b) → T a
      first true b t = tt
      first false b t = t

      second : (a b : Bool) → T (a && b) → T b
      second true b t = t
      second false b t = absurd t

  above_all : (k : ℕ) (v : V) (es : List (ℕ × V)) → ((q : ℕ) → is_some (find nat_cmp q es) ≡ true → q < k)
      → map (λ e. e.0) (put nat_cmp k v es) ≡ map (λ e. e.0) es ++ k ∷ []
  above_all k v [] h = refl
  above_all k v (e ∷ es) h =
      let below : e.0 < k =
      h e.0 (ap (λ o. is_some (cond (is_eq o) (Some e.1) (find nat_cmp e.0 es))) (tied_itself nat_cmp_total e.0)) in
      ap (λ o. map (λ e. e.0) (by_order o ((k, v) ∷ e ∷ es) ((e.0, v) ∷ es) (e ∷ put nat_cmp k v es))) (greater below)
      ∙ ap (λ ks. e.0 ∷ ks) (above_all k v es (λ q there. h q (later q (eq_by_cmp nat_cmp q e.0) there)))
    where
      greater : e.0 < k → nat_cmp k e.0 ≡ Greater
      greater below = elim (nat_cmp k e.0) as (λ o. nat_cmp k e.0 ≡ o → o ≡ Greater) [
        | Less ↦ λ p. let other : k < e.0 = ranked k e.0 Less (sym p) in absurd (omega arith)
        | Equal ↦ λ p. let same : k ≡ e.0 = ranked k e.0 Equal (sym p) in absurd (omega arith)
        | Greater ↦ λ p. refl
      ] refl

      later : (q : ℕ) (b : Bool) → is_some (find nat_cmp q es) ≡ true
          → is_some (cond b (Some e.1) (find nat_cmp q es)) ≡ true
      later q true there = refl
      later q false there = there

  -- a new value leaves the keys
  pub keys-insert_there : (m : FinMap nat_cmp V) (k : ℕ) (v : V) → contains_key m k ≡ true
      → keys (insert m k v) ≡ keys m
  keys-insert_there m k v h =
      ap (map (λ e. e.0)) (entries-insert nat_cmp_total m k v)
      ∙ keys_put k v (entries m) (entries_sorted m) (ap is_some (sym (get-entries m k)) ∙ h)

  -- a key above all others comes last
  pub keys-insert_last : (m : FinMap nat_cmp V) (k : ℕ) (v : V) → ((q : ℕ) → contains_key m q ≡ true → q < k)
      → keys (insert m k v) ≡ keys m ++ k ∷ []
  keys-insert_last m k v h =
      ap (map (λ e. e.0)) (entries-insert nat_cmp_total m k v)
      ∙ above_all k v (entries m) (λ q there. h q (ap is_some (get-entries m q) ∙ there))

  -- ---- the numbers whose values pass a test

  -- who is among them
  pub among_where : (test : V → Bool) (m : FinMap nat_cmp V) (q : ℕ)
      → list_any (eqb q) (numbers_where test m) ≡ passes test m q
  among_where test m q =
      among_filter (passes test m) q (keys m) ∙ ap (λ b. passes test m q && b) (among_keys m q) ∙ known (get m q)
    where
      known : (o : Option V) → (option_map_or test o false && is_some o) ≡ option_map_or test o false
      known None = refl
      known (Some v) = elim (test v) as (λ b. (b && true) ≡ b) [ true ↦ refl | false ↦ refl ]

  -- fewer pass in a map with the same keys
  pub where_narrowed : (test : V → Bool) (m n : FinMap nat_cmp V) → keys n ≡ keys m
      → ((q : ℕ) → passes test n q ≡ true → passes test m q ≡ true)
      → filter (passes test n) (numbers_where test m) ≡ numbers_where test n
  where_narrowed test m n same h =
      filter_narrowed (passes test n) (passes test m) (keys m) h ∙ ap (filter (passes test n)) (sym same)

  -- the same pass in a map with the same keys
  pub where_same : (test : V → Bool) (m n : FinMap nat_cmp V) → keys n ≡ keys m
      → ((q : ℕ) → passes test n q ≡ passes test m q) → numbers_where test n ≡ numbers_where test m
  where_same test m n same h = ap (filter (passes test n)) same ∙ filter_alike _ _ (keys m) (λ q _. h q)

  -- a key above all others comes last, where its value passes
  pub where-insert_last : (test : V → Bool) (m : FinMap nat_cmp V) (k : ℕ) (v : V)
      → ((q : ℕ) → contains_key m q ≡ true → q < k) → numbers_where test (insert m k v) ≡ numbers_where test m
      ++ cond (test v) (k ∷ []) []
  where-insert_last test m k v h =
      ap (filter (passes test (insert m k v))) (keys-insert_last m k v h)
      ∙ filter-append (passes test (insert m k v)) (keys m) (k ∷ [])
      ∙ ap (λ xs. xs ++ filter (passes test (insert m k v)) (k ∷ []))
      (filter_alike (passes test (insert m k v)) (passes test m) (keys m) old)
      ∙ ap (λ b. numbers_where test m ++ cond b (k ∷ []) []) here
    where
      here : passes test (insert m k v) k ≡ test v
      here = ap (λ o. option_map_or test o false) (get_after m k v k
          ∙ ap (λ b. cond b (Some v) (get m k)) (eq-eqb k k refl))

      old : (q : ℕ) → list_any (eqb q) (keys m) ≡ true → passes test (insert m k v) q ≡ passes test m q
      old q there =
          let below : q < k = h q (sym (among_keys m q) ∙ there) in
          ap (λ o. option_map_or test o false) (get_after m k v q
          ∙ ap (λ b. cond b (Some v) (get m q)) (apart q k below))
        where
          apart : (a b : ℕ) → a < b → eqb a b ≡ false
          apart a b l = ne_eqb a b (λ e. omega arith)
