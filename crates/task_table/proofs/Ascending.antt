-- Laws of ascending numbers: the keys of a map, and a list that keeps or drops one number.
use Rattle.std.proofs.Common.{◌≡◌, ℕ, ◌+◌, ◌<◌, Bool, true, false, cond, eqb, not, ◌&&◌, ◌||◌, List, [], ◌∷◌, ◌++◌}
use Rattle.std.proofs.Common.{length, take, drop, get_or, map, refl, ap, sym, subst, ◌∙◌, ⊎_elim, arith}
use Rattle.std.specs.Prelude.{T, Result, filter}
use Prim.Native.Nat.{suc}
use Rattle.std.specs.List.{All, AllByRecursion, list_any, remove}
use Rattle.std.specs.List.Sorted.{IsBinarySearchResult, IsStrictlyIncreasing, IsStrictlySortedBy}
use Rattle.std.specs.Result.{MatchResult}
use Rattle.std.specs.FinMap.{FinMap, entries, keys, entries_sorted, is_sorted}
use Rattle.std.specs.FinMap.Entries.{below_all}
use Rattle.std.specs.Cmp.{ranked}
use Rattle.std.specs.Ordering.{nat_cmp, is_lt}
use Rattle.std.specs.declared.cmp.Ordering.{Ordering}
use Rattle.std.specs.declared.cmp.Ordering.TheVariants.{Less, Equal, Greater}
use Rattle.std.proofs.lemmas.Bool.{cases_lt, eq-eqb, eqb-true, ne_eqb}
use Rattle.std.proofs.lemmas.List.{take-append-drop, length-take, length-drop, get_or-take, get_or-drop}
use Rattle.std.proofs.lemmas.List.Elements.{All-head, All-tail, All-from_get_or, filter-append}
use Rattle.std.proofs.lemmas.List.Kept.{IsStrictlySortedBy-filter}
use Rattle.std.proofs.lemmas.List.Sorted.{searched}
use Rattle.std.proofs.lemmas.Map.Keys.{below_from_sorted, non_decreasing_from_sorted, sorted_head, sorted_tail}
use Rattle.std.proofs.lemmas.Map.Keys.{IsStrictlyIncreasing-from_sorted, sorted_from_strictly_increasing}
use Rattle.std.proofs.lemmas.Result.{MatchResult-weaker}
use Rattle.std.proofs.Math.Seq.{drop-cons}
use Rattle.task_table.specs.Entries.{passes, numbers_where}

-- ---- keys

first : (a b : Bool) → T (a && b) → T a
first true b t = tt
first false b t = t

second : (a b : Bool) → T (a && b) → T b
second true b t = t
second false b t = absurd t

below_keys : {V : Type 0} (k : ℕ) (es : List (ℕ × V)) → T (below_all nat_cmp k es)
    → AllByRecursion (λ q. nat_cmp k q ≡ Less) (map (λ e. e.0) es)
below_keys k [] h = tt
below_keys k (e ∷ es) h = (less (nat_cmp k e.0) (first _ _ h), below_keys k es (second _ _ h))
  where
    less : (o : Ordering) → T (is_lt o) → o ≡ Less
    less Less t = refl
    less Equal t = absurd t
    less Greater t = absurd t

keys_ascend : {V : Type 0} (es : List (ℕ × V)) → T (is_sorted nat_cmp es)
    → IsStrictlySortedBy nat_cmp (map (λ e. e.0) es)
unfolding IsStrictlySortedBy
keys_ascend [] h = tt
keys_ascend (e ∷ es) h = (below_keys e.0 es (first _ _ h), keys_ascend es (second _ _ h))

-- the numbers whose values pass a test ascend
pub where_ascends : {V : Type 0} (test : V → Bool) (m : FinMap nat_cmp V) → IsStrictlyIncreasing (numbers_where test m)
where_ascends test m =
    IsStrictlyIncreasing-from_sorted _
    (IsStrictlySortedBy-filter nat_cmp (passes test m) (keys m) (keys_ascend (entries m) (entries_sorted m)))

-- ---- one number dropped

-- where all pass a test all are kept
filter_all : (p : ℕ → Bool) (xs : List ℕ) → All (λ n. p n ≡ true) xs → filter p xs ≡ xs
filter_all p [] h = refl
filter_all p (x ∷ xs) h =
    ap (λ b. cond b (x ∷ filter p xs) (filter p xs)) (All-head (λ n. p n ≡ true) x xs h)
    ∙ ap (λ ys. x ∷ ys) (filter_all p xs (All-tail (λ n. p n ≡ true) x xs h))

-- a number that isn't among them
pub dropped_none : (xs : List ℕ) (x : ℕ) → ((k : ℕ) → k < length xs → get_or xs k 0 ≡ x → ⊥)
    → filter (λ n. not (eqb n x)) xs ≡ xs
dropped_none xs x apart =
    filter_all (λ n. not (eqb n x)) xs
    (All-from_get_or (λ n. not (eqb n x) ≡ true) xs 0 (λ k h. ap not (ne_eqb (get_or xs k 0) x (apart k h))))

-- the number at a place
pub dropped_at : (xs : List ℕ) (x i : ℕ) → IsStrictlyIncreasing xs → i < length xs → get_or xs i 0 ≡ x
    → filter (λ n. not (eqb n x)) xs ≡ remove xs i
dropped_at xs x i rise within is =
    let test : ℕ → Bool = λ n. not (eqb n x) in
    let sorted = sorted_from_strictly_increasing xs rise in
    ap (filter test) (sym (take-append-drop i xs) ∙ ap (λ ys. take i xs ++ ys) (drop-cons xs i 0 within))
    ∙ filter-append test (take i xs) (get_or xs i 0 ∷ drop (suc i) xs)
    ∙ ap (λ b. filter test (take i xs) ++ cond b (get_or xs i 0 ∷ filter test (drop (suc i) xs))
    (filter test (drop (suc i) xs))) (ap not (eq-eqb _ x is))
    ∙ ap (λ ys. ys ++ filter test (drop (suc i) xs)) (dropped_none (take i xs) x (λ k h e.
    let inside : k < i = omega (arith, length-take i xs) in
    let below : get_or xs k 0 < get_or xs i 0 = below_from_sorted xs k i 0 sorted inside within in
    let at : get_or xs k 0 ≡ x = sym (get_or-take i xs k 0 inside) ∙ e in omega arith))
    ∙ ap (λ ys. take i xs ++ ys) (dropped_none (drop (suc i) xs) x (λ k h e.
    let inside : suc i + k < length xs = omega (arith, length-drop (suc i) xs) in
    let above : get_or xs i 0 < get_or xs (suc i + k) 0 =
    below_from_sorted xs i (suc i + k) 0 sorted (omega arith) inside in
    let at : get_or xs (suc i + k) 0 ≡ x = sym (get_or-drop (suc i) xs k 0) ∙ e in omega arith))

-- a number that a binary search looked for
pub dropped_found : (xs : List ℕ) (x : ℕ) (r : Result ℕ ℕ) → IsStrictlyIncreasing xs
    → IsBinarySearchResult (λ y. nat_cmp y x) xs r
    → MatchResult r (λ i. filter (λ n. not (eqb n x)) xs ≡ remove xs i) (λ _. filter (λ n. not (eqb n x)) xs ≡ xs)
dropped_found xs x r rise position =
    let sorted = sorted_from_strictly_increasing xs rise in
    MatchResult-weaker r
    (searched xs x r position (λ i j le within. non_decreasing_from_sorted xs sorted i j 0 le within))
    (λ i found. dropped_at xs x i rise found.0 found.1)
    (λ i missed. dropped_none xs x (λ k within is. ⊎_elim
    (λ l. let below : get_or xs k 0 < x = missed.1 k l in omega arith)
    (λ l. let above : x < get_or xs k 0 = missed.2 k l within in omega arith)
    (cases_lt k i)))

-- ---- one number kept

above_none : (x : ℕ) (ys : List ℕ) → AllByRecursion (λ y. nat_cmp x y ≡ Less) ys → filter (λ n. eqb n x) ys ≡ []
above_none x [] above = refl
above_none x (y ∷ ys) above =
    let less : x < y = ranked x y Less (sym above.0) in
    ap (λ b. cond b (y ∷ filter (λ n. eqb n x) ys) (filter (λ n. eqb n x) ys)) (ne_eqb y x (λ e. omega arith))
    ∙ above_none x ys above.1

-- a number that is among them is kept alone
pub kept_alone : (xs : List ℕ) (x : ℕ) → IsStrictlySortedBy nat_cmp xs → list_any (eqb x) xs ≡ true
    → filter (λ n. eqb n x) xs ≡ x ∷ []
kept_alone [] x rise among = absurd (cc among)
kept_alone (y ∷ ys) x rise among = at (eqb x y) refl (kept_alone ys x (sorted_tail nat_cmp y ys rise)) among
  where
    at : (b : Bool) → eqb x y ≡ b → (list_any (eqb x) ys ≡ true → filter (λ n. eqb n x) ys ≡ x ∷ [])
        → (b || list_any (eqb x) ys) ≡ true
        → cond (eqb y x) (y ∷ filter (λ n. eqb n x) ys) (filter (λ n. eqb n x) ys) ≡ x ∷ []
    at true is later _ =
        let same : y ≡ x = sym (eqb-true x y is) in
        ap (λ b. cond b (y ∷ filter (λ n. eqb n x) ys) (filter (λ n. eqb n x) ys)) (eq-eqb y x same)
        ∙ ap (λ zs. y ∷ zs)
        (subst (λ z. filter (λ n. eqb n z) ys ≡ []) same (above_none y ys (sorted_head nat_cmp y ys rise)))
        ∙ ap (λ z. z ∷ []) same
    at false is later rest =
        ap (λ b. cond b (y ∷ filter (λ n. eqb n x) ys) (filter (λ n. eqb n x) ys))
        (ne_eqb y x (λ e. absurd (cc (is, eq-eqb x y (sym e)))))
        ∙ later rest
