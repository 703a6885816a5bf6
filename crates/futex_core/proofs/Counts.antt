-- How often a task stands in a list.
use Rattle.std.proofs.Common.{◌≡◌, ℕ, ◌+◌, ◌≤◌, ◌==◌, ◌||◌, Bool, true, false, cond, List, [], ◌∷◌, ◌++◌, map, filter}
use Rattle.std.proofs.Common.{take, refl, ap, ◌∙◌, arith}
use Rattle.std.specs.List.{list_any, count_by}
use Rattle.std.proofs.lemmas.Bool.{or_parts, eq-eqb}
use Rattle.std.proofs.lemmas.List.Sums.{sum_by-append, sum_by-take-le, sum_by-cons}

-- what an item adds to a count, from whether it passes
abbrev pub weight : Bool → ℕ
weight b = cond b 1 0

-- how often a task stands in a list
abbrev pub times : (task : ℕ) → List ℕ → ℕ
times task ts = count_by (λ t. t == task) ts

pub times-append : (task : ℕ) (ts us : List ℕ) → times task (ts ++ us) ≡ times task ts + times task us
times-append task ts us = sum_by-append (λ t. cond (t == task) 1 0) ts us

pub times-cons : (task t : ℕ) (ts : List ℕ) → times task (t ∷ ts) ≡ weight (t == task) + times task ts
times-cons task t ts = sum_by-cons (λ t. cond (t == task) 1 0) t ts

-- it counts itself
pub times_itself : (task : ℕ) (ts : List ℕ) → times task (task ∷ ts) ≡ 1 + times task ts
times_itself task ts = times-cons task task ts ∙ ap (λ b. weight b + times task ts) (eq-eqb task task refl)

pub times-take : (task n : ℕ) (ts : List ℕ) → times task (take n ts) ≤ times task ts
times-take task n ts = sum_by-take-le (λ t. cond (t == task) 1 0) ts n

-- what a filter leaves of a list stands no more often than before
pub times-filter : {X : Type 0} (task_of : X → ℕ) (keeps : X → Bool) (task : ℕ) (xs : List X)
    → times task (map task_of (filter keeps xs)) ≤ times task (map task_of xs)
times-filter task_of keeps task [] = omega arith
times-filter task_of keeps task (x ∷ xs) = by_test (keeps x) (times-filter task_of keeps task xs)
  where
    by_test : (b : Bool) → times task (map task_of (filter keeps xs)) ≤ times task (map task_of xs)
        → times task (map task_of (cond b (x ∷ filter keeps xs) (filter keeps xs))) ≤ times task (map task_of (x ∷ xs))
    by_test true h =
        omega (
          arith,
          h,
          times-cons task (task_of x) (map task_of (filter keeps xs)),
          times-cons task (task_of x) (map task_of xs),
        )
    by_test false h = omega (arith, h, times-cons task (task_of x) (map task_of xs))

-- a task that isn't found stands there never
pub none_times : (task : ℕ) (ts : List ℕ) → list_any (λ t. t == task) ts ≡ false → times task ts ≡ 0
none_times task [] h = refl
none_times task (t ∷ ts) h =
    let parts = or_parts (t == task) (list_any (λ t. t == task) ts) h in
    times-cons task t ts ∙ ap (λ b. weight b + times task ts) parts.0 ∙ omega (arith, none_times task ts parts.1)

-- and the other way round
pub not_found : (task : ℕ) (ts : List ℕ) → times task ts ≡ 0 → list_any (λ t. t == task) ts ≡ false
not_found task [] h = refl
not_found task (t ∷ ts) h = by_test (t == task) refl (not_found task ts)
  where
    by_test : (b : Bool) → (t == task) ≡ b → (times task ts ≡ 0 → list_any (λ t. t == task) ts ≡ false)
        → (t == task || list_any (λ t. t == task) ts) ≡ false
    by_test true e rest =
        let one : weight (t == task) ≡ 1 = ap weight e in
        absurd (omega (arith, h, one, times-cons task t ts))
    by_test false e rest = ap (λ b. b || list_any (λ t. t == task) ts) e ∙ rest (omega (arith, h, times-cons task t ts))

-- to find an item by its task is to find its task
pub found_by_task : {X : Type 0} (task_of : X → ℕ) (task : ℕ) (xs : List X) → list_any (λ x. task_of x == task) xs
    ≡ list_any (λ t. t == task) (map task_of xs)
found_by_task task_of task [] = refl
found_by_task task_of task (x ∷ xs) = ap (λ b. (task_of x == task) || b) (found_by_task task_of task xs)
