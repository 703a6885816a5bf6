-- Laws of the list of the tasks that a call ends.
use Rattle.std.proofs.Common.{◌≡◌, ℕ, ◌+◌, ◌<◌, Bool, true, false, cond, List, [], ◌∷◌}
use Rattle.std.proofs.Common.{◌++◌, map, length, take, get_or, refl, ap, ◌∙◌}
use Rattle.std.specs.Prelude.{Option, Some, None, filter}
use Rattle.std.specs.Ordering.{nat_cmp}
use Rattle.std.specs.FinMap.{FinMap}
use Rattle.std.proofs.lemmas.List.{append-nil, map-append}
use Rattle.std.proofs.lemmas.List.Elements.{filter_more}
use Rattle.task_table.specs.declared.task.Task.{Task}
use Rattle.task_table.specs.declared.task.EndedTask.{EndedTask}
use Rattle.task_table.specs.declared.ends.Leaving.{Leaving}
use Rattle.task_table.specs.Exits.{leaves}
use Rattle.task_table.specs.Table.{clear_of}

-- a task as it is answered
abbrev pub answer : FinMap nat_cmp Task → ℕ → EndedTask
answer tasks n = record { task = n; clear = clear_of tasks n }

-- the tasks of these numbers that leave
abbrev pub leaving : Leaving → FinMap nat_cmp Task → List ℕ → List EndedTask
leaving which tasks ns = map (answer tasks) (filter (leaves which tasks) ns)

-- what is told of a number
abbrev pub told_of : Leaving → FinMap nat_cmp Task → ℕ → Option EndedTask
told_of which tasks n = cond (leaves which tasks n) (Some (answer tasks n)) None

told_some : {A : Type 0} (b : Bool) (x y : A) → cond b (Some x) None ≡ Some y → (b ≡ true) × (x ≡ y)
told_some true x y e = (refl, cc e)
told_some false x y e = absurd (cc e)

told_none : {A : Type 0} (b : Bool) (x : A) → cond b (Some x) None ≡ None → b ≡ false
told_none true x e = absurd (cc e)
told_none false x e = refl

leaving_more : (which : Leaving) (tasks : FinMap nat_cmp Task) (xs : List ℕ) (i : ℕ) (b : Bool) → i < length xs
    → leaves which tasks (get_or xs i 0) ≡ b
    → leaving which tasks (take (i + 1) xs)
    ≡ leaving which tasks (take i xs) ++ map (answer tasks) (cond b (get_or xs i 0 ∷ []) [])
leaving_more which tasks xs i b within told =
    ap (map (answer tasks)) (filter_more (leaves which tasks) xs i 0 within)
    ∙ map-append (answer tasks) (filter (leaves which tasks) (take i xs)) _
    ∙ ap (λ a. leaving which tasks (take i xs) ++ map (answer tasks) (cond a (get_or xs i 0 ∷ []) [])) told

-- a task that leaves is the next of the list
pub leaving_told : (which : Leaving) (tasks : FinMap nat_cmp Task) (xs : List ℕ) (i : ℕ) (e : EndedTask)
    → i < length xs → told_of which tasks (get_or xs i 0) ≡ Some e
    → leaving which tasks (take (i + 1) xs) ≡ leaving which tasks (take i xs) ++ e ∷ []
leaving_told which tasks xs i e within told =
    let here = told_some (leaves which tasks (get_or xs i 0)) (answer tasks (get_or xs i 0)) e told in
    leaving_more which tasks xs i true within here.0
    ∙ ap (λ x. leaving which tasks (take i xs) ++ x ∷ []) here.1

-- one that stays isn't in the list
pub staying_told : (which : Leaving) (tasks : FinMap nat_cmp Task) (xs : List ℕ) (i : ℕ) → i < length xs
    → told_of which tasks (get_or xs i 0) ≡ None
    → leaving which tasks (take (i + 1) xs) ≡ leaving which tasks (take i xs)
staying_told which tasks xs i within told =
    leaving_more which tasks xs i false within
    (told_none (leaves which tasks (get_or xs i 0)) (answer tasks (get_or xs i 0)) told)
    ∙ append-nil (leaving which tasks (take i xs))
