-- Laws of the exit of one task: what it answers, and what is left.
use Rattle.std.proofs.Common.{◌≡◌, ℕ, Bool, true, false, cond, eqb, not, [], ◌∷◌, map, refl, ap, sym, ◌∙◌}
use Rattle.std.specs.Prelude.{Option, Some, None, filter}
use Rattle.std.specs.Option.{option_map, option_map_or}
use Rattle.std.specs.Ordering.{nat_cmp}
use Rattle.std.specs.FinMap.{FinMap, get}
use Rattle.std.proofs.lemmas.Map.Keys.{sorted_from_strictly_increasing}
use Rattle.sn_base.proofs.Maps.{same_by_get}
use Rattle.task_table.specs.declared.task.Task.{Task}
use Rattle.task_table.specs.declared.task.EndedTask.{EndedTask}
use Rattle.task_table.specs.Ends.{ended_if, ended_tasks, ended_where, is_itself}
use Rattle.task_table.specs.Entries.{changed_at}
use Rattle.task_table.specs.Table.{clear_of, is_live, live_numbers}
use Rattle.task_table.proofs.Ascending.{kept_alone, where_ascends}
use Rattle.task_table.proofs.Changes.{get-changed_at}
use Rattle.task_table.proofs.Endings.{get-ended_where, live_stays}
use Rattle.task_table.proofs.Numbers.{among_where, filter_alike}

-- whether a task that lives is the one that exits
itself_of_live : (task n : ℕ) (o : Option Task) → option_map_or (λ (c : Task). c.live) o false ≡ true
    → option_map_or (is_itself task n) o false ≡ eqb n task
itself_of_live task n None live = absurd (cc live)
itself_of_live task n (Some c) live = refl

-- a task that lives is the only one that its exit answers
pub ended_itself : (tasks : FinMap nat_cmp Task) (task : ℕ) → is_live tasks task ≡ true
    → record { task = task; clear = clear_of tasks task } ∷ [] ≡ ended_tasks (is_itself task) tasks
ended_itself tasks task live =
    let answer : ℕ → EndedTask = λ n. record { task = n; clear = clear_of tasks n } in
    sym (ap (map answer) (
    filter_alike _ (λ n. eqb n task) (live_numbers tasks)
    (λ q among. itself_of_live task q (get tasks q) (sym (among_where (λ c. c.live) tasks q) ∙ among))
    ∙ kept_alone (live_numbers tasks) task (sorted_from_strictly_increasing _ (where_ascends (λ c. c.live) tasks))
    (among_where (λ c. c.live) tasks task ∙ live)))

-- to end it is to change its entry
pub changed_itself : (tasks : FinMap nat_cmp Task) (task : ℕ) → changed_at (λ c. record c { live = false }) tasks task
    ≡ ended_where (is_itself task) tasks
changed_itself tasks task = same_by_get _ _ (λ q.
    get-changed_at (λ c. record c { live = false }) tasks task q ∙ at q (eqb q task) refl (get tasks q)
    ∙ sym (get-ended_where (is_itself task) tasks q))
  where
    at : (q : ℕ) (b : Bool) → eqb q task ≡ b → (o : Option Task)
        → cond b (option_map (λ (c : Task). record c { live = false }) o) o ≡ option_map (ended_if (is_itself task) q) o
    at q true is None = refl
    at q true is (Some c) = ap (λ b. Some (cond b (record c { live = false }) c)) (sym is)
    at q false is None = refl
    at q false is (Some c) = ap (λ b. Some (cond b (record c { live = false }) c)) (sym is)

-- the others live on
pub live_after_exit : (tasks : FinMap nat_cmp Task) (task : ℕ) → filter (λ n. not (eqb n task)) (live_numbers tasks)
    ≡ live_numbers (ended_where (is_itself task) tasks)
live_after_exit tasks task =
    filter_alike _ _ (live_numbers tasks)
    (λ q among. ap not
    (sym (itself_of_live task q (get tasks q) (sym (among_where (λ c. c.live) tasks q) ∙ among))))
    ∙ live_stays (is_itself task) tasks
