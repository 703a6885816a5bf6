-- What ends of tasks and thread groups, a clear word that is set, a child that is waited for, and new tasks leave:
-- tasks in their groups, and groups with their memories.
use Rattle.std.proofs.Common.{◌≡◌, ℕ, Bool, true, false, cond, eqb, refl, ap, ◌∙◌}
use Rattle.std.specs.Prelude.{Option, Some, None, ◌==◌}
use Rattle.std.specs.Option.{option_map, option_map_or}
use Rattle.std.specs.Ordering.{nat_cmp}
use Rattle.std.specs.FinMap as map
use Rattle.task_table.specs.declared.task.Group.{Group}
use Rattle.task_table.specs.declared.task.Status.{Status}
use Rattle.task_table.specs.declared.task.Task.{Task}
use Rattle.task_table.specs.declared.task.ReapEnd.{ReapEnd}
use Rattle.task_table.specs.declared.task.ReapEnd.TheVariants.{Reaped, NotYet, NoChild}
use Rattle.task_table.specs.Ends.{ended_if, ended_where, groups_closed}
use Rattle.task_table.specs.Entries.{each_changed}
use Rattle.task_table.specs.Reaps.{after_reap, orphaned}
use Rattle.task_table.specs.Table.{TaskTable, is_live, group_of}
use Rattle.task_table.proofs.Changes.{get-changed_at, get-each_changed}
use Rattle.task_table.proofs.Endings.{get-ended_where}
use Rattle.kernel_model.specs.calls.Ending.{clear_set}

-- a group with the memory that it had
abbrev pub Keeps : map.FinMap nat_cmp Group → (g : ℕ) → Group → Type 0
Keeps groups g before = (after : Group) × (map.get groups g ≡ Some after) × (after.memory ≡ before.memory)

module _ (test : ℕ → Task → Bool) (tasks : map.FinMap nat_cmp Task) where
  -- a task stays in its group where some have ended
  pub group_stays : (task : ℕ) → group_of (ended_where test tasks) task ≡ group_of tasks task
  group_stays task =
      ap (λ o. option_map_or (λ (c : Task). c.group) o 0) (get-ended_where test tasks task)
      ∙ at (map.get tasks task)
    where
      at : (o : Option Task) → option_map_or (λ (c : Task). c.group) (option_map (ended_if test task) o) 0
          ≡ option_map_or (λ (c : Task). c.group) o 0
      at None = refl
      at (Some c) =
          elim (test task c) as (λ b. (cond b (record c { live = false }) c).group ≡ c.group) [
            | true ↦ refl
            | false ↦ refl
          ]

module _ (groups : map.FinMap nat_cmp Group) (group : ℕ) (status : Status) where
  -- and a group has its memory where one has ended
  pub memory_stays : (g : ℕ) (before : Group) → map.get groups g ≡ Some before
      → Keeps (groups_closed groups group status) g before
  memory_stays g before e =
      by (eqb g group)
      (get-changed_at (λ (x : Group). record x { ended = Some status }) orphans group g
      ∙ ap (λ o. cond (eqb g group) (option_map (λ (x : Group). record x { ended = Some status }) o) o) there)
    where
      orphans : map.FinMap nat_cmp Group
      orphans = each_changed (λ _. orphaned group) groups

      there : map.get orphans g ≡ Some (orphaned group before)
      there = get-each_changed (λ _. orphaned group) groups g ∙ ap (option_map (orphaned group)) e

      kept : (orphaned group before).memory ≡ before.memory
      kept =
          elim (before.parent == group)
          as (λ b. (cond b (record before { parent = 0 }) before).memory ≡ before.memory) [
            | true ↦ refl
            | false ↦ refl
          ]

      by : (b : Bool)
          → map.get (groups_closed groups group status) g
          ≡ cond b (Some (record (orphaned group before) { ended = Some status })) (Some (orphaned group before))
          → Keeps (groups_closed groups group status) g before
      by true is = (record (orphaned group before) { ended = Some status }, is, kept)
      by false is = (orphaned group before, is, kept)

-- where the group ends or not
pub memory_stays_if : (b : Bool) (groups : map.FinMap nat_cmp Group) (group : ℕ) (status : Status) (g : ℕ)
    (before : Group) → map.get groups g ≡ Some before
    → Keeps (cond b (groups_closed groups group status) groups) g before
memory_stays_if true groups group status g before e = memory_stays groups group status g before e
memory_stays_if false groups group status g before e = (before, e, refl)

-- where a child is nobody's child any more
pub memory_released : (list : TaskTable) (end : ReapEnd) (g : ℕ) (before : Group)
    → map.get list.groups g ≡ Some before → Keeps (after_reap list end).groups g before
memory_released list NotYet g before e = (before, e, refl)
memory_released list NoChild g before e = (before, e, refl)
memory_released list (Reaped child status) g before e =
    by (eqb g child)
    (get-changed_at (λ (x : Group). record x { parent = 0 }) list.groups child g
    ∙ ap (λ o. cond (eqb g child) (option_map (λ (x : Group). record x { parent = 0 }) o) o) e)
  where
    by : (b : Bool)
        → map.get (after_reap list (Reaped child status)).groups g
        ≡ cond b (Some (record before { parent = 0 })) (Some before)
        → Keeps (after_reap list (Reaped child status)).groups g before
    by true is = (record before { parent = 0 }, is, refl)
    by false is = (before, is, refl)

pub tasks_released : (list : TaskTable) (end : ReapEnd) → (after_reap list end).tasks ≡ list.tasks
tasks_released list NotYet = refl
tasks_released list NoChild = refl
tasks_released list (Reaped child status) = refl

module _ (list : TaskTable) (setter address : ℕ) where
  -- a task whose clear word was set
  abbrev cleared : Task → Task
  cleared c = record c { clear = address }

  -- lives as before, and is in the group that it was in
  pub live_cleared : (task : ℕ) → is_live (clear_set setter address list).tasks task ≡ is_live list.tasks task
  live_cleared task =
      ap (λ o. option_map_or (λ (c : Task). c.live) o false) (get-changed_at cleared list.tasks setter task)
      ∙ by (eqb task setter) (map.get list.tasks task)
    where
      by : (b : Bool) (o : Option Task) → option_map_or (λ (c : Task). c.live) (cond b (option_map cleared o) o) false
          ≡ option_map_or (λ (c : Task). c.live) o false
      by true None = refl
      by true (Some c) = refl
      by false o = refl

  pub group_cleared : (task : ℕ) → group_of (clear_set setter address list).tasks task ≡ group_of list.tasks task
  group_cleared task =
      ap (λ o. option_map_or (λ (c : Task). c.group) o 0) (get-changed_at cleared list.tasks setter task)
      ∙ by (eqb task setter) (map.get list.tasks task)
    where
      by : (b : Bool) (o : Option Task) → option_map_or (λ (c : Task). c.group) (cond b (option_map cleared o) o) 0
          ≡ option_map_or (λ (c : Task). c.group) o 0
      by true None = refl
      by true (Some c) = refl
      by false o = refl
