-- What the ends of tasks come to, as they were prepared.
use Rattle.std.proofs.Common.{◌≡◌, ℕ, refl, pos, Bool, true, false, cond, List, ◌++◌, Some, None, ap, sym, ◌∙◌}
use Rattle.futex_core.specs.Waiters.{FutexList}
use Rattle.mm_space.specs.Handed.{AreaState}
use Rattle.mm_space.specs.Spaces.{AddressSpace}
use Rattle.task_table.specs.declared.task.EndedTask.{EndedTask}
use Rattle.task_table.specs.declared.task.Status.{Status}
use Rattle.task_table.specs.Ends.{exited, group_ended, ended_tasks, is_itself, is_last, is_member}
use Rattle.task_table.specs.Table.{TaskTable}
use Rattle.kernel_model.specs.Names.{NamedMap}
use Rattle.kernel_model.specs.declared.caller.Caller.{Caller}
use Rattle.kernel_model.specs.declared.kernel.Kernel.{Kernel}
use Rattle.kernel_model.specs.declared.kernel.Part.TheVariants.{OfSleepers}
use Rattle.kernel_model.specs.calls.Answers.{replies}
use Rattle.kernel_model.specs.calls.ClearWords.{Cleared, nothing_cleared, words_cleared}
use Rattle.kernel_model.specs.calls.Ending.{and_closed, closed_if, end_changes, ends_as, ends_with, left_by, task_end}
use Rattle.kernel_model.specs.calls.Ending.{woken_on}
use Rattle.kernel_model.specs.descriptors.Counts.{table_closed}
use Rattle.kernel_model.specs.entries.Parts.{parts, Prog, done, look, outcome_in, Change, changed, ◌>>=◌}
use Rattle.kernel_model.proofs.ChildLaws.{changed-append}
use Rattle.kernel_model.proofs.FileChanges.{closed_behind}
use Rattle.kernel_model.proofs.Trees.{outcome-bind}
use Rattle.kernel_calls.specs.ClearWords.{IsCleared}
use Rattle.kernel_calls.specs.Ends.{Ends}
use Rattle.guest_access.specs.Lending.{with_hand}
use Rattle.guest_access.specs.Memories.{with_memory}
use Rattle.kernel_calls.specs.Prepared.{Answers, EndsGroupAs, IsCalling, left_behind, with_closed, with_effect}
use Rattle.kernel_calls.specs.declared.context.Context.{Context}
use Rattle.kernel_calls.specs.declared.prepared.Effect.TheVariants.{EndsTask}
use Rattle.kernel_calls.specs.declared.prepared.Ending.{Ending}
use Rattle.kernel_calls.specs.declared.prepared.Prepared.{Prepared}
use Rattle.guest_access.proofs.KernelAreas.{areas_changed}

-- a call that is nothing but an end
pub answers_ended : (tree : Prog (List Change)) (p : Prepared) (c : Caller) (k : Kernel) (space : AddressSpace)
    (areas : NamedMap AreaState) → p.reply ≡ pos 0
    → changed (outcome_in (parts k) tree) k
    ≡ with_effect p.effect c.group (with_memory c space areas k)
    → Answers (tree >>= ends_with) p c k space areas
answers_ended tree p c k space areas reply does = record {
  changes = outcome_in (parts k) tree;
  row_is = outcome-bind (parts k) tree ends_with ∙ ap (λ v. replies v (outcome_in (parts k) tree)) (sym reply);
  done_is = does;
}

module _ (c : Caller) (k : Kernel) (ended : List EndedTask) (e : Ending) (space : AddressSpace)
    (areas : NamedMap AreaState) where
  -- what is left of words that were cleared
  abbrev x : Cleared
  x = outcome_in (parts k) (words_cleared c ended (nothing_cleared c.space))

  abbrev left : TaskTable → FutexList → AddressSpace → NamedMap AreaState → Kernel
  left after waiting own shared = record (with_memory c own shared k) { tasks = after; sleepers = waiting }

  pub ends_so : e.ended ≡ ended → IsCleared x k.areas space areas e.cleared → Ends ended e c k space areas
  ends_so same is after =
      ap (λ changes. changed changes k) (
      outcome-bind (parts k) (words_cleared c ended (nothing_cleared c.space))
      (λ x. look OfSleepers (λ waiting. done (end_changes c ended after x waiting))))
      ∙ areas_changed x.reach.hand
      (left after (woken_on x.keys (left_by ended k.sleepers)) x.reach.space k.areas)
      ∙ ap (λ keys.
      left after (woken_on keys (left_by ended k.sleepers)) x.reach.space (with_hand x.reach.hand k.areas))
      (sym is.keys_are)
      ∙ ap (λ l. left after (woken_on e.cleared (left_by l k.sleepers)) x.reach.space (with_hand x.reach.hand k.areas))
      (sym same)
      ∙ ap (λ own. left after (left_behind e k.sleepers) own (with_hand x.reach.hand k.areas)) (sym is.space_is)
      ∙ ap (λ shared. left after (left_behind e k.sleepers) space shared) (sym is.areas_are)

-- an end, and the closing of its descriptors behind it
module _ (c : Caller) (k : Kernel) where
  pub then_closed : (tree : Prog (List Change)) (after : Kernel) → changed (outcome_in (parts k) tree) k ≡ after
      → after.files ≡ k.files → changed (outcome_in (parts k) (tree >>= and_closed c)) k
      ≡ record after { files = with_closed (Some c.table) k.files }
  then_closed tree after is same =
      let before : List Change = outcome_in (parts k) tree in
      let closed : List Change = outcome_in (parts k) (table_closed c.table) in
      ap (λ changes. changed changes k)
      (outcome-bind (parts k) tree (and_closed c)
      ∙ outcome-bind (parts k) (table_closed c.table) (λ closed. done (before ++ closed)))
      ∙ changed-append before closed k
      ∙ ap (changed closed) is
      ∙ closed_behind c.table k after same

  pub then_closed_if : (last : Bool) (tree : Prog (List Change)) (after : Kernel)
      → changed (outcome_in (parts k) tree) k ≡ after → after.files ≡ k.files
      → changed (outcome_in (parts k) (tree >>= closed_if last c)) k
      ≡ record after { files = with_closed (cond last (Some c.table) None) k.files }
  then_closed_if true tree after is same = then_closed tree after is same
  then_closed_if false tree after is same =
      ap (λ changes. changed changes k) (outcome-bind (parts k) tree (closed_if false c))
      ∙ is
      ∙ ap (λ f. record after { files = f }) same

module _ (c : Caller) (k : Kernel) (context : Context) (own : AddressSpace) (shared : NamedMap AreaState)
    (list : TaskTable) (waiting : FutexList) (console : ℕ)
    (calling : IsCalling c k context own shared list waiting console) (ended : List EndedTask) (e : Ending)
    (space : AddressSpace) (areas : NamedMap AreaState) where
  -- once words were cleared from what the code had
  pub ends_calling : e.ended ≡ ended
      → IsCleared (outcome_in (parts k) (words_cleared c ended (nothing_cleared c.space))) shared space areas e.cleared
      → Ends ended e c k space areas
  ends_calling same is =
      ends_so c k ended e space areas same (record {
        space_is = is.space_is;
        areas_are = is.areas_are ∙ ap (with_hand (x c k ended e space areas).reach.hand) (sym calling.areas);
        keys_are = is.keys_are;
      })

  module _ (status : Status) (so : e.status ≡ status) (ends : Ends ended e c k space areas) where
    -- a thread group, whose descriptors are closed,
    pub group_ends : ended ≡ ended_tasks (is_member context.group) list.tasks → e.closes ≡ Some context.table
        → EndsGroupAs status e c k space areas
    group_ends are shut = record {
      is_so = so;
      done_is =
          ap (λ l. changed (outcome_in (parts k) (ends_as c l (group_ended k.tasks c.group status) >>= and_closed c)) k)
          (ap (λ g. ended_tasks (is_member g) k.tasks.tasks) calling.group
          ∙ ap (λ (t : TaskTable). ended_tasks (is_member context.group) t.tasks) calling.tasks ∙ sym are)
          ∙ then_closed c k (ends_as c ended (group_ended k.tasks c.group status)) _
          (ends (group_ended k.tasks c.group status)) refl
          ∙ ap (λ o. record (with_memory c space areas k) {
            tasks = group_ended k.tasks c.group status;
            sleepers = left_behind e k.sleepers;
            files = with_closed o k.files;
          }) (ap Some calling.table ∙ sym shut)
          ∙ ap (λ st. record (with_memory c space areas k) {
            tasks = group_ended k.tasks c.group st;
            sleepers = left_behind e k.sleepers;
            files = with_closed e.closes k.files;
          }) (sym so);
    }

    -- and a task, with whose group they are
    pub task_ends : ended ≡ ended_tasks (is_itself context.task) list.tasks
        → e.closes ≡ cond (is_last list.tasks context.task) (Some context.table) None
        → changed (outcome_in (parts k) (task_end c status)) k
        ≡ with_effect (EndsTask context.task e) c.group (with_memory c space areas k)
    task_ends are shut =
        ap (λ l. changed (outcome_in (parts k) (ends_as c l (exited k.tasks c.task status)
        >>= closed_if (is_last k.tasks.tasks c.task) c)) k)
        (ap (λ n. ended_tasks (is_itself n) k.tasks.tasks) calling.task
        ∙ ap (λ (t : TaskTable). ended_tasks (is_itself context.task) t.tasks) calling.tasks ∙ sym are)
        ∙ then_closed_if c k (is_last k.tasks.tasks c.task) (ends_as c ended (exited k.tasks c.task status)) _
        (ends (exited k.tasks c.task status)) refl
        ∙ ap (λ o. record (with_memory c space areas k) {
          tasks = exited k.tasks c.task status;
          sleepers = left_behind e k.sleepers;
          files = with_closed o k.files;
        })
        (ap (λ t. cond (is_last k.tasks.tasks c.task) (Some t) None) calling.table
        ∙ ap (λ n. cond (is_last k.tasks.tasks n) (Some context.table) None) calling.task
        ∙ ap (λ (t : TaskTable). cond (is_last t.tasks context.task) (Some context.table) None) calling.tasks
        ∙ sym shut)
        ∙ ap (λ n. record (with_memory c space areas k) {
          tasks = exited k.tasks n status;
          sleepers = left_behind e k.sleepers;
          files = with_closed e.closes k.files;
        }) calling.task
        ∙ ap (λ st. record (with_memory c space areas k) {
          tasks = exited k.tasks context.task st;
          sleepers = left_behind e k.sleepers;
          files = with_closed e.closes k.files;
        }) (sym so)
