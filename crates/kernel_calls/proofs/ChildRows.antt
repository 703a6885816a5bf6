-- What the row of wait4 comes to, and what is left once a child's status was put.
use Rattle.std.proofs.Common.{◌≡◌, ◌≢◌, ◌==◌, ◌&&◌, ℕ, pos, Bool, true, false, List, []}
use Rattle.std.proofs.Common.{◌∷◌, Option, Some, None, refl, ap, sym, ◌∙◌}
use Rattle.std.specs.Int.{to_le_bytes, w32}
use Rattle.std.proofs.lemmas.Bool.{eq-eqb, ne_eqb}
use Rattle.sn_errno.specs.declared.errno.Errno.TheVariants.{EFAULT, EINVAL}
use Rattle.sn_errno.specs.Errors.{reply_of}
use Rattle.futex_core.specs.Waiters.{FutexList}
use Rattle.task_table.specs.declared.task.ReapEnd.{ReapEnd}
use Rattle.task_table.specs.declared.task.ReapEnd.TheVariants.{Reaped}
use Rattle.task_table.specs.declared.task.Status.{Status}
use Rattle.task_table.specs.Reaps.{after_reap, reap_end}
use Rattle.task_table.specs.Status.{status_number}
use Rattle.task_table.specs.Table.{TaskTable}
use Rattle.mm_space.specs.Handed.{AreaState}
use Rattle.mm_space.specs.Spaces.{AddressSpace, Reach}
use Rattle.kernel_model.specs.Names.{NamedMap}
use Rattle.kernel_model.specs.declared.caller.Caller.{Caller}
use Rattle.kernel_model.specs.declared.kernel.Kernel.{Kernel}
use Rattle.kernel_model.specs.declared.kernel.Part.TheVariants.{OfTasks}
use Rattle.kernel_model.specs.calls.Answers.{replies, refuses}
use Rattle.kernel_model.specs.calls.Wait.{asked_child, by_child, is_child_asked, is_option, reaps, reaps_at, wait4_of}
use Rattle.kernel_model.specs.entries.Areas.{bytes_written, reach_changes}
use Rattle.kernel_model.specs.entries.Parts.{Parts, parts, done, outcome_in, Change}
use Rattle.kernel_model.proofs.Trees.{outcome-bind}
use Rattle.guest_access.specs.Lending.{with_hand}
use Rattle.guest_access.specs.Memories.{with_memory}
use Rattle.kernel_calls.specs.Prepared.{Answers, IsCalling, with_effect}
use Rattle.guest_access.specs.Trying.{Wrote}
use Rattle.kernel_calls.specs.declared.context.Context.{Context}
use Rattle.kernel_calls.specs.declared.prepared.Effect.TheVariants.{Nothing, Reaps}
use Rattle.kernel_calls.specs.declared.prepared.Prepared.{Prepared}
use Rattle.kernel_calls.proofs.Answering.{answers_kept, answers_refused, has_space}
use Rattle.guest_access.proofs.KernelAreas.{areas_changed}

module _ (s : Parts) (c : Caller) (child address options usage : ℕ) where
  -- a child, an option or a usage that is refused,
  pub badly_asked : (is_child_asked child && is_option options && (usage == 0)) ≡ false
      → outcome_in s (wait4_of child address options usage c) ≡ refuses EINVAL
  badly_asked bad = rw bad refl

  -- and else by what waiting for the child comes to
  pub child_looked_for : (is_child_asked child && is_option options && (usage == 0)) ≡ true → (list : TaskTable)
      → s OfTasks ≡ list → (end : ReapEnd) → reap_end list.groups c.group (asked_child child) ≡ end
      → outcome_in s (wait4_of child address options usage c)
      ≡ outcome_in s (by_child c list address options end)
  child_looked_for asked list these end is =
      rw asked (ap (λ (t : TaskTable). outcome_in s
      (by_child c t address options (reap_end t.groups c.group (asked_child child)))) these
      ∙ ap (λ e. outcome_in s (by_child c list address options e)) is)

-- a task list as what has changed
abbrev listed : TaskTable → List Change
listed list = (OfTasks, list) ∷ []

module _ (p : Prepared) (c : Caller) (k : Kernel) (context : Context) (own space : AddressSpace)
    (shared areas : NamedMap AreaState) (list : TaskTable) (waiting : FutexList) (console address child : ℕ)
    (status : Status) (which : Option ℕ) (calling : IsCalling c k context own shared list waiting console)
    (ended : reap_end list.groups context.group which ≡ Reaped child status) where
  -- what the effect of the call leaves
  reaping : p.effect ≡ Reaps which → (m : Kernel) → m.tasks ≡ list
      → with_effect p.effect c.group m ≡ record m { tasks = after_reap list (Reaped child status) }
  reaping does m same =
      ap (λ e. with_effect e c.group m) does
      ∙ ap (λ (t : TaskTable). record m { tasks = after_reap t (reap_end t.groups c.group which) }) same
      ∙ ap (λ g. record m { tasks = after_reap list (reap_end list.groups g which) }) calling.group
      ∙ ap (λ e. record m { tasks = after_reap list e }) ended

  -- a status that is put nowhere
  pub answers_reaped : address ≡ 0 → p.reply ≡ pos child → p.effect ≡ Reaps which
      → Answers (reaps_at c list address child status) p c k own shared
  answers_reaped nowhere told does =
      let is : (address == 0) ≡ true = eq-eqb address 0 nowhere in
      answers_kept (reaps_at c list address child status) p c k own own shared
      (has_space c k context own shared list waiting console calling)
      (record {
        changes = listed (after_reap list (Reaped child status));
        row_is = rw is (ap (λ v. replies v (listed (after_reap list (Reaped child status)))) (sym told));
        done_is = sym (reaping does k calling.tasks);
      }) refl (sym calling.areas)

  -- what the code reaches
  abbrev reached : Option Reach
  reached = outcome_in (parts k) (bytes_written context.task own address (to_le_bytes w32 (status_number status)))

  row_reaches : address ≢ 0
      → outcome_in (parts k) (reaps_at c list address child status) ≡ reaps c list child status reached
  row_reaches somewhere =
      let is : (address == 0) ≡ false = ne_eqb address 0 somewhere in
      let number : List ℕ = to_le_bytes w32 (status_number status) in
      rw is (outcome-bind (parts k) (bytes_written c.task c.space address number)
      (λ reach. done (reaps c list child status reach))
      ∙ ap (reaps c list child status) (
      ap (λ t. outcome_in (parts k) (bytes_written t c.space address number)) calling.task
      ∙ ap (λ s. outcome_in (parts k) (bytes_written context.task s address number)) calling.space))

  put_by : (o : Option Reach) (wrote : Bool) → reached ≡ o → Wrote o wrote own space shared areas → wrote ≡ true
      → address ≢ 0 → p.reply ≡ pos child → p.effect ≡ Reaps which
      → Answers (reaps_at c list address child status) p c k space areas
  put_by None wrote is w so somewhere told does = absurd (cc (w.0, so))
  put_by (Some r) wrote is w so somewhere told does =
      let after : TaskTable = after_reap list (Reaped child status) in
      record {
        changes = (OfTasks, after) ∷ reach_changes c.memory r;
        row_is = row_reaches somewhere ∙ ap (reaps c list child status) is
            ∙ ap (λ v. replies v ((OfTasks, after) ∷ reach_changes c.memory r)) (sym told);
        done_is = areas_changed r.hand (record (with_memory c r.space k.areas k) { tasks = after })
            ∙ ap (λ m. record (with_memory c r.space m k) { tasks = after })
            (ap (with_hand r.hand) calling.areas ∙ sym w.2)
            ∙ ap (λ s. record (with_memory c s areas k) { tasks = after }) (sym w.1)
            ∙ sym (reaping does (with_memory c space areas k) calling.tasks);
      }

  unput_by : (o : Option Reach) (wrote : Bool) → reached ≡ o → Wrote o wrote own space shared areas → wrote ≡ false
      → address ≢ 0 → p.reply ≡ reply_of EFAULT → p.effect ≡ Nothing
      → Answers (reaps_at c list address child status) p c k space areas
  unput_by None wrote is w so somewhere told none =
      answers_refused (reaps_at c list address child status) p c k own space areas
      (has_space c k context own shared list waiting console calling) EFAULT
      (row_reaches somewhere ∙ ap (reaps c list child status) is) told none w.1 (w.2 ∙ sym calling.areas)
  unput_by (Some r) wrote is w so somewhere told none = absurd (cc (w.0, so))

  -- one that is put,
  pub answers_put : (wrote : Bool) → Wrote reached wrote own space shared areas → wrote ≡ true → address ≢ 0
      → p.reply ≡ pos child → p.effect ≡ Reaps which
      → Answers (reaps_at c list address child status) p c k space areas
  answers_put wrote w so somewhere told does = put_by reached wrote refl w so somewhere told does

  -- and one that could not be
  pub answers_unput : (wrote : Bool) → Wrote reached wrote own space shared areas → wrote ≡ false → address ≢ 0
      → p.reply ≡ reply_of EFAULT → p.effect ≡ Nothing
      → Answers (reaps_at c list address child status) p c k space areas
  answers_unput wrote w so somewhere told none = unput_by reached wrote refl w so somewhere told none
