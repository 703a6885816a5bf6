-- What a call comes to that puts bytes into its caller's buffer.
use Rattle.std.proofs.Common.{◌≡◌, ℕ, pos, Bool, true, false, List, Option, Some, None, refl, ap, sym, ◌∙◌}
use Rattle.sn_errno.specs.declared.errno.Errno.TheVariants.{EFAULT}
use Rattle.sn_errno.specs.Errors.{reply_of}
use Rattle.futex_core.specs.Waiters.{FutexList}
use Rattle.task_table.specs.Table.{TaskTable}
use Rattle.mm_space.specs.Handed.{AreaState}
use Rattle.mm_space.specs.Spaces.{AddressSpace, Reach}
use Rattle.kernel_model.specs.Names.{NamedMap}
use Rattle.kernel_model.specs.declared.caller.Caller.{Caller}
use Rattle.kernel_model.specs.declared.kernel.Kernel.{Kernel}
use Rattle.kernel_model.specs.calls.Buffers.{filled, fills}
use Rattle.kernel_model.specs.calls.Memory.{remaps}
use Rattle.kernel_model.specs.entries.Areas.{area_changes, bytes_written}
use Rattle.kernel_model.specs.entries.Parts.{parts, done, outcome_in}
use Rattle.kernel_model.proofs.Trees.{outcome-bind}
use Rattle.guest_access.specs.Lending.{with_hand}
use Rattle.guest_access.specs.Memories.{with_memory}
use Rattle.kernel_calls.specs.Prepared.{Answers, IsCalling}
use Rattle.guest_access.specs.Trying.{Wrote}
use Rattle.kernel_calls.specs.declared.context.Context.{Context}
use Rattle.kernel_calls.specs.declared.prepared.Effect.TheVariants.{Nothing}
use Rattle.kernel_calls.specs.declared.prepared.Prepared.{Prepared}
use Rattle.kernel_calls.proofs.Answering.{has_space, answers_refused, answers_remapped}
use Rattle.guest_access.proofs.KernelAreas.{areas_changed}

module _ (p : Prepared) (c : Caller) (k : Kernel) (context : Context) (own space : AddressSpace)
    (shared areas : NamedMap AreaState) (list : TaskTable) (waiting : FutexList) (console at : ℕ) (bytes : List ℕ)
    (reply : ℕ)
    (calling : IsCalling c k context own shared list waiting console) (none : p.effect ≡ Nothing) where
  -- what the code reaches
  abbrev reached : Option Reach
  reached = outcome_in (parts k) (bytes_written context.task own at bytes)

  row_reaches : outcome_in (parts k) (fills c at bytes reply) ≡ filled c.memory reply reached
  row_reaches =
      outcome-bind (parts k) (bytes_written c.task c.space at bytes) (λ reach. done (filled c.memory reply reach))
      ∙ ap (filled c.memory reply) (
      ap (λ t. outcome_in (parts k) (bytes_written t c.space at bytes)) calling.task
      ∙ ap (λ s. outcome_in (parts k) (bytes_written context.task s at bytes)) calling.space)

  filled_by : (o : Option Reach) (wrote : Bool) → reached ≡ o → Wrote o wrote own space shared areas → wrote ≡ true
      → p.reply ≡ pos reply → Answers (fills c at bytes reply) p c k space areas
  filled_by None wrote is w so told = absurd (cc (w.0, so))
  filled_by (Some r) wrote is w so told =
      answers_remapped (fills c at bytes reply) p c k own space areas
      (has_space c k context own shared list waiting console calling) (area_changes r.hand)
      (row_reaches ∙ ap (filled c.memory reply) is
      ∙ ap (λ s. remaps c s (pos reply) (area_changes r.hand)) (sym w.1)
      ∙ ap (λ v. remaps c space v (area_changes r.hand)) (sym told)) none
      (areas_changed r.hand (with_memory c space k.areas k)
      ∙ ap (λ m. with_memory c space m k) (ap (with_hand r.hand) calling.areas ∙ sym w.2))

  unfilled_by : (o : Option Reach) (wrote : Bool) → reached ≡ o → Wrote o wrote own space shared areas
      → wrote ≡ false → p.reply ≡ reply_of EFAULT → Answers (fills c at bytes reply) p c k space areas
  unfilled_by None wrote is w so told =
      answers_refused (fills c at bytes reply) p c k own space areas
      (has_space c k context own shared list waiting console calling) EFAULT
      (row_reaches ∙ ap (filled c.memory reply) is) told none w.1 (w.2 ∙ sym calling.areas)
  unfilled_by (Some r) wrote is w so told = absurd (cc (w.0, so))

  -- bytes that were put,
  pub answers_filled : (wrote : Bool) → Wrote reached wrote own space shared areas → wrote ≡ true
      → p.reply ≡ pos reply → Answers (fills c at bytes reply) p c k space areas
  answers_filled wrote w so told = filled_by reached wrote refl w so told

  -- and those that could not be
  pub answers_unfilled : (wrote : Bool) → Wrote reached wrote own space shared areas → wrote ≡ false
      → p.reply ≡ reply_of EFAULT → Answers (fills c at bytes reply) p c k space areas
  answers_unfilled wrote w so told = unfilled_by reached wrote refl w so told
