-- What a task has ahead of it, piece by piece.
use Rattle.std.proofs.Common.{◌≡◌, ℕ, ◌+◌, Option, ap, sym, ◌∙◌, subst}
use Rattle.std.specs.Prelude.{Result, IfOk}
use Rattle.sn_base.specs.declared.memory.Memory.{Memory}
use Rattle.mm_space.specs.Handed.{AreaState}
use Rattle.mm_space.specs.Spaces.{AddressSpace}
use Rattle.kernel_model.specs.Names.{NamedMap}
use Rattle.kernel_model.specs.declared.caller.Caller.{Caller}
use Rattle.kernel_model.specs.declared.entry.Args.{Args}
use Rattle.kernel_model.specs.declared.kernel.Kernel.{Kernel}
use Rattle.kernel_model.specs.declared.traps.Next.{Next}
use Rattle.kernel_model.specs.declared.traps.Next.TheVariants.{Calls}
use Rattle.kernel_model.specs.calls.Answers.{Answer}
use Rattle.kernel_model.specs.calls.Callers.{context_of, caller_of}
use Rattle.kernel_model.specs.calls.Table.{call_row}
use Rattle.kernel_model.specs.entries.Areas.{Stands, next_row}
use Rattle.kernel_model.specs.entries.Parts.{parts, Prog, done, outcome_in, ◌>>=◌}
use Rattle.kernel_model.specs.entries.Waiting.{Wait, wait_of}
use Rattle.kernel_model.specs.machine.Registers.{args_of, call_of}
use Rattle.kernel_model.proofs.Trees.{outcome-bind}
use Rattle.kernel_calls.specs.Prepared.{Comes}
use Rattle.kernel_calls.specs.declared.prepared.Called.{Called as ACalled}
use Rattle.kernel_calls.specs.declared.prepared.Called.TheVariants as called
use Rattle.call_fs.specs.CallEnd.{ComesTo}
use Rattle.call_fs.specs.declared.call_end.CallEnd.{CallEnd}
use Rattle.call_fs.specs.declared.call_end.CallEnd.TheVariants.{Of, Moves, MakesPipe}
use Rattle.plain_steps.specs.Ahead.{replied_so, ahead_at, ahead_in_row, ahead_of, ahead_if_live, ahead_row}
use Rattle.plain_steps.specs.Ahead.{told_by, told_of}
use Rattle.plain_steps.specs.declared.ahead.Ahead.{Ahead}

kept_so : (row : Prog Answer) (d : ACalled) (c : Caller) (k : Kernel) (space : AddressSpace)
    (areas : NamedMap AreaState) → Comes row d c k space areas
    → replied_so (outcome_in (parts k) row).reply ≡ told_of d (k.tasks.last + 1)
kept_so row (called.Replies p) c k space areas comes = ap (λ (a : Answer). replied_so a.reply) comes.row_is
kept_so row (called.Makes child) c k space areas comes = ap (λ (a : Answer). replied_so a.reply) comes.row_is
kept_so row (called.Sleeps key) c k space areas comes = ap (λ (a : Answer). replied_so a.reply) comes
kept_so row (called.Waits awaited) c k space areas comes = ap (λ (a : Answer). replied_so a.reply) comes

told_so : (row : Prog Answer) (d : CallEnd) (c : Caller) (k : Kernel) (space : AddressSpace)
    (areas : NamedMap AreaState) → ComesTo row d c k space areas
    → replied_so (outcome_in (parts k) row).reply ≡ told_by d (k.tasks.last + 1)
told_so row (Of d) c k space areas comes = kept_so row d c k space areas comes
told_so row (Moves reply transfer) c k space areas comes = ap (λ (a : Answer). replied_so a.reply) comes.row_is
told_so row (MakesPipe new) c k space areas comes = ap (λ (a : Answer). replied_so a.reply) comes.row_is

module _ (c : Caller) (k : Kernel) where
  -- a task that stands at a call has ahead of it what the call comes to
  pub at_call : (number : ℕ) (args : Args) (d : CallEnd) (space : AddressSpace) (areas : NamedMap AreaState)
      → number ≡ call_of c.registers → args ≡ args_of c.registers
      → ComesTo (call_row (context_of k) c number args) d c k space areas
      → outcome_in (parts k) (ahead_at (context_of k) c Calls) ≡ told_by d (k.tasks.last + 1)
  at_call number args d space areas at those comes =
      ap (λ n. outcome_in (parts k) (call_row (context_of k) c n (args_of c.registers) >>= told)) (sym at)
      ∙ ap (λ a. outcome_in (parts k) (call_row (context_of k) c number a >>= told)) (sym those)
      ∙ outcome-bind (parts k) (call_row (context_of k) c number args) told
      ∙ told_so (call_row (context_of k) c number args) d c k space areas comes
    where
      told : Answer → Prog Ahead
      told answer = done (replied_so answer.reply)

  -- and a task what its next instruction does
  pub ahead_is : (next : Next) → (outcome_in (parts k) (next_row c)).next ≡ next
      → outcome_in (parts k) (ahead_in_row (context_of k) c) ≡ outcome_in (parts k) (ahead_at (context_of k) c next)
  ahead_is next is =
      outcome-bind (parts k) (next_row c) (λ (x : Stands). ahead_at (context_of k) c x.next)
      ∙ ap (λ n. outcome_in (parts k) (ahead_at (context_of k) c n)) is

  pub by_waiting : (wait : Wait) → wait_of k.sleepers c.task ≡ wait
      → outcome_in (parts k) (ahead_of (context_of k) c wait)
      ≡ outcome_in (parts k) (ahead_of (context_of k) c (wait_of k.sleepers c.task))
  by_waiting wait is = ap (λ w. outcome_in (parts k) (ahead_of (context_of k) c w)) (sym is)

-- who is found has it
pub found_has : (k : Kernel) (task : ℕ) (found : Option Caller) → outcome_in (parts k) (caller_of task) ≡ found
    → outcome_in (parts k) (ahead_row (context_of k) task) ≡ outcome_in (parts k) (ahead_if_live (context_of k) found)
found_has k task found is =
    outcome-bind (parts k) (caller_of task) (ahead_if_live (context_of k))
    ∙ ap (λ o. outcome_in (parts k) (ahead_if_live (context_of k) o)) is

-- what is told, for what is told there
pub told_for : (r : Result Ahead Memory) (a b : Ahead) → a ≡ b → IfOk r (λ x. x ≡ a) → IfOk r (λ x. x ≡ b)
told_for r a b is told = subst (λ (o : Ahead). IfOk r (λ x. x ≡ o)) is told
