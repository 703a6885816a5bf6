-- A call that puts its task to sleep, piece by piece.
use Rattle.std.proofs.Common.{◌≡◌, ℕ, Bool, List, [], ◌∷◌, Option, ap, sym, ◌∙◌, subst, option_map}
use Rattle.std.specs.Prelude.{Result}
use Rattle.sn_base.specs.declared.memory.Memory.{Memory}
use Rattle.futex_core.specs.Waiters.{after_sleep}
use Rattle.futex_core.specs.declared.keys.FutexKey.{FutexKey}
use Rattle.mm_space.specs.Handed.{AreaState}
use Rattle.mm_space.specs.Spaces.{AddressSpace}
use Rattle.kernel_model.specs.Names.{NamedMap}
use Rattle.kernel_model.specs.declared.caller.Caller.{Caller}
use Rattle.kernel_model.specs.declared.entry.Args.{Args}
use Rattle.kernel_model.specs.declared.kernel.Kernel.{Kernel}
use Rattle.kernel_model.specs.declared.kernel.Part.TheVariants.{OfSleepers}
use Rattle.kernel_model.specs.declared.traps.Next.{Next}
use Rattle.kernel_model.specs.declared.traps.Next.TheVariants.{Calls}
use Rattle.kernel_model.specs.calls.Answers.{Answer}
use Rattle.kernel_model.specs.calls.Callers.{context_of}
use Rattle.kernel_model.specs.calls.Table.{call_row}
use Rattle.kernel_model.specs.entries.Areas.{Stands, next_row}
use Rattle.kernel_model.specs.entries.Parts.{parts, Prog, done, outcome_in, Change, ◌>>=◌}
use Rattle.kernel_model.specs.entries.Steps.{sleep_at, sleep_row, slept_by}
use Rattle.kernel_model.specs.machine.Registers.{args_of, call_of}
use Rattle.kernel_model.proofs.Trees.{outcome-bind}
use Rattle.kernel_calls.specs.Prepared.{Comes}
use Rattle.kernel_calls.specs.declared.prepared.Called.{Called as ACalled}
use Rattle.kernel_calls.specs.declared.prepared.Called.TheVariants as called
use Rattle.call_fs.specs.CallEnd.{ComesTo}
use Rattle.call_fs.specs.declared.call_end.CallEnd.{CallEnd}
use Rattle.call_fs.specs.declared.call_end.CallEnd.TheVariants.{Of, Moves, MakesPipe}
use Rattle.plain_steps.specs.Doing.{Does, kept_key, key_slept_on}

-- what an entry of a task that falls asleep changes, by the word that its call puts it to sleep on
abbrev pub slept_on : Option FutexKey → Caller → Kernel → Option (List Change)
slept_on key c k = option_map (λ at. (OfSleepers, after_sleep k.sleepers c.task at) ∷ []) key

kept_so : (row : Prog Answer) (d : ACalled) (c : Caller) (k : Kernel) (space : AddressSpace)
    (areas : NamedMap AreaState) → Comes row d c k space areas
    → slept_by (outcome_in (parts k) row) (outcome_in (parts k) row).reply ≡ slept_on (kept_key d) c k
kept_so row (called.Replies p) c k space areas comes = ap (λ (a : Answer). slept_by a a.reply) comes.row_is
kept_so row (called.Makes child) c k space areas comes = ap (λ (a : Answer). slept_by a a.reply) comes.row_is
kept_so row (called.Sleeps key) c k space areas comes = ap (λ (a : Answer). slept_by a a.reply) comes
kept_so row (called.Waits awaited) c k space areas comes = ap (λ (a : Answer). slept_by a a.reply) comes

slept_so : (row : Prog Answer) (d : CallEnd) (c : Caller) (k : Kernel) (space : AddressSpace)
    (areas : NamedMap AreaState) → ComesTo row d c k space areas
    → slept_by (outcome_in (parts k) row) (outcome_in (parts k) row).reply ≡ slept_on (key_slept_on d) c k
slept_so row (Of d) c k space areas comes = kept_so row d c k space areas comes
slept_so row (Moves reply transfer) c k space areas comes = ap (λ (a : Answer). slept_by a a.reply) comes.row_is
slept_so row (MakesPipe new) c k space areas comes = ap (λ (a : Answer). slept_by a a.reply) comes.row_is

module _ (c : Caller) (k : Kernel) where
  -- a task that stands at a call sleeps where the call puts it to sleep
  pub sleeps_at : (number : ℕ) (args : Args) (d : CallEnd) (space : AddressSpace) (areas : NamedMap AreaState)
      → number ≡ call_of c.registers → args ≡ args_of c.registers
      → ComesTo (call_row (context_of k) c number args) d c k space areas
      → outcome_in (parts k) (sleep_at (context_of k) c Calls) ≡ slept_on (key_slept_on d) c k
  sleeps_at number args d space areas at those comes =
      ap (λ n. outcome_in (parts k) (call_row (context_of k) c n (args_of c.registers) >>= asleep)) (sym at)
      ∙ ap (λ a. outcome_in (parts k) (call_row (context_of k) c number a >>= asleep)) (sym those)
      ∙ outcome-bind (parts k) (call_row (context_of k) c number args) asleep
      ∙ slept_so (call_row (context_of k) c number args) d c k space areas comes
    where
      asleep : Answer → Prog (Option (List Change))
      asleep answer = done (slept_by answer answer.reply)

  -- and a task is put to sleep by what its next instruction does
  pub sleep_is : (next : Next) → (outcome_in (parts k) (next_row c)).next ≡ next
      → outcome_in (parts k) (sleep_row (context_of k) c) ≡ outcome_in (parts k) (sleep_at (context_of k) c next)
  sleep_is next is =
      outcome-bind (parts k) (next_row c) (λ (x : Stands). sleep_at (context_of k) c x.next)
      ∙ ap (λ n. outcome_in (parts k) (sleep_at (context_of k) c n)) is

-- what is done for a task at a call, for the caller that was left as it was, its entry does
pub sleep_does : (k left : Kernel) (c after : Caller) (r : Result Bool Memory)
    → (outcome_in (parts k) (next_row c)).next ≡ Calls → after ≡ c
    → Does (outcome_in (parts k) (sleep_at (context_of k) after Calls)) k left r
    → Does (outcome_in (parts k) (sleep_row (context_of k) c)) k left r
sleep_does k left c after r is stay does =
    subst (λ o. Does o k left r) (sym (sleep_is c k Calls is))
    (subst (λ (x : Caller). Does (outcome_in (parts k) (sleep_at (context_of k) x Calls)) k left r) stay does)
