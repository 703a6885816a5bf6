-- What becomes of a call, by what its row comes to.
use Rattle.std.proofs.Common.{◌≡◌, ◌∙◌}
use Rattle.mm_space.specs.Handed.{AreaState}
use Rattle.mm_space.specs.Spaces.{AddressSpace}
use Rattle.kernel_model.specs.Names.{NamedMap}
use Rattle.kernel_model.specs.declared.caller.Caller.{Caller}
use Rattle.kernel_model.specs.declared.kernel.Kernel.{Kernel}
use Rattle.kernel_model.specs.calls.Answers.{Answer}
use Rattle.kernel_model.specs.entries.Parts.{parts, Prog, outcome_in}
use Rattle.kernel_calls.specs.Prepared.{Comes, IfWaits}
use Rattle.kernel_calls.specs.declared.prepared.Awaited.{Awaited}
use Rattle.kernel_calls.specs.declared.prepared.Called.{Called}
use Rattle.kernel_calls.specs.declared.prepared.Called.TheVariants.{Replies, Makes, Sleeps, Waits}

-- the same becomes of two rows that come to the same
pub comes_alike : (d : Called) (row other : Prog Answer) (c : Caller) (k : Kernel) (space : AddressSpace)
    (areas : NamedMap AreaState) → outcome_in (parts k) row ≡ outcome_in (parts k) other
    → Comes other d c k space areas → Comes row d c k space areas
comes_alike (Replies p) row other c k space areas is comes =
    record { changes = comes.changes; row_is = is ∙ comes.row_is; done_is = comes.done_is }
comes_alike (Makes child) row other c k space areas is comes =
    record { changes = comes.changes; row_is = is ∙ comes.row_is; done_is = comes.done_is }
comes_alike (Sleeps key) row other c k space areas is comes = is ∙ comes
comes_alike (Waits awaited) row other c k space areas is comes = is ∙ comes

-- what holds of a call that waits, by what else does
pub waits_so : (d : Called) (fact other : Awaited → Type 0) → ((awaited : Awaited) → fact awaited → other awaited)
    → IfWaits d fact → IfWaits d other
waits_so (Replies p) fact other so waits = tt
waits_so (Makes child) fact other so waits = tt
waits_so (Sleeps key) fact other so waits = tt
waits_so (Waits awaited) fact other so waits = so awaited waits

-- and of one that doesn't
pub goes_on_so : (d : Called) (fact : Awaited → Type 0) → IfWaits d (λ awaited. ⊥) → IfWaits d fact
goes_on_so d fact = waits_so d (λ awaited. ⊥) fact (λ awaited none. absurd none)
