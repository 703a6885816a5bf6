-- The words are those of the tasks that end.
use Rattle.std.proofs.Common.{refl, subst}
use Rattle.kernel_model.specs.calls.ClearWords.{nothing_cleared, words_cleared}
use Rattle.kernel_model.specs.entries.Parts.{parts, outcome_in}
use Rattle.kernel_calls.specs.ClearWords.{IsCleared}
use Rattle.guest_access.proofs.KernelAreas.{are_those}
use Rattle.kernel_calls.proofs.Endings.{ends_calling}
use Rattle.kernel_calls.proofs.ending.ending_of.Goals as goal

pub returns-clause-ends : goal.returns-clause-ends
returns-clause-ends c caller k list waiting console calling =
    let a = c.args in
    let new = c.clear_words.new in
    ends_calling caller k a.context.now a.space.now a.areas.now list waiting console calling a.ended
    (record { status = a.status; ended = a.ended; cleared = c.in_ok-cleared.cleared; closes = a.closes }) new.space
    new.areas refl
    (subst (λ ended. IsCleared (outcome_in (parts k) (words_cleared caller ended (nothing_cleared caller.space)))
    a.areas.now new.space new.areas c.in_ok-cleared.cleared) c.as_slice.ensures
    (c.in_ok-cleared.ensures.cleared caller (parts k) calling.task calling.memory calling.space
    (are_those k a.areas.now calling.areas)))
