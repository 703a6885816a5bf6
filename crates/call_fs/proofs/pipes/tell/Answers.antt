-- The numbers are put where the buffer may be written.
use Rattle.std.proofs.Common.{◌≡◌, length, ap, subst, ◌∙◌}
use Rattle.mm_space.specs.Accesses.{writable}
use Rattle.kernel_model.specs.entries.Areas.{access_row, written_with}
use Rattle.kernel_model.specs.entries.Parts.{outcome_in}
use Rattle.guest_access.specs.Lending.{with_hand}
use Rattle.call_fs.proofs.MadePipes.{ints_by}
use Rattle.call_fs.proofs.pipes.tell.Goals as goal

pub returns-clause-wrote : goal.returns-clause-wrote
returns-clause-wrote c s hand those granted =
    let a = c.args in
    subst (λ bytes. (c.write.new.space ≡ (written_with a.task a.space.now a.ends.now.buffer bytes hand).space)
    × (c.write.new.areas ≡ with_hand (written_with a.task a.space.now a.ends.now.buffer bytes hand).hand a.areas.now))
    c.two_ints.ensures
    (ints_by a.task a.space.now c.write.new.space a.areas.now c.write.new.areas a.ends.now.buffer c.two_ints.result hand
    c.in_ok-write.field-0 s
    (ap (λ bytes. outcome_in s (access_row writable a.space.now a.ends.now.buffer (length bytes))) c.two_ints.ensures
    ∙ granted) (c.in_ok-write.ensures.wrote s those))
