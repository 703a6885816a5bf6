-- An address space that was copied stands in its place as before.
use Rattle.plain_steps.proofs.SpaceLemmas.{space_kept}
use Rattle.plain_steps.proofs.callers.copied_space.Goals as goal

pub returns-in_err-copy-in-Some-clause-kept : goal.returns-in_err-copy-in-Some-clause-kept
returns-in_err-copy-in-Some-clause-kept c =
    space_kept c.args.kernel.now c.args.name c.in-Some.space.now c.copy.new.self c.in-Some.ensures.value
    c.copy.ensures.kept

pub returns-in_ok-copy-in-Some-clause-kept : goal.returns-in_ok-copy-in-Some-clause-kept
returns-in_ok-copy-in-Some-clause-kept c =
    space_kept c.args.kernel.now c.args.name c.in-Some.space.now c.copy.new.self c.in-Some.ensures.value
    c.copy.ensures.kept
