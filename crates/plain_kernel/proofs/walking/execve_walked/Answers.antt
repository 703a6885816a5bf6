-- An execve that walked there answers EIO where it met a rise, and goes on where it met none.
use Rattle.std.proofs.Common.{ap, sym, ◌∙◌}
use Rattle.std.specs.Prelude.{not}
use Rattle.kernel_model.specs.entries.Given.{faulted}
use Rattle.kernel_model.specs.entries.Parts.{parts}
use Rattle.kernel_model.specs.entries.Parts.{outcome_in as outcome}
use Rattle.node_numbers.proofs.FaultLemmas.{ordered_unused}
use Rattle.node_numbers.proofs.FaultLemmas.{has_any_not, done_all, done_nothing}
use Rattle.plain_kernel.proofs.WalkLemmas.{rises_unfit, rises_fail}
use Rattle.plain_kernel.proofs.walking.execve_walked.Goals as goal

pub returns-then-not-branch-clause-does : goal.returns-then-not-branch-clause-does
returns-then-not-branch-clause-does c =
    rises_unfit c.args.kernel.now c.args.name.now c.args.given.now c.args.walk.draws c.args.walk.image
    (has_any_not c.args.given.now.rises c.is_empty.result c.is_empty.ensures ∙ ap not c.if-is_empty.false)
    (sym c.is_in_order.ensures ∙ c.if-not-is_in_order.false)
    (done_nothing (outcome (parts c.args.kernel.now) (faulted c.args.given.now)) c.in_ok-faulted.field-0
    c.args.kernel.now c.faulted.new.kernel c.in_ok-faulted.ensures.fits c.in_ok-faulted.ensures.ok
    c.if-not-branch.true).0

pub returns-clause-does : goal.returns-clause-does
returns-clause-does c =
    rises_fail c.args.kernel.now c.args.name.now c.args.given.now c.args.walk.draws c.args.walk.image
    (has_any_not c.args.given.now.rises c.is_empty.result c.is_empty.ensures ∙ ap not c.if-is_empty.false)
    (sym c.is_in_order.ensures ∙ c.if-not-is_in_order.false) c.faulted.new.kernel
    (done_all (outcome (parts c.args.kernel.now) (faulted c.args.given.now)) c.in_ok-faulted.field-0 c.args.kernel.now
    c.faulted.new.kernel c.in_ok-faulted.ensures.fits c.in_ok-faulted.ensures.ok c.if-not-branch.false)

pub faulted-requires : goal.faulted-requires
faulted-requires c =
    ordered_unused c.args.given.now c.args.kernel.now (sym c.is_in_order.ensures ∙ c.if-not-is_in_order.false)
    c.requires
