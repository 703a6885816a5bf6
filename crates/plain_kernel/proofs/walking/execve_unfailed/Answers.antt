-- An execve that met no rise has its image where the numbers are just those that its walk draws.
use Rattle.std.proofs.Common.{ap, sym, ◌∙◌}
use Rattle.std.specs.List.{list_any}
use Rattle.kernel_model.specs.entries.Given.{above_last}
use Rattle.kernel_model.specs.opening.Opening.{draws_just, by_walk, root_of}
use Rattle.kernel_model.specs.entries.Parts.{parts}
use Rattle.kernel_model.specs.entries.Parts.{outcome_in as outcome}
use Rattle.kernel_model.specs.laws.InPlace.{numbered}
use Rattle.node_numbers.proofs.NumberRuns.{taken_by, refused_by}
use Rattle.plain_kernel.proofs.WalkLemmas.{numbers_unfit, numbers_fit, executes_by}
use Rattle.plain_kernel.proofs.walking.execve_unfailed.Goals as goal

pub returns-then-not-branch-clause-does : goal.returns-then-not-branch-clause-does
returns-then-not-branch-clause-does c =
    numbers_unfit c.args.kernel.now c.args.name.now c.args.given.now c.args.walk.draws c.args.walk.image
    c.requires.unfailed
    (ap (draws_just (root_of c.args.kernel.now.mounts) c.args.walk.draws c.args.name.now) (sym c.as_slice-fresh.ensures)
    ∙ sym c.draws_just.ensures
    ∙ c.if-not-draws_just.false) (ap (list_any above_last) (sym c.as_slice-fresh.ensures)
    ∙ sym c.any_above_last.ensures ∙ c.if-any_above_last.false) c.requires.may
    (ap (λ fs. numbered fs c.args.kernel.now) (sym c.as_slice-fresh.ensures)
    ∙ (refused_by (numbered c.as_slice-fresh.result.now c.args.kernel.now) c.in_ok-number_all.field-0
    c.args.kernel.now c.number_all.new.kernel c.in_ok-number_all.ensures.fits c.in_ok-number_all.ensures.ok
    c.if-not-branch.true).0)

pub returns-clause-does : goal.returns-clause-does
returns-clause-does c =
    executes_by
    (outcome (parts c.args.kernel.now)
    (by_walk (root_of c.args.kernel.now.mounts) c.args.name.now c.args.given.now (record {
      draws =
          c.args.walk.draws;
      image = c.args.walk.image;
    }))) c.args.kernel.now c.number_all.new.kernel c.args.walk.image
    c.by_image.result c.by_image.ensures
    (numbers_fit c.args.kernel.now c.args.name.now c.args.given.now c.args.walk.draws c.args.walk.image
    c.requires.unfailed
    (ap (draws_just (root_of c.args.kernel.now.mounts) c.args.walk.draws c.args.name.now) (sym c.as_slice-fresh.ensures)
    ∙ sym c.draws_just.ensures
    ∙ c.if-not-draws_just.false) (ap (list_any above_last) (sym c.as_slice-fresh.ensures)
    ∙ sym c.any_above_last.ensures ∙ c.if-any_above_last.false) c.requires.may c.number_all.new.kernel
    (ap (λ fs. numbered fs c.args.kernel.now) (sym c.as_slice-fresh.ensures)
    ∙ taken_by (numbered c.as_slice-fresh.result.now c.args.kernel.now) c.in_ok-number_all.field-0 c.args.kernel.now
    c.number_all.new.kernel c.in_ok-number_all.ensures.fits c.in_ok-number_all.ensures.ok c.if-not-branch.false))
