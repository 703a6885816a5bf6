-- Fresh numbers are given and counts raised, or all is as it was.
use Rattle.std.proofs.Common.{◌≡◌, Some, None, ap, sym, ◌∙◌, is_some, unwrap_or}
use Rattle.kernel_model.specs.entries.Given.{faulted}
use Rattle.kernel_model.specs.entries.Parts.{parts, outcome_in}
use Rattle.kernel_model.specs.laws.InPlace.{changed_by}
use Rattle.node_numbers.proofs.FaultLemmas.{first_refused, all_numbered, then_risen, is_some-changed_by}
use Rattle.node_numbers.proofs.faults.faulted.Goals as goal

pub returns-then-not-branch-clause-fits : goal.returns-then-not-branch-clause-fits
returns-then-not-branch-clause-fits c =
    sym
    (ap is_some (first_refused c.args.given.now c.args.kernel.now c.requires c.as_slice-fresh.result.now
    c.as_slice-fresh.ensures c.in_ok-number_all.field-0 c.number_all.new.kernel c.in_ok-number_all.ensures.fits
    c.in_ok-number_all.ensures.ok c.if-not-branch.true).0)

pub returns-then-not-branch-clause-ok : goal.returns-then-not-branch-clause-ok
returns-then-not-branch-clause-ok c =
    let refused : (outcome_in (parts c.args.kernel.now) (faulted c.args.given.now) ≡ None)
    × (c.number_all.new.kernel ≡ c.args.kernel.now) =
    first_refused c.args.given.now c.args.kernel.now c.requires c.as_slice-fresh.result.now c.as_slice-fresh.ensures
    c.in_ok-number_all.field-0 c.number_all.new.kernel c.in_ok-number_all.ensures.fits c.in_ok-number_all.ensures.ok
    c.if-not-branch.true in
    refused.1 ∙ sym (ap (λ o. unwrap_or (changed_by o c.args.kernel.now) c.args.kernel.now) refused.0)

pub returns-in-Ok-clause-fits : goal.returns-in-Ok-clause-fits
returns-in-Ok-clause-fits c =
    sym
    (ap is_some (then_risen c.args.given.now c.args.kernel.now c.requires c.as_slice-fresh.result.now
    c.as_slice-fresh.ensures c.in_ok-number_all.field-0 c.number_all.new.kernel c.in_ok-number_all.ensures.fits
    c.in_ok-number_all.ensures.ok c.if-not-branch.false c.as_slice.result.now c.raise.new.failed c.as_slice.ensures
    c.in-Ok.ensures.ok))
    ∙ is_some-changed_by (outcome_in (parts c.args.kernel.now) (faulted c.args.given.now)) c.args.kernel.now

pub returns-in-Ok-clause-ok : goal.returns-in-Ok-clause-ok
returns-in-Ok-clause-ok c =
    sym
    (ap (λ o. unwrap_or o c.args.kernel.now) (then_risen c.args.given.now c.args.kernel.now c.requires
    c.as_slice-fresh.result.now c.as_slice-fresh.ensures c.in_ok-number_all.field-0 c.number_all.new.kernel
    c.in_ok-number_all.ensures.fits c.in_ok-number_all.ensures.ok c.if-not-branch.false c.as_slice.result.now
    c.raise.new.failed c.as_slice.ensures c.in-Ok.ensures.ok))

pub unnumber_all-requires : goal.unnumber_all-requires
unnumber_all-requires c = (
  c.args.kernel.now,
  all_numbered c.args.given.now c.args.kernel.now c.requires c.as_slice-fresh.result.now c.as_slice-fresh.ensures
      c.in_ok-number_all.field-0 c.number_all.new.kernel c.in_ok-number_all.ensures.fits c.in_ok-number_all.ensures.ok
      c.if-not-branch.false
      ∙ ap (λ f. Some (record c.number_all.new.kernel { failed = f })) (sym c.in-Err.ensures.err),
)
