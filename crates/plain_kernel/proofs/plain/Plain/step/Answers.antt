-- An entry that fits is one more, and one that misfits changes nothing.
use Rattle.std.proofs.Common.{◌≡◌, ◌∙◌, ap, arith, is_some, sym, unwrap_or}
use Rattle.plain_kernel.proofs.StepLemmas.{step_fits, step_none, step_taken, step_refused, entries_by}
use Rattle.plain_kernel.proofs.plain.Plain.step.Goals as goal

pub overflow_add-self : goal.overflow_add-self
overflow_add-self c =
    let same : c.change.new.kernel.entries ≡ c.args.self.now.kernel.entries =
    entries_by c.args.self.now.kernel c.change.new.kernel c.args.entry.now (sym c.may_enter.ensures
    ∙ c.if-not-may_enter.false) c.in_ok-fits.fits c.in_ok-fits.ensures in
    record { fits = omega (arith, same) }

pub returns-then-not-may_enter-clause-fits : goal.returns-then-not-may_enter-clause-fits
returns-then-not-may_enter-clause-fits c =
    sym
    (ap is_some (step_none c.args.self.now.kernel c.args.entry.now (sym c.may_enter.ensures
    ∙ c.if-not-may_enter.true)))

pub returns-then-not-may_enter-clause-ok : goal.returns-then-not-may_enter-clause-ok
returns-then-not-may_enter-clause-ok c =
    sym
    (ap (λ o. unwrap_or o c.args.self.now.kernel) (step_none c.args.self.now.kernel c.args.entry.now
    (sym c.may_enter.ensures ∙ c.if-not-may_enter.true)))

pub returns-then-fits-clause-fits : goal.returns-then-fits-clause-fits
returns-then-fits-clause-fits c =
    step_fits c.args.self.now.kernel c.change.new.kernel c.args.entry.now
    (sym c.may_enter.ensures ∙ c.if-not-may_enter.false) c.in_ok-fits.fits c.in_ok-fits.ensures

pub returns-then-fits-clause-ok : goal.returns-then-fits-clause-ok
returns-then-fits-clause-ok c =
    step_taken c.args.self.now.kernel c.change.new.kernel c.args.entry.now
    (sym c.may_enter.ensures ∙ c.if-not-may_enter.false) c.in_ok-fits.fits c.in_ok-fits.ensures
    c.if-fits.true

pub returns-else-fits-clause-fits : goal.returns-else-fits-clause-fits
returns-else-fits-clause-fits c =
    step_fits c.args.self.now.kernel c.change.new.kernel c.args.entry.now
    (sym c.may_enter.ensures ∙ c.if-not-may_enter.false) c.in_ok-fits.fits c.in_ok-fits.ensures

pub returns-else-fits-clause-ok : goal.returns-else-fits-clause-ok
returns-else-fits-clause-ok c =
    step_refused c.args.self.now.kernel c.change.new.kernel c.args.entry.now
    (sym c.may_enter.ensures ∙ c.if-not-may_enter.false) c.in_ok-fits.fits c.in_ok-fits.ensures
    c.if-fits.false
