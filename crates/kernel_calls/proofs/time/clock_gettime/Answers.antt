-- The time that is put, by what the row has it.
use Rattle.std.proofs.Common.{refl, ap, sym}
use Rattle.std.proofs.lemmas.Result.{IfOk-weaker}
use Rattle.sn_errno.specs.declared.errno.Errno.TheVariants.{EINVAL}
use Rattle.kernel_model.specs.calls.Callers.{context_of}
use Rattle.kernel_model.specs.calls.Time.{clock_gettime_row}
use Rattle.kernel_model.specs.entries.Parts.{parts, outcome_in}
use Rattle.kernel_calls.proofs.Answering.{answers_refused, has_space}
use Rattle.kernel_calls.proofs.TimeRows.{clock_refused, clock_filled}
use Rattle.kernel_calls.proofs.time.clock_gettime.Goals as goal

pub returns-then-id-gt-LAST_CLOCK-clause-row : goal.returns-then-id-gt-LAST_CLOCK-clause-row
returns-then-id-gt-LAST_CLOCK-clause-row c caller k list waiting console calling =
    let a = c.args in
    answers_refused (clock_gettime_row (context_of k) a.id a.buffer caller) c.refused.result caller k a.space.now
    a.space.now a.areas.now (has_space caller k a.context.now a.space.now a.areas.now list waiting console calling)
    EINVAL
    (ap (outcome_in (parts k)) (clock_refused (context_of k) a.id a.buffer caller c.if-id-gt-LAST_CLOCK.true))
    c.refused.ensures.reply c.refused.ensures.effect refl (sym calling.areas)

pub returns-clause-row : goal.returns-clause-row
returns-clause-row c =
    let a = c.args in
    IfOk-weaker c.fill.result _ _ (λ p row caller k list waiting console calling.
    clock_filled p caller k a.context.now a.space.now _ a.areas.now _ list waiting console a.id a.buffer calling
    c.if-id-gt-LAST_CLOCK.false c.timespec-time.result c.timespec-time.ensures
    (row caller k list waiting console calling)) c.fill.ensures.row
