-- Random bytes that are put, by what the row has it.
use Rattle.std.proofs.Common.{refl, ap, sym, ◌∙◌}
use Rattle.std.proofs.lemmas.Result.{IfOk-weaker}
use Rattle.sn_errno.specs.declared.errno.Errno.TheVariants.{EINVAL}
use Rattle.kernel_model.specs.calls.Callers.{context_of}
use Rattle.kernel_model.specs.calls.RandomBytes.{getrandom_row}
use Rattle.kernel_model.specs.entries.Parts.{parts, outcome_in}
use Rattle.kernel_calls.proofs.Answering.{answers_refused, has_space}
use Rattle.kernel_calls.proofs.RandomRows.{row_refused, random_filled}
use Rattle.kernel_calls.proofs.random.getrandom.Goals as goal

pub returns-then-flags-gt7-clause-row : goal.returns-then-flags-gt7-clause-row
returns-then-flags-gt7-clause-row c caller k list waiting console calling =
    let a = c.args in
    answers_refused (getrandom_row (context_of k) a.buffer a.count a.flags caller) c.refused.result caller k a.space.now
    a.space.now a.areas.now (has_space caller k a.context.now a.space.now a.areas.now list waiting console calling)
    EINVAL
    (ap (outcome_in (parts k)) (row_refused (context_of k) a.buffer a.count a.flags caller c.if-flags-gt7.true))
    c.refused.ensures.reply c.refused.ensures.effect refl (sym calling.areas)

pub returns-clause-row : goal.returns-clause-row
returns-clause-row c =
    let a = c.args in
    IfOk-weaker c.fill.result _ _ (λ p row caller k list waiting console calling.
    random_filled p caller k a.context.now a.space.now _ a.areas.now _ list waiting console a.buffer a.count a.flags
    calling
    c.if-flags-gt7.false c.min-count.result _ c.as_slice.result.now c.min-count.ensures refl
    (c.as_slice.ensures ∙ c.in_ok-bytes.ensures) (row caller k list waiting console calling)) c.fill.ensures.row
