-- A pipe that is refused, or that is to be made.
use Rattle.std.proofs.Common.{refl, ap, sym, subst, ◌∙◌}
use Rattle.kernel_model.specs.calls.Callers.{context_of}
use Rattle.kernel_model.specs.calls.Pipes.{pipe2_row}
use Rattle.kernel_calls.proofs.Answering.{answers_refused}
use Rattle.call_fs.proofs.Opened.{table_so}
use Rattle.call_fs.specs.Pipes.{Prepares}
use Rattle.call_fs.specs.declared.pipes.PipeCall.TheVariants.{Makes}
use Rattle.call_fs.proofs.moving.piping.Goals as goal

pub returns-in-Refused-clause-row : goal.returns-in-Refused-clause-row
returns-in-Refused-clause-row c caller k console moving =
    let a = c.args in
    answers_refused (pipe2_row (context_of k) a.buffer a.flags caller) c.refused.result caller k a.space.now a.space.now
    a.areas.now (record { space = moving.memory.space; there = moving.memory.there }) c.in-Refused.errno
    (subst (λ p. Prepares (pipe2_row (context_of k) a.buffer a.flags caller) p (context_of k) caller k) c.in-Refused.is
    (c.in_ok-errno.ensures.row caller k (context_of k) moving.memory
    (table_so caller k a.context.now.table a.files.now moving.table moving.files _ c.numbers_of-numbers.ensures)))
    c.refused.ensures.reply c.refused.ensures.effect refl (sym moving.memory.areas)

pub returns-in_ok-new-in-Makes-clause-row : goal.returns-in_ok-new-in-Makes-clause-row
returns-in_ok-new-in-Makes-clause-row c caller k console moving =
    let a = c.args in
    subst (λ p. Prepares (pipe2_row (context_of k) a.buffer a.flags caller) p (context_of k) caller k)
    (c.in-Makes.is ∙ ap Makes (sym c.in_ok-new-in-Makes.ensures))
    (c.in_ok-errno.ensures.row caller k (context_of k) moving.memory
    (table_so caller k a.context.now.table a.files.now moving.table moving.files _ c.numbers_of-numbers.ensures))
