-- What is done by a word that may be read.
use Rattle.std.proofs.Common.{◌≡◌, ◌==◌, true, false, refl, sym, ◌∙◌}
use Rattle.std.proofs.lemmas.Bool.{ne_eqb}
use Rattle.sn_errno.specs.declared.errno.Errno.TheVariants.{EAGAIN}
use Rattle.kernel_model.specs.calls.Futex.{is_wait}
use Rattle.kernel_calls.proofs.Answering.{answers_kept, answers_refused}
use Rattle.kernel_calls.proofs.futex.by_word.Goals as goal

pub returns-then-not-is_wait-clause-row : goal.returns-then-not-is_wait-clause-row
returns-then-not-is_wait-clause-row c caller k own shared has areas those =
    let wakes : is_wait c.args.operation ≡ false = sym c.is_wait.ensures ∙ c.if-not-is_wait.true in
    answers_kept _ c.woken.result caller k own own shared has (rw wakes (c.woken.ensures.row caller k those)) refl
    (sym areas)

pub returns-then-word-value-clause-row : goal.returns-then-word-value-clause-row
returns-then-word-value-clause-row c caller k own shared has areas those =
    let waits : is_wait c.args.operation ≡ true = sym c.is_wait.ensures ∙ c.if-not-is_wait.false in
    let differs : (c.args.word == c.args.value) ≡ false = ne_eqb c.args.word c.args.value c.if-word-value.true in
    answers_refused _ c.refused.result caller k own own shared has EAGAIN (rw (waits, differs) refl)
    c.refused.ensures.reply c.refused.ensures.effect refl (sym areas)
