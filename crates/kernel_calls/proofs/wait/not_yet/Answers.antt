-- A call that is told that no child has ended.
use Rattle.std.proofs.Common.{◌≡◌, ◌==◌, true, refl, ap, sym, []}
use Rattle.std.proofs.lemmas.Bool.{eq-eqb}
use Rattle.kernel_model.specs.calls.Answers.{replies}
use Rattle.kernel_calls.proofs.Answering.{answers_told_as}
use Rattle.kernel_calls.proofs.wait.not_yet.Goals as goal

pub returns-then-options-eq1-clause-row : goal.returns-then-options-eq1-clause-row
returns-then-options-eq1-clause-row c caller k own shared has areas =
    let at_once : (c.args.options == 1) ≡ true = eq-eqb c.args.options 1 c.if-options-eq1.true in
    answers_told_as _ c.replied.result caller k own own shared has
    (rw at_once (ap (λ v. replies v []) (sym c.replied.ensures.reply))) c.replied.ensures.effect refl (sym areas)
