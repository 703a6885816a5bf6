-- A fresh number above the last is drawn and given to no node.
use Rattle.std.proofs.Common.{◌≡◌, [], ◌∷◌, Some, ap, sym, unwrap_or}
use Rattle.std.specs.Prelude.{is_some}
use Rattle.kernel_model.specs.laws.InPlace.{numbered}
use Rattle.node_numbers.proofs.Numberings.{waits_spent}
use Rattle.node_numbers.proofs.numbering.number_one.Goals as goal

pub returns-else-fresh-le-LAST_NUMBER-clause-fits : goal.returns-else-fresh-le-LAST_NUMBER-clause-fits
returns-else-fresh-le-LAST_NUMBER-clause-fits c =
    let spent : numbered (c.args.fresh.now ∷ []) c.args.kernel.now ≡ Some c.args.kernel.now =
    waits_spent c.args.fresh.now c.args.kernel.now c.if-not-is_waiting.ensures.waits
    c.if-fresh-le-LAST_NUMBER.false in
    sym (ap is_some spent)

pub returns-else-fresh-le-LAST_NUMBER-clause-ok : goal.returns-else-fresh-le-LAST_NUMBER-clause-ok
returns-else-fresh-le-LAST_NUMBER-clause-ok c =
    let spent : numbered (c.args.fresh.now ∷ []) c.args.kernel.now ≡ Some c.args.kernel.now =
    waits_spent c.args.fresh.now c.args.kernel.now c.if-not-is_waiting.ensures.waits
    c.if-fresh-le-LAST_NUMBER.false in
    sym (ap (λ o. unwrap_or o c.args.kernel.now) spent)
