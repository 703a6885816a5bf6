use Rattle.std.proofs.Common.{sym, ◌∙◌, arith}
use Rattle.pool_ties.proofs.Steps.{settles_as}
use Rattle.pool_ties.proofs.ties.Ties.settle.Goals as goal

pub load-requires : goal.load-requires
load-requires g c =
    let h = c.args.self.now in
    let seat = c.knot.inside.seat in (
      c.knot.invariant.0 ∙ sym h.named,
      omega (arith, h.words),
      settles_as h.table.shared.table_id.slots seat.id seat.me.0.issued seat.me.0.returned seat.me c.knot.invariant.1,
    )
