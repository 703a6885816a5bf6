use Rattle.std.proofs.Common.{sym, ◌∙◌, arith}
use Rattle.pool_ties.proofs.Steps.{issues_as}
use Rattle.pool_ties.proofs.ties.Ties.issue.Goals as goal

pub split_seat-seat-requires : goal.split_seat-seat-requires
split_seat-seat-requires g c =
    let h = c.args.self.now in
    let seat = c.knot.inside.seat in (
      c.knot.invariant.0 ∙ sym h.named,
      omega (arith, h.words),
      issues_as seat.id g.N.Noted.note seat.me.0.issued seat.me.0.returned seat.me c.knot.invariant.1,
    )
