use Rattle.std.proofs.Common.{sym, ap, ◌∙◌, arith}
use Rattle.pool_ties.specs.Tied.{first_held}
use Rattle.pool_ties.proofs.Steps.{S, redeems_as}
use Rattle.pool_ties.proofs.ties.Ties.redeem.Goals as goal

pub join_seat-requires : goal.join_seat-requires
join_seat-requires g c =
    let h = c.args.self.now in
    let seat = c.knot.inside.seat in
    let share = c.share.inside.seat in (
      c.knot.invariant.0 ∙ sym h.named,
      c.share.invariant.0 ∙ sym h.named,
      ap (λ (m : S). m.1) c.share.invariant.1,
      omega (arith, h.words),
      redeems_as seat.id seat.me.0.issued seat.me.0.returned share.id (first_held share.me.0) seat.me share.me
          c.knot.invariant.1 c.share.invariant.1,
    )
