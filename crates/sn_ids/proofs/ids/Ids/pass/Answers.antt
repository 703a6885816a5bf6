use Rattle.std.proofs.Common.{sym, ◌∙◌, arith}
use Rattle.sn_ids.proofs.Steps.{fresh}
use Rattle.sn_ids.proofs.ids.Ids.pass.Goals as goal

pub split_seat-requires : goal.split_seat-requires
split_seat-requires g c =
    let h = c.args.self.now in (
      c.from.invariant.0 ∙ sym h.named,
      omega (arith, h.words),
      fresh c.from.inside.seat.id c.from.inside.seat.me.0,
    )
