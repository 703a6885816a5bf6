use Rattle.std.proofs.Common.{sym, ◌∙◌, arith}
use Rattle.sn_ties.proofs.Steps.{loses_as}
use Rattle.sn_ties.proofs.ties.Ties.end.Goals as goal

pub compare_exchange-requires : goal.compare_exchange-requires
compare_exchange-requires g c =
    let h = c.args.self.now in (
      c.take_in.ensures.named.0 ∙ sym h.named,
      omega (arith, h.words),
      loses_as h.table.shared.table_id.slots c.take_in.new.knot.id c.share.inside.key c.share.inside.value
          c.knot.inside.seat.me.0.map c.take_in.new.knot.me c.take_in.ensures.knot,
    )
