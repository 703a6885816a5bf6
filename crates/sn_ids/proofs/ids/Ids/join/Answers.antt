use Rattle.std.proofs.Common.{ap, sym, ◌∙◌, arith}
use Rattle.sn_ids.proofs.Steps.{joins, looks_as, joined}
use Rattle.sn_ids.proofs.ids.Ids.join.Goals as goal

pub join_seat-requires : goal.join_seat-requires
join_seat-requires g c =
    let h = c.args.self.now in (
      c.pass.invariant.0 ∙ sym h.named,
      c.other.invariant.0 ∙ sym h.named,
      ap (λ m. m.1) c.other.invariant.1,
      omega (arith, h.words),
      joins c.pass.inside.seat.id c.pass.inside.seat.me.0 c.other.inside.seat.id c.other.inside.seat.me.0,
    )

pub load-requires : goal.load-requires
load-requires g c =
    let h = c.args.self.now in (
      c.join_seat.ensures.0 ∙ (c.pass.invariant.0 ∙ sym h.named),
      omega (arith, h.words),
      looks_as h.table.shared.table_id.slots c.join_seat.new.seat.id c.join_seat.new.seat.me
          (joined c.pass.inside.seat.me c.other.inside.seat.me c.join_seat.new.seat.me c.pass.invariant.1
          c.join_seat.ensures.2),
    )
