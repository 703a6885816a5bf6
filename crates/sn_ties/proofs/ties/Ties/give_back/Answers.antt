use Rattle.std.proofs.Common.{ap, sym, ◌∙◌, arith}
use Rattle.sn_ties.proofs.Steps.{together_as, apart_as, part_share}
use Rattle.sn_ties.proofs.ties.Ties.give_back.Goals as goal

pub split_seat-back-requires : goal.split_seat-back-requires
split_seat-back-requires g c =
    let h = c.args.self.now in (
      c.requires.named.0 ∙ sym h.named,
      omega (arith, h.words),
      apart_as c.args.knot.now.id c.args.key c.args.value.now c.args.knot.now.me.0.map c.args.knot.now.me
          c.requires.knot,
    )

pub join_seat-requires : goal.join_seat-requires
join_seat-requires g c =
    let h = c.args.self.now in
    let back = part_share c.args.knot.now.me c.split_seat-back.result.me c.args.knot.now.me.0.map c.args.key
    c.args.value.now c.requires.knot c.split_seat-back.ensures.4 in (
      c.requires.named.1 ∙ sym h.named,
      c.split_seat-back.ensures.3 ∙ (c.requires.named.0 ∙ sym h.named),
      ap (λ m. m.1) back,
      omega (arith, h.words),
      together_as c.args.share.now.id c.args.share.now.me.0 c.split_seat-back.result.id c.args.key c.args.value.now
          c.split_seat-back.result.me back,
    )
