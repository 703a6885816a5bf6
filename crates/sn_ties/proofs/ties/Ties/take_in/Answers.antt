use Rattle.std.proofs.Common.{ap, sym, ◌∙◌, arith}
use Rattle.sn_ties.proofs.Steps.{together_as, apart_share, is_share}
use Rattle.sn_ties.proofs.ties.Ties.take_in.Goals as goal

pub split_seat-away-requires : goal.split_seat-away-requires
split_seat-away-requires g c =
    let h = c.args.self.now in (
      c.requires.named.1 ∙ sym h.named,
      omega (arith, h.words),
      apart_share c.args.share.now.id c.args.key c.args.value.now c.args.share.now.me c.requires.share,
    )

pub join_seat-requires : goal.join_seat-requires
join_seat-requires g c =
    let h = c.args.self.now in
    let away = is_share c.args.share.now.me c.split_seat-away.result.me c.args.key c.args.value.now c.requires.share
    c.split_seat-away.ensures.4 in (
      c.requires.named.0 ∙ sym h.named,
      c.split_seat-away.ensures.3 ∙ (c.requires.named.1 ∙ sym h.named),
      ap (λ m. m.1) away,
      omega (arith, h.words),
      together_as c.args.knot.now.id c.args.knot.now.me.0 c.split_seat-away.result.id c.args.key c.args.value.now
          c.split_seat-away.result.me away,
    )
