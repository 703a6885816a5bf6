use Rattle.std.proofs.Common.{◌≡◌, ◌+◌, ◌∷◌, IfOk, ap, sym, subst, ◌∙◌, arith}
use Rattle.sn_ids.proofs.Steps.{Runs, S, looks_as, draws_as, found_as, drawn_by}
use Rattle.sn_ids.proofs.ids.Ids.draw.Goals.{then-has-saw, else-has-saw}
use Rattle.sn_ids.proofs.ids.Ids.draw.Goals as goal

pub load-saw-requires : goal.load-saw-requires
load-saw-requires g c =
    let h = c.args.self.now in (
      c.pass.invariant.0 ∙ sym h.named,
      omega (arith, h.words),
      looks_as h.table.shared.table_id.slots c.pass.inside.seat.id c.pass.inside.seat.me c.pass.invariant.1,
    )

pub compare_exchange-has-requires : goal.compare_exchange-has-requires
compare_exchange-has-requires g c =
    let h = c.args.self.now in (
      c.load-saw.ensures.0 ∙ (c.pass.invariant.0 ∙ sym h.named),
      omega (arith, h.words),
      draws_as h.table.shared.table_id.slots c.load-saw.new.seat.id c.load-saw.result c.args.count
          c.load-saw.new.seat.me
          (found_as c.pass.inside.seat.me c.load-saw.new.seat.me c.pass.invariant.1 c.load-saw.ensures.2.1),
    )

pub returns-clause-drawn : goal.returns-clause-drawn
returns-clause-drawn g c = elim c.if-has-saw.branch [
  | then-has-saw w ↦ subst
      (λ r. IfOk r (λ first. c.compare_exchange-has.new.seat.me.0.drawn ≡ (first, c.args.count) ∷ c.args.pass.now))
      (sym w.result-is)
      (drawn_by c.args.self.now.table.shared.table_id.slots c.load-saw.result c.args.count
      c.compare_exchange-has.result c.load-saw.new.seat.me c.compare_exchange-has.new.seat.me
      c.compare_exchange-has.ensures.2 w.if-has-saw.true
      ∙ ap (λ (runs : Runs). (c.load-saw.result + 1, c.args.count) ∷ runs)
      (ap (λ (m : S). m.0.drawn) c.load-saw.ensures.2.1 ∙ c.pass.view_is))
  | else-has-saw w ↦ subst
      (λ r. IfOk r (λ first. c.compare_exchange-has.new.seat.me.0.drawn ≡ (first, c.args.count) ∷ c.args.pass.now))
      (sym w.result-is) tt
]
