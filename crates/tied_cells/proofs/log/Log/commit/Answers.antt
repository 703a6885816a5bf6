use Rattle.std.proofs.Common.{rules, ◌≡◌, ◌+◌, ◌<◌, ◌^◌, ◌∷◌, ◌++◌, [], refl, sym, ap, ◌∙◌, arith}
use Rattle.tied_cells.specs.Machines.{own_key, times}
use Rattle.tied_cells.specs.Rounds.{behind, in_knot}
use Rattle.tied_cells.specs.Counts.{count_in, in_counts}
use Rattle.tied_cells.proofs.Had.{had_set, had_next}
use Rattle.tied_cells.proofs.Runs.{times-le, history-next}
use Rattle.tied_cells.proofs.Lent.{due, owed_knot, owed_counts, own-next-of, settled}
use Rattle.tied_cells.proofs.log.Log.commit.Goals as goal

pub overflow_add-mine : goal.overflow_add-mine
overflow_add-mine g c =
    let own = own_key c.args.seat.now.task in
    let n = times-le g.M.Machine.rules own c.args.self.now.pen in
    let s = c.requires.seat in
    let l = c.requires.long in
    let v = c.value.ensures in
    let fits : c.value.result.now + 1 < 2 ^ 64 = omega (arith, n, s, l, v) in
    search rules

pub invariant_of-seat : goal.invariant_of-seat
invariant_of-seat g c =
    let r = g.M.Machine.rules in
    let old = c.args.self.now.pen in
    let next = own-next-of r old c.args.entry c.args.parts.items c.requires.touches c.args.seat.now.task
    c.requires.task in
    let front = c.front.ensures.front ∙ c.append-mine.ensures.appended in
    let v = ap (λ s. s.1) c.set.ensures.share in
    let w = c.value.ensures in
    let s = c.requires.seat in
    record {
      key = ap (λ s. s.0) c.set.ensures.share ∙ c.args.seat.now.key;
      counted = rw front (omega (arith, v, w, s, next));
    }

pub settle_all-requires-clause-due : goal.settle_all-requires-clause-due
settle_all-requires-clause-due g c =
    let lent = c.requires.lent in
    rw (c.front.ensures.same, c.append-mine.ensures.appended)
    (due g.M.Machine.rules c.args.self.now.pen c.args.entry c.args.parts.items c.requires.touches
    (behind c.args.held.items) (λ x. x.share) (λ x. x.front) c.requires.long lent.0 lent.1 lent.2 c.requires.after)

pub settle_all-requires-clause-knot : goal.settle_all-requires-clause-knot
settle_all-requires-clause-knot g c =
    let r = g.M.Machine.rules in
    let old = c.args.self.now.pen in
    let seat = c.args.seat.now in
    let w = c.value.ensures in
    let s = c.requires.seat in
    let v : c.value.result.now + 1 ≡ times r seat.share.0 old + 1 = rw seat.key (omega (arith, w, s)) in
    rw (c.set.ensures.knot, c.front.ensures.same, c.append-mine.ensures.appended)
    (owed_knot r old c.args.entry c.args.parts.items c.requires.touches c.args.self.now.knot seat.share.0
    (c.value.result.now + 1) (seat.key ∙ ap own_key (sym c.requires.task)) v c.args.self.now.tied)

pub settle_all-requires-clause-counts : goal.settle_all-requires-clause-counts
settle_all-requires-clause-counts g c =
    let now = c.args.self.now in
    rw (c.front.ensures.same, c.append-mine.ensures.appended)
    (owed_counts g.M.Machine.rules now.pen c.args.entry c.args.parts.items c.requires.touches now.counts now.counted)

pub invariant_of-self : goal.invariant_of-self
invariant_of-self g c =
    let r = g.M.Machine.rules in
    let now = c.args.self.now in
    let pen = c.settle_all.ensures.pen ∙ (c.front.ensures.same ∙ c.append-mine.ensures.appended) in
    let seat = c.args.seat.now in
    let key = seat.key in
    let own = had_set r now.free (now.pen ++ c.args.entry ∷ []) now.knot seat.share.0 (c.value.result.now + 1)
    (λ small. absurd (omega (arith, key, small))) (had_next r now.free now.pen c.args.entry now.knot now.had) in
    record {
      same = pen ∙ (ap (λ l. l ++ c.args.entry ∷ []) now.same ∙ sym c.push_reserved.ensures.items);
      history = rw pen (history-next r now.pen c.args.entry now.history c.requires.fits);
      tied = λ k x at. rw c.settle_all.ensures.pen (settled r c.front.new.pen (in_knot c.settle_all.new.knot)
          c.settle_all.ensures.knot k x at);
      counted = λ k small. rw c.settle_all.ensures.pen
          ((settled r c.front.new.pen (in_counts c.settle_all.new.counts) c.settle_all.ensures.counts k
          (count_in c.settle_all.new.counts k) (small, refl)));
      had = rw c.settle_all.ensures.pen (c.settle_all.ensures.had now.free (rw (
        c.set.ensures.knot,
        c.front.ensures.same,
        c.append-mine.ensures.appended,
      ) own));
    }
