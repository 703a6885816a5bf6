use Rattle.std.proofs.Common.{◌≡◌, ◌∷◌, [], ap, length, length-append, arith}
use Rattle.tied_cells.proofs.Ends.{commits}
use Rattle.tied_cells.proofs.log.Log.append.Goals as goal

pub returns-in-Some-clause-done : goal.returns-in-Some-clause-done
returns-in-Some-clause-done g c =
    let r = g.M.Machine.rules in
    let seat = c.args.seat.now in
    let pen = c.args.self.now.pen in
    let same = c.ready.ensures.same in
    let d = rw (same, c.from_vec.ensures.items) at c.in-Some.ensures.done in
    let n = ap (λ x. length x) d.7 in
    let m = length-append pen (d.0 ∷ []) in
    let p = d.5 in
    let place : c.in-Some.place ≡ length c.apply.new.seat.front = omega (arith, n, m, p) in (
      d.0,
      d.1,
      d.2,
      d.3,
      d.4,
      place,
      place,
      rw d.7 (commits r seat.task seat.share.1 seat.front pen d.0 c.requires.ready d.8 d.9 d.6),
    )

pub apply-requires-clause-enters : goal.apply-requires-clause-enters
apply-requires-clause-enters g c = λ e h k told post.
    rw (c.ready.ensures.same, c.from_vec.ensures.items)
    (c.requires.enters e h k (rw c.from_vec.ensures.items at told) (rw c.ready.ensures.same at post))
