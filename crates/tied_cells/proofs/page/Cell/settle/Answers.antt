use Rattle.std.proofs.Common.{◌≡◌, ◌+◌, ◌<◌, refl, sym, subst, ◌∙◌, arith}
use Rattle.tied_cells.proofs.Had.{had_set}
use Rattle.tied_cells.proofs.Rooms.{owing_counts, owing_kept}
use Rattle.tied_cells.specs.Machines.{times}
use Rattle.tied_cells.specs.Counts.{in_counts}
use Rattle.tied_cells.specs.Rounds.{Owing, AreHad}
use Rattle.tied_cells.proofs.page.Cell.settle.Goals.{then-changed, else-changed}
use Rattle.tied_cells.proofs.page.Cell.settle.Goals as goal

pub returns-clause-counts : goal.returns-clause-counts
returns-clause-counts g c = elim c.if-changed.branch [
  | then-changed w ↦ λ rest owing.
      let r = g.M.Machine.rules in
      let pen = c.args.pen.now in
      let part = c.args.part in
      let due = c.requires.due in
      let v = w.value.ensures in
      let n = due.next w.if-changed.true in
      let version : w.value.result.now + 1 ≡ times r part.key pen = rw (due.key) (omega (arith, v, n)) in
      subst (λ m. Owing r pen (in_counts m) rest) (sym (w.counts-is ∙ w.replace.ensures))
      (owing_counts r pen c.args.counts.now part.key (w.value.result.now + 1) part rest refl version owing)
  | else-changed w ↦ λ rest owing.
      rw w.counts-is (owing_kept g.M.Machine.rules c.args.pen.now (in_counts c.args.counts.now) c.args.part rest
      w.if-changed.false owing)
]

pub returns-clause-had : goal.returns-clause-had
returns-clause-had g c = elim c.if-changed.branch [
  | then-changed w ↦ λ free had.
      let r = g.M.Machine.rules in
      let pen = c.args.pen.now in
      let n = c.requires.due.next w.if-changed.true in
      let touched : 0 < times r c.args.self.now.share.0 pen = omega (arith, n) in
      subst (λ k. AreHad r free pen k) (sym (w.knot-is ∙ w.set.ensures.knot))
      (had_set r free pen c.args.knot.now c.args.self.now.share.0 (w.value.result.now + 1) (λ small. touched) had)
  | else-changed w ↦ λ free had.
      subst (λ k. AreHad g.M.Machine.rules free c.args.pen.now k) (sym w.knot-is) had
]
