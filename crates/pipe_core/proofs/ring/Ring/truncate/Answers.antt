use Rattle.std.proofs.Common.{◌≡◌, ◌∙◌, ℕ, List, ap, arith, min, sym, take}
use Rattle.std.proofs.lemmas.List.{take-take, take_min}
use Rattle.pipe_core.specs.Rings.{slots_from}
use Rattle.pipe_core.proofs.Rounds.{length-bytes_from}
use Rattle.pipe_core.proofs.ring.Ring.truncate.Goals as goal

pub returns : goal.returns
returns c =
    let q = c.self.inside in
    let all : List ℕ = slots_from q.start q.slots.items in
    let long = length-bytes_from q.start q.len q.slots.items c.self.invariant.1 c.self.invariant.2 c.self.invariant.0 in
    let fewer : c.min-self-inside.result ≡ min c.args.len q.len = omega (arith, c.min-self-inside.ensures) in
    ap (λ n. take n all) fewer
    ∙ sym (take-take (min c.args.len q.len) q.len all (omega arith))
    ∙ ap (λ n. take (min c.args.len n) (take q.len all)) (sym long)
    ∙ take_min c.args.len (take q.len all)
    ∙ ap (take c.args.len) c.self.view_is
