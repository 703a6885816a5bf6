use Rattle.std.proofs.Common.{arith, ap, drop, length, ◌≤◌, ◌∙◌}
use Rattle.pipe_core.proofs.Rounds.{rest_from, length-bytes_from}
use Rattle.pipe_core.proofs.ring.Ring.skip.Goals as goal

pub returns : goal.returns
returns c =
    let within : c.args.count ≤ c.self.inside.len =
    omega (
      arith,
      c.requires,
      ap length c.self.view_is,
      length-bytes_from _ _ c.self.inside.slots.items c.self.invariant.1 c.self.invariant.2 c.self.invariant.0,
    ) in
    rest_from _ _ _ _ c.self.invariant.1 c.self.invariant.2 c.self.invariant.0 within
    ∙ ap (drop c.args.count) c.self.view_is
