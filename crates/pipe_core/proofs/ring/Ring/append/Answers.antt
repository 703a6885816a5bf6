use Rattle.std.proofs.Common.{arith, ap, length, ◌++◌, ◌+◌, ◌≤◌, ◌≡◌, ◌∙◌}
use Rattle.std.proofs.lemmas.List.{with_items_is}
use Rattle.pipe_core.specs.Rings.{bytes_on_ring}
use Rattle.pipe_core.proofs.Rounds.{put_behind, length-bytes_from}
use Rattle.pipe_core.proofs.ring.Ring.append.Goals as goal

pub returns : goal.returns
returns c =
    let q = c.self.inside in
    let whole : length q.slots.items ≡ 65536 = c.self.invariant.0 in
    let fits : q.len + length c.args.bytes.now ≤ 65536 =
    omega (
      arith,
      c.requires,
      ap length c.self.view_is,
      length-bytes_from _ _ q.slots.items c.self.invariant.1 c.self.invariant.2 whole,
    ) in
    ap (bytes_on_ring q.start (q.len + length c.args.bytes.now))
    (with_items_is q.slots c.copy_in.new.slots (omega (arith, c.copy_in.ensures.len, c.self.invariant.0)))
    ∙ put_behind _ _ q.slots.items c.copy_in.new.slots c.args.bytes.now c.self.invariant.1 whole c.copy_in.ensures.len
    fits c.copy_in.ensures.put (rw c.deref_mut.ensures.value at c.copy_in.ensures.kept)
    ∙ ap (λ bytes. bytes ++ c.args.bytes.now) c.self.view_is
