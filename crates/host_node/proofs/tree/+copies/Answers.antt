use Rattle.std.proofs.Common.{arith}
use Rattle.host_node.proofs.Weights.{weight_item}
use Rattle.host_node.proofs.tree.+copies.Goals as goal

pub copies::copy_entries-copy-requires-in-loop-entry : goal.copies::copy_entries-copy-requires-in-loop-entry
copies::copy_entries-copy-requires-in-loop-entry t c =
    let within =
    weight_item c.args.entries.now c.loop-entry.entry-index c.entry-item.result
    c.loop-entry-test.true c.entry-item.is in
    (omega arith, tt)
