-- The host tells nothing, and nothing is lent of the one in memory.
use Rattle.std.proofs.Common.{◌≡◌, true, None}
use Rattle.host_node.specs.Tree.{none_lent}
use Rattle.run_replay.proofs.runs.granted.Given as goal

abbrev pub invariant-loop-index : goal.invariant-loop-index
invariant-loop-index g l = record {
  silent : g.W.HostWorld.told l.host ≡ None;
  free : none_lent l.world.tree ≡ true;
}
