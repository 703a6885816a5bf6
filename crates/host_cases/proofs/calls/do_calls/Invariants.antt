-- The node is whole, tells whatever it told, and is open where that is known.
use Rattle.std.proofs.Common.{◌≡◌, ◌≢◌, true, is_some}
use Rattle.host_node.specs.Told.{Closed}
use Rattle.host_cases.specs.Whole.{IsWhole}
use Rattle.host_cases.proofs.calls.do_calls.Given as goal

abbrev pub invariant-loop-call : goal.invariant-loop-call
invariant-loop-call g l = record {
  whole : IsWhole (g.N.HostNode.told l.node);
  told : is_some (g.N.HostNode.told l.node) ≡ is_some (g.N.HostNode.told l.fn.node);
  opened : l.is_open ≡ true → g.N.HostNode.opened l.node ≢ Closed;
}
