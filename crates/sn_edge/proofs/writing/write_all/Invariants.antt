use Rattle.std.proofs.Common.{length, ◌-◌, ◌≡◌, ◌≤◌, take, IsTrue}
use Rattle.sn_edge.specs.Taken.{with_taken}
use Rattle.sn_edge.proofs.writing.write_all.Given as goal

abbrev pub invariant-loop-done : goal.invariant-loop-done
invariant-loop-done g l = record {
  within : l.done ≤ length l.bytes;
  taken : g.K.Sink.told l.sink ≡ with_taken (g.K.Sink.told l.initial.sink) (take l.done l.bytes);
  still : g.K.Sink.count l.sink ≡ g.K.Sink.count l.initial.sink;
  unfailing : IsTrue (g.K.Sink.unfailing l.initial.sink) → IsTrue (g.K.Sink.unfailing l.sink);
}

abbrev pub decreases-loop-done : goal.decreases-loop-done
decreases-loop-done g l = length l.bytes - l.done
