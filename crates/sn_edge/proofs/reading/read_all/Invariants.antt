use Rattle.std.proofs.Common.{◌≡◌, ◌≤◌, ◌+◌, ◌-◌, ℕ, length, IsTrue}
use Rattle.sn_edge.specs.Reading.{after_reads}
use Rattle.sn_edge.proofs.Readings.{IsFrontOfRest}
use Rattle.sn_edge.proofs.reading.read_all.Given as goal

abbrev pub invariant-loop-bytes : goal.invariant-loop-bytes
invariant-loop-bytes g l = record {
  within : length l.bytes ≤ l.limit + 1;
  front : IsFrontOfRest (g.S.Source.told l.initial.source) l.bytes;
  told : (reads : ℕ) × (reads ≤ length l.bytes)
      × (g.S.Source.told l.source ≡ after_reads (g.S.Source.told l.initial.source) (length l.bytes) reads);
  still : g.S.Source.count l.source ≡ g.S.Source.count l.initial.source;
  unfailing : IsTrue (g.S.Source.unfailing l.initial.source) → IsTrue (g.S.Source.unfailing l.source);
}

abbrev pub decreases-loop-bytes : goal.decreases-loop-bytes
decreases-loop-bytes g l = l.limit + 1 - length l.bytes
