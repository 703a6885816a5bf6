use Rattle.std.proofs.Common.{◌≡◌, ◌<◌, ◌≤◌, ◌+◌, ◌%◌, ◌^◌, ℕ, get_or}
use Rattle.rv_table.specs.Bytes.{Holds}
use Rattle.std.specs.Prelude.{nat_eq}
use Rattle.rv_exec.specs.Writes.{stored_byte}
use Rattle.machine_cases.proofs.bytes.put.Given as goal

abbrev pub invariant-loop-place : goal.invariant-loop-place
invariant-loop-place l = record {
  stored : (k : ℕ) → k < l.place
      → Holds (get_or l.bytes k 0) ≡ stored_byte nat_eq l.at l.width l.value ((l.from + k) % 2 ^ 64)
      (Holds (get_or l.initial.bytes k 0));
  others : (k : ℕ) → l.place ≤ k → get_or l.bytes k 0 ≡ get_or l.initial.bytes k 0;
}
