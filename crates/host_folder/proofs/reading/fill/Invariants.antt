-- How far the buffer is full, and what of the file that is.
use Rattle.std.proofs.Common.{◌≤◌, ◌-◌, length, take}
use Rattle.std.specs.Io.KnownBytes.{Consumes}
use Rattle.host_folder.proofs.reading.fill.Given as goal

abbrev pub invariant-loop-done : goal.invariant-loop-done
invariant-loop-done g l =
    (l.done ≤ length l.buf)
    × Consumes (g.F.Read.remaining l.initial.file) (g.F.Read.remaining l.file) (take l.done l.buf)

abbrev pub decreases-loop-done : goal.decreases-loop-done
decreases-loop-done g l = length l.initial.buf - l.done
