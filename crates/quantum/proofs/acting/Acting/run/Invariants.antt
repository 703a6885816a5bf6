use Rattle.std.proofs.Common.{◌≡◌, ◌≤◌, Some}
use Rattle.rv_exec.specs.Courses.{going}
use Rattle.quantum.specs.Instructions.{ran}
use Rattle.quantum.specs.Turns.{acting_of}
use Rattle.quantum.proofs.acting.Acting.run.Given as goal

-- so many instructions have run, at least one a turn, and no more than there may be
abbrev pub invariant-loop-turn : goal.invariant-loop-turn
invariant-loop-turn l =
    (ran l.count (going (acting_of l.fn.self) l.fn.regs) ≡ Some (going (acting_of l.self) l.regs))
    × (l.count ≤ l.most) × (l._turn ≤ l.count)
