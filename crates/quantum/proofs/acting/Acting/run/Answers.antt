use Rattle.std.proofs.Common.{◌+◌, ◌-◌, arith, refl, sym, subst}
use Rattle.rv_exec.specs.Courses.{going}
use Rattle.rv_exec.proofs.Courses.{ran_zero}
use Rattle.quantum.specs.Acting.{acting_after_write, memory_of}
use Rattle.quantum.specs.Ends.{LacksMemory, Ran}
use Rattle.quantum.specs.Turns.{TurnsTo, acting_of}
use Rattle.quantum.proofs.SameTask.{ran_same}
use Rattle.quantum.proofs.Turned.{ran_stopped, lacks_stopped, ran_then, ran_on}
use Rattle.quantum.proofs.acting.Acting.run.Goals as goal

pub loop-turn-init : goal.loop-turn-init
loop-turn-init c = (
  ran_zero memory_of acting_after_write (going (acting_of c.args.self.now) c.args.regs.now),
  omega arith,
  omega arith,
)

pub returns-then-count-most-clause-ran : goal.returns-then-count-most-clause-ran
returns-then-count-most-clause-ran c = c.loop-turn.invariant.0

pub returns-then-count-most-clause-task : goal.returns-then-count-most-clause-task
returns-then-count-most-clause-task c =
    ran_same c.loop-turn.count (going (acting_of c.args.self.now) c.args.regs.now)
    (going (acting_of c.loop-turn.self) c.loop-turn.regs) c.loop-turn.invariant.0

pub turn-turn-requires : goal.turn-turn-requires
turn-turn-requires c = omega (arith, c.if-count-most.false)

pub returns-in-Some-clause-ran : goal.returns-in-Some-clause-ran
returns-in-Some-clause-ran c =
    subst (Ran (going (acting_of c.args.self.now) c.args.regs.now)
    (going (acting_of c.turn-turn.new.self) c.turn-turn.new.regs)) (sym c.end_of.ensures)
    (ran_stopped c.in-Some.stop c.loop-turn.count c.turn-turn.result.count
    (c.loop-turn.count + c.turn-turn.result.count)
    (going (acting_of c.args.self.now) c.args.regs.now) (going (acting_of c.loop-turn.self) c.loop-turn.regs)
    (going (acting_of c.turn-turn.new.self) c.turn-turn.new.regs) refl c.loop-turn.invariant.0 c.turn-turn.ensures.ran)

pub returns-in-Some-clause-memory : goal.returns-in-Some-clause-memory
returns-in-Some-clause-memory c =
    subst (LacksMemory (going (acting_of c.args.self.now) c.args.regs.now)
    (going (acting_of c.turn-turn.new.self) c.turn-turn.new.regs) c.args.most)
    (sym c.end_of.ensures)
    (lacks_stopped c.in-Some.stop c.loop-turn.count c.turn-turn.result.count
    (c.loop-turn.count + c.turn-turn.result.count) c.args.most
    (c.args.most - c.loop-turn.count)
    (going (acting_of c.args.self.now) c.args.regs.now) (going (acting_of c.loop-turn.self) c.loop-turn.regs)
    (going (acting_of c.turn-turn.new.self) c.turn-turn.new.regs) refl (omega (arith, c.loop-turn.invariant.1))
    c.loop-turn.invariant.0 c.turn-turn.ensures.ran
    (subst (TurnsTo (going (acting_of c.turn-turn.new.self) c.turn-turn.new.regs) c.turn-turn.result.count
    (c.args.most - c.loop-turn.count)) c.in-Some.is
    c.turn-turn.ensures.turned))

pub returns-in-Some-clause-task : goal.returns-in-Some-clause-task
returns-in-Some-clause-task c =
    ran_same (c.loop-turn.count + c.turn-turn.result.count) (going (acting_of c.args.self.now) c.args.regs.now)
    (going (acting_of c.turn-turn.new.self) c.turn-turn.new.regs)
    (ran_then c.loop-turn.count c.turn-turn.result.count (c.loop-turn.count + c.turn-turn.result.count)
    (going (acting_of c.args.self.now) c.args.regs.now) (going (acting_of c.loop-turn.self) c.loop-turn.regs)
    (going (acting_of c.turn-turn.new.self) c.turn-turn.new.regs) refl c.loop-turn.invariant.0 c.turn-turn.ensures.ran)

pub loop-turn-preserved : goal.loop-turn-preserved
loop-turn-preserved c =
    let turned =
    ran_on (going (acting_of c.turn-turn.new.self) c.turn-turn.new.regs) c.turn-turn.result.count
    (c.args.most - c.loop-turn.count)
    c.turn-turn.result.stop c.turn-turn.ensures.turned c.in_default.is in (
      ran_then c.loop-turn.count c.turn-turn.result.count (c.loop-turn.count + c.turn-turn.result.count)
          (going (acting_of c.args.self.now) c.args.regs.now) (going (acting_of c.loop-turn.self) c.loop-turn.regs)
          (going (acting_of c.turn-turn.new.self) c.turn-turn.new.regs) refl c.loop-turn.invariant.0
          c.turn-turn.ensures.ran,
      omega (arith, turned.1, c.loop-turn.invariant.1),
      omega (arith, turned.0, c.loop-turn.invariant.2),
    )

pub returns-clause-ran : goal.returns-clause-ran
returns-clause-ran c = c.loop-turn.invariant.0

pub returns-clause-few : goal.returns-clause-few
returns-clause-few c = omega (arith, c.loop-turn.invariant.1, c.loop-turn.invariant.2, c.loop-turn-test.false)

pub returns-clause-task : goal.returns-clause-task
returns-clause-task c =
    ran_same c.loop-turn.count (going (acting_of c.args.self.now) c.args.regs.now)
    (going (acting_of c.loop-turn.self) c.loop-turn.regs) c.loop-turn.invariant.0
