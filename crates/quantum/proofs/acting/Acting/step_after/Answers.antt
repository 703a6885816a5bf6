use Rattle.std.proofs.Common.{◌+◌, ◌-◌, refl, arith}
use Rattle.quantum.specs.Turns.{acting_of}
use Rattle.quantum.proofs.Turned.{halted, next_apart, stepped}
use Rattle.quantum.proofs.acting.Acting.step_after.Goals as goal

pub returns-in-Next-clause-ran : goal.returns-in-Next-clause-ran
returns-in-Next-clause-ran c =
    stepped (c.args.count + 1 - c.args.count) (acting_of c.args.self.now) (acting_of c.step.new.mem) c.args.regs.now
    c.step.new.regs c.step.result
    (omega arith) c.in-Next.is c.step.ensures.done

pub returns-in-Call-clause-ran : goal.returns-in-Call-clause-ran
returns-in-Call-clause-ran c =
    halted (c.args.count - c.args.count) (acting_of c.args.self.now) (acting_of c.step.new.mem) c.args.regs.now
    c.step.new.regs c.step.result
    (omega arith) c.step.ensures.done (next_apart c.in-Call.is refl)

pub returns-in-Trap-clause-ran : goal.returns-in-Trap-clause-ran
returns-in-Trap-clause-ran c =
    halted (c.args.count - c.args.count) (acting_of c.args.self.now) (acting_of c.step.new.mem) c.args.regs.now
    c.step.new.regs c.step.result
    (omega arith) c.step.ensures.done (next_apart c.in-Trap.is refl)

pub returns-in-Shared-clause-ran : goal.returns-in-Shared-clause-ran
returns-in-Shared-clause-ran c =
    halted (c.args.count - c.args.count) (acting_of c.args.self.now) (acting_of c.step.new.mem) c.args.regs.now
    c.step.new.regs c.step.result
    (omega arith) c.step.ensures.done (next_apart c.in-Shared.is refl)

pub returns-in-Memory-clause-ran : goal.returns-in-Memory-clause-ran
returns-in-Memory-clause-ran c =
    halted (c.args.count - c.args.count) (acting_of c.args.self.now) (acting_of c.step.new.mem) c.args.regs.now
    c.step.new.regs c.step.result
    (omega arith) c.step.ensures.done (next_apart c.in-Memory.is refl)
