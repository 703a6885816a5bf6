use Rattle.std.proofs.Common.{◌-◌, arith}
use Rattle.rv_exec.specs.Courses.{going}
use Rattle.quantum.specs.Turns.{acting_of}
use Rattle.quantum.proofs.Turned.{ran_then}
use Rattle.quantum.proofs.acting.Acting.turn.Goals as goal

pub returns-then-count-eq0-clause-ran : goal.returns-then-count-eq0-clause-ran
returns-then-count-eq0-clause-ran c =
    ran_then c.run_near-run.result.count (c.step_after.result.count - 0) c.step_after.result.count
    (going (acting_of c.args.self.now) c.args.regs.now)
    (going (acting_of c.run_near-run.new.self) c.run_near-run.new.regs)
    (going (acting_of c.step_after.new.self) c.step_after.new.regs)
    (omega (arith, c.if-count-eq0.true)) c.run_near-run.ensures.ran c.step_after.ensures.ran

pub returns-in-Refused-clause-ran : goal.returns-in-Refused-clause-ran
returns-in-Refused-clause-ran c =
    ran_then c.run_near-run.result.count (c.step_after-in-Refused.result.count - c.run_near-run.result.count)
    c.step_after-in-Refused.result.count
    (going (acting_of c.args.self.now) c.args.regs.now)
    (going (acting_of c.run_near-run.new.self) c.run_near-run.new.regs)
    (going (acting_of c.step_after-in-Refused.new.self) c.step_after-in-Refused.new.regs)
    (omega (arith, c.step_after-in-Refused.ensures.behind)) c.run_near-run.ensures.ran
    c.step_after-in-Refused.ensures.ran
