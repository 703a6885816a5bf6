use Rattle.std.proofs.Common.{refl}
use Rattle.rv_exec.proofs.Courses.{ran_still}
use Rattle.rv_exec.proofs.rows.run_row.Goals as goal

pub returns-then-regs-ne0-clause-ran : goal.returns-then-regs-ne0-clause-ran
returns-then-regs-ne0-clause-ran g c =
    ran_still g.M.Mem.seen g.M.Mem.after c.left-then-regs-ne0.result.count c.args.regs.now (g.M.Mem.told c.args.mem.now)
    (g.M.Mem.told c.args.mem.now)
    c.left-then-regs-ne0.ensures.count refl
