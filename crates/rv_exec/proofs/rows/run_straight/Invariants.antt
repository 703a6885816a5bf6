use Rattle.std.proofs.Common.{◌≡◌, ◌+◌, ◌-◌, ◌*◌, ◌≤◌, ◌<◌, ◌%◌, Some}
use Rattle.rv_exec.specs.Courses.{going, after_instructions}
use Rattle.rv_exec.proofs.rows.run_straight.Given as goal

-- the instructions up to the index have run, the page's words are as before, and the task stands at the index
pub record IsRunning (g : goal.Over)
    (l : Rattle.rv_exec.proofs.rows.run_straight.Lts.Given.Live-loop-index g.row.M g.M.laws g.M.Mem-dict) : Type 0 where
  pub has_run : after_instructions g.M.Mem.seen g.M.Mem.after (l.index - l.first)
      (going (g.M.Mem.told l.fn.mem) l.fn.regs)
      ≡ Some (going (g.M.Mem.told l.mem) l.regs)
  pub words : g.M.Mem.instrs (g.M.Mem.told l.mem) l.near.page ≡ Some l.row
  pub near : l.near.page ≡ l.fn.near.page
  pub row : l.row ≡ l.fn.row
  pub begun : l.first ≤ l.index
  pub within : l.end ≤ 1024
  pub place : l.index < 1024 → l.regs.pc ≡ 4096 * l.near.page + 4 * l.index
  pub aligned : l.regs.pc % 4 ≡ 0

abbrev pub invariant-loop-index : goal.invariant-loop-index
invariant-loop-index g l = IsRunning g l
