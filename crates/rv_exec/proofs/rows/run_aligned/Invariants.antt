use Rattle.std.proofs.Common.{◌≡◌, ◌≤◌, ◌/◌, ◌%◌, Some}
use Rattle.rv_exec.specs.Courses.{going, after_instructions}
use Rattle.rv_exec.proofs.rows.run_aligned.Given as goal

-- so many instructions have run, at least one a jump and no more than there may be, and the page's words are as before
pub record IsRunning (g : goal.Over)
    (l : Rattle.rv_exec.proofs.rows.run_aligned.Lts.Given.Live-loop-jump g.row.M g.M.laws g.M.Mem-dict) : Type 0 where
  pub has_run : after_instructions g.M.Mem.seen g.M.Mem.after l.count (going (g.M.Mem.told l.fn.mem) l.fn.regs)
      ≡ Some (going (g.M.Mem.told l.mem) l.regs)
  pub few : l.count ≤ l.most
  pub some : l._jump ≤ l.count
  pub words : g.M.Mem.instrs (g.M.Mem.told l.mem) l.page ≡ Some l.row
  pub page : l.page ≡ l.fn.regs.pc / 4096
  pub near : l.near.page ≡ l.page
  pub row : l.row ≡ l.fn.row
  pub aligned : l.regs.pc % 4 ≡ 0

abbrev pub invariant-loop-jump : goal.invariant-loop-jump
invariant-loop-jump g l = IsRunning g l
