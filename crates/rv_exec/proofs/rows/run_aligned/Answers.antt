use Rattle.std.proofs.Common.{refl, sym, ap, ◌∙◌, arith}
use Rattle.rv_exec.specs.Courses.{going}
use Rattle.rv_exec.specs.Execution.{exec}
use Rattle.rv_exec.proofs.Courses.{ends_behind, ran_add, ran_zero}
use Rattle.rv_exec.proofs.rows.run_aligned.Goals as goal

pub loop-jump-init : goal.loop-jump-init
loop-jump-init g c = record {
  has_run = ran_zero g.M.Mem.seen g.M.Mem.after (going (g.M.Mem.told c.args.mem.now) c.args.regs.now);
  few = omega arith;
  some = omega arith;
  words = c.requires.row;
  page = refl;
  near = refl;
  row = refl;
  aligned = c.requires.aligned;
}

pub returns-in_default : goal.returns-in_default
returns-in_default g c = record {
  ran =
      ran_add g.M.Mem.seen g.M.Mem.after c.loop-jump.count c.run_straight-run.result.count
      (going (g.M.Mem.told c.args.mem.now) c.args.regs.now) (going (g.M.Mem.told c.loop-jump.mem) c.loop-jump.regs)
      (going (g.M.Mem.told c.run_straight-run.new.mem) c.run_straight-run.new.regs)
      c.loop-jump.invariant.has_run c.run_straight-run.ensures.ran;
  few = omega (arith, c.loop-jump.invariant.few, c.run_straight-run.ensures.few);
  ended =
      ends_behind (exec (g.M.Mem.seen (g.M.Mem.told c.run_straight-run.new.mem)) c.run_straight-run.new.regs)
      c.loop-jump.count c.run_straight-run.result.count c.args.most c.run_straight-run.result.flow
      c.loop-jump.invariant.few c.run_straight-run.ensures.ended;
  whole = λ next here aligned. absurd (c.in_default.not-Next next);
  row =
      ap (g.M.Mem.instrs (g.M.Mem.told c.run_straight-run.new.mem))
      (sym (c.run_straight-run.ensures.page ∙ c.loop-jump.invariant.near))
      ∙ c.run_straight-run.ensures.row;
}

pub loop-jump-preserved : goal.loop-jump-preserved
loop-jump-preserved g c = record {
  has_run =
      ran_add g.M.Mem.seen g.M.Mem.after c.loop-jump.count c.run_straight-run.result.count
      (going (g.M.Mem.told c.args.mem.now) c.args.regs.now) (going (g.M.Mem.told c.loop-jump.mem) c.loop-jump.regs)
      (going (g.M.Mem.told c.run_straight-run.new.mem) c.run_straight-run.new.regs)
      c.loop-jump.invariant.has_run c.run_straight-run.ensures.ran;
  few = omega (arith, c.loop-jump.invariant.few, c.run_straight-run.ensures.few);
  some = omega (arith, c.loop-jump.invariant.some, c.run_straight-run.ensures.some c.in-Next.is);
  words =
      ap (g.M.Mem.instrs (g.M.Mem.told c.run_straight-run.new.mem))
      (sym (c.run_straight-run.ensures.page ∙ c.loop-jump.invariant.near))
      ∙ c.run_straight-run.ensures.row;
  page = refl;
  near = c.run_straight-run.ensures.page ∙ c.loop-jump.invariant.near;
  row = refl;
  aligned = c.run_straight-run.ensures.aligned;
}
