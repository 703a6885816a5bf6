use Rattle.std.proofs.Common.{ℕ, ◌-◌, ◌/◌, ◌%◌, refl, ap, ◌∙◌, arith}
use Rattle.rv_exec.specs.Courses.{going, after_instructions}
use Rattle.rv_exec.specs.declared.outcome.Step.TheVariants as outcomes
use Rattle.rv_exec.proofs.Courses.{ran_still}
use Rattle.rv_exec.proofs.InRows.{one_more_ran, one_more_jumped}
use Rattle.rv_exec.proofs.rows.run_straight.Goals as goal

pub loop-index-init : goal.loop-index-init
loop-index-init g c = record {
  has_run =
      ran_still g.M.Mem.seen g.M.Mem.after (c.args.regs.now.pc % 4096 / 4 - c.args.regs.now.pc % 4096 / 4)
      c.args.regs.now (g.M.Mem.told c.args.mem.now) (g.M.Mem.told c.args.mem.now) (omega arith) refl;
  words = c.requires.row;
  near = refl;
  row = refl;
  begun = omega arith;
  within = omega (arith, c.min.ensures);
  place = λ within. omega (arith, c.requires.page, c.requires.aligned);
  aligned = c.requires.aligned;
}

pub returns-in-Jump-clause-ran : goal.returns-in-Jump-clause-ran
returns-in-Jump-clause-ran g c =
    ap (λ (n : ℕ). after_instructions g.M.Mem.seen g.M.Mem.after n
    (going (g.M.Mem.told c.args.mem.now) c.args.regs.now))
    c.left.ensures.count
    ∙ one_more_jumped g.M.Mem.seen g.M.Mem.after outcomes.Next
    (c.loop-index.index - c.args.regs.now.pc % 4096 / 4)
    (going (g.M.Mem.told c.args.mem.now) c.args.regs.now)
    c.loop-index.regs c.run_one.new.regs (g.M.Mem.told c.loop-index.mem)
    (g.M.Mem.told c.run_one.new.mem) c.run_one.result
    c.loop-index.invariant.has_run c.run_one.ensures.done c.in-Jump.is

pub loop-index-preserved : goal.loop-index-preserved
loop-index-preserved g c = record {
  has_run =
      ap (λ (n : ℕ). after_instructions g.M.Mem.seen g.M.Mem.after n
      (going (g.M.Mem.told c.args.mem.now) c.args.regs.now))
      (omega (arith, c.loop-index.invariant.begun))
      ∙ one_more_ran g.M.Mem.seen g.M.Mem.after outcomes.Next
      (c.loop-index.index - c.args.regs.now.pc % 4096 / 4)
      (going (g.M.Mem.told c.args.mem.now) c.args.regs.now)
      c.loop-index.regs c.run_one.new.regs (g.M.Mem.told c.loop-index.mem)
      (g.M.Mem.told c.run_one.new.mem) c.run_one.result
      c.loop-index.invariant.has_run c.run_one.ensures.done c.in-Next.is;
  words = c.run_one.ensures.row;
  near = c.run_one.ensures.page ∙ c.loop-index.invariant.near;
  row = refl;
  begun = omega (arith, c.loop-index.invariant.begun);
  within = c.loop-index.invariant.within;
  place = λ within.
      omega (
        arith,
        within,
        c.loop-index.invariant.place (omega (arith, within)),
        c.run_one.ensures.straight c.in-Next.is,
        c.run_one.ensures.page,
        c.loop-index.invariant.near,
        c.requires.page,
      );
  aligned = c.run_one.ensures.aligned;
}
