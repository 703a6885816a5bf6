use Rattle.std.proofs.Common.{ℕ, ap, ◌∙◌}
use Rattle.std.specs.Prelude.{slice_index_or}
use Rattle.rv_exec.specs.declared.outcome.Step.TheVariants as outcomes
use Rattle.rv_exec.proofs.InRows.{flows_there}
use Rattle.rv_exec.proofs.rows.run_one.Goals as goal

pub returns-clause-done : goal.returns-clause-done
returns-clause-done g c =
    flows_there g.M.Mem.after outcomes.Next (g.M.Mem.seen (g.M.Mem.told c.args.mem.now)) c.args.regs.now
    c.execute.new.regs c.args.near.now.page c.args.row.now c.index-row-index.result (g.M.Mem.told c.args.mem.now)
    (g.M.Mem.told c.execute.new.mem) c.execute.result
    (g.met.M.Mem.decoded (g.M.Mem.told c.args.mem.now) c.args.near.now.page c.args.row.now c.requires.row)
    c.requires.page c.requires.aligned
    (c.index-row-index.is ∙ ap (λ (k : ℕ). slice_index_or c.args.row.now k c.index-row-index.result) c.requires.index)
    c.execute.ensures.done
