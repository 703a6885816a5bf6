-- No task is listed with that any more, and each with all else as it was.
use Rattle.std.proofs.Common.{ap, ◌∙◌}
use Rattle.std.specs.Prelude.{is_some}
use Rattle.std.specs.FinMap as map
use Rattle.sn_base.proofs.Maps.{get_of_empty}
use Rattle.parked_tasks.specs.declared.used.Used.TheVariants.{Memory, Table, Description, Pipe, Areas}
use Rattle.parked_tasks.proofs.Indexes.{forgets_areas, forgets_as, forgets_description, forgets_memory, forgets_pipe}
use Rattle.parked_tasks.proofs.Indexes.{forgets_table, gone_as, lost}
use Rattle.parked_tasks.proofs.index.Index.forget.Goals as goal

pub returns-in-Memory-clause-gone : goal.returns-in-Memory-clause-gone
returns-in-Memory-clause-gone c =
    let i = c.args.self.now in
    gone_as _ c.args.used (Memory c.in-Memory.name) c.in-Memory.is
    (lost i c.in-Memory.name c.forget.new.self i.by_memory c.forget.ensures)

pub returns-in-Memory-clause-others : goal.returns-in-Memory-clause-others
returns-in-Memory-clause-others c =
    let i = c.args.self.now in
    forgets_as i _ c.args.used (Memory c.in-Memory.name) c.in-Memory.is
    (forgets_memory i c.in-Memory.name c.forget.new.self c.forget.ensures)

pub returns-in-Table-clause-gone : goal.returns-in-Table-clause-gone
returns-in-Table-clause-gone c =
    let i = c.args.self.now in
    gone_as _ c.args.used (Table c.in-Table.name) c.in-Table.is
    (lost i c.in-Table.name c.forget-in-Table.new.self i.by_table c.forget-in-Table.ensures)

pub returns-in-Table-clause-others : goal.returns-in-Table-clause-others
returns-in-Table-clause-others c =
    let i = c.args.self.now in
    forgets_as i _ c.args.used (Table c.in-Table.name) c.in-Table.is
    (forgets_table i c.in-Table.name c.forget-in-Table.new.self c.forget-in-Table.ensures)

pub returns-in-Description-clause-gone : goal.returns-in-Description-clause-gone
returns-in-Description-clause-gone c =
    let i = c.args.self.now in
    gone_as _ c.args.used (Description c.in-Description.name) c.in-Description.is
    (lost i c.in-Description.name c.forget-in-Description.new.self i.by_description c.forget-in-Description.ensures)

pub returns-in-Description-clause-others : goal.returns-in-Description-clause-others
returns-in-Description-clause-others c =
    let i = c.args.self.now in
    forgets_as i _ c.args.used (Description c.in-Description.name) c.in-Description.is
    (forgets_description i c.in-Description.name c.forget-in-Description.new.self c.forget-in-Description.ensures)

pub returns-in-Pipe-clause-gone : goal.returns-in-Pipe-clause-gone
returns-in-Pipe-clause-gone c =
    let i = c.args.self.now in
    gone_as _ c.args.used (Pipe c.in-Pipe.name) c.in-Pipe.is
    (lost i c.in-Pipe.name c.forget-in-Pipe.new.self i.by_pipe c.forget-in-Pipe.ensures)

pub returns-in-Pipe-clause-others : goal.returns-in-Pipe-clause-others
returns-in-Pipe-clause-others c =
    let i = c.args.self.now in
    forgets_as i _ c.args.used (Pipe c.in-Pipe.name) c.in-Pipe.is
    (forgets_pipe i c.in-Pipe.name c.forget-in-Pipe.new.self c.forget-in-Pipe.ensures)

pub returns-in-Areas-clause-gone : goal.returns-in-Areas-clause-gone
returns-in-Areas-clause-gone c =
    gone_as _ c.args.used Areas c.in-Areas.is (λ task.
    ap (λ m. map.contains_key m task) c.new.ensures ∙ ap is_some (get_of_empty task))

pub returns-in-Areas-clause-others : goal.returns-in-Areas-clause-others
returns-in-Areas-clause-others c =
    forgets_as c.args.self.now _ c.args.used Areas c.in-Areas.is (forgets_areas c.args.self.now c.new.result)
