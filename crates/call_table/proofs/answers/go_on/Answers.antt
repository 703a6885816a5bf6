-- A task that goes on stays at home.
use Rattle.proc_cells.proofs.Homes.{home_replied}
use Rattle.call_table.proofs.answers.go_on.Goals as goal

pub invariant_of-cells : goal.invariant_of-cells
invariant_of-cells c = record {
  at_home =
      home_replied c.args.cells.now.tasks c.args.cells.now.registers _ c.args.cells.now.spaces c.args.task
      c.reply.new.registers c.args.cells.now.at_home
      c.put_registers.ensures;
}
