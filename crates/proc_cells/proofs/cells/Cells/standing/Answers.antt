-- A live task stands in its group, with its memory and its registers.
use Rattle.std.proofs.Common.{◌≡◌, ap, sym, ◌∙◌}
use Rattle.std.specs.Prelude.{Option, Some}
use Rattle.std.specs.Option.{option_map_or}
use Rattle.std.specs.FinMap as map
use Rattle.task_table.specs.declared.task.Group.{Group}
use Rattle.sn_base.specs.declared.made.Made.{Made}
use Rattle.task_table.specs.declared.task.Task.{Task}
use Rattle.task_table.specs.Table.{group_of}
use Rattle.kernel_model.specs.Names.{get_named}
use Rattle.kernel_model.specs.declared.caller.Caller.{Caller}
use Rattle.proc_cells.proofs.Found.{found_by, member_of}
use Rattle.proc_cells.proofs.Homes.{at_home}
use Rattle.proc_cells.proofs.cells.Cells.standing.Goals as goal

pub returns-clause-stands : goal.returns-clause-stands
returns-clause-stands c =
    let p = c.args.self.now in
    let task = c.args.task in
    let home = at_home p.tasks p.registers p.spaces task p.at_home c.requires in
    let number : group_of p.tasks.tasks task ≡ c.in-Some.one.now.group =
    ap (λ (o : Option Task). option_map_or (λ (t : Task). t.group) o 0) (sym c.in-Some.ensures.value) in
    let group : map.get p.tasks.groups (group_of p.tasks.tasks task) ≡ Some c.in-Some-group.group.now =
    ap (map.get p.tasks.groups) number ∙ sym c.in-Some-group.ensures.value in
    let same : Some home.1.group ≡ Some c.in-Some-group.group.now = sym home.1.grouped ∙ group in
    let same_group : home.1.group ≡ c.in-Some-group.group.now = cc same in
    let memory : home.0.memory ≡ c.in-Some-group.group.now.memory =
    ap (λ (x : Caller). x.memory) home.1.is ∙ ap (λ (g : Group). g.memory) same_group in
    let in_memory : get_named p.spaces c.in-Some-group.group.now.memory.place c.in-Some-group.group.now.memory.index
    ≡ Some home.0.space = ap (λ (m : Made). get_named p.spaces m.place m.index) (sym memory) ∙ home.1.remembered in
    let registered : map.get p.registers task ≡ Some c.in-Some-get.registers.now =
    ap (map.get p.registers) (sym c.from.ensures) ∙ sym c.in-Some-get.ensures in
    record {
      space = home.0.space;
      in_memory = in_memory;
      found =
          found_by p.tasks p.registers p.spaces task c.in-Some-group.group.now c.in-Some-get.registers.now home.0.space
          c.requires group registered in_memory
          ∙ ap (λ n. Some (member_of task n c.in-Some-group.group.now c.in-Some-get.registers.now home.0.space)) number;
    }
