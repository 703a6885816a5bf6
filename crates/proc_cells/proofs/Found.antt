-- A live task, by the parts of it: the task list, its registers and its group's memory.
use Rattle.std.proofs.Common.{◌≡◌, ℕ, Bool, true, false, cond, refl, ap, sym, ◌∙◌}
use Rattle.std.specs.Prelude.{Option, Some, None}
use Rattle.std.specs.Ordering.{nat_cmp}
use Rattle.std.specs.FinMap as map
use Rattle.rv_table.specs.declared.registers.Regs.{Regs}
use Rattle.mm_space.specs.Spaces.{AddressSpace}
use Rattle.task_table.specs.declared.task.Group.{Group}
use Rattle.task_table.specs.Table.{TaskTable, is_live, group_of}
use Rattle.kernel_model.specs.Names.{NamedMap, get_named}
use Rattle.kernel_model.specs.declared.caller.Caller.{Caller}
use Rattle.kernel_model.specs.calls.Callers.{in_memory, caller_with_memory, in_group}
use Rattle.kernel_model.specs.entries.Parts.{Parts, parts, done, outcome_in}
use Rattle.proc_cells.specs.Beside.{nothing_beside, nothing_held, kernel_with, found_in}

-- a task of a group, with these registers and this memory
abbrev pub member_of : (task group : ℕ) → Group → Regs → AddressSpace → Caller
member_of task group g registers space = record {
  task = task;
  group = group;
  memory = g.memory;
  table = g.table;
  registers = registers;
  space = space;
}

module _ (list : TaskTable) (registers : map.FinMap nat_cmp Regs) (spaces : NamedMap AddressSpace) (task : ℕ) where
  number : ℕ
  number = group_of list.tasks task

  s : Parts
  s =
      parts (kernel_with (record nothing_held { tasks = list; registers = registers; spaces = spaces }) nothing_beside
      0)

  -- the parts of a live task
  pub record Parted (c : Caller) : Type 0 where
    pub live : is_live list.tasks task ≡ true
    pub group : Group
    pub grouped : map.get list.groups (group_of list.tasks task) ≡ Some group
    pub registered : map.get registers task ≡ Some c.registers
    pub remembered : get_named spaces c.memory.place c.memory.index ≡ Some c.space
    pub is : c ≡ member_of task (group_of list.tasks task) group c.registers c.space

  -- where all of them are there, the task is found
  pub found_by : (group : Group) (r : Regs) (space : AddressSpace) → is_live list.tasks task ≡ true
      → map.get list.groups (group_of list.tasks task) ≡ Some group → map.get registers task ≡ Some r
      → get_named spaces group.memory.place group.memory.index ≡ Some space
      → found_in list registers spaces task ≡ Some (member_of task (group_of list.tasks task) group r space)
  unfolding number s
  found_by group r space live grouped registered remembered =
      ap (λ b. outcome_in s (cond b (in_group task number (map.get list.groups number)) (done None))) live
      ∙ ap (λ o. outcome_in s (in_group task number o)) grouped
      ∙ ap (λ o. outcome_in s (caller_with_memory task number group o)) registered
      ∙ ap (in_memory task number group r) remembered

  -- and where it is found, they are there
  pub parted : (c : Caller) → found_in list registers spaces task ≡ Some c → Parted c
  unfolding number s
  parted c found = by_life (is_live list.tasks task) refl found
    where
      by_space : (group : Group) (r : Regs) → is_live list.tasks task ≡ true
          → map.get list.groups number ≡ Some group → map.get registers task ≡ Some r
          → (o : Option AddressSpace) → get_named spaces group.memory.place group.memory.index ≡ o
          → in_memory task number group r o ≡ Some c → Parted c
      by_space group r live grouped registered None e found = absurd (cc found)
      by_space group r live grouped registered (Some space) e found =
          let is : c ≡ member_of task number group r space = cc found in
          record {
            live = live;
            group = group;
            grouped = grouped;
            registered = registered ∙ ap (λ (x : Caller). Some x.registers) (sym is);
            remembered =
                ap (λ (x : Caller). get_named spaces x.memory.place x.memory.index) is ∙ e
                ∙ ap (λ (x : Caller). Some x.space) (sym is);
            is =
                is
                ∙ ap (λ x. member_of task number group x space) (ap (λ (x : Caller). x.registers) (sym is))
                ∙ ap (λ x. member_of task number group c.registers x) (ap (λ (x : Caller). x.space) (sym is));
          }

      by_registers : (group : Group) → is_live list.tasks task ≡ true → map.get list.groups number ≡ Some group
          → (o : Option Regs) → map.get registers task ≡ o
          → outcome_in s (caller_with_memory task number group o) ≡ Some c → Parted c
      by_registers group live grouped None e found = absurd (cc found)
      by_registers group live grouped (Some r) e found =
          by_space group r live grouped e (get_named spaces group.memory.place group.memory.index) refl found

      by_group : is_live list.tasks task ≡ true → (o : Option Group) → map.get list.groups number ≡ o
          → outcome_in s (in_group task number o) ≡ Some c → Parted c
      by_group live None e found = absurd (cc found)
      by_group live (Some group) e found = by_registers group live e (map.get registers task) refl found

      by_life : (b : Bool) → is_live list.tasks task ≡ b
          → outcome_in s (cond b (in_group task number (map.get list.groups number)) (done None)) ≡ Some c → Parted c
      by_life true e found = by_group e (map.get list.groups number) refl found
      by_life false e found = absurd (cc found)
