-- A new task is at home, and so are all others.
use Rattle.std.proofs.Common.{◌≡◌, ◌≢◌, ℕ, ◌+◌, inl, inr, true, false, ap, sym, ◌∙◌, subst}
use Rattle.std.specs.Prelude.{Some, is_some}
use Rattle.std.specs.Option.{option_map_or}
use Rattle.std.specs.Ordering.{nat_cmp}
use Rattle.std.specs.FinMap as map
use Rattle.sn_base.proofs.Maps.{get-insert_same, get-insert_other}
use Rattle.rv_table.specs.declared.registers.Regs.{Regs}
use Rattle.mm_space.specs.Spaces.{AddressSpace}
use Rattle.task_table.specs.declared.task.Group.{Group}
use Rattle.sn_base.specs.declared.made.Made.{Made}
use Rattle.task_table.specs.declared.task.Task.{Task}
use Rattle.task_table.specs.Clones.{threaded, with_group}
use Rattle.task_table.specs.Table.{TaskTable, is_live, group_of}
use Rattle.kernel_model.specs.Names.{NamedMap, get_named, with_named}
use Rattle.kernel_model.specs.declared.caller.Caller.{Caller}
use Rattle.kernel_model.proofs.NamedMaps.{same_or_other, get-with_same}
use Rattle.proc_cells.specs.Beside.{found_in, AreAtHome}
use Rattle.proc_cells.proofs.Found.{found_by}
use Rattle.proc_cells.proofs.Homes.{at_home, memories_stay, registers_stay}

-- where a task more begins, with these registers and this memory in a thread group of its own
module _ (list : TaskTable) (registers : map.FinMap nat_cmp Regs) (spaces : NamedMap AddressSpace)
    (home : AreAtHome list registers spaces) (group_begun : Group) (clear : ℕ) (begun : Regs)
    (space : AddressSpace) where
  abbrev next : ℕ
  next = list.last + 1

  abbrev list_after : TaskTable
  list_after = with_group list group_begun clear

  abbrev registers_after : map.FinMap nat_cmp Regs
  registers_after = map.insert registers (list.last + 1) begun

  abbrev spaces_after : NamedMap AddressSpace
  spaces_after = with_named spaces group_begun.memory.place group_begun.memory.index space

  abbrev task_begun : Task
  task_begun = record { group = list.last + 1; clear = clear; live = true }

  -- the new task
  next_home : is_some (found_in list_after registers_after spaces_after next) ≡ true
  next_home =
      ap is_some (found_by list_after registers_after spaces_after next group_begun begun space
      (ap (λ o. option_map_or (λ (c : Task). c.live) o false) there_now)
      (ap (map.get list_after.groups) (ap (λ o. option_map_or (λ (c : Task). c.group) o 0) there_now)
      ∙ get-insert_same list.groups next group_begun)
      (get-insert_same registers next begun)
      (get-with_same spaces group_begun.memory.place group_begun.memory.index space))
    where
      there_now : map.get list_after.tasks next ≡ Some task_begun
      there_now = get-insert_same list.tasks next task_begun

  -- a group has a memory: the new one its own, and each other that which it had
  abbrev Housed : (group : ℕ) → Type 0
  Housed group = (g : Group) × (a : AddressSpace) × (map.get list_after.groups group ≡ Some g)
      × (get_named spaces_after g.memory.place g.memory.index ≡ Some a)

  group_home : (group : ℕ) (g : Group) (a : AddressSpace) → map.get list.groups group ≡ Some g
      → get_named spaces g.memory.place g.memory.index ≡ Some a → Housed group
  group_home group g a grouped remembered =
      elim (same_or_other next group) [
        | inl same ↦ (
          group_begun,
          space,
          ap (map.get list_after.groups) (sym same) ∙ get-insert_same list.groups next group_begun,
          get-with_same spaces group_begun.memory.place group_begun.memory.index space,
        )
        | inr apart ↦ let stays =
            memories_stay spaces group_begun.memory.place group_begun.memory.index space g.memory.place g.memory.index a
            remembered in
            (g, stays.0, get-insert_other list.groups next group group_begun apart ∙ grouped, stays.1)
      ]

  -- a task of before
  other_home : (task : ℕ) → next ≢ task → is_live list_after.tasks task ≡ true
      → is_some (found_in list_after registers_after spaces_after task) ≡ true
  other_home task apart live =
      let same : map.get list_after.tasks task ≡ map.get list.tasks task =
      get-insert_other list.tasks next task task_begun apart in
      let before : is_live list.tasks task ≡ true =
      ap (λ o. option_map_or (λ (c : Task). c.live) o false) (sym same) ∙ live in
      let c = at_home list registers spaces task home before in
      let is : c.0.memory ≡ c.1.group.memory = ap (λ (x : Caller). x.memory) c.1.is in
      let g = group_home (group_of list.tasks task) c.1.group c.0.space c.1.grouped
      (ap (λ (m : Made). get_named spaces m.place m.index) (sym is) ∙ c.1.remembered) in
      let r = registers_stay registers next begun task c.0.registers c.1.registered in
      ap is_some (found_by list_after registers_after spaces_after task g.0 r.0 g.1 live
      (ap (map.get list_after.groups) (ap (λ o. option_map_or (λ (c : Task). c.group) o 0) same) ∙ g.2) r.1 g.3)

  pub home_begun : (list' : TaskTable) (registers' : map.FinMap nat_cmp Regs) (spaces' : NamedMap AddressSpace)
      → list' ≡ with_group list group_begun clear → registers' ≡ map.insert registers (list.last + 1) begun
      → spaces' ≡ with_named spaces group_begun.memory.place group_begun.memory.index space
      → AreAtHome list' registers' spaces'
  home_begun list' registers' spaces' e f g =
      subst (λ (x : TaskTable). AreAtHome x registers' spaces') (sym e)
      (subst (λ x. AreAtHome list_after x spaces') (sym f)
      (subst (λ x. AreAtHome list_after registers_after x) (sym g) home_now))
    where
      home_now : AreAtHome list_after registers_after spaces_after
      home_now = λ task live.
          elim (same_or_other next task) [
            | inl same ↦
                subst (λ (x : ℕ). is_some (found_in list_after registers_after spaces_after x) ≡ true) same next_home
            | inr apart ↦ other_home task apart live
          ]

-- where a thread more begins in a live task's group
module _ (list : TaskTable) (registers : map.FinMap nat_cmp Regs) (spaces : NamedMap AddressSpace)
    (home : AreAtHome list registers spaces) (task clear : ℕ) (begun : Regs)
    (live : is_live list.tasks task ≡ true) where
  abbrev thread_begun : Task
  thread_begun = record { group = group_of list.tasks task; clear = clear; live = true }

  abbrev with_thread : TaskTable
  with_thread = threaded list task clear

  abbrev with_begun : map.FinMap nat_cmp Regs
  with_begun = map.insert registers (list.last + 1) begun

  thread_home : is_some (found_in with_thread with_begun spaces (list.last + 1)) ≡ true
  thread_home =
      let now : map.get with_thread.tasks (list.last + 1) ≡ Some thread_begun =
      get-insert_same list.tasks (list.last + 1) thread_begun in
      let c = at_home list registers spaces task home live in
      let memory : c.0.memory ≡ c.1.group.memory = ap (λ (x : Caller). x.memory) c.1.is in
      ap is_some (found_by with_thread with_begun spaces (list.last + 1) c.1.group begun c.0.space
      (ap (λ o. option_map_or (λ (c : Task). c.live) o false) now)
      (ap (map.get list.groups) (ap (λ o. option_map_or (λ (c : Task). c.group) o 0) now) ∙ c.1.grouped)
      (get-insert_same registers (list.last + 1) begun)
      (ap (λ (m : Made). get_named spaces m.place m.index) (sym memory) ∙ c.1.remembered))

  others_home : (other : ℕ) → (list.last + 1) ≢ other → is_live with_thread.tasks other ≡ true
      → is_some (found_in with_thread with_begun spaces other) ≡ true
  others_home other apart lives =
      let same : map.get with_thread.tasks other ≡ map.get list.tasks other =
      get-insert_other list.tasks (list.last + 1) other thread_begun apart in
      let before : is_live list.tasks other ≡ true =
      ap (λ o. option_map_or (λ (c : Task). c.live) o false) (sym same) ∙ lives in
      let c = at_home list registers spaces other home before in
      let memory : c.0.memory ≡ c.1.group.memory = ap (λ (x : Caller). x.memory) c.1.is in
      let r = registers_stay registers (list.last + 1) begun other c.0.registers c.1.registered in
      ap is_some (found_by with_thread with_begun spaces other c.1.group r.0 c.0.space lives
      (ap (map.get list.groups) (ap (λ o. option_map_or (λ (c : Task). c.group) o 0) same) ∙ c.1.grouped) r.1
      (ap (λ (m : Made). get_named spaces m.place m.index) (sym memory) ∙ c.1.remembered))

  pub home_threaded : AreAtHome with_thread with_begun spaces
  home_threaded = λ other lives.
      elim (same_or_other (list.last + 1) other) [
        | inl same ↦ subst (λ (x : ℕ). is_some (found_in with_thread with_begun spaces x) ≡ true) same thread_home
        | inr apart ↦ others_home other apart lives
      ]
