-- Each live task stays at home: with registers, and with its group's memory.
use Rattle.std.proofs.Common.{◌≡◌, ℕ, Bool, inl, inr, true, false, refl, ap, sym, ◌∙◌, subst}
use Rattle.std.specs.Prelude.{Option, Some, None, is_some}
use Rattle.std.specs.Option.{option_map_or}
use Rattle.std.specs.Ordering.{nat_cmp}
use Rattle.std.specs.FinMap as map
use Rattle.sn_base.proofs.Maps.{get_of_empty, get-insert_same, get-insert_other}
use Rattle.rv_table.specs.declared.registers.Regs.{Regs}
use Rattle.mm_space.specs.Spaces.{AddressSpace}
use Rattle.task_table.specs.declared.task.Group.{Group}
use Rattle.sn_base.specs.declared.made.Made.{Made}
use Rattle.task_table.specs.declared.task.Task.{Task}
use Rattle.task_table.specs.declared.task.Status.{Status}
use Rattle.task_table.specs.declared.task.ReapEnd.{ReapEnd}
use Rattle.task_table.specs.Ends.{ended_where, exited, group_ended, is_itself, is_last, is_member}
use Rattle.task_table.specs.Reaps.{after_reap}
use Rattle.task_table.specs.Table.{TaskTable, is_live, group_of, no_tasks}
use Rattle.kernel_model.specs.Names.{NamedMap, get_named, with_named}
use Rattle.kernel_model.specs.declared.caller.Caller.{Caller}
use Rattle.kernel_model.specs.calls.Ending.{clear_set}
use Rattle.task_table.proofs.Endings.{live_before_end}
use Rattle.kernel_model.proofs.NamedMaps.{same_or_other, get-with}
use Rattle.proc_cells.specs.Beside.{found_in, AreAtHome}
use Rattle.proc_cells.proofs.Ends.{Keeps, group_stays, memory_stays, memory_stays_if, memory_released, tasks_released}
use Rattle.proc_cells.proofs.Ends.{live_cleared, group_cleared}
use Rattle.proc_cells.proofs.Found.{Parted, found_by, parted}

-- a value that is there
there : {A : Type 0} (o : Option A) → is_some o ≡ true → (a : A) × (o ≡ Some a)
there None e = absurd (cc e)
there (Some a) e = (a, refl)

-- what a live task has
pub at_home : (list : TaskTable) (registers : map.FinMap nat_cmp Regs) (spaces : NamedMap AddressSpace) (task : ℕ)
    → AreAtHome list registers spaces → is_live list.tasks task ≡ true
    → (c : Caller) × Parted list registers spaces task c
at_home list registers spaces task home live =
    let c = there (found_in list registers spaces task) (home task live) in
    (c.0, parted list registers spaces task c.0 c.1)

module _ (list : TaskTable) (registers : map.FinMap nat_cmp Regs) (spaces : NamedMap AddressSpace)
    (home : AreAtHome list registers spaces) where
  -- where no registers and no memory are lost
  pub home_kept : (registers' : map.FinMap nat_cmp Regs) (spaces' : NamedMap AddressSpace)
      → ((task : ℕ) (r : Regs) → map.get registers task ≡ Some r → (r' : Regs) × (map.get registers' task ≡ Some r'))
      → ((p i : ℕ) (a : AddressSpace) → get_named spaces p i ≡ Some a
      → (a' : AddressSpace) × (get_named spaces' p i ≡ Some a')) → AreAtHome list registers' spaces'
  home_kept registers' spaces' rs ms = λ task live.
      let c = at_home list registers spaces task home live in
      let r = rs task c.0.registers c.1.registered in
      let memory : c.0.memory ≡ c.1.group.memory = ap (λ (x : Caller). x.memory) c.1.is in
      let a = ms c.1.group.memory.place c.1.group.memory.index c.0.space
      (ap (λ (m : Made). get_named spaces m.place m.index) (sym memory) ∙ c.1.remembered) in
      ap is_some (found_by list registers' spaces' task c.1.group r.0 a.0 c.1.live c.1.grouped r.1 a.1)

  -- where tasks end, and groups keep their memories
  home_after : (test : ℕ → Task → Bool) (list' : TaskTable) → list'.tasks ≡ ended_where test list.tasks
      → ((g : ℕ) (before : Group) → map.get list.groups g ≡ Some before → Keeps list'.groups g before)
      → AreAtHome list' registers spaces
  home_after test list' is keeps = λ task live.
      let before = live_before_end test list.tasks task (ap (λ t. is_live t task) (sym is) ∙ live) in
      let c = at_home list registers spaces task home before in
      let g = keeps (group_of list.tasks task) c.1.group c.1.grouped in
      let memory : c.0.memory ≡ g.0.memory = ap (λ (x : Caller). x.memory) c.1.is ∙ sym g.2 in
      ap is_some (found_by list' registers spaces task g.0 c.0.registers c.0.space live
      (ap (map.get list'.groups) (ap (λ t. group_of t task) is ∙ group_stays test list.tasks task) ∙ g.1)
      c.1.registered (ap (λ (m : Made). get_named spaces m.place m.index) (sym memory) ∙ c.1.remembered))

  -- a thread group with all its tasks,
  pub home_ended : (group : ℕ) (status : Status) → AreAtHome (group_ended list group status) registers spaces
  home_ended group status =
      home_after (is_member group) (group_ended list group status) refl (memory_stays list.groups group status)

  -- or one task
  pub home_exited : (task : ℕ) (status : Status) → AreAtHome (exited list task status) registers spaces
  home_exited task status =
      home_after (is_itself task) (exited list task status) refl
      (memory_stays_if (is_last list.tasks task) list.groups (group_of list.tasks task) status)

  -- where a child is nobody's child any more
  pub home_released : (end : ReapEnd) → AreAtHome (after_reap list end) registers spaces
  home_released end = λ task live.
      let c = at_home list registers spaces task home
      (ap (λ t. is_live t task) (sym (tasks_released list end)) ∙ live) in
      let g = memory_released list end (group_of list.tasks task) c.1.group c.1.grouped in
      let memory : c.0.memory ≡ g.0.memory = ap (λ (x : Caller). x.memory) c.1.is ∙ sym g.2 in
      ap is_some (found_by (after_reap list end) registers spaces task g.0 c.0.registers c.0.space live
      (ap (λ t. map.get (after_reap list end).groups (group_of t task)) (tasks_released list end) ∙ g.1)
      c.1.registered (ap (λ (m : Made). get_named spaces m.place m.index) (sym memory) ∙ c.1.remembered))

  -- where a clear word was set
  pub home_cleared : (setter address : ℕ) → AreAtHome (clear_set setter address list) registers spaces
  home_cleared setter address = λ task live.
      let c = at_home list registers spaces task home (sym (live_cleared list setter address task) ∙ live) in
      let memory : c.0.memory ≡ c.1.group.memory = ap (λ (x : Caller). x.memory) c.1.is in
      ap is_some (found_by (clear_set setter address list) registers spaces task c.1.group c.0.registers c.0.space live
      (ap (map.get list.groups) (group_cleared list setter address task) ∙ c.1.grouped) c.1.registered
      (ap (λ (m : Made). get_named spaces m.place m.index) (sym memory) ∙ c.1.remembered))

-- where there is no task
pub none_at_home : (registers : map.FinMap nat_cmp Regs) (spaces : NamedMap AddressSpace)
    → AreAtHome no_tasks registers spaces
none_at_home registers spaces = λ task live.
    absurd (cc (live, ap (λ o. option_map_or (λ (c : Task). c.live) o false) (get_of_empty task)))

-- registers that are set are there, and so are all others
pub registers_stay : (registers : map.FinMap nat_cmp Regs) (task : ℕ) (after : Regs) (q : ℕ) (r : Regs)
    → map.get registers q ≡ Some r → (r' : Regs) × (map.get (map.insert registers task after) q ≡ Some r')
registers_stay registers task after q r e =
    elim (same_or_other task q) [
      | inl same ↦
          (after, ap (map.get (map.insert registers task after)) (sym same) ∙ get-insert_same registers task after)
      | inr apart ↦ (r, get-insert_other registers task q after apart ∙ e)
    ]

-- a memory that is set is there, and so are all others
pub memories_stay : (spaces : NamedMap AddressSpace) (place index : ℕ) (after : AddressSpace) (p i : ℕ)
    (a : AddressSpace) → get_named spaces p i ≡ Some a
    → (a' : AddressSpace) × (get_named (with_named spaces place index after) p i ≡ Some a')
memories_stay spaces place index after p i a e =
    elim (get-with spaces place index p i after) [
      | inl same ↦ (after, same.1)
      | inr other ↦ (a, other.1 ∙ e)
    ]

-- registers and a memory that are set
pub home_run : (list : TaskTable) (registers registers' : map.FinMap nat_cmp Regs)
    (spaces spaces' : NamedMap AddressSpace) (task : ℕ) (after : Regs) (place index : ℕ) (left : AddressSpace)
    → AreAtHome list registers spaces → registers' ≡ map.insert registers task after
    → spaces' ≡ with_named spaces place index left → AreAtHome list registers' spaces'
home_run list registers registers' spaces spaces' task after place index left home e f =
    subst (λ x. AreAtHome list x spaces') (sym e)
    (subst (λ x. AreAtHome list (map.insert registers task after) x) (sym f)
    (home_kept list registers spaces home (map.insert registers task after) (with_named spaces place index left)
    (registers_stay registers task after) (memories_stay spaces place index left)))

-- a memory that is set
pub home_reached : (list : TaskTable) (registers : map.FinMap nat_cmp Regs) (spaces : NamedMap AddressSpace)
    (place index : ℕ) (left : AddressSpace) → AreAtHome list registers spaces
    → AreAtHome list registers (with_named spaces place index left)
home_reached list registers spaces place index left home =
    home_kept list registers spaces home registers (with_named spaces place index left) (λ q r there. (r, there))
    (memories_stay spaces place index left)

-- registers that are set
pub home_replied : (list : TaskTable) (registers registers' : map.FinMap nat_cmp Regs) (spaces : NamedMap AddressSpace)
    (task : ℕ) (after : Regs) → AreAtHome list registers spaces → registers' ≡ map.insert registers task after
    → AreAtHome list registers' spaces
home_replied list registers registers' spaces task after home e =
    subst (λ x. AreAtHome list x spaces) (sym e)
    (home_kept list registers spaces home (map.insert registers task after) spaces (registers_stay registers task after)
    (λ p i a there. (a, there)))
