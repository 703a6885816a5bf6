-- What calls do keeps live tasks at home: what they change of the task list, and the children that they make.
use Rattle.std.proofs.Common.{◌≡◌, ℕ, ◌+◌, true, refl, ap, subst}
use Rattle.std.specs.Prelude.{Option, Some, None, is_some}
use Rattle.std.specs.Ordering.{nat_cmp}
use Rattle.std.specs.FinMap as map
use Rattle.rv_table.specs.declared.registers.Regs.{Regs}
use Rattle.mm_space.specs.Spaces.{AddressSpace}
use Rattle.task_table.specs.Clones.{forked}
use Rattle.task_table.specs.Reaps.{reap_end}
use Rattle.task_table.specs.Table.{TaskTable, is_live, group_of, cwd_of}
use Rattle.kernel_model.specs.Names.{NamedMap, with_named}
use Rattle.kernel_model.specs.declared.caller.Caller.{Caller}
use Rattle.kernel_model.specs.declared.kernel.Kernel.{Kernel}
use Rattle.kernel_model.specs.calls.Clone.{made_for_child}
use Rattle.kernel_calls.specs.Making.{with_new_child, with_new_task, with_words}
use Rattle.kernel_calls.specs.Prepared.{with_effect}
use Rattle.kernel_calls.specs.declared.clone.ClonedTask.{ClonedTask}
use Rattle.kernel_calls.specs.declared.clone.Words.{Words}
use Rattle.kernel_calls.specs.declared.prepared.Effect.{Effect}
use Rattle.kernel_calls.specs.declared.prepared.Effect.TheVariants.{Nothing, EndsGroup, EndsTask, SetsClear}
use Rattle.kernel_calls.specs.declared.prepared.Effect.TheVariants.{Wakes, Reaps, ChangesFiles}
use Rattle.proc_cells.specs.Beside.{AreAtHome}
use Rattle.proc_cells.proofs.Homes.{home_cleared, home_ended, home_exited, home_reached, home_released, registers_stay}
use Rattle.proc_cells.proofs.NewHomes.{home_begun, home_threaded}

-- where a call was done
pub home_committed : (effect : Effect) (group : ℕ) (k : Kernel) (after : TaskTable)
    (registers : map.FinMap nat_cmp Regs) (spaces : NamedMap AddressSpace)
    → (with_effect effect group k).tasks ≡ after → AreAtHome k.tasks registers spaces
    → AreAtHome after registers spaces
home_committed Nothing group k after registers spaces is home =
    subst (λ (x : TaskTable). AreAtHome x registers spaces) is home
home_committed (EndsGroup ending) group k after registers spaces is home =
    subst (λ (x : TaskTable). AreAtHome x registers spaces) is
    (home_ended k.tasks registers spaces home group ending.status)
home_committed (EndsTask task ending) group k after registers spaces is home =
    subst (λ (x : TaskTable). AreAtHome x registers spaces) is
    (home_exited k.tasks registers spaces home task ending.status)
home_committed (Wakes key most) group k after registers spaces is home =
    subst (λ (x : TaskTable). AreAtHome x registers spaces) is home
home_committed (Reaps which) group k after registers spaces is home =
    subst (λ (x : TaskTable). AreAtHome x registers spaces) is
    (home_released k.tasks registers spaces home (reap_end k.tasks.groups group which))
home_committed (ChangesFiles table change) group k after registers spaces is home =
    subst (λ (x : TaskTable). AreAtHome x registers spaces) is home
home_committed (SetsClear task address) group k after registers spaces is home =
    subst (λ (x : TaskTable). AreAtHome x registers spaces) is (home_cleared k.tasks registers spaces home task address)

-- where a child is made
module _ (child : ClonedTask) (place : ℕ) (c : Caller) (k : Kernel) (home : AreAtHome k.tasks k.registers k.spaces)
    (live : is_live k.tasks.tasks c.task ≡ true) where
  worded : (words : Option Words) → AreAtHome k.tasks k.registers (with_words words c k).spaces
  worded None = home
  worded (Some words) = home_reached k.tasks k.registers k.spaces c.memory.place c.memory.index words.space home

  tasked : (memory : Option AddressSpace) (spaces : NamedMap AddressSpace) → AreAtHome k.tasks k.registers spaces
      → AreAtHome (with_new_task place memory child.clear c (record k { spaces = spaces })).tasks
      (map.insert k.registers (k.tasks.last + 1) child.registers)
      (with_new_task place memory child.clear c (record k { spaces = spaces })).spaces
  tasked None spaces has = home_threaded k.tasks k.registers spaces has c.task child.clear child.registers live
  tasked (Some memory) spaces has =
      home_begun k.tasks k.registers spaces has (record {
        parent = group_of k.tasks.tasks c.task;
        memory = made_for_child place;
        table = made_for_child place;
        cwd = cwd_of k.tasks.groups (group_of k.tasks.tasks c.task);
        ended = None;
      }) child.clear child.registers memory (forked k.tasks c.task (made_for_child place) (made_for_child place)
      child.clear)
      (map.insert k.registers (k.tasks.last + 1) child.registers)
      (with_named spaces place 0 memory) refl refl refl

  child_home : (words : Option Words) (memory : Option AddressSpace)
      → AreAtHome (with_new_task place memory child.clear c (with_words words c k)).tasks
      (map.insert k.registers (k.tasks.last + 1) child.registers)
      (with_new_task place memory child.clear c (with_words words c k)).spaces
  child_home None None = tasked None k.spaces (worded None)
  child_home None (Some memory) = tasked (Some memory) k.spaces (worded None)
  child_home (Some words) None = tasked None (with_words (Some words) c k).spaces (worded (Some words))
  child_home (Some words) (Some memory) =
      tasked (Some memory) (with_words (Some words) c k).spaces (worded (Some words))

  pub home_made : AreAtHome (with_new_child child place c k).tasks (with_new_child child place c k).registers
      (with_new_child child place c k).spaces
  home_made = by child.words child.memory
    where
      by : (words : Option Words) (memory : Option AddressSpace)
          → AreAtHome (with_new_task place memory child.clear c (with_words words c k)).tasks
          (map.insert (with_new_task place memory child.clear c (with_words words c k)).registers (k.tasks.last + 1)
          child.registers)
          (with_new_task place memory child.clear c (with_words words c k)).spaces
      by None None = child_home None None
      by None (Some memory) = child_home None (Some memory)
      by (Some words) None = child_home (Some words) None
      by (Some words) (Some memory) = child_home (Some words) (Some memory)

-- its registers are there beside all others
pub child_registers : (child : ClonedTask) (place : ℕ) (c : Caller) (k : Kernel)
    → (with_new_child child place c k).registers ≡ map.insert k.registers (k.tasks.last + 1) child.registers
child_registers child place c k = by child.words child.memory
  where
    by : (words : Option Words) (memory : Option AddressSpace)
        → map.insert (with_new_task place memory child.clear c (with_words words c k)).registers (k.tasks.last + 1)
        child.registers ≡ map.insert k.registers (k.tasks.last + 1) child.registers
    by None None = refl
    by None (Some memory) = refl
    by (Some words) None = refl
    by (Some words) (Some memory) = refl

-- and a key that is there stays
pub key_stays : (registers : map.FinMap nat_cmp Regs) (number : ℕ) (r : Regs) (task : ℕ)
    → is_some (map.get registers task) ≡ true → is_some (map.get (map.insert registers number r) task) ≡ true
key_stays registers number r task there = by (map.get registers task) refl there
  where
    by : (o : Option Regs) → map.get registers task ≡ o → is_some o ≡ true
        → is_some (map.get (map.insert registers number r) task) ≡ true
    by None is e = absurd (cc e)
    by (Some x) is e = ap is_some (registers_stay registers number r task x is).1
