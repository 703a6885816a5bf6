-- What entries of a task leave as it was, by what they did.
use Rattle.std.proofs.Common.{◌≡◌, ◌≢◌, ◌⊎◌, inl, inr, ℕ, ◌+◌, ◌≤◌, true, false, refl, ap, sym, ◌∙◌, arith, subst}
use Rattle.std.specs.Prelude.{Option, Some, None, ◌&&◌, ◌==◌}
use Rattle.std.specs.Option.{option_map_or}
use Rattle.std.specs.Ordering.{nat_cmp}
use Rattle.std.specs.FinMap as map
use Rattle.std.proofs.lemmas.Bool.{eq-eqb}
use Rattle.sn_base.proofs.Maps.{get-insert_other}
use Rattle.futex_core.specs.declared.keys.FutexKey.{FutexKey}
use Rattle.futex_core.specs.Waiters.{after_leave, after_sleep}
use Rattle.rv_table.specs.declared.registers.Regs.{Regs}
use Rattle.mm_space.specs.Spaces.{AddressSpace}
use Rattle.sn_base.specs.declared.made.Made.{Made}
use Rattle.task_table.specs.declared.task.Task.{Task}
use Rattle.task_table.specs.Table.{TaskTable, is_live}
use Rattle.kernel_model.specs.Names.{NamedMap, get_named, with_named}
use Rattle.kernel_model.specs.declared.caller.Caller.{Caller}
use Rattle.kernel_model.specs.declared.kernel.Kernel.{Kernel}
use Rattle.kernel_model.specs.entries.Waiting.{wait_of}
use Rattle.kernel_model.proofs.NamedMaps.{get-with_other, one_name_or_two, same_or_other}
use Rattle.kernel_calls.specs.Making.{with_new_child, with_new_task, with_words}
use Rattle.kernel_calls.specs.Prepared.{EndsEach, EndsOnly}
use Rattle.kernel_calls.specs.declared.clone.ClonedTask.{ClonedTask}
use Rattle.kernel_calls.specs.declared.clone.Words.{Words}
use Rattle.kernel_calls.specs.declared.prepared.Effect.{Effect}
use Rattle.proc_cells.specs.declared.cells.Cells.{Cells}
use Rattle.proc_cells.specs.Cells.{AreKept, IsAwake}
use Rattle.parked_tasks.specs.Untouched.{FilesMove, changes_list}
use Rattle.parked_tasks.specs.Used.{same_made}
use Rattle.call_table.specs.Moves.{LeavesRest, puts_to_sleep}
use Rattle.call_table.specs.declared.entered.Entered.{Entered}
use Rattle.call_table.proofs.MovedParts.{Left, Lists, left_after, left_same, list_stays, lists_after}
use Rattle.call_table.proofs.OffList.{left_off, off_before_leave, off_before_sleep, off_leave, off_sleep, sleeper_on}

-- ---- registers and memories of others

-- registers that were set are those of one task alone
pub others_go_on : (registers after : map.FinMap nat_cmp Regs) (task other : ℕ) (r : Regs)
    → after ≡ map.insert registers task r → task ≢ other → map.get after other ≡ map.get registers other
others_go_on registers after task other r is apart =
    ap (λ m. map.get m other) is ∙ get-insert_other registers task other r apart

one_memory : (name memory : Made) → memory.place ≡ name.place → memory.index ≡ name.index
    → same_made name memory ≡ true
one_memory name memory e f =
    ap (λ b. b && (name.index == memory.index)) (eq-eqb name.place memory.place (sym e))
    ∙ eq-eqb name.index memory.index (sym f)

two_names : (name memory : Made) → same_made name memory ≡ false
    → (memory.place ≢ name.place) ⊎ (memory.index ≢ name.index)
two_names name memory apart = by (one_name_or_two memory.place memory.index name.place name.index)
  where
    by : ((memory.place ≡ name.place) × (memory.index ≡ name.index))
        ⊎ ((memory.place ≢ name.place) ⊎ (memory.index ≢ name.index))
        → (memory.place ≢ name.place) ⊎ (memory.index ≢ name.index)
    by (inl same) = absurd (cc (one_memory name memory same.0 same.1, apart))
    by (inr two) = two

-- a memory that was set is that of its name alone
pub others_stay : (spaces after : NamedMap AddressSpace) (memory name : Made) (left : AddressSpace)
    → after ≡ with_named spaces memory.place memory.index left → same_made name memory ≡ false
    → get_named after name.place name.index ≡ get_named spaces name.place name.index
others_stay spaces after memory name left is apart =
    ap (λ m. get_named m name.place name.index) is
    ∙ get-with_other spaces memory.place memory.index name.place name.index left (two_names name memory apart)

-- ---- a task list with a task more

-- who lives has lived, but for one of the next number
pub record OneMore (before after : TaskTable) : Type 0 where
  pub last : after.last ≡ before.last + 1
  pub lives : (q : ℕ) → (before.last + 1) ≢ q → is_live after.tasks q ≡ is_live before.tasks q

more_with : (before after : TaskTable) (c : Task) → after.tasks ≡ map.insert before.tasks (before.last + 1) c
    → after.last ≡ before.last + 1 → OneMore before after
more_with before after c is last = record {
  last = last;
  lives = λ q apart.
      ap (λ tasks. is_live tasks q) is
      ∙ ap (λ o. option_map_or (λ (c : Task). c.live) o false)
      (get-insert_other before.tasks (before.last + 1) q c apart);
}

-- where a call makes a child
pub more_by_child : (child : ClonedTask) (place : ℕ) (c : Caller) (k : Kernel)
    → OneMore k.tasks (with_new_child child place c k).tasks
more_by_child child place c k = by child.words child.memory
  where
    by : (words : Option Words) (memory : Option AddressSpace)
        → OneMore k.tasks (with_new_task place memory child.clear c (with_words words c k)).tasks
    by None None = more_with k.tasks _ _ refl refl
    by None (Some memory) = more_with k.tasks _ _ refl refl
    by (Some words) None = more_with k.tasks _ _ refl refl
    by (Some words) (Some memory) = more_with k.tasks _ _ refl refl

-- who lives then and has not lived is of the greatest number
pub lives_last : (before after : TaskTable) → OneMore before after → (q : ℕ) → is_live after.tasks q ≡ true
    → is_live before.tasks q ≡ false → (q ≡ after.last) × (before.last + 1 ≤ after.last)
lives_last before after more q lives before_not = by (same_or_other (before.last + 1) q)
  where
    by : ((before.last + 1) ≡ q) ⊎ ((before.last + 1) ≢ q) → (q ≡ after.last) × (before.last + 1 ≤ after.last)
    by (inl same) = (sym same ∙ sym more.last, omega (arith, more.last))
    by (inr apart) = absurd (cc (more.lives q apart, lives, before_not))

-- ---- what entries leave

abbrev pub lists_of : Cells → Lists
lists_of p = record { tasks = p.tasks; sleepers = p.sleepers }

-- memories and registers of which an entry of a task with this memory changes its own alone
pub record Others (task : ℕ) (memory : Made) (before after : Cells) : Type 0 where
  pub registers : (other : ℕ) → task ≢ other → map.get after.registers other ≡ map.get before.registers other
  pub spaces : (name : Made) → same_made name memory ≡ false
      → get_named after.spaces name.place name.index ≡ get_named before.spaces name.place name.index

module _ (task : ℕ) (memory : Made) (made : Entered) (p q : Cells) where
  -- one that is no sleep, where nobody comes to the task list, and who goes from the futex list has ended
  moves_left : Left (lists_of p) (lists_of q) → IsAwake p task → puts_to_sleep made.entry ≡ false
      → (made.tasks ≡ false → q.tasks ≡ p.tasks) → (made.areas ≡ false → q.areas ≡ p.areas)
      → (made.tasks ≡ false → FilesMove made.touched p.files q.files) → Others task memory p q
      → LeavesRest task memory made p q
  moves_left left awake entered tasks areas files others = record {
    tasks = tasks;
    registers = λ same. others.registers;
    spaces = λ same. others.spaces;
    areas = areas;
    files = files;
    last = omega (arith, left.last);
    lives = λ other lives before. absurd (cc (left.lives other lives, before));
    off = λ other apart off. left.off other off;
    was_off = λ other apart lives off. left.was_off other lives off;
    itself = λ e. left.off task awake;
    asleep = λ e off. cc (e, entered);
  }

  -- one that leaves the task list and the futex list
  pub moves_alone : q.tasks ≡ p.tasks → q.sleepers ≡ p.sleepers → IsAwake p task → puts_to_sleep made.entry ≡ false
      → (made.areas ≡ false → q.areas ≡ p.areas) → FilesMove made.touched p.files q.files → Others task memory p q
      → LeavesRest task memory made p q
  moves_alone tasks sleepers awake entered areas files others =
      moves_left (subst (Left (lists_of p)) (sym same) (left_same (lists_of p))) awake entered (λ e. tasks) areas
      (λ e. files) others
    where
      same : lists_of q ≡ lists_of p
      same =
          ap (λ t. record { tasks = t; sleepers = q.sleepers }) tasks
          ∙ ap (λ w. record { tasks = p.tasks; sleepers = w }) sleepers

  -- one that does what a call prepared, or that ends a thread group
  pub moves_done : (effect : Effect) (group : ℕ) → lists_of q ≡ lists_after effect group (lists_of p)
      → EndsOnly effect task → EndsEach effect task group p.tasks → IsAwake p task → puts_to_sleep made.entry ≡ false
      → made.tasks ≡ changes_list effect → (made.areas ≡ false → q.areas ≡ p.areas)
      → (changes_list effect ≡ false → FilesMove made.touched p.files q.files) → Others task memory p q
      → LeavesRest task memory made p q
  moves_done effect group is own ended awake entered told areas files others =
      moves_left (subst (Left (lists_of p)) (sym is) (left_after task group (lists_of p) effect own ended)) awake
      entered (λ e. ap (λ (l : Lists). l.tasks) is ∙ list_stays task group (lists_of p) effect (sym told ∙ e)) areas
      (λ e. files (sym told ∙ e)) others

  -- one that makes a child
  pub moves_child : OneMore p.tasks q.tasks → q.sleepers ≡ p.sleepers → IsAwake p task
      → puts_to_sleep made.entry ≡ false → made.tasks ≡ true → made.areas ≡ true → LeavesRest task memory made p q
  moves_child more sleepers awake entered told areas = record {
    tasks = λ same. absurd (cc (told, same));
    registers = λ same. absurd (cc (told, same));
    spaces = λ same. absurd (cc (told, same));
    areas = λ same. absurd (cc (areas, same));
    files = λ same. absurd (cc (told, same));
    last = omega (arith, more.last);
    lives = λ other lives before. lives_last p.tasks q.tasks more other lives before;
    off = λ other apart off. ap (λ list. wait_of list other) sleepers ∙ off;
    was_off = λ other apart lives off. ap (λ list. wait_of list other) (sym sleepers) ∙ off;
    itself = λ e. ap (λ list. wait_of list task) sleepers ∙ awake;
    asleep = λ e off. cc (e, entered);
  }

  -- that of a task that was woken
  pub moves_woken : q.tasks ≡ p.tasks → q.sleepers ≡ after_leave p.sleepers task → puts_to_sleep made.entry ≡ false
      → q.areas ≡ p.areas → FilesMove made.touched p.files q.files → Others task memory p q
      → LeavesRest task memory made p q
  moves_woken tasks sleepers entered areas files others = record {
    tasks = λ same. tasks;
    registers = λ same. others.registers;
    spaces = λ same. others.spaces;
    areas = λ same. areas;
    files = λ same. files;
    last = omega (arith, ap (λ (t : TaskTable). t.last) tasks);
    lives = λ other lives before.
        absurd (cc (ap (λ (t : TaskTable). is_live t.tasks other) (sym tasks) ∙ lives, before));
    off = λ other apart off. ap (λ list. wait_of list other) sleepers ∙ off_leave p.sleepers task other off;
    was_off = λ other apart lives off.
        off_before_leave p.sleepers task other apart (ap (λ list. wait_of list other) (sym sleepers) ∙ off);
    itself = λ e. ap (λ list. wait_of list task) sleepers ∙ left_off p.sleepers task;
    asleep = λ e off. cc (e, entered);
  }

  -- one that puts its task to sleep
  pub moves_asleep : (key : FutexKey) → q.tasks ≡ p.tasks → q.sleepers ≡ after_sleep p.sleepers task key
      → puts_to_sleep made.entry ≡ true → q.areas ≡ p.areas → FilesMove made.touched p.files q.files
      → Others task memory p q
      → LeavesRest task memory made p q
  moves_asleep key tasks sleepers entered areas files others = record {
    tasks = λ same. tasks;
    registers = λ same. others.registers;
    spaces = λ same. others.spaces;
    areas = λ same. areas;
    files = λ same. files;
    last = omega (arith, ap (λ (t : TaskTable). t.last) tasks);
    lives = λ other lives before.
        absurd (cc (ap (λ (t : TaskTable). is_live t.tasks other) (sym tasks) ∙ lives, before));
    off = λ other apart off.
        ap (λ list. wait_of list other) sleepers ∙ off_sleep p.sleepers task other key apart off;
    was_off = λ other apart lives off.
        off_before_sleep p.sleepers task other key apart (ap (λ list. wait_of list other) (sym sleepers) ∙ off);
    itself = λ e. absurd (cc (e, entered));
    asleep = λ e off. sleeper_on p.sleepers task key (ap (λ list. wait_of list task) (sym sleepers) ∙ off);
  }

-- one that was made behind cells that differ in the task's own memory alone, or in shared areas too, where that is told
pub moves_behind : (task : ℕ) (memory own : Made) (made : Entered) (p b q : Cells) → LeavesRest task own made b q
    → own ≡ memory → b.tasks ≡ p.tasks → b.sleepers ≡ p.sleepers → (made.areas ≡ false → b.areas ≡ p.areas)
    → b.files ≡ p.files → Others task memory p b → LeavesRest task memory made p q
moves_behind task memory own made p b q did known tasks sleepers areas files others = record {
  tasks = λ e. moves.tasks e ∙ tasks;
  registers = λ e other apart. moves.registers e other apart ∙ others.registers other apart;
  spaces = λ e name apart. moves.spaces e name apart ∙ others.spaces name apart;
  areas = λ e. moves.areas e ∙ areas e;
  files = λ e. subst (λ f. FilesMove made.touched f q.files) files (moves.files e);
  last = omega (arith, moves.last, ap (λ (t : TaskTable). t.last) tasks);
  lives = λ other lives before.
      let is = moves.lives other lives (ap (λ (t : TaskTable). is_live t.tasks other) tasks ∙ before) in
      (is.0, omega (arith, is.1, ap (λ (t : TaskTable). t.last) tasks));
  off = λ other apart off. moves.off other apart (ap (λ list. wait_of list other) sleepers ∙ off);
  was_off = λ other apart lives off.
      ap (λ list. wait_of list other) (sym sleepers) ∙ moves.was_off other apart lives off;
  itself = moves.itself;
  asleep = moves.asleep;
}
  where
    moves : LeavesRest task memory made b q
    moves = subst (λ (m : Made). LeavesRest task m made b q) known did

-- or in nothing
pub moves_kept : (task : ℕ) (memory : Made) (made : Entered) (p b q : Cells) → AreKept p b
    → LeavesRest task memory made b q → LeavesRest task memory made p q
moves_kept task memory made p b q kept did =
    moves_behind task memory memory made p b q did refl kept.tasks kept.sleepers (λ e. kept.areas) kept.files (record {
      registers = λ other apart. ap (λ m. map.get m other) kept.registers;
      spaces = λ name apart. ap (λ m. get_named m name.place name.index) kept.spaces;
    })
