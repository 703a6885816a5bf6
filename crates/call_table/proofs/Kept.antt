-- Where cells are as they were, and where they lacked memory.
use Rattle.std.proofs.Common.{◌≡◌, ℕ, Bool, refl, ap, sym, ◌∙◌, arith, subst}
use Rattle.std.specs.FinMap as map
use Rattle.kernel_model.specs.Names.{get_named}
use Rattle.kernel_model.specs.machine.Spaces.{going_in}
use Rattle.guest_access.specs.Lending.{AreAlike}
use Rattle.guest_access.proofs.Runs.{ran_none}
use Rattle.proc_cells.specs.declared.cells.Cells.{Cells}
use Rattle.proc_cells.specs.declared.cells.Standing.{Standing}
use Rattle.proc_cells.specs.Beside.{Beside, HeldParts, found_in, kernel_with}
use Rattle.proc_cells.specs.Cells.{AreKept, StandsAs, caller_in, caller_with, held_by, kernel_of}
use Rattle.call_table.specs.Entries.{HasRunPart, RunsIn, ReadyIs}
use Rattle.kernel_model.specs.declared.kernel.Kernel.{Kernel}
use Rattle.kernel_model.specs.entries.Ready.{is_ready}
use Rattle.call_table.proofs.Steps.{registers_same, space_same}

-- what changed nothing one way changed nothing the other
pub kept_back : (p q : Cells) → AreKept p q → AreKept q p
kept_back p q kept = record {
  tasks = sym kept.tasks;
  registers = sym kept.registers;
  spaces = sym kept.spaces;
  areas = sym kept.areas;
  files = sym kept.files;
  sleepers = sym kept.sleepers;
  console = sym kept.console;
}

-- a live task is who it was
pub caller_kept : (p q : Cells) (task : ℕ) → AreKept p q → caller_in q task ≡ caller_in p task
caller_kept p q task kept =
    ap (λ x. found_in x q.registers q.spaces task) kept.tasks
    ∙ ap (λ x. found_in p.tasks x q.spaces task) kept.registers
    ∙ ap (λ x. found_in p.tasks p.registers x task) kept.spaces

-- a task stands as it did
pub stands_kept : (p q : Cells) (task : ℕ) (standing : Standing) → AreKept p q → StandsAs p task standing
    → StandsAs q task standing
stands_kept p q task standing kept stands = record {
  space = stands.space;
  in_memory =
      ap (λ m. get_named m standing.memory.place standing.memory.index) kept.spaces ∙ stands.in_memory;
  found = caller_kept p q task kept ∙ stands.found;
}

-- no instruction has run
pub part_none : (p q : Cells) (task : ℕ) (standing : Standing) → StandsAs p task standing → q.tasks ≡ p.tasks
    → q.registers ≡ p.registers → q.spaces ≡ p.spaces → AreAlike q.areas p.areas → q.files ≡ p.files
    → q.sleepers ≡ p.sleepers → q.console ≡ p.console → HasRunPart task p q
part_none p q task standing stands e f g areas files w i = record {
  caller = caller_with task standing stands.space;
  found = stands.found;
  count = 0;
  few = omega arith;
  registers = standing.registers;
  runs = record {
    space = stands.space;
    left = stands.space;
    there = stands.in_memory;
    put = g ∙ sym (space_same p task standing stands stands.space refl);
    steps = ran_none (going_in task stands.space standing.registers);
  };
  kept_registers = f ∙ sym (registers_same p task standing stands standing.registers refl);
  kept_tasks = e;
  kept_areas = areas;
  kept_files = files;
  kept_sleepers = w;
  kept_console = i;
}

pub part_kept : (p q : Cells) (task : ℕ) (standing : Standing) → AreKept p q → StandsAs p task standing
    → HasRunPart task p q
part_kept p q task standing kept stands =
    part_none p q task standing stands kept.tasks kept.registers kept.spaces
    (λ place index. ap (λ x. get_named x place index) kept.areas) kept.files kept.sleepers kept.console

-- nor any before those that have
pub part_behind : (p q r : Cells) (task : ℕ) → AreKept p q → HasRunPart task q r → HasRunPart task p r
part_behind p q r task kept part = record {
  caller = part.caller;
  found = sym (caller_kept p q task kept) ∙ part.found;
  count = part.count;
  few = part.few;
  registers = part.registers;
  runs =
      subst (λ x. RunsIn task part.caller.memory part.count part.caller.registers part.registers x r.spaces) kept.spaces
      part.runs;
  kept_registers = part.kept_registers ∙ ap (λ x. map.insert x task part.registers) kept.registers;
  kept_tasks = part.kept_tasks ∙ kept.tasks;
  kept_areas = λ place index. part.kept_areas place index ∙ ap (λ x. get_named x place index) kept.areas;
  kept_files = part.kept_files ∙ kept.files;
  kept_sleepers = part.kept_sleepers ∙ kept.sleepers;
  kept_console = part.kept_console ∙ kept.console;
}

-- and they are the same kernel
pub kernel_kept : (p q : Cells) → AreKept p q → (beside : Beside) (n : ℕ)
    → kernel_of q beside n ≡ kernel_of p beside n
kernel_kept p q kept beside n =
    ap (λ (h : HeldParts). kernel_with h beside n) (
    ap (λ x. record (held_by q) { tasks = x }) kept.tasks
    ∙ ap (λ x. record (held_by q) { tasks = p.tasks; registers = x }) kept.registers
    ∙ ap (λ x. record (held_by q) { tasks = p.tasks; registers = p.registers; spaces = x }) kept.spaces
    ∙ ap (λ x. record (held_by p) { areas = x; files = q.files; sleepers = q.sleepers; console = q.console }) kept.areas
    ∙ ap (λ x. record (held_by p) { files = x; sleepers = q.sleepers; console = q.console }) kept.files
    ∙ ap (λ x. record (held_by p) { sleepers = x; console = q.console }) kept.sleepers
    ∙ ap (λ x. record (held_by p) { console = x }) kept.console)

-- so that a step is ready as it was
pub ready_kept : (p q : Cells) (task : ℕ) (b : Bool) → AreKept p q → ReadyIs q task b → ReadyIs p task b
ready_kept p q task b kept ready = λ beside n.
    ap (λ (k : Kernel). is_ready k task) (sym (kernel_kept p q kept beside n)) ∙ ready beside n
