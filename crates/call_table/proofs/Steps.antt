-- What an entry of a live task is to the kernel of its cells.
use Rattle.std.proofs.Common.{◌≡◌, ℕ, ◌+◌, ◌-◌, ◌<◌, ◌≤◌, length, Bool, true, false}
use Rattle.std.proofs.Common.{cond, List, [], ◌∷◌, ◌++◌, refl, ap, sym}
use Rattle.std.proofs.Common.{◌∙◌, arith, ℤ, option_map, pos, subst}
use Rattle.std.specs.Prelude.{Option, Some, None, if◌then◌else◌, ◌&&◌, ◌||◌, not, nat_eq}
use Rattle.std.specs.Ordering.{int_eq, nat_cmp}
use Rattle.std.specs.FinMap as map
use Rattle.std.proofs.lemmas.Bool.Decides.{Decides-int_eq, Decides-eqb}
use Rattle.sn_base.proofs.Maps.{get-insert_same, insert_same}
use Rattle.rv_table.specs.declared.registers.Regs.{Regs}
use Rattle.rv_table.specs.declared.error.Area.{Area}
use Rattle.mm_space.specs.Handed.{AreaState}
use Rattle.mm_space.specs.Spaces.{AddressSpace}
use Rattle.quantum.specs.Instructions.{GoingTask, ran}
use Rattle.task_table.specs.declared.task.Group.{Group}
use Rattle.sn_base.specs.declared.made.Made.{Made}
use Rattle.task_table.specs.declared.task.Status.TheVariants.{Killed}
use Rattle.futex_core.specs.declared.keys.FutexKey.{FutexKey}
use Rattle.futex_core.specs.Waiters.{FutexList, after_leave, after_sleep}
use Rattle.task_table.specs.Table.{is_live, group_of}
use Rattle.kernel_model.specs.Names.{NamedMap, get_named, with_named}
use Rattle.kernel_model.specs.declared.caller.Caller.{Caller}
use Rattle.kernel_model.specs.declared.entry.Args.{Args}
use Rattle.kernel_model.specs.declared.entry.Entry.{Entry}
use Rattle.kernel_model.specs.declared.entry.Entry.TheVariants.{Run, Call, Sleep, End}
use Rattle.kernel_model.specs.declared.kernel.Kernel.{Kernel}
use Rattle.kernel_model.specs.declared.kernel.Part.{Part}
use Rattle.kernel_model.specs.declared.kernel.Part.TheVariants.{OfTasks, OfTask, OfSpace, OfArea, OfTable}
use Rattle.kernel_model.specs.declared.kernel.Part.TheVariants.{OfDescription}
use Rattle.kernel_model.specs.declared.kernel.Part.TheVariants.{OfPipe, OfNode, OfSleepers, OfConsole, OfFaults}
use Rattle.kernel_model.specs.declared.opening.Given.{Given}
use Rattle.kernel_model.specs.declared.traps.Next.{Next}
use Rattle.kernel_model.specs.declared.traps.Next.TheVariants.{Goes, Calls, Traps, Touches}
use Rattle.kernel_model.specs.machine.Instructions.{StopsAt, goes_on, next_of, touches_area}
use Rattle.kernel_model.specs.machine.Registers.{args_of, call_of, replied}
use Rattle.kernel_model.specs.machine.Spaces.{acting_in, going_in}
use Rattle.kernel_model.specs.calls.Answers.{Answer, makes_entry, replies, sleeps}
use Rattle.kernel_model.specs.calls.Callers.{context_of, caller_of, caller_with_memory, in_group}
use Rattle.kernel_model.specs.calls.Ending.{group_end}
use Rattle.kernel_model.specs.calls.Table.{call_row}
use Rattle.kernel_model.specs.entries.Areas.{Stands, next_row}
use Rattle.kernel_model.specs.entries.Given.{is_quiet, may_meet}
use Rattle.kernel_model.specs.entries.History.{is_whole, goes_next, has_next, has_touching, touches_next}
use Rattle.kernel_model.specs.entries.Parts.{Parts, parts, Prog, done, look, outcome_in, Change, put, changed}
use Rattle.kernel_model.specs.entries.Steps.{by_given, call_at, end_at, entry_row, going_on, if_live, next_in, row_of}
use Rattle.kernel_model.specs.entries.Steps.{may_enter, run_alone, same_args, stands_at, step, stepped, task_change}
use Rattle.kernel_model.specs.entries.Steps.{killed, sleep_at, slept_by, task_of, woken_at}
use Rattle.kernel_model.specs.entries.Ready.{is_ready, ready_as, ready_by, ready_if_live}
use Rattle.kernel_model.specs.entries.Waiting.{Wait, Awake, Asleep, Woken, wait_of}
use Rattle.kernel_model.proofs.CallLemmas.{call_quiet}
use Rattle.kernel_model.proofs.LocalityLaws.{ready_alike}
use Rattle.kernel_model.proofs.NamedMaps.{get-with_same, with_same}
use Rattle.kernel_model.proofs.Trees.{outcome-bind}
use Rattle.call_fs.specs.CallEnd.{ComesTo}
use Rattle.call_fs.specs.declared.call_end.CallEnd.{CallEnd}
use Rattle.call_fs.specs.declared.call_end.CallEnd.TheVariants.{Of, Moves, MakesPipe}
use Rattle.kernel_calls.specs.Prepared.{Comes, IsCalling}
use Rattle.guest_access.specs.Stepping.{Steps}
use Rattle.kernel_calls.specs.declared.context.Context.{Context}
use Rattle.kernel_calls.specs.declared.prepared.Called.{Called as Known}
use Rattle.kernel_calls.specs.declared.prepared.Called.TheVariants.{Replies, Makes, Sleeps, Waits}
use Rattle.guest_access.proofs.Runs.{alone_ran, alone_short, alone_touching, nothing_ran, ran_none, row_by_step}
use Rattle.guest_access.proofs.Runs.{row_ran, stands_alone}
use Rattle.proc_cells.specs.declared.cells.Cells.{Cells}
use Rattle.proc_cells.specs.declared.cells.Standing.{Standing}
use Rattle.proc_cells.specs.Beside.{Beside, HeldParts, nothing_beside, nothing_held, kernel_with, found_in}
use Rattle.proc_cells.specs.Cells.{held_by, kernel_of, caller_with, StandsAs, IsAwake}
use Rattle.proc_cells.proofs.Found.{Parted, found_by, parted}
use Rattle.call_table.specs.Entries.{RunsIn, NextIn, IsNextOf, IsOf, ReadyIs, is_touching}

-- ---- numbers and arguments are themselves

int_same : (z : ℤ) → int_eq z z ≡ true
int_same z = (Decides-int_eq z z).1 refl

pub nat_same : (n : ℕ) → nat_eq n n ≡ true
nat_same n = (Decides-eqb n n).1 refl

args_same : (args : Args) → same_args args args ≡ true
args_same args = simp nat_same

-- ---- a live task is found, whatever stands beside the cells

module _ (h : HeldParts) (beside : Beside) (n task : ℕ) where
  s : Parts
  s = parts (kernel_with h beside n)

  z : Parts
  z =
      parts (kernel_with (record nothing_held { tasks = h.tasks; registers = h.registers; spaces = h.spaces })
      nothing_beside 0)

  alike_registers : (group : ℕ) (g : Group) (o : Option Regs)
      → outcome_in s (caller_with_memory task group g o) ≡ outcome_in z (caller_with_memory task group g o)
  unfolding s z
  alike_registers group g None = refl
  alike_registers group g (Some r) = refl

  alike_group : (group : ℕ) (o : Option Group)
      → outcome_in s (in_group task group o) ≡ outcome_in z (in_group task group o)
  unfolding s z
  alike_group group None = refl
  alike_group group (Some g) = alike_registers group g (map.get h.registers task)

  alike_life : (b : Bool)
      → outcome_in s (cond b (in_group task (group_of h.tasks.tasks task)
      (map.get h.tasks.groups (group_of h.tasks.tasks task))) (done None))
      ≡ outcome_in z (cond b (in_group task (group_of h.tasks.tasks task)
      (map.get h.tasks.groups (group_of h.tasks.tasks task))) (done None))
  unfolding s z
  alike_life true = alike_group (group_of h.tasks.tasks task) (map.get h.tasks.groups (group_of h.tasks.tasks task))
  alike_life false = refl

  pub found_beside : outcome_in (parts (kernel_with h beside n)) (caller_of task)
      ≡ found_in h.tasks h.registers h.spaces task
  unfolding s z
  found_beside = alike_life (is_live h.tasks.tasks task)

-- ---- an entry of a task that was found

row_found : (k : Kernel) (e : Entry) (c : Caller) (wait : Wait) → outcome_in (parts k) (caller_of (task_of e)) ≡ Some c
    → wait_of k.sleepers c.task ≡ wait
    → outcome_in (parts k) (entry_row (context_of k) e) ≡ outcome_in (parts k) (row_of (context_of k) e c wait)
row_found k e c wait found is =
    outcome-bind (parts k) (caller_of (task_of e)) (if_live (context_of k) e)
    ∙ ap (λ o. outcome_in (parts k) (if_live (context_of k) e o)) found
    ∙ ap (λ w. outcome_in (parts k) (row_of (context_of k) e c w)) is

-- which may be made, and whose row comes to changes
step_found : (k : Kernel) (e : Entry) (c : Caller) (wait : Wait) (changes : List Change) → may_enter k.nodes e ≡ true
    → outcome_in (parts k) (caller_of (task_of e)) ≡ Some c → wait_of k.sleepers c.task ≡ wait
    → outcome_in (parts k) (row_of (context_of k) e c wait) ≡ Some changes → step k e ≡ Some (stepped k changes)
unfolding step
step_found k e c wait changes may found is row =
    ap (λ b. cond b (option_map (stepped k) (outcome_in (parts k) (entry_row (context_of k) e))) None) may
    ∙ ap (option_map (stepped k)) (row_found k e c wait found is ∙ row)

-- whether its next step is ready
pub ready_found : (k : Kernel) (task : ℕ) (c : Caller) (wait : Wait) → outcome_in (parts k) (caller_of task) ≡ Some c
    → wait_of k.sleepers c.task ≡ wait → is_ready k task ≡ outcome_in (parts k) (ready_as (context_of k) c wait)
ready_found k task c wait found is =
    outcome-bind (parts k) (caller_of task) (ready_if_live (context_of k))
    ∙ ap (λ o. outcome_in (parts k) (ready_if_live (context_of k) o)) found
    ∙ ap (λ w. outcome_in (parts k) (ready_as (context_of k) c w)) is

-- changes and then others
changed-append : (xs ys : List Change) (k : Kernel) → changed (xs ++ ys) k ≡ changed ys (changed xs k)
changed-append [] ys k = refl
changed-append (x ∷ xs) ys k = changed-append xs ys (put x.0 x.1 k)

-- one of no instruction stands before a call or a trap
pub stop_none : (n : ℕ) (told next : Next) → StopsAt 10000 n told next → n ≡ 0 → told ≡ next
stop_none n Goes next all none = absurd (omega arith)
stop_none n Calls next stop none = sym stop.1
stop_none n (Traps signal) next stop none = sym stop.1
stop_none n (Touches area) next stop none = sym stop.1

pub stop_not_on : (n : ℕ) (told next : Next) → StopsAt 10000 n told next → n ≡ 0 → goes_on told ≡ false
stop_not_on n Goes next all none = absurd (omega arith)
stop_not_on n Calls next stop none = refl
stop_not_on n (Traps signal) next stop none = refl
stop_not_on n (Touches area) next stop none = refl

or_true : (b : Bool) → (b || true) ≡ true
or_true true = refl
or_true false = refl

-- an instruction that touches a shared area touches some one
area_touched : (next : Next) → touches_area next ≡ true → (area : Area) × (next ≡ Touches area)
area_touched Goes e = absurd (cc e)
area_touched Calls e = absurd (cc e)
area_touched (Traps signal) e = absurd (cc e)
area_touched (Touches area) e = (area, refl)

-- the parts of a kernel have no mounts, no key and no number of entries
same_parts : (p : Cells) (beside : Beside) (seed : List ℕ) (m n : ℕ) (part : Part)
    → parts (kernel_of p (record beside { seed = seed }) m) part ≡ parts (kernel_of p beside n) part
same_parts p beside seed m n OfTasks = refl
same_parts p beside seed m n (OfTask q) = refl
same_parts p beside seed m n (OfSpace q) = refl
same_parts p beside seed m n (OfArea q) = refl
same_parts p beside seed m n (OfTable q) = refl
same_parts p beside seed m n (OfDescription q) = refl
same_parts p beside seed m n (OfPipe q) = refl
same_parts p beside seed m n (OfNode q) = refl
same_parts p beside seed m n OfSleepers = refl
same_parts p beside seed m n OfConsole = refl
same_parts p beside seed m n OfFaults = refl

-- so that what is ready at one place is so at each
pub ready_anywhere : (p : Cells) (task : ℕ) (b : Bool) (seed : List ℕ) (place : ℕ) → 0 < place
    → ((beside : Beside) (n : ℕ) → beside.seed ≡ seed → n + 1 ≡ place → is_ready (kernel_of p beside n) task ≡ b)
    → ReadyIs p task b
ready_anywhere p task b seed place later ready = λ beside n.
    ready_alike (kernel_of p (record beside { seed = seed }) (place - 1)) (kernel_of p beside n) task
    (λ part is. same_parts p beside seed (place - 1) n part)
    ∙ ready (record beside { seed = seed }) (place - 1) refl (omega (arith, later))

-- what has become of a call has an entry, or waits
abbrev pub enters : Known → Bool
enters (Replies p) = true
enters (Makes child) = true
enters (Sleeps key) = true
enters (Waits awaited) = false

abbrev pub has_entry : CallEnd → Bool
has_entry (Of d) = enters d
has_entry (Moves reply transfer) = true
has_entry (MakesPipe new) = true

entry_known : (row : Prog Answer) (d : Known) (c : Caller) (k : Kernel) (space : AddressSpace)
    (areas : NamedMap AreaState) → Comes row d c k space areas
    → makes_entry (outcome_in (parts k) row).reply ≡ enters d
entry_known row (Replies p) c k space areas comes = ap (λ (a : Answer). makes_entry a.reply) comes.row_is
entry_known row (Makes child) c k space areas comes = ap (λ (a : Answer). makes_entry a.reply) comes.row_is
entry_known row (Sleeps key) c k space areas comes = ap (λ (a : Answer). makes_entry a.reply) comes
entry_known row (Waits awaited) c k space areas comes = ap (λ (a : Answer). makes_entry a.reply) comes

pub entry_of : (row : Prog Answer) (d : CallEnd) (c : Caller) (k : Kernel) (space : AddressSpace)
    (areas : NamedMap AreaState) → ComesTo row d c k space areas
    → makes_entry (outcome_in (parts k) row).reply ≡ has_entry d
entry_of row (Of d) c k space areas comes = entry_known row d c k space areas comes
entry_of row (Moves reply transfer) c k space areas comes = ap (λ (a : Answer). makes_entry a.reply) comes.row_is
entry_of row (MakesPipe new) c k space areas comes = ap (λ (a : Answer). makes_entry a.reply) comes.row_is

-- what has become of a call of these registers
at_registers : (number : ℕ) (args : Args) (r : Regs) (d : CallEnd) (x : Caller) (k : Kernel) (space : AddressSpace)
    (areas : NamedMap AreaState) → number ≡ call_of r → args ≡ args_of r
    → ComesTo (call_row (context_of k) x number args) d x k space areas
    → ComesTo (call_row (context_of k) x (call_of r) (args_of r)) d x k space areas
at_registers number args r d x k space areas e f comes =
    subst (λ n. ComesTo (call_row (context_of k) x n (args_of r)) d x k space areas) e
    (subst (λ a. ComesTo (call_row (context_of k) x number a) d x k space areas) f comes)

module _ (p : Cells) (task : ℕ) (standing : Standing) (stands : StandsAs p task standing) where
  abbrev c : Caller
  c = caller_with task standing stands.space

  found_here : (beside : Beside) (n : ℕ) → outcome_in (parts (kernel_of p beside n)) (caller_of task) ≡ Some c
  found_here beside n = found_beside (held_by p) beside n task ∙ stands.found

  -- its memory is its own, and that and its registers stay where they are set to what they are
  pub own_space : (space : AddressSpace)
      → get_named p.spaces standing.memory.place standing.memory.index ≡ Some space → stands.space ≡ space
  own_space space there = let e : Some stands.space ≡ Some space = sym stands.in_memory ∙ there in cc e

  pub space_same : (after : AddressSpace) → after ≡ stands.space
      → with_named p.spaces standing.memory.place standing.memory.index after ≡ p.spaces
  space_same after e =
      ap (with_named p.spaces standing.memory.place standing.memory.index) e
      ∙ with_same p.spaces standing.memory.place standing.memory.index stands.space stands.in_memory

  pub own_same : (own after : AddressSpace) → Some own ≡ get_named p.spaces standing.memory.place standing.memory.index
      → after ≡ own → with_named p.spaces standing.memory.place standing.memory.index after ≡ p.spaces
  own_same own after there same = space_same after (same ∙ sym (own_space own (sym there)))

  pub registers_same : (after : Regs) → after ≡ standing.registers → map.insert p.registers task after ≡ p.registers
  registers_same after e =
      ap (map.insert p.registers task) e
      ∙ insert_same p.registers task standing.registers
      (parted p.tasks p.registers p.spaces task (caller_with task standing stands.space) stands.found).registered

  -- what its next instruction does
  pub next_told : (next : Next) → ((k : Kernel) → k.areas ≡ p.areas → (outcome_in (parts k) (next_row c)).next ≡ next)
      → NextIn p task next
  next_told next is = subst (λ (o : Option Caller). IsNextOf p.areas o next) (sym stands.found) is

  pub next_here : (next : Next) → NextIn p task next → (k : Kernel) → k.areas ≡ p.areas
      → (outcome_in (parts k) (next_row c)).next ≡ next
  next_here next is = subst (λ (o : Option Caller). IsNextOf p.areas o next) stands.found is

  -- whether its step is ready then
  pub ready_next : (next : Next) → IsAwake p task → NextIn p task next → (beside : Beside) (n : ℕ)
      → is_ready (kernel_of p beside n) task
      ≡ outcome_in (parts (kernel_of p beside n)) (ready_by (context_of (kernel_of p beside n)) c next)
  ready_next next awake is beside n =
      ready_found (kernel_of p beside n) task c Awake (found_here beside n) awake
      ∙ outcome-bind (parts (kernel_of p beside n)) (next_row c)
      (λ (x : Stands). ready_by (context_of (kernel_of p beside n)) c x.next)
      ∙ ap (λ x. outcome_in (parts (kernel_of p beside n)) (ready_by (context_of (kernel_of p beside n)) c x))
      (next_here next is (kernel_of p beside n) refl)

  pub ready_call : IsAwake p task → NextIn p task Calls → (beside : Beside) (n : ℕ) (answer : Answer)
      → outcome_in (parts (kernel_of p beside n)) (call_row (context_of (kernel_of p beside n)) c
      (call_of standing.registers) (args_of standing.registers)) ≡ answer
      → is_ready (kernel_of p beside n) task ≡ makes_entry answer.reply
  ready_call awake calls beside n answer is =
      ready_next Calls awake calls beside n
      ∙ outcome-bind (parts (kernel_of p beside n))
      (call_row (context_of (kernel_of p beside n)) c (call_of standing.registers) (args_of standing.registers))
      (λ answer. done (makes_entry answer.reply))
      ∙ ap (λ (x : Answer). makes_entry x.reply) is

  -- a call of this task, in the kernel of the cells
  pub calling_here : (context : Context) (own : AddressSpace) (taken : ℕ) (beside : Beside) (n : ℕ)
      → context.task ≡ task → IsOf context standing
      → get_named p.spaces standing.memory.place standing.memory.index ≡ Some own → taken ≡ length p.console
      → beside.seed ≡ context.seed.now → n + 1 ≡ context.place
      → IsCalling c (kernel_of p beside n) context own p.areas p.tasks p.sleepers taken
  calling_here context own taken beside n is known there count seed place = record {
    task = sym is;
    group = sym known.group;
    memory = sym known.memory;
    table = sym known.table;
    place = place;
    seed = seed;
    space = own_space own there;
    there = stands.in_memory;
    areas = refl;
    tasks = refl;
    sleepers = refl;
    console = sym count;
  }

  -- and what has become of it
  pub comes_here : (context : Context) (own : AddressSpace) (taken : ℕ) (was d : CallEnd) (space : AddressSpace)
      (areas : NamedMap AreaState) (number : ℕ) (args : Args) → context.task ≡ task → IsOf context standing
      → get_named p.spaces standing.memory.place standing.memory.index ≡ Some own → taken ≡ length p.console
      → number ≡ call_of standing.registers → args ≡ args_of standing.registers
      → ((x : Caller) (k : Kernel) → IsCalling x k context own p.areas p.tasks p.sleepers taken → k.files ≡ p.files
      → x.registers ≡ standing.registers → ComesTo (call_row (context_of k) x number args) was x k space areas)
      → was ≡ d → (beside : Beside) (n : ℕ) → beside.seed ≡ context.seed.now → n + 1 ≡ context.place
      → ComesTo (call_row (context_of (kernel_of p beside n)) c (call_of standing.registers)
      (args_of standing.registers)) d c (kernel_of p beside n) space areas
  comes_here context own taken was d space areas number args is known there count numbered same row become =
      λ beside n seed place.
      let k : Kernel = kernel_of p beside n in
      subst (λ (d : CallEnd). ComesTo (call_row (context_of k) c (call_of standing.registers)
      (args_of standing.registers)) d c k space areas) become
      (at_registers number args standing.registers was c k space areas numbered same
      (row c k (calling_here context own taken beside n is known there count seed place) refl refl))

  -- so that its step is ready where the call has an entry
  pub ready_called : (context : Context) (d : CallEnd) (space : AddressSpace) (areas : NamedMap AreaState)
      → 0 < context.place → IsAwake p task → NextIn p task Calls
      → ((beside : Beside) (n : ℕ) → beside.seed ≡ context.seed.now → n + 1 ≡ context.place
      → ComesTo (call_row (context_of (kernel_of p beside n)) c (call_of standing.registers)
      (args_of standing.registers)) d c (kernel_of p beside n) space areas) → ReadyIs p task (has_entry d)
  ready_called context d space areas later awake calls comes =
      ready_anywhere p task (has_entry d) context.seed.now context.place later (λ beside n seed place.
      ready_call awake calls beside n
      (outcome_in (parts (kernel_of p beside n)) (call_row (context_of (kernel_of p beside n)) c
      (call_of standing.registers) (args_of standing.registers))) refl
      ∙ entry_of (call_row (context_of (kernel_of p beside n)) c (call_of standing.registers)
      (args_of standing.registers)) d c (kernel_of p beside n) space areas (comes beside n seed place))

  -- ---- runs

  module _ (count : ℕ) (after : Regs) (spaces' : NamedMap AddressSpace)
      (runs : RunsIn task standing.memory count standing.registers after p.spaces spaces') where
    -- the memory that it ran over is its own
    same_space : runs.space ≡ stands.space
    same_space = sym (own_space runs.space runs.there)

    ran_here : ran count (going_in task stands.space standing.registers) ≡ Some (going_in task runs.left after)
    ran_here = ap (λ a. ran count (going_in task a standing.registers)) (sym same_space) ∙ runs.steps

    -- what the cells hold then
    abbrev pub held_run : HeldParts
    held_run = record (held_by p) { registers = map.insert p.registers task after; spaces = spaces' }

    pub step_run : (h : HeldParts) (beside : Beside) (n : ℕ) → IsAwake p task → 1 ≤ count → count ≤ 10000 → h ≡ held_run
        → step (kernel_of p beside n) (Run task count) ≡ Some (kernel_with h beside (n + 1))
    step_run h beside n awake low high e =
        step_found (kernel_of p beside n) (Run task count) c Awake
        ((OfSpace standing.memory, Some runs.left) ∷ task_change task after ∷ []) refl (found_here beside n) awake
        (row_ran count c runs.left after (parts (kernel_of p beside n)) ran_here low high)
        ∙ ap (λ x. Some (kernel_with (record (held_by p) {
          registers = map.insert p.registers task after;
          spaces = x;
        }) beside (n + 1))) (sym runs.put)
        ∙ ap (λ x. Some (kernel_with x beside (n + 1))) (sym e)

    -- its first instruction goes on, so that the step was ready
    stops : 1 ≤ count → count ≤ 10000 → (next : Next) → next_in c ≡ next → goes_on next ≡ false → ⊥
    stops low high next is off = by next is off
      where
        ran_alone : run_alone count c ≡ Some ((OfSpace standing.memory, Some runs.left) ∷ task_change task after ∷ [])
        ran_alone = alone_ran count c runs.left after ran_here low high

        short : (told : Next) → StopsAt count 0 told (next_in c) → ⊥
        short told stop =
            absurd (cc (
              ran_alone,
              alone_short count c stands.space standing.registers 0 told
                  (ran_none (going_in task stands.space standing.registers)) stop (λ e. omega arith),
            ))

        by : (next : Next) → next_in c ≡ next → goes_on next ≡ false → ⊥
        by Goes is off = absurd (cc off)
        by Calls is off = short Calls (omega arith, is)
        by (Traps signal) is off = short (Traps signal) (omega arith, is)
        by (Touches area) is off = short (Touches area) (omega arith, is)

    goes : 1 ≤ count → count ≤ 10000 → (next : Next) → next_in c ≡ next → next_in c ≡ Goes
    goes low high Goes is = is
    goes low high Calls is = absurd (stops low high Calls is refl)
    goes low high (Traps signal) is = absurd (stops low high (Traps signal) is refl)
    goes low high (Touches area) is = absurd (stops low high (Touches area) is refl)

    pub ready_run : IsAwake p task → 1 ≤ count → count ≤ 10000 → ReadyIs p task true
    ready_run awake low high = λ beside n.
        ready_found (kernel_of p beside n) task c Awake (found_here beside n) awake
        ∙ outcome-bind (parts (kernel_of p beside n)) (next_row c)
        (λ (x : Stands). ready_by (context_of (kernel_of p beside n)) c x.next)
        ∙ ap (λ (x : Stands). outcome_in (parts (kernel_of p beside n))
        (ready_by (context_of (kernel_of p beside n)) c x.next))
        (stands_alone c (parts (kernel_of p beside n)) Goes (goes low high (next_in c) refl) refl)

    -- what its task is then
    found_after : (h : HeldParts) (beside : Beside) (n : ℕ) → h ≡ held_run
        → outcome_in (parts (kernel_with h beside n)) (caller_of task)
        ≡ Some (caller_with task (record standing { registers = after }) runs.left)
    found_after h beside n e =
        found_beside h beside n task
        ∙ ap (λ (x : HeldParts). found_in x.tasks x.registers x.spaces task) e
        ∙ ap (λ x. found_in p.tasks (map.insert p.registers task after) x task) runs.put
        ∙ found_by p.tasks (map.insert p.registers task after)
        (with_named p.spaces standing.memory.place standing.memory.index runs.left) task before.group after runs.left
        before.live before.grouped (get-insert_same p.registers task after)
        (ap (λ (m : Made). get_named (with_named p.spaces standing.memory.place standing.memory.index runs.left)
        m.place m.index) (sym memory)
        ∙ get-with_same p.spaces standing.memory.place standing.memory.index runs.left)
        ∙ ap (λ (x : Caller). Some (record x { registers = after; space = runs.left })) (sym before.is)
      where
        before : Parted p.tasks p.registers p.spaces task (caller_with task standing stands.space)
        before = parted p.tasks p.registers p.spaces task (caller_with task standing stands.space) stands.found

        memory : standing.memory ≡ before.group.memory
        memory = ap (λ (x : Caller). x.memory) before.is

    -- a run that stopped is whole
    pub whole_run : (h : HeldParts) (beside : Beside) (n : ℕ) (before : Kernel) (told : Next) → h ≡ held_run
        → StopsAt 10000 count told (next_of (acting_in task runs.left) after)
        → is_whole (Run task count) before (kernel_with h beside n) ≡ true
    whole_run h beside n before told e = by told
      where
        k : Kernel
        k = kernel_with h beside n

        stopped : goes_on (next_of (acting_in task runs.left) after) ≡ false → is_whole (Run task count) before k ≡ true
        stopped off =
            ap (λ o. nat_eq count 10000 || not (goes_next o) || has_touching before task)
            (found_after h beside n e)
            ∙ ap (λ x. nat_eq count 10000 || not x || has_touching before task) off
            ∙ ap (λ x. x || has_touching before task) (or_true (nat_eq count 10000))

        by : (told : Next) → StopsAt 10000 count told (next_of (acting_in task runs.left) after)
            → is_whole (Run task count) before k ≡ true
        by Goes all = ap (λ x. nat_eq x 10000 || not (has_next k task) || has_touching before task) all
        by Calls stop = stopped (ap goes_on stop.1)
        by (Traps signal) stop = stopped (ap goes_on stop.1)
        by (Touches area) stop = stopped (ap goes_on stop.1)

    -- the memory that it left is there
    pub left_there : get_named spaces' standing.memory.place standing.memory.index ≡ Some runs.left
    left_there =
        ap (λ m. get_named m standing.memory.place standing.memory.index) runs.put
        ∙ get-with_same p.spaces standing.memory.place standing.memory.index runs.left

    -- one of no instruction leaves all as it was, and stands before a call or a trap
    nothing : count ≡ 0 → going_in task runs.left after ≡ going_in task stands.space standing.registers
    nothing none = nothing_ran count _ _ ran_here (omega arith)

    pub registers_left : count ≡ 0 → map.insert p.registers task after ≡ p.registers
    registers_left none = registers_same after (ap (λ (g : GoingTask). g.registers) (nothing none))

    pub spaces_left : count ≡ 0 → spaces' ≡ p.spaces
    spaces_left none = runs.put ∙ space_same runs.left (ap (λ (g : GoingTask). g.acting.reach.space) (nothing none))

    next_alone : (told : Next) → count ≡ 0 → StopsAt 10000 count told (next_of (acting_in task runs.left) after)
        → next_in c ≡ told
    next_alone told none stop =
        sym (ap (λ (g : GoingTask). next_of g.acting g.registers) (nothing none))
        ∙ sym (stop_none count told _ stop none)

    pub next_left : (told : Next) → count ≡ 0 → StopsAt 10000 count told (next_of (acting_in task runs.left) after)
        → touches_area told ≡ false → NextIn p task told
    next_left told none stop apart =
        next_told told (λ k areas. ap (λ (x : Stands). x.next)
        (stands_alone c (parts k) told (next_alone told none stop) apart))

    pub touching_left : (told : Next) → count ≡ 0
        → StopsAt 10000 count told (next_of (acting_in task runs.left) after)
        → is_touching p task ≡ touches_area told
    touching_left told none stop = ap touches_next stands.found ∙ ap touches_area (next_alone told none stop)

  -- ---- instructions that touch a shared area

  module _ (touching : is_touching p task ≡ true) where
    alone : run_alone 1 c ≡ None
    alone =
        let touched = area_touched (next_in c) (sym (ap touches_next stands.found) ∙ touching) in
        alone_touching c touched.0 touched.1

    pub step_touching : (after : Regs) (space : AddressSpace) (areas : NamedMap AreaState) (h : HeldParts)
        (beside : Beside) (n : ℕ) → IsAwake p task → Steps c (kernel_of p beside n) after space areas
        → h ≡ record (held_by p) {
          registers = map.insert p.registers task after;
          spaces = with_named p.spaces standing.memory.place standing.memory.index space;
          areas = areas;
        }
        → step (kernel_of p beside n) (Run task 1) ≡ Some (kernel_with h beside (n + 1))
    step_touching after space areas h beside n awake steps e =
        step_found (kernel_of p beside n) (Run task 1) c Awake steps.changes refl (found_here beside n) awake
        (row_by_step 1 c alone (parts (kernel_of p beside n)) refl ∙ steps.row_is)
        ∙ ap (λ (m : Kernel). Some (record m { entries = n + 1 })) steps.done_is
        ∙ ap (λ x. Some (kernel_with x beside (n + 1))) (sym e)

    pub whole_touching : (beside : Beside) (n : ℕ) (after : Kernel)
        → is_whole (Run task 1) (kernel_of p beside n) after ≡ true
    whole_touching beside n after =
        ap (λ o. nat_eq 1 10000 || not (has_next after task) || touches_next o)
        (found_beside (held_by p) beside n task)
        ∙ ap (λ b. nat_eq 1 10000 || not (has_next after task) || b) touching
        ∙ or_true (nat_eq 1 10000 || not (has_next after task))

  -- ---- calls

  stands_here : (number : ℕ) (args : Args) → number ≡ call_of standing.registers → args ≡ args_of standing.registers
      → stands_at number args standing.registers Calls ≡ true
  stands_here number args is same =
      ap (λ b. b && same_args (args_of standing.registers) args)
      (ap (λ x. nat_eq x number) (sym is) ∙ nat_same number)
      ∙ ap (λ x. same_args x args) (sym same) ∙ args_same args

  pub step_call : (number : ℕ) (args : Args) (given : Given) (value : ℤ) (changes : List Change) (h : HeldParts)
      (between registers : map.FinMap nat_cmp Regs) (beside : Beside) (n : ℕ) → IsAwake p task → NextIn p task Calls
      → number ≡ call_of standing.registers → args ≡ args_of standing.registers
      → given ≡ record { fresh = []; rises = [] }
      → outcome_in (parts (kernel_of p beside n)) (call_row (context_of (kernel_of p beside n)) c number args)
      ≡ replies value changes
      → changed changes (kernel_of p beside n) ≡ kernel_with (record h { registers = between }) beside n
      → registers ≡ map.insert between task (replied standing.registers value)
      → step (kernel_of p beside n) (Call task number args given value)
      ≡ Some (kernel_with (record h { registers = registers }) beside (n + 1))
  step_call number args given value changes h between registers beside n awake calls is same nothing_met row left f =
      step_found k (Call task number args given value) c Awake (changes ++ going_on c value)
      (ap (may_meet k.nodes) nothing_met) (found_here beside n) awake
      (outcome-bind (parts k) (next_row c) (λ (x : Stands). call_at (context_of k) c number args value given x.next)
      ∙ ap (λ x. outcome_in (parts k) (call_at (context_of k) c number args value given x))
      (next_here Calls calls k refl)
      ∙ ap (λ b. outcome_in (parts k) (if b then by_given (context_of k) c number args value given else done None))
      (stands_here number args is same)
      ∙ ap (λ x. outcome_in (parts k) (by_given (context_of k) c number args value x)) nothing_met
      ∙ call_quiet (parts k) (context_of k) c number args value value changes (record { fresh = []; rises = [] }) row
      refl
      ∙ ap (λ b. if b then Some (changes ++ going_on c value) else None) (int_same value))
      ∙ ap Some (ap (λ (m : Kernel). record m { entries = n + 1 })
      (changed-append changes (going_on c value) k
      ∙ ap (put (OfTask task) (Some (replied standing.registers value))) left)
      ∙ ap (λ x. kernel_with (record h { registers = x }) beside (n + 1)) (sym f))
    where
      k : Kernel
      k = kernel_of p beside n

  -- a task that was woken
  pub step_woken : (number : ℕ) (args : Args) (given : Given) (waiting : FutexList)
      (registers : map.FinMap nat_cmp Regs) (beside : Beside) (n : ℕ) → wait_of p.sleepers task ≡ Woken
      → number ≡ call_of standing.registers → args ≡ args_of standing.registers
      → given ≡ record { fresh = []; rises = [] } → waiting ≡ after_leave p.sleepers task
      → registers ≡ map.insert p.registers task (replied standing.registers (pos 0))
      → step (kernel_of p beside n) (Call task number args given (pos 0))
      ≡ Some (kernel_with (record (held_by p) { registers = registers; sleepers = waiting }) beside (n + 1))
  step_woken number args given waiting registers beside n woken is same nothing_met left f =
      step_found k (Call task number args given (pos 0)) c Woken
      ((OfSleepers, after_leave p.sleepers task) ∷ going_on c (pos 0))
      (ap (may_meet k.nodes) nothing_met) (found_here beside n) woken
      (ap (λ b. outcome_in (parts k) (if b
      then look OfSleepers (λ list. done (Some ((OfSleepers, after_leave list task) ∷ going_on c (pos 0))))
      else done None)) at)
      ∙ ap (λ x. Some (kernel_with (record (held_by p) {
        registers = x;
        sleepers = after_leave p.sleepers task;
      }) beside (n + 1))) (sym f)
      ∙ ap (λ x. Some (kernel_with (record (held_by p) { registers = registers; sleepers = x }) beside (n + 1)))
      (sym left)
    where
      k : Kernel
      k = kernel_of p beside n

      at : woken_at c number args (pos 0) given ≡ true
      at =
          ap (λ b. b && is_quiet given && int_eq (pos 0) (pos 0)) (stands_here number args is same)
          ∙ ap (λ (x : Given). is_quiet x && int_eq (pos 0) (pos 0)) nothing_met

  pub ready_woken : wait_of p.sleepers task ≡ Woken → ReadyIs p task true
  ready_woken woken = λ beside n. ready_found (kernel_of p beside n) task c Woken (found_here beside n) woken

  pub ready_asleep : wait_of p.sleepers task ≡ Asleep → ReadyIs p task false
  ready_asleep asleep = λ beside n. ready_found (kernel_of p beside n) task c Asleep (found_here beside n) asleep

  -- one that goes to sleep
  pub step_sleep : (waiting : FutexList) (key : FutexKey) (beside : Beside) (n : ℕ) → IsAwake p task
      → NextIn p task Calls
      → outcome_in (parts (kernel_of p beside n)) (call_row (context_of (kernel_of p beside n)) c
      (call_of standing.registers) (args_of standing.registers))
      ≡ sleeps ((OfSleepers, after_sleep p.sleepers task key) ∷ [])
      → waiting ≡ after_sleep p.sleepers task key
      → step (kernel_of p beside n) (Sleep task)
      ≡ Some (kernel_with (record (held_by p) { sleepers = waiting }) beside (n + 1))
  step_sleep waiting key beside n awake calls row left =
      step_found k (Sleep task) c Awake ((OfSleepers, after_sleep p.sleepers task key) ∷ []) refl (found_here beside n)
      awake
      (outcome-bind (parts k) (next_row c) (λ (x : Stands). sleep_at (context_of k) c x.next)
      ∙ ap (λ x. outcome_in (parts k) (sleep_at (context_of k) c x)) (next_here Calls calls k refl)
      ∙ outcome-bind (parts k)
      (call_row (context_of k) c (call_of standing.registers) (args_of standing.registers))
      (λ (answer : Answer). done (slept_by answer answer.reply))
      ∙ ap (λ (answer : Answer). slept_by answer answer.reply) row)
      ∙ ap (λ x. Some (kernel_with (record (held_by p) { sleepers = x }) beside (n + 1))) (sym left)
    where
      k : Kernel
      k = kernel_of p beside n

  -- ---- ends

  pub step_end : (signal : ℕ) (h : HeldParts) (beside : Beside) (n : ℕ) → IsAwake p task → NextIn p task (Traps signal)
      → changed (outcome_in (parts (kernel_of p beside n)) (group_end c (Killed signal))) (kernel_of p beside n)
      ≡ kernel_with h beside n
      → step (kernel_of p beside n) (End task signal) ≡ Some (kernel_with h beside (n + 1))
  step_end signal h beside n awake traps left =
      step_found k (End task signal) c Awake (outcome_in (parts k) (group_end c (Killed signal))) refl
      (found_here beside n) awake
      (outcome-bind (parts k) (next_row c) (λ (x : Stands). end_at signal c x.next)
      ∙ ap (λ x. outcome_in (parts k) (end_at signal c x)) (next_here (Traps signal) traps k refl)
      ∙ ap (λ b. outcome_in (parts k) (if b then killed signal c else done None)) (nat_same signal)
      ∙ outcome-bind (parts k) (group_end c (Killed signal)) (λ changes. done (Some changes)))
      ∙ ap (λ (m : Kernel). Some (record m { entries = n + 1 })) left
    where
      k : Kernel
      k = kernel_of p beside n
