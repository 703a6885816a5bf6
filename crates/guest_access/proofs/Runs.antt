-- Runs of instructions: one behind another, with no shared area in hand.
use Rattle.std.proofs.Common.{◌≡◌, ◌≢◌, ℕ, zero, suc, ◌+◌, ◌-◌, ◌≤◌, ◌<◌, Bool, true, false, cond, List, [], ◌∷◌}
use Rattle.std.proofs.Common.{◌++◌, Option, Some, None, option_map, refl, sym, ap, ◌∙◌, arith, add-zero, ◌⊎◌, inl, inr}
use Rattle.std.proofs.Common.{add-one, eqb}
use Rattle.std.specs.Prelude.{option_and_then, nat_le, ◌&&◌, ◌%◌, ◌/◌, is_some}
use Rattle.std.proofs.lemmas.Bool.{le-leb}
use Rattle.std.specs.FinMap as map
use Rattle.rv_table.specs.Areas.{is_area}
use Rattle.rv_table.specs.declared.error.Area.{Area}
use Rattle.rv_table.specs.declared.registers.Regs.{Regs}
use Rattle.rv_table.specs.Bytes.{behind}
use Rattle.rv_exec.specs.Writes.{Write, Stores, Reserves, Releases, all_after}
use Rattle.rv_exec.specs.Execution.{Done, exec}
use Rattle.rv_exec.specs.Execution as done
use Rattle.mm_areas.specs.Pages.{Held, Bytes, PageOf, Mapped}
use Rattle.mm_space.specs.Accesses.{page_number, page_offset}
use Rattle.mm_space.specs.Handed.{AreaState, InHand, area_in}
use Rattle.mm_space.specs.Puts.{changed_in_hand, with_area, put_in_area, put_held, put_mapped, put_byte, put_bytes}
use Rattle.mm_space.specs.Puts.{put_run}
use Rattle.mm_space.specs.Reserves.{reserve_in_area, reserve_held, reserve_mapped, leave_in_area, leave_held}
use Rattle.mm_space.specs.Reserves.{leave_mapped}
use Rattle.mm_space.specs.Spaces.{AddressSpace, Reach}
use Rattle.quantum.specs.Acting.{Acting, acting_on, memory_of, acting_after_write}
use Rattle.rv_exec.specs.Courses as courses
use Rattle.rv_exec.specs.Courses.{after_instructions as ran_over}
use Rattle.quantum.specs.Instructions.{GoingTask, ran}
use Rattle.kernel_model.specs.declared.caller.Caller.{Caller}
use Rattle.kernel_model.specs.declared.kernel.Part.TheVariants.{OfSpace, OfArea}
use Rattle.kernel_model.specs.declared.traps.Next.{Next}
use Rattle.kernel_model.specs.declared.traps.Next.TheVariants.{Goes, Calls, Traps, Touches}
use Rattle.kernel_model.specs.machine.Instructions.{StopsAt, next_by, next_of, goes_on, touches_area}
use Rattle.kernel_model.specs.machine.Spaces.{acting_in, acting_with, going_in, going_with}
use Rattle.kernel_model.specs.entries.Areas.{Stands, stands_by, stands_lacking, next_tried, next_row, handed_in, asked}
use Rattle.kernel_model.specs.entries.Areas.{comes_to, tried_with}
use Rattle.kernel_model.specs.entries.Parts.{Parts, done as comes, look, outcome_in, Change}
use Rattle.kernel_model.specs.entries.Steps.{run_changes, run_alone, run_row, or_step, step_with, step_row, task_change}
use Rattle.kernel_model.proofs.Trees.{outcome-bind}
use Rattle.guest_access.specs.Lending.{names}

-- ---- one behind another

-- a task after an instruction's work, and after one instruction
-- RISC-V Unprivileged ISA 20191213, 1.2
abbrev pub went_by : Acting → Done → Option GoingTask
went_by a done = courses.went_by acting_after_write a done

abbrev pub one_more : GoingTask → Option GoingTask
one_more g = courses.one_instruction_more memory_of acting_after_write g

-- no instruction changes nothing
pub ran_none : (g : GoingTask) → ran 0 g ≡ Some g
unfolding ran_over
ran_none g = refl

-- the last of so many instructions runs behind the others
ran_suc : (n : ℕ) (g : GoingTask) → ran (suc n) g ≡ option_and_then one_more (ran n g)
unfolding ran_over
ran_suc n g = refl

pub ran_last : (n : ℕ) (g : GoingTask) → ran (n + 1) g ≡ option_and_then one_more (ran n g)
ran_last n g = ap (λ m. ran m g) (add-one n) ∙ ran_suc n g

-- what stops runs no further
none_further : (a : Acting) (done : Done) → goes_on (next_by done) ≡ false → went_by a done ≡ None
none_further a (done.Goes r ws) stopped = cc
none_further a done.Calls stopped = refl
none_further a (done.Traps signal) stopped = refl
none_further a (done.Touches area) stopped = refl

stops : (g : GoingTask) → goes_on (next_of g.acting g.registers) ≡ false → one_more g ≡ None
stops g stopped = none_further g.acting (exec (memory_of g.acting) g.registers) stopped

-- behind an instruction that does not go on, none goes on
none_goes_on : (n j : ℕ) (g : GoingTask) → ran n g ≡ None → ran (n + j) g ≡ None
none_goes_on n zero g e = ap (λ m. ran m g) (add-zero n) ∙ e
none_goes_on n (suc j) g e =
    let further : n + suc j ≡ n + j + 1 = omega arith in
    ap (λ m. ran m g) further ∙ ran_last (n + j) g ∙ ap (option_and_then one_more) (none_goes_on n j g e)

-- a run that stopped early is none of so many instructions
ran_short : (n count : ℕ) (g h : GoingTask) → ran n g ≡ Some h → n < count
    → goes_on (next_of h.acting h.registers) ≡ false → ran count g ≡ None
ran_short n count g h so_far short stopped =
    let further : n + 1 + (count - (n + 1)) ≡ count = omega arith in
    let none : ran (n + 1) g ≡ None = ran_last n g ∙ ap (option_and_then one_more) so_far ∙ stops h stopped in
    sym (ap (λ m. ran m g) further) ∙ none_goes_on (n + 1) (count - (n + 1)) g none

-- ---- the names of the areas in hand stay

names_with : (name : Area) (change : AreaState → AreaState) (hand : List InHand)
    → names (with_area name change hand) ≡ names hand
names_with name change [] = refl
names_with name change (h ∷ hs) =
    by (is_area h.name name) (ap (λ ns. h.name ∷ ns) (names_with name change hs))
  where
    by : (b : Bool) → (h.name ∷ names (with_area name change hs)) ≡ (h.name ∷ names hs)
        → names (cond b (changed_in_hand change h ∷ hs) (h ∷ with_area name change hs)) ≡ (h.name ∷ names hs)
    by true e = refl
    by false e = e

module _ (task page offset value : ℕ) (r : Reach) where
  put_held_names : (held : Held) → names (put_held task page offset value held r).hand ≡ names r.hand
  put_held_names (Bytes bytes) = refl
  put_held_names (PageOf name number) = names_with name (put_in_area task number offset value) r.hand

  put_mapped_names : (m : Option Mapped) → names (put_mapped task page offset value m r).hand ≡ names r.hand
  put_mapped_names None = refl
  put_mapped_names (Some m) = put_held_names m.held

pub put_byte_names : (task address value : ℕ) (r : Reach) → names (put_byte task address value r).hand ≡ names r.hand
put_byte_names task address value r =
    put_mapped_names task (page_number address) (page_offset address) value r
    (map.get r.space.mapping.pages (page_number address))

put_bytes_names : (task at count value : ℕ) (r : Reach) → names (put_bytes task at count value r).hand ≡ names r.hand
unfolding put_bytes
put_bytes_names task at zero value r = refl
put_bytes_names task at (suc n) value r =
    put_byte_names task at (value % 256) (put_bytes task (behind at) n (value / 256) r)
    ∙ put_bytes_names task (behind at) n (value / 256) r

pub put_run_names : (task at : ℕ) (bytes : List ℕ) (r : Reach) → names (put_run task at bytes r).hand ≡ names r.hand
unfolding put_run
put_run_names task at [] r = refl
put_run_names task at (b ∷ bs) r =
    put_run_names task (behind at) bs (put_byte task at b r) ∙ put_byte_names task at b r

reserve_names : (task offset : ℕ) (m : Option Mapped) (hand : List InHand)
    → names (reserve_mapped task offset m hand) ≡ names hand
reserve_names task offset None hand = refl
reserve_names task offset (Some m) hand = by m.held
  where
    by : (held : Held) → names (reserve_held task offset held hand) ≡ names hand
    by (Bytes bytes) = refl
    by (PageOf name number) = names_with name (reserve_in_area task number offset) hand

leave_names : (task : ℕ) (m : Option Mapped) (hand : List InHand) → names (leave_mapped task m hand) ≡ names hand
leave_names task None hand = refl
leave_names task (Some m) hand = by m.held
  where
    by : (held : Held) → names (leave_held task held hand) ≡ names hand
    by (Bytes bytes) = refl
    by (PageOf name number) = names_with name (leave_in_area task) hand

write_names : (w : Write) (a : Acting) → names (acting_after_write w a).reach.hand ≡ names a.reach.hand
write_names (Stores at width value) a = put_bytes_names a.task at width value a.reach
write_names (Reserves at width) a =
    reserve_names a.task (page_offset at) (map.get a.reach.space.mapping.pages (page_number at)) a.reach.hand
write_names (Releases at) a =
    leave_names a.task (map.get a.reach.space.mapping.pages (page_number at)) a.reach.hand

writes_names : (ws : List Write) (a : Acting) → names (all_after acting_after_write ws a).reach.hand
    ≡ names a.reach.hand
writes_names [] a = refl
writes_names (w ∷ ws) a = writes_names ws (acting_after_write w a) ∙ write_names w a

one_names : (a : Acting) (done : Done) (h : GoingTask) → went_by a done ≡ Some h
    → names h.acting.reach.hand ≡ names a.reach.hand
one_names a (done.Goes r ws) h e =
    let is : h ≡ record { acting = all_after acting_after_write ws a; registers = r } = cc e in
    ap (λ (g : GoingTask). names g.acting.reach.hand) is ∙ writes_names ws a
one_names a done.Calls h e = absurd (cc e)
one_names a (done.Traps signal) h e = absurd (cc e)
one_names a (done.Touches area) h e = absurd (cc e)

pub ran_names : (n : ℕ) (g h : GoingTask) → ran n g ≡ Some h → names h.acting.reach.hand ≡ names g.acting.reach.hand
ran_names zero g h e =
    let is : h ≡ g = cc (e, ran_none g) in ap (λ (x : GoingTask). names x.acting.reach.hand) is
ran_names (suc n) g h e = by (ran n g) (λ m so_far. ran_names n g m so_far) (sym (ran_suc n g) ∙ e)
  where
    by : (o : Option GoingTask) → ((m : GoingTask) → o ≡ Some m → names m.acting.reach.hand ≡ names g.acting.reach.hand)
        → option_and_then one_more o ≡ Some h → names h.acting.reach.hand ≡ names g.acting.reach.hand
    by None before e = absurd (cc e)
    by (Some m) before e = one_names m.acting (exec (memory_of m.acting) m.registers) h e ∙ before m refl

-- so with no area in hand there is none then
unnamed : (hand : List InHand) → names hand ≡ [] → hand ≡ []
unnamed [] e = refl
unnamed (h ∷ hs) e = absurd (cc e)

ran_alone : (n : ℕ) (g h : GoingTask) → g.acting.reach.hand ≡ [] → ran n g ≡ Some h → h.acting.reach.hand ≡ []
ran_alone n g h none e = unnamed h.acting.reach.hand (ran_names n g h e ∙ ap names none)

-- ---- what a run tells of the kernel

-- a task with such memory in reach, where that is no area in hand
alone : (task : ℕ) (r : Reach) → r.hand ≡ [] → acting_on task r ≡ acting_in task r.space
alone task r none = ap (λ (hand : List InHand). acting_on task (record { space = r.space; hand = hand })) none

-- a run over no area in hand is one in the address space
pub run_in_space : (n task : ℕ) (a b : Reach) (r r' : Regs) → a.hand ≡ []
    → ran n (record { acting = acting_on task a; registers = r })
    ≡ Some (record { acting = acting_on task b; registers = r' })
    → ran n (going_in task a.space r) ≡ Some (going_in task b.space r')
run_in_space n task a b r r' none told =
    ap (λ (x : Acting). ran n (record { acting = x; registers = r })) (sym (alone task a none))
    ∙ told
    ∙ ap (λ (x : Acting). Some (record { acting = x; registers = r' }))
    (alone task b (ran_alone n _ (record { acting = acting_on task b; registers = r' }) none told))

-- and so is what the next instruction does there
pub next_in_space : (n task : ℕ) (a b : Reach) (r r' : Regs) → a.hand ≡ []
    → ran n (record { acting = acting_on task a; registers = r })
    ≡ Some (record { acting = acting_on task b; registers = r' })
    → next_of (acting_in task b.space) r' ≡ next_by (exec (memory_of (acting_on task b)) r')
next_in_space n task a b r r' none told =
    ap (λ (x : Acting). next_of x r')
    (sym (alone task b (ran_alone n _ (record { acting = acting_on task b; registers = r' }) none told)))

-- nothing ran, so that all is as it was
pub nothing_ran : (count : ℕ) (g h : GoingTask) → ran count g ≡ Some h → count < 1 → h ≡ g
nothing_ran count g h told few =
    let none : count ≡ 0 = omega arith in
    let start : ran count g ≡ Some g = ap (λ n. ran n g) none ∙ ran_none g in
    cc (told, start)

-- ---- the row of a run

module _ (n : ℕ) (c : Caller) (after : AddressSpace) (r : Regs) where
  abbrev start : GoingTask
  start = going_in c.task c.space c.registers

  -- of so many instructions
  pub alone_ran : ran n (going_in c.task c.space c.registers) ≡ Some (going_in c.task after r) → 1 ≤ n → n ≤ 10000
      → run_alone n c ≡ Some ((OfSpace c.memory, Some after) ∷ task_change c.task r ∷ [])
  alone_ran told low high =
      ap (λ b. cond (b && nat_le n 10000) (option_map (run_changes c) (ran n start)) None) (le-leb 1 n low)
      ∙ ap (λ b. cond b (option_map (run_changes c) (ran n start)) None) (le-leb n 10000 high)
      ∙ ap (option_map (run_changes c)) told

  pub row_ran : (s : Parts) → ran n (going_in c.task c.space c.registers) ≡ Some (going_in c.task after r)
      → 1 ≤ n → n ≤ 10000
      → outcome_in s (run_row n c) ≡ Some ((OfSpace c.memory, Some after) ∷ task_change c.task r ∷ [])
  row_ran s told low high = ap (λ o. outcome_in s (or_step n c o)) (alone_ran told low high)

  -- and of one that stopped before, which does not fit alone
  pub alone_short : (count : ℕ) (told : Next) → ran count (going_in c.task c.space c.registers)
      ≡ Some (going_in c.task after r)
      → StopsAt n count told (next_of (acting_in c.task after) r) → count ≢ n → run_alone n c ≡ None
  alone_short count told ran_is stop apart =
      ap (λ o. cond (nat_le 1 n && nat_le n 10000) (option_map (run_changes c) o) None) (none told stop)
      ∙ by (nat_le 1 n && nat_le n 10000)
    where
      none : (told : Next) → StopsAt n count told (next_of (acting_in c.task after) r) → ran n start ≡ None
      none Goes stop = absurd (apart stop)
      none Calls stop = ran_short count n start (going_in c.task after r) ran_is stop.0 (ap goes_on stop.1)
      none (Traps signal) stop = ran_short count n start (going_in c.task after r) ran_is stop.0 (ap goes_on stop.1)
      none (Touches area) stop = ran_short count n start (going_in c.task after r) ran_is stop.0 (ap goes_on stop.1)

      by : (b : Bool) → cond {A = Option (List Change)} b None None ≡ None
      by true = refl
      by false = refl

module _ (n : ℕ) (c : Caller) (alone : run_alone n c ≡ None) where
  -- a run that does not fit alone fits where it is one instruction, by the areas that this touches
  pub row_by_step : (s : Parts) → n ≡ 1 → outcome_in s (run_row n c) ≡ outcome_in s (step_row c)
  row_by_step s one =
      ap (λ o. outcome_in s (or_step n c o)) alone
      ∙ ap (λ m. outcome_in s (cond (eqb m 1) (step_row c) (comes None))) one

  -- and not where it is more
  pub row_none : (s : Parts) → eqb n 1 ≡ false → outcome_in s (run_row n c) ≡ None
  row_none s more =
      ap (λ o. outcome_in s (or_step n c o)) alone
      ∙ ap (λ b. outcome_in s (cond b (step_row c) (comes None))) more

-- ---- the next instruction, with the areas that it touches

-- an instruction that does not go on is no run
pub stopped_none : (g : GoingTask) → goes_on (next_of g.acting g.registers) ≡ false → ran 1 g ≡ None
stopped_none g stopped = ran_last 0 g ∙ ap (option_and_then one_more) (ran_none g) ∙ stops g stopped

-- one that touches a shared area does not run alone
pub alone_touching : (c : Caller) (area : Area) → next_of (acting_in c.task c.space) c.registers ≡ Touches area
    → run_alone 1 c ≡ None
alone_touching c area touches =
    ap (option_map (run_changes c)) (stopped_none (going_in c.task c.space c.registers) (ap goes_on touches))

module _ (c : Caller) (s : Parts) where
  -- one that touches none stands as it does with none in hand
  pub stands_alone : (next : Next) → next_of (acting_in c.task c.space) c.registers ≡ next
      → touches_area next ≡ false → outcome_in s (next_row c) ≡ record { next = next; hand = [] }
  unfolding tried_with
  stands_alone next is apart =
      ap (λ x. outcome_in s (asked stands_lacking (tried_with (next_tried c) stands_lacking 16) [] (stands_by [] x))) is
      ∙ by next apart
    where
      by : (x : Next) → touches_area x ≡ false
          → outcome_in s (asked stands_lacking (tried_with (next_tried c) stands_lacking 16) [] (stands_by [] x))
          ≡ record { next = x; hand = [] }
      by Goes e = refl
      by Calls e = refl
      by (Traps signal) e = refl
      by (Touches area) e = absurd (cc e)

  -- one that does not go on, with the areas that it asks for, does not run with them, or is lacking one
  abbrev IsStill : Stands → Type 0
  IsStill x = goes_on x.next ≡ false → (step_with c x.hand ≡ None) ⊎ (x ≡ stands_lacking)

  still_here : (hand : List InHand) → goes_on (next_of (acting_with c.task c.space hand) c.registers) ≡ false
      → step_with c hand ≡ None
  still_here hand stopped =
      ap (option_map (run_changes c)) (stopped_none (going_with c.task c.space hand c.registers) stopped)

  still_by : (most : ℕ) (hand : List InHand)
      → IsStill (outcome_in s (tried_with (next_tried c) stands_lacking most hand))
  unfolding tried_with
  still_by zero hand = by (next_of (acting_with c.task c.space hand) c.registers) refl
    where
      by : (x : Next) → next_of (acting_with c.task c.space hand) c.registers ≡ x
          → IsStill (comes_to stands_lacking (stands_by hand x))
      by Goes e stopped = absurd (cc stopped)
      by Calls e stopped = inl (still_here hand (ap goes_on e))
      by (Traps signal) e stopped = inl (still_here hand (ap goes_on e))
      by (Touches area) e stopped = inr refl
  still_by (suc n) hand =
      by (λ more. still_by n more) (next_of (acting_with c.task c.space hand) c.registers) refl
    where
      given : ((more : List InHand) → IsStill (outcome_in s (tried_with (next_tried c) stands_lacking n more)))
          → (area : Area) (o : Option AreaState) → IsStill (outcome_in s
          (handed_in stands_lacking (tried_with (next_tried c) stands_lacking n) hand area o))
      given rest area None stopped = inr refl
      given rest area (Some state) stopped = rest (hand ++ record { name = area; state = state } ∷ []) stopped

      anew : ((more : List InHand) → IsStill (outcome_in s (tried_with (next_tried c) stands_lacking n more)))
          → (area : Area) (b : Bool) → IsStill (outcome_in s (cond b (comes stands_lacking)
          (look (OfArea area) (handed_in stands_lacking (tried_with (next_tried c) stands_lacking n) hand area))))
      anew rest area true stopped = inr refl
      anew rest area false stopped = given rest area (s (OfArea area)) stopped

      by : ((more : List InHand) → IsStill (outcome_in s (tried_with (next_tried c) stands_lacking n more)))
          → (x : Next) → next_of (acting_with c.task c.space hand) c.registers ≡ x
          → IsStill (outcome_in s
          (asked stands_lacking (tried_with (next_tried c) stands_lacking n) hand (stands_by hand x)))
      by rest Goes e stopped = absurd (cc stopped)
      by rest Calls e stopped = inl (still_here hand (ap goes_on e))
      by rest (Traps signal) e stopped = inl (still_here hand (ap goes_on e))
      by rest (Touches area) e stopped = anew rest area (is_some (area_in area hand)) stopped

  -- so it does not fit as a run of one instruction
  pub step_none : goes_on (outcome_in s (next_row c)).next ≡ false → run_alone 1 c ≡ None
      → outcome_in s (step_row c) ≡ None
  step_none stopped alone =
      outcome-bind s (next_row c) (λ (x : Stands). comes (step_with c x.hand))
      ∙ either (still_by 17 [] stopped)
    where
      either : (step_with c (outcome_in s (next_row c)).hand ≡ None) ⊎ (outcome_in s (next_row c) ≡ stands_lacking)
          → step_with c (outcome_in s (next_row c)).hand ≡ None
      either (inl none) = none
      either (inr lacking) = ap (λ (x : Stands). step_with c x.hand) lacking ∙ alone
