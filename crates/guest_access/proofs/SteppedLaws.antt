-- An instruction that touches shared areas, as it is tried with more and more of them in hand.
use Rattle.std.proofs.Common.{◌≡◌, ℕ, suc, ◌<◌, true, false, List, []}
use Rattle.std.proofs.Common.{Some, None, refl, ap, sym, ◌∙◌, ◌⊎◌, arith, option_map}
use Rattle.std.specs.Prelude.{is_some, option_and_then}
use Rattle.std.specs.FinMap as map
use Rattle.rv_table.specs.declared.error.Area.{Area}
use Rattle.rv_table.specs.declared.registers.Regs.{Regs}
use Rattle.rv_exec.specs.Execution.{Done, exec}
use Rattle.rv_exec.specs.Execution as done
use Rattle.mm_space.specs.Handed.{AreaState, InHand, area_in}
use Rattle.mm_space.specs.Spaces.{AddressSpace}
use Rattle.quantum.specs.Acting.{Acting, memory_of}
use Rattle.quantum.specs.declared.run.QuantumEnd.{QuantumEnd}
use Rattle.quantum.specs.declared.run.QuantumEnd.TheVariants as ends
use Rattle.quantum.specs.Ends.{Few, LacksMemory, Ran, Stopped}
use Rattle.quantum.specs.Instructions.{GoingTask, ran, next_done}
use Rattle.kernel_model.specs.Names.{NamedMap, get_named, with_named}
use Rattle.kernel_model.specs.declared.caller.Caller.{Caller}
use Rattle.kernel_model.specs.declared.kernel.Kernel.{Kernel}
use Rattle.kernel_model.specs.declared.traps.Next.{Next}
use Rattle.kernel_model.specs.declared.traps.Next.TheVariants.{Goes, Calls, Traps, Touches}
use Rattle.kernel_model.specs.machine.Instructions.{goes_on, next_by, next_of}
use Rattle.kernel_model.specs.machine.Spaces.{acting_with, going_with}
use Rattle.kernel_model.specs.entries.Areas.{Stands, stands_by, stands_lacking, next_tried, next_row}
use Rattle.kernel_model.specs.entries.Parts.{parts, done as comes, outcome_in}
use Rattle.kernel_model.specs.entries.Steps.{run_changes, step_with}
use Rattle.kernel_model.proofs.Trees.{outcome-bind}
use Rattle.guest_access.specs.Lending.{AreThere, IsLent, with_hand}
use Rattle.guest_access.specs.Stepping.{IsAt, Steps}
use Rattle.guest_access.specs.Trying.{LeftByInstruction, StandsOver, Stepped, next_by_end}
use Rattle.guest_access.proofs.KernelAreas.{are_those, areas_changed}
use Rattle.guest_access.proofs.Lendings.{lent_left}
use Rattle.guest_access.proofs.Runs.{nothing_ran, one_more, ran_last, ran_none, ran_names, went_by}
use Rattle.guest_access.proofs.Tries.{comes_at_once, lacks_more, lacks_there, those_same, tries_lent}

-- ---- one instruction with what is in hand

went_goes : (a : Acting) (done : Done) (h : GoingTask) → went_by a done ≡ Some h → next_by done ≡ Goes
went_goes a (done.Goes r ws) h e = refl
went_goes a done.Calls h e = absurd (cc e)
went_goes a (done.Traps signal) h e = absurd (cc e)
went_goes a (done.Touches area) h e = absurd (cc e)

-- what ran as one instruction goes on
pub one_goes : (count : ℕ) (g h : GoingTask) → ran count g ≡ Some h → count ≡ 1 → next_of g.acting g.registers ≡ Goes
one_goes count g h told one =
    went_goes g.acting (exec (memory_of g.acting) g.registers) h
    (sym (ran_last 0 g ∙ ap (option_and_then one_more) (ran_none g)) ∙ ap (λ n. ran n g) (sym one) ∙ told)

pub one_ran : (count : ℕ) (g h : GoingTask) → ran count g ≡ Some h → count ≡ 1 → ran 1 g ≡ Some h
one_ran count g h told one = ap (λ n. ran n g) (sym one) ∙ told

-- what was stopped before it has left all as it was
pub none_ran : (count task : ℕ) (space space' : AddressSpace) (hand hand' : List InHand) (r r' : Regs)
    → ran count (going_with task space hand r) ≡ Some (going_with task space' hand' r') → count < 1
    → (r' ≡ r) × (space' ≡ space) × (hand' ≡ hand)
none_ran count task space space' hand hand' r r' told few =
    let same : going_with task space' hand' r' ≡ going_with task space hand r = nothing_ran count _ _ told few in (
      ap (λ (g : GoingTask). g.registers) same,
      ap (λ (g : GoingTask). g.acting.reach.space) same,
      ap (λ (g : GoingTask). g.acting.reach.hand) same,
    )

pub none_next : (count task : ℕ) (space space' : AddressSpace) (hand hand' : List InHand) (r r' : Regs)
    → ran count (going_with task space hand r) ≡ Some (going_with task space' hand' r') → count < 1
    → next_of (acting_with task space hand) r ≡ next_by (next_done (going_with task space' hand' r'))
none_next count task space space' hand hand' r r' told few =
    sym (ap (λ (g : GoingTask). next_by (next_done g)) (nothing_ran count _ _ told few))

-- what a run of at most one tells of the next instruction: `own` is the address space as it was
module _ (end : QuantumEnd) (task : ℕ) (own space space' : AddressSpace) (same : own ≡ space)
    (hand hand' : List InHand) (r r' : Regs)
    (told : Ran (going_with task own hand r) (going_with task space' hand' r') end) (few : Few 1 end) where
  moved : (count : ℕ) → ran count (going_with task own hand r) ≡ Some (going_with task space' hand' r')
      → ran count (going_with task space hand r) ≡ Some (going_with task space' hand' r')
  moved count is = ap (λ a. ran count (going_with task a hand r)) (sym same) ∙ is

  pub end_next : Stopped (going_with task space' hand' r') end → (next : Next) → next_by_end end ≡ Some next
      → next_of (acting_with task space hand) r ≡ next
  end_next stopped next is = by end told few stopped is
    where
      by : (e : QuantumEnd) → Ran (going_with task own hand r) (going_with task space' hand' r') e → Few 1 e
          → Stopped (going_with task space' hand' r') e → next_by_end e ≡ Some next
          → next_of (acting_with task space hand) r ≡ next
      by (ends.Ended count) t f s i =
          one_goes count (going_with task space hand r) (going_with task space' hand' r') (moved count t) f ∙ cc i
      by (ends.Call count) t f s i =
          none_next count task space space' hand hand' r r' (moved count t) f ∙ ap next_by s ∙ cc i
      by (ends.Trap count signal) t f s i =
          none_next count task space space' hand hand' r r' (moved count t) f ∙ ap next_by s ∙ cc i
      by (ends.Shared count area) t f s i =
          none_next count task space space' hand hand' r r' (moved count t) f ∙ ap next_by s ∙ cc i
      by ends.Memory t f s i = absurd (cc i)

  pub end_goes : (next : Next) → next_by_end end ≡ Some next → next ≡ Goes
      → ran 1 (going_with task space hand r) ≡ Some (going_with task space' hand' r')
  end_goes next is goes = by end told few is
    where
      by : (e : QuantumEnd) → Ran (going_with task own hand r) (going_with task space' hand' r') e → Few 1 e
          → next_by_end e ≡ Some next → ran 1 (going_with task space hand r) ≡ Some (going_with task space' hand' r')
      by (ends.Ended count) t f i =
          one_ran count (going_with task space hand r) (going_with task space' hand' r') (moved count t) f
      by (ends.Call count) t f i = absurd (cc (i, goes))
      by (ends.Trap count signal) t f i = absurd (cc (i, goes))
      by (ends.Shared count area) t f i = absurd (cc (i, goes))
      by ends.Memory t f i = absurd (cc i)

  pub end_kept : (next : Next) → next_by_end end ≡ Some next → goes_on next ≡ false
      → (r' ≡ r) × (space' ≡ space) × (hand' ≡ hand)
  end_kept next is stays = by end told few is
    where
      by : (e : QuantumEnd) → Ran (going_with task own hand r) (going_with task space' hand' r') e → Few 1 e
          → next_by_end e ≡ Some next → (r' ≡ r) × (space' ≡ space) × (hand' ≡ hand)
      by (ends.Ended count) t f i = absurd (cc (i, stays))
      by (ends.Call count) t f i = none_ran count task space space' hand hand' r r' (moved count t) f
      by (ends.Trap count signal) t f i = none_ran count task space space' hand hand' r r' (moved count t) f
      by (ends.Shared count area) t f i = none_ran count task space space' hand hand' r r' (moved count t) f
      by ends.Memory t f i = absurd (cc i)

  pub end_lacking : LacksMemory (going_with task own hand r) (going_with task space' hand' r') 1 end
      → next_by_end end ≡ None → (r' ≡ r) × (space' ≡ space) × (hand' ≡ hand)
  end_lacking lacks is = by end lacks is
    where
      by : (e : QuantumEnd) → LacksMemory (going_with task own hand r) (going_with task space' hand' r') 1 e
          → next_by_end e ≡ None → (r' ≡ r) × (space' ≡ space) × (hand' ≡ hand)
      by (ends.Ended count) l i = absurd (cc i)
      by (ends.Call count) l i = absurd (cc i)
      by (ends.Trap count signal) l i = absurd (cc i)
      by (ends.Shared count area) l i = absurd (cc i)
      by ends.Memory l i = none_ran l.0 task space space' hand hand' r r' (moved l.0 l.2) l.1

-- ---- what a try leaves

module _ (c : Caller) (task : ℕ) (r r' : Regs) (space space' : AddressSpace) (over : StandsOver c task r space)
    (most : ℕ) (hand hand' : List InHand) (areas : NamedMap AreaState) where
  pub next_over : (x : Next) → next_of (acting_with task space hand) r ≡ x
      → next_of (acting_with c.task c.space hand) c.registers ≡ x
  next_over x e =
      ap (λ t. next_of (acting_with t c.space hand) c.registers) over.task
      ∙ ap (λ a. next_of (acting_with task a hand) c.registers) over.space
      ∙ ap (λ q. next_of (acting_with task space hand) q) over.registers ∙ e

  ran_over : ran 1 (going_with task space hand r) ≡ Some (going_with task space' hand' r')
      → ran 1 (going_with c.task c.space hand c.registers) ≡ Some (going_with c.task space' hand' r')
  ran_over told =
      ap (λ t. ran 1 (going_with t c.space hand c.registers)) over.task
      ∙ ap (λ a. ran 1 (going_with task a hand c.registers)) over.space
      ∙ ap (λ q. ran 1 (going_with task space hand q)) over.registers
      ∙ told ∙ ap (λ t. Some (going_with t space' hand' r')) (sym over.task)

  -- where it went on
  pub stepped_goes : next_of (acting_with task space hand) r ≡ Goes
      → ran 1 (going_with task space hand r) ≡ Some (going_with task space' hand' r') → AreThere hand areas
      → Stepped c most hand (with_hand hand areas) Goes r' space' hand' areas
  stepped_goes goes told there = record {
    last = hand;
    stands = λ s those.
        comes_at_once (next_tried c) stands_lacking hand s most (record { next = Goes; hand = hand })
        (ap (stands_by hand) (next_over Goes goes));
    left = (
      ran_over told,
      lent_left hand hand' areas (with_hand hand areas) (record { there = there; back = refl })
          (ran_names 1 (going_with task space hand r) (going_with task space' hand' r') told),
    );
  }

  module _ (same : (r' ≡ r) × (space' ≡ space) × (hand' ≡ hand)) where
    still : (r' ≡ c.registers) × (space' ≡ c.space) × (with_hand hand' areas ≡ with_hand hand areas)
    still = (
      same.0 ∙ sym over.registers,
      same.1 ∙ sym over.space,
      ap (λ h. with_hand h areas) same.2,
    )

    -- where it calls or traps
    pub stepped_calls : next_of (acting_with task space hand) r ≡ Calls
        → Stepped c most hand (with_hand hand areas) Calls r' space' hand' areas
    stepped_calls calls = record {
      last = hand;
      stands = λ s those.
          comes_at_once (next_tried c) stands_lacking hand s most (record { next = Calls; hand = hand })
          (ap (stands_by hand) (next_over Calls calls));
      left = still;
    }

    pub stepped_traps : (signal : ℕ) → next_of (acting_with task space hand) r ≡ Traps signal
        → Stepped c most hand (with_hand hand areas) (Traps signal) r' space' hand' areas
    stepped_traps signal traps = record {
      last = hand;
      stands = λ s those.
          comes_at_once (next_tried c) stands_lacking hand s most (record { next = Traps signal; hand = hand })
          (ap (stands_by hand) (next_over (Traps signal) traps));
      left = still;
    }

    module _ (area : Area) (touches : next_of (acting_with task space hand) r ≡ Touches area) where
      -- where it asks for an area, and may have no more
      pub stepped_full : most ≡ 0 → Stepped c most hand (with_hand hand areas) (Traps 11) r' space' hand' areas
      stepped_full none = record {
        last = [];
        stands = λ s those.
            lacks_more (next_tried c) stands_lacking hand s area
            (ap (stands_by hand) (next_over (Touches area) touches)) most none;
        left = still;
      }

-- where the area that it asks for can't be had
pub stepped_lacking : (c : Caller) (task : ℕ) (r r' : Regs) (space space' : AddressSpace)
    → StandsOver c task r space → (most : ℕ) (hand hand' : List InHand) (areas areas' : NamedMap AreaState)
    → (area : Area) → next_of (acting_with task space hand) r ≡ Touches area → (r' ≡ r) × (space' ≡ space)
    → 0 < most → hand' ≡ hand → areas' ≡ areas
    → (is_some (area_in area hand) ≡ true) ⊎ (get_named areas area.place area.index ≡ None)
    → Stepped c most hand (with_hand hand areas) (Traps 11) r' space' hand' areas'
stepped_lacking c task r r' space space' over most hand hand' areas areas' area touches same more e f lacking =
    record {
      last = [];
      stands = λ s those.
          lacks_there (next_tried c) stands_lacking hand s area
          (ap (stands_by hand) (next_over c task r r' space space' over most hand hand' areas (Touches area) touches))
          areas those most (λ none. absurd (omega (arith, more, none))) lacking;
      left = (
        same.0 ∙ sym over.registers,
        same.1 ∙ sym over.space,
        ap (λ h. with_hand h areas') e ∙ ap (with_hand hand) f,
      );
    }

-- where it is tried again with one more in hand
pub stepped_more : (c : Caller) (most less : ℕ) → most ≡ suc less → (hand lent hand' : List InHand)
    (areas left areas' : NamedMap AreaState) (area : Area) (next : Next) (r' : Regs) (space' : AddressSpace)
    → next_of (acting_with c.task c.space hand) c.registers ≡ Touches area
    → IsLent area hand lent areas left → with_hand lent left ≡ with_hand hand areas
    → Stepped c less lent (with_hand lent left) next r' space' hand' areas'
    → Stepped c most hand (with_hand hand areas) next r' space' hand' areas'
stepped_more c most less e hand lent hand' areas left areas' area next r' space' touches is back rest =
    record {
      last = rest.last;
      stands = λ s those.
          tries_lent (next_tried c) stands_lacking hand s area (ap (stands_by hand) touches) areas those lent left is
          most less e
          ∙ rest.stands s (those_same s (with_hand hand areas) (with_hand lent left) back those);
      left = by next rest.left;
    }
  where
    by : (x : Next) → LeftByInstruction c x rest.last r' space' hand' areas' (with_hand lent left)
        → LeftByInstruction c x rest.last r' space' hand' areas' (with_hand hand areas)
    by Goes l = (l.0, l.1 ∙ ap (with_hand hand') back)
    by Calls l = (l.0, l.1, l.2 ∙ back)
    by (Traps signal) l = (l.0, l.1, l.2 ∙ back)
    by (Touches other) l = (l.0, l.1, l.2 ∙ back)

-- ---- the instruction in a kernel

module _ (c : Caller) (k : Kernel) (task : ℕ) (r r' : Regs) (space space' : AddressSpace)
    (areas left all : NamedMap AreaState) (at : IsAt c k task r space areas) (hand' : List InHand) (next : Next)
    (stepped : Stepped c 17 [] areas next r' space' hand' left) where
  pub over_at : StandsOver c task r space
  over_at = record { task = at.task; registers = at.registers; space = at.space }

  stands_at : outcome_in (parts k) (next_row c) ≡ record { next = next; hand = stepped.last }
  stands_at = stepped.stands (parts k) (are_those k areas at.areas)

  pub next_at : (outcome_in (parts k) (next_row c)).next ≡ next
  next_at = ap (λ (x : Stands). x.next) stands_at

  pub steps_at : next ≡ Goes → all ≡ with_hand hand' left → Steps c k r' space' all
  steps_at goes back =
      let went : LeftByInstruction c Goes stepped.last r' space' hand' left areas =
      rw goes at stepped.left in
      record {
        changes = run_changes c (going_with c.task space' hand' r');
        row_is =
            outcome-bind (parts k) (next_row c) (λ (x : Stands). comes (step_with c x.hand))
            ∙ ap (λ (x : Stands). step_with c x.hand) stands_at
            ∙ ap (option_map (run_changes c)) went.0;
        done_is =
            areas_changed hand'
            (record k {
              spaces = with_named k.spaces c.memory.place c.memory.index space';
              registers = map.insert k.registers c.task r';
            })
            ∙ ap (λ m. record k {
              spaces = with_named k.spaces c.memory.place c.memory.index space';
              registers = map.insert k.registers c.task r';
              areas = m;
            }) (ap (with_hand hand') at.areas ∙ sym went.1 ∙ sym back);
      }

-- where it does not go on, nothing has changed
pub kept_over : (c : Caller) (r r' : Regs) (space space' : AddressSpace) (areas left all : NamedMap AreaState)
    → c.registers ≡ r → c.space ≡ space → (hand' : List InHand) (next : Next)
    → Stepped c 17 [] areas next r' space' hand' left → goes_on next ≡ false → all ≡ with_hand hand' left
    → (r' ≡ r) × (space' ≡ space) × (all ≡ areas)
kept_over c r r' space space' areas left all registers own hand' next stepped stays back = by next stepped.left stays
  where
    by : (x : Next) → LeftByInstruction c x stepped.last r' space' hand' left areas → goes_on x ≡ false
        → (r' ≡ r) × (space' ≡ space) × (all ≡ areas)
    by Goes l e = absurd (cc e)
    by Calls l e = (l.0 ∙ registers, l.1 ∙ own, back ∙ l.2)
    by (Traps signal) l e = (l.0 ∙ registers, l.1 ∙ own, back ∙ l.2)
    by (Touches other) l e = (l.0 ∙ registers, l.1 ∙ own, back ∙ l.2)

-- a task of some group, where no more is told of it
abbrev pub some_caller : (task : ℕ) → Regs → AddressSpace → Caller
some_caller task r space = record {
  task = task;
  group = 0;
  memory = record { place = 0; index = 0 };
  table = record { place = 0; index = 0 };
  registers = r;
  space = space;
}
