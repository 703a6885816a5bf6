-- An instruction, with the areas that its code and its data lie in.
use Rattle.std.proofs.Common.{◌≡◌, ℕ, ◌<◌, false, List, [], ◌++◌, refl, ap}
use Rattle.std.proofs.Common.{sym, ◌∙◌, arith, subst}
use Rattle.rv_table.specs.declared.error.Area.{Area}
use Rattle.rv_table.specs.Bytes.{Accessed, Value, Fault, Shared, SeenMemory, loaded}
use Rattle.rv_table.specs.Table.{instr_of}
use Rattle.rv_exec.specs.Execution.{Touches, by_fetched, done_by, exec}
use Rattle.mm_space.specs.Accesses.{executable, page_number}
use Rattle.mm_space.specs.Handed.{InHand, area_in}
use Rattle.quantum.specs.Acting.{memory_of}
use Rattle.kernel_model.specs.declared.caller.Caller.{Caller}
use Rattle.kernel_model.specs.declared.kernel.Part.TheVariants.{OfArea}
use Rattle.kernel_model.specs.declared.traps.Next.{Next}
use Rattle.kernel_model.specs.declared.traps.Next.TheVariants as nexts
use Rattle.kernel_model.specs.machine.Instructions.{next_by, next_of, touches_area}
use Rattle.kernel_model.specs.machine.Spaces.{acting_with}
use Rattle.kernel_model.specs.entries.Areas.{Stands, Tried, Comes, Asks, comes_to, next_row, next_tried, stands_by}
use Rattle.kernel_model.specs.entries.Areas.{stands_lacking, trying}
use Rattle.kernel_model.specs.entries.Parts.{Parts, outcome_in}
use Rattle.area_laws.specs.Whole.{AreAll, HasAreas}
use Rattle.area_laws.proofs.Asking.{AsksWell, ComesAlike, Fewer, comes_alike}
use Rattle.area_laws.proofs.Bytes.{Lacks, LoadsNear, Same as Same_loads, Asking as Asking_loads, later}
use Rattle.area_laws.proofs.Bytes.{loads_near, near, never_shared}
use Rattle.area_laws.proofs.Executing.{DoneNear, Same, Asking, address_of, done_near}
use Rattle.area_laws.proofs.Hands.{AreOf, of_none, with_one}
use Rattle.area_laws.proofs.Missing.{IsPageOf, back_page, fewer_missing, front_page, missing, missing_few, page_within}
use Rattle.area_laws.proofs.Missing.{pages_from}

module _ (s : Parts) (c : Caller) (all : List InHand) (whole : HasAreas s c.space) (every : AreAll s all) where
  abbrev seen : List InHand → SeenMemory
  seen hand = memory_of (acting_with c.task c.space hand)

  -- the address of what the instruction accesses, which its word tells
  abbrev by_word : Accessed → ℕ
  by_word (Value word) = address_of c.registers (instr_of word)
  by_word (Fault address) = 0
  by_word (Shared area) = 0

  abbrev data_at : ℕ
  data_at = by_word (loaded (seen all).code c.registers.pc 4)

  abbrev pages : List ℕ
  pages = pages_from (page_number c.registers.pc) 2 ++ pages_from (page_number data_at) 2

  abbrev left : List InHand → ℕ
  left hand = missing c.space pages hand

  abbrev next_with : List InHand → Next
  next_with hand = next_of (acting_with c.task c.space hand) c.registers

  -- it does the same with all, or asks for an area in which a page of its code or data lies
  data NextNear (hand : List InHand) : Type 0 where
    Same_next : next_with hand ≡ next_with all → touches_area (next_with all) ≡ false → NextNear hand
    Asks_for : (name : Area) (address : ℕ) → exec (seen hand) c.registers ≡ Touches name
        → Lacks s c.space hand address name → IsPageOf (page_number address) pages → NextNear hand

  data_page : (steps : ℕ) → steps < 8 → IsPageOf (page_number (later steps data_at)) pages
  data_page steps h =
      back_page (page_number (later steps data_at)) (pages_from (page_number c.registers.pc) 2) (pages_from (page_number data_at) 2)
      (page_within data_at steps 8 2 h (omega arith))

  code_page : (steps : ℕ) → steps < 4 → IsPageOf (page_number (later steps c.registers.pc)) pages
  code_page steps h =
      front_page (page_number (later steps c.registers.pc)) (pages_from (page_number c.registers.pc) 2) (pages_from (page_number data_at) 2)
      (page_within c.registers.pc steps 4 2 h (omega arith))

  next_near : (hand : List InHand) → AreOf s hand → NextNear hand
  unfolding exec
  next_near hand are =
      by (loads_near s c.space hand all (seen hand).code (seen all).code
      (λ address. near s c.space hand all are whole every executable address) c.registers.pc 4)
    where
      never : (name : Area) → loaded (seen all).code c.registers.pc 4 ≡ Shared name → ⊥
      never =
          never_shared s c.space hand all (seen hand).code (seen all).code
          (λ address. near s c.space hand all are whole every executable address) c.registers.pc 4

      by_done : (word : ℕ) → loaded (seen hand).code c.registers.pc 4 ≡ Value word
          → loaded (seen all).code c.registers.pc 4 ≡ Value word
          → DoneNear s c.space hand (address_of c.registers (instr_of word))
          (done_by (seen hand) c.registers (instr_of word)) (done_by (seen all) c.registers (instr_of word))
          → NextNear hand
      by_done word e f (Same same stays) =
          Same_next
          (ap (λ a. next_by (by_fetched (seen hand) c.registers a)) e ∙ same
          ∙ ap (λ a. next_by (by_fetched (seen all) c.registers a)) (sym f))
          (ap (λ a. touches_area (next_by (by_fetched (seen all) c.registers a))) f ∙ stays)
      by_done word e f (Asking name asks lacks) =
          let here : data_at ≡ address_of c.registers (instr_of word) = ap by_word f in
          Asks_for name (later lacks.steps (address_of c.registers (instr_of word)))
          (ap (by_fetched (seen hand) c.registers) e ∙ asks) lacks.lacks
          (subst (λ (at : ℕ). IsPageOf (page_number (later lacks.steps at)) pages) here
          (data_page lacks.steps lacks.within))

      by_code : (a : Accessed) → loaded (seen all).code c.registers.pc 4 ≡ a
          → loaded (seen hand).code c.registers.pc 4 ≡ loaded (seen all).code c.registers.pc 4 → NextNear hand
      by_code (Value word) f e =
          by_done word (e ∙ f) f (done_near s c.space c.task hand all are whole every c.registers (instr_of word))
      by_code (Fault address) f e =
          Same_next
          (ap (λ a. next_by (by_fetched (seen hand) c.registers a)) (e ∙ f)
          ∙ ap (λ a. next_by (by_fetched (seen all) c.registers a)) (sym f))
          (ap (λ a. touches_area (next_by (by_fetched (seen all) c.registers a))) f)
      by_code (Shared area) f e = absurd (never area f)

      by : LoadsNear s c.space hand (seen hand).code (seen all).code c.registers.pc 4 → NextNear hand
      by (Same_loads e) = by_code (loaded (seen all).code c.registers.pc 4) refl e
      by (Asking_loads name value e lacks f) =
          Asks_for name (later lacks.steps c.registers.pc) (ap (by_fetched (seen hand) c.registers) e) lacks.lacks
          (code_page lacks.steps lacks.within)

  asks_touching : (hand : List InHand) (next : Next) (area : Area) → stands_by hand next ≡ Asks area
      → next ≡ nexts.Touches area
  asks_touching hand nexts.Goes area e = absurd (cc e)
  asks_touching hand nexts.Calls area e = absurd (cc e)
  asks_touching hand (nexts.Traps signal) area e = absurd (cc e)
  asks_touching hand (nexts.Touches other) area e = ap nexts.Touches (cc e)

  well : AsksWell s (next_tried c) left
  well hand are area asks = by (next_near hand are)
    where
      touching : next_with hand ≡ nexts.Touches area
      touching = asks_touching hand (next_with hand) area asks

      by : NextNear hand → Fewer s (next_tried c) left hand area
      by (Same_next same stays) =
          absurd (cc (sym (ap touches_area (sym same ∙ touching)) ∙ stays))
      by (Asks_for name address e lacks page) =
          let same : name ≡ area = cc (sym (ap next_by e) ∙ touching) in
          record {
            unasked = ap (λ n. area_in n hand) (sym same) ∙ lacks.unasked;
            state = lacks.state;
            there = ap (λ n. s (OfArea n)) (sym same) ∙ lacks.there;
            fewer =
                subst (λ (n : Area). left (with_one hand n lacks.state) < left hand) same
                (fewer_missing c.space hand name lacks.state (page_number address) pages lacks.lies lacks.unasked page);
          }

  all_tried : (lacking other : Stands) → ComesAlike s (next_tried c) left lacking other 17 []
  all_tried lacking other =
      comes_alike s (next_tried c) left well lacking other 17 [] (of_none s)
      (let few = missing_few c.space pages [] in omega (arith, few))

  -- what stands so does this
  stands_as : (hand : List InHand) (next : Next) (x : Stands) → stands_by hand next ≡ Comes x → x.next ≡ next
  stands_as hand nexts.Goes x e = ap (λ (t : Tried Stands). (comes_to x t).next) (sym e)
  stands_as hand nexts.Calls x e = ap (λ (t : Tried Stands). (comes_to x t).next) (sym e)
  stands_as hand (nexts.Traps signal) x e = ap (λ (t : Tried Stands). (comes_to x t).next) (sym e)
  stands_as hand (nexts.Touches area) x e = absurd (cc e)

  pub instruction : (outcome_in s (next_row c)).next ≡ next_with all
  instruction =
      let t = (all_tried stands_lacking stands_lacking).comes in
      stands_as t.hand (next_with t.hand) (outcome_in s (next_row c)) t.comes
      ∙ by t.hand (outcome_in s (next_row c)) t.comes (next_near t.hand t.are)
    where
      by : (hand : List InHand) (x : Stands) → next_tried c hand ≡ Comes x → NextNear hand
          → next_with hand ≡ next_with all
      by hand x comes (Same_next same stays) = same
      by hand x comes (Asks_for name address e lacks page) =
          absurd (cc (sym comes ∙ ap (λ d. stands_by hand (next_by d)) e))

  pub instruction_asks : (lacking : Stands)
      → outcome_in s (trying (next_tried c) lacking) ≡ outcome_in s (next_row c)
  instruction_asks lacking = (all_tried stands_lacking lacking).alike
