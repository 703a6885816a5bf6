-- An instruction of a page, by the page's decoded words.
use Rattle.std.proofs.Common.{◌≡◌, ℕ, ◌+◌, ◌/◌, ◌%◌, ◌<◌, false, List, Some, refl, ap, sym, ◌∙◌, subst, arith, add-one}
use Rattle.std.specs.Prelude.{option_and_then, slice_index_or}
use Rattle.std.proofs.lemmas.List.{get_or_default}
use Rattle.rv_table.specs.declared.instr.Instr.{Instr}
use Rattle.rv_table.specs.declared.instr.Instr.TheVariants as instr
use Rattle.rv_table.specs.declared.registers.Regs.{Regs}
use Rattle.rv_table.specs.Bytes.{Accessed, SeenMemory, Value, Fault, Shared, loaded}
use Rattle.rv_exec.specs.Courses.{EndsBy, Going, going, one_instruction_more, after_instructions, went_by}
use Rattle.rv_exec.specs.Execution.{Done, Goes, Calls, Traps, Touches, by_fetched, done_by, exec}
use Rattle.rv_exec.specs.Flows.{FlowsAs}
use Rattle.rv_exec.specs.Rows.{AreOfPage, IsOfWord}
use Rattle.rv_exec.specs.Writes.{Write}
use Rattle.rv_exec.proofs.Courses.{ran_suc}
use Rattle.rv_exec.specs.declared.flow.Flow.{Flow}
use Rattle.rv_exec.specs.declared.flow.Flow.TheVariants as flows
use Rattle.rv_exec.specs.declared.outcome.Step.{Step}

of_word : (m : SeenMemory) (r : Regs) (word : Accessed) (told : Instr) → IsOfWord word told
    → by_fetched m r word ≡ done_by m r told
of_word m r (Value word) told is = ap (λ (i : Instr). done_by m r i) (sym is)
of_word m r (Fault address) told is = elim is [ ]
of_word m r (Shared area) told is = elim is [ ]

-- what the next instruction does, where the task stands in the page
in_row : (m : SeenMemory) (r : Regs) (page : ℕ) (words : List Instr)
    → AreOfPage m.code page words → r.pc / 4096 ≡ page → r.pc % 4 ≡ 0
    → exec m r ≡ done_by m r (slice_index_or words (r.pc % 4096 / 4) instr.Illegal)
unfolding exec
in_row m r page words are here aligned =
    of_word m r (loaded m.code r.pc 4) (slice_index_or words (r.pc % 4096 / 4) instr.Illegal)
    (subst (λ (at : ℕ). IsOfWord (loaded m.code at 4) (slice_index_or words (r.pc % 4096 / 4) instr.Illegal))
    (omega (arith, here, aligned))
    (are.each (r.pc % 4096 / 4) (omega arith)))

-- the instruction that was read at the task's place is the one that stands there
stands : (m : SeenMemory) (page : ℕ) (words : List Instr) (pc : ℕ) (read : Instr) → AreOfPage m.code page words
    → read ≡ slice_index_or words (pc % 4096 / 4) read → slice_index_or words (pc % 4096 / 4) instr.Illegal ≡ read
stands m page words pc read are lookup =
    get_or_default words (pc % 4096 / 4) instr.Illegal read (rw are.whole (omega arith)) ∙ sym lookup

-- it did as the instruction does that stands there
pub flows_there : {State : Type 0} → (write : Write → State → State) → (why : Step) → (m : SeenMemory) (r after : Regs)
    (page : ℕ) (words : List Instr) (read : Instr) (old new : State) (flow : Flow)
    → AreOfPage m.code page words → r.pc / 4096 ≡ page → r.pc % 4 ≡ 0
    → read ≡ slice_index_or words (r.pc % 4096 / 4) read
    → FlowsAs write false why (done_by m r read) r after old new flow
    → FlowsAs write false why (exec m r) r after old new flow
flows_there write why m r after page words read old new flow are here aligned lookup did =
    subst (λ (done : Done). FlowsAs write false why done r after old new flow)
    (sym (in_row m r page words are here aligned
    ∙ ap (λ (i : Instr). done_by m r i) (stands m page words r.pc read are lookup)))
    did

-- one instruction more
went_next : {State : Type 0} → (write : Write → State → State) → (why : Step) → (done : Done)
    → (r after : Regs) → (old new : State)
    → FlowsAs write false why done r after old new flows.Next → went_by write old done ≡ Some (going new after)
went_next write why (Goes q ws) r after old new h = λ i. Some (going (sym h.1 i) (sym h.0 i))
went_next write why Calls r after old new h = absurd h
went_next write why (Traps signal) r after old new h = absurd h
went_next write why (Touches area) r after old new h = absurd h

went_jump : {State : Type 0} → (write : Write → State → State) → (why : Step) → (done : Done)
    → (r after : Regs) → (old new : State)
    → FlowsAs write false why done r after old new flows.Jump → went_by write old done ≡ Some (going new after)
went_jump write why (Goes q ws) r after old new h = λ i. Some (going (sym h.1 i) (sym h.0 i))
went_jump write why Calls r after old new h = absurd h
went_jump write why (Traps signal) r after old new h = absurd h
went_jump write why (Touches area) r after old new h = absurd h

one_more_by : {State : Type 0} → (seen : State → SeenMemory) → (write : Write → State → State)
    → (n : ℕ) (start : Going State) (r : Regs) (old : State) (end : Going State)
    → after_instructions seen write n start ≡ Some (going old r)
    → went_by write old (exec (seen old) r) ≡ Some end
    → after_instructions seen write (n + 1) start ≡ Some end
one_more_by seen write n start r old end before went =
    ap (λ m. after_instructions seen write m start) (add-one n)
    ∙ ran_suc seen write n start
    ∙ ap (option_and_then (one_instruction_more seen write)) before
    ∙ went

pub one_more_ran : {State : Type 0} → (seen : State → SeenMemory) → (write : Write → State → State) → (why : Step)
    → (n : ℕ) (start : Going State) (r after : Regs) (old new : State) (flow : Flow)
    → after_instructions seen write n start ≡ Some (going old r)
    → FlowsAs write false why (exec (seen old) r) r after old new flow → flow ≡ flows.Next
    → after_instructions seen write (n + 1) start ≡ Some (going new after)
one_more_ran seen write why n start r after old new flow before did next =
    one_more_by seen write n start r old (going new after) before
    (went_next write why (exec (seen old) r) r after old new
    (subst (λ (f : Flow). FlowsAs write false why (exec (seen old) r) r after old new f) next did))

pub one_more_jumped : {State : Type 0} → (seen : State → SeenMemory) → (write : Write → State → State) → (why : Step)
    → (n : ℕ) (start : Going State) (r after : Regs) (old new : State) (flow : Flow)
    → after_instructions seen write n start ≡ Some (going old r)
    → FlowsAs write false why (exec (seen old) r) r after old new flow → flow ≡ flows.Jump
    → after_instructions seen write (n + 1) start ≡ Some (going new after)
one_more_jumped seen write why n start r after old new flow before did jumped =
    one_more_by seen write n start r old (going new after) before
    (went_jump write why (exec (seen old) r) r after old new
    (subst (λ (f : Flow). FlowsAs write false why (exec (seen old) r) r after old new f) jumped did))

-- a run that ends before its limit has not changed what the next instruction does
pub ended : {State : Type 0} → (write : Write → State → State) → (why : Step) → (done next : Done) → (r after : Regs)
    → (old new : State) → (flow : Flow) → (n most : ℕ)
    → FlowsAs write false why done r after old new flow → (flow ≡ flows.Next → ⊥) → (flow ≡ flows.Jump → ⊥)
    → (after ≡ r → new ≡ old → next ≡ done) → n < most → EndsBy next n most flow
ended write why done next r after old new flows.Next n most h apart straight same few = absurd (apart refl)
ended write why done next r after old new flows.Jump n most h apart straight same few = absurd (straight refl)
ended write why Calls next r after old new flows.Call n most h apart straight same few = (few, same h.0 h.1)
ended write why (Goes q ws) next r after old new flows.Call n most h apart straight same few = absurd h
ended write why (Traps signal) next r after old new flows.Call n most h apart straight same few = absurd h
ended write why (Touches area) next r after old new flows.Call n most h apart straight same few = absurd h
ended write why (Traps signal) next r after old new (flows.Trap told) n most h apart straight same few =
    (few, same h.1 h.2 ∙ ap Traps (sym h.0))
ended write why (Goes q ws) next r after old new (flows.Trap told) n most h apart straight same few = absurd h
ended write why Calls next r after old new (flows.Trap told) n most h apart straight same few = absurd h
ended write why (Touches area) next r after old new (flows.Trap told) n most h apart straight same few = absurd h
ended write why done next r after old new flows.Refused n most h apart straight same few = few
