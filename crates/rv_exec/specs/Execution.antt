-- What one instruction of a task does, a row a line in the manual's order.
use Rattle.std.specs.Prelude.{◌≡◌, ℕ, ◌+◌, ◌-◌, ◌%◌, ◌^◌, nat_eq, Bool, true, false, List, [], ◌∷◌, if◌then◌else◌}
use Rattle.rv_table.specs.declared.error.Area.{Area}
use Rattle.rv_table.specs.declared.instr.Instr.{Instr}
use Rattle.rv_table.specs.declared.instr.Instr.TheVariants as instr
use Rattle.rv_table.specs.declared.registers.Regs.{Regs}
use Rattle.rv_table.specs.Fields.{sign_extend}
use Rattle.rv_table.specs.Registers.{reg, with_reg, at_pc, gone_on}
use Rattle.rv_table.specs.Table.{instr_of}
use Rattle.rv_table.specs.Words.{sum}
use Rattle.rv_alu.specs.Branches.{is_taken}
use Rattle.rv_alu.specs.Values.{value_of}
use Rattle.rv_atomic.specs.Operations.{stored_by}
use Rattle.rv_table.specs.Bytes.{SeenMemory, Accessed, Value, Fault, Shared, loaded}
use Rattle.rv_exec.specs.Writes.{Write, Stores, Reserves, Releases, all_after}
use Rattle.rv_exec.specs.declared.outcome.Step.{Step}
use Rattle.rv_exec.specs.declared.outcome.Step.TheVariants as steps

-- what an instruction comes to: the task goes on with these registers once so much is written, calls the system, traps
-- with a signal, or touches a shared area that is not handed in
-- RISC-V Unprivileged ISA 20191213, 1.6, Exceptions, Traps, and Interrupts; signal(7)
pub data Done : Type 0 where
  Goes : Regs → List Write → Done
  Calls : Done
  Traps : ℕ → Done
  Touches : Area → Done

-- on to the next instruction, with a value in a register
-- RISC-V Unprivileged ISA 20191213, 2.4
abbrev pub valued : Regs → (rd value : ℕ) → Done
valued r rd value = Goes (gone_on (with_reg r rd value)) []

-- a jump, with the next instruction's address in a register; one to an address that is no multiple of 4 changes nothing
-- RISC-V Unprivileged ISA 20191213, 2.5, Control Transfer Instructions; signal(7), SIGBUS 7
abbrev pub jumped : Regs → (rd target : ℕ) → Done
jumped r rd target = if nat_eq (target % 4) 0 then Goes (at_pc (with_reg r rd (sum r.pc 4)) target) [] else Traps 7

-- an address with its lowest bit cleared
-- RISC-V Unprivileged ISA 20191213, 2.5, JALR
abbrev pub even : ℕ → ℕ
even address = address - address % 2

-- a branch: where it is taken, a jump without a register; else it goes on
-- RISC-V Unprivileged ISA 20191213, 2.5, Conditional Branches; signal(7), SIGBUS 7
abbrev pub branched : Regs → Bool → (target : ℕ) → Done
branched r true target = if nat_eq (target % 4) 0 then Goes (at_pc r target) [] else Traps 7
branched r false target = Goes (gone_on r) []

-- the low bits of a number, the highest of them with that place, with their sign carried on to 64 bits
-- RISC-V Unprivileged ISA 20191213, 2.6: sign-extension
abbrev pub extended : (top value : ℕ) → ℕ
extended top value = sign_extend top (value % 2 ^ (top + 1))

-- a load of so many bytes, extended to 64 bits; plain loads need no alignment
-- RISC-V Unprivileged ISA 20191213, 2.6 and 5.3, Load and Store Instructions; signal(7), SIGSEGV 11
abbrev pub by_value : Regs → (rd : ℕ) → (ℕ → ℕ) → Accessed → Done
by_value r rd extend (Value value) = valued r rd (extend value)
by_value r rd extend (Fault address) = Traps 11
by_value r rd extend (Shared area) = Touches area

abbrev pub loads : SeenMemory → Regs → (rd address width : ℕ) → (ℕ → ℕ) → Done
loads m r rd address width extend = by_value r rd extend (loaded m.data_ address width)

-- what follows an access where each byte has the right to it
-- signal(7), SIGSEGV 11
abbrev pub allowed : Accessed → Done → Done
allowed (Value value) done = done
allowed (Fault address) done = Traps 11
allowed (Shared area) done = Touches area

-- what an instruction does that needs an address which is a multiple of its width
-- RISC-V Unprivileged ISA 20191213, 8.2 and 8.4: alignment; signal(7), SIGBUS 7
abbrev pub aligned : (address width : ℕ) → Done → Done
aligned address width done = if nat_eq (address % width) 0 then done else Traps 7

-- a store of so many of a number's bytes; plain stores need no alignment
-- RISC-V Unprivileged ISA 20191213, 2.6 and 5.3, Load and Store Instructions
abbrev pub stores : SeenMemory → Regs → (address width value : ℕ) → Done
stores m r address width value =
    allowed (loaded m.room address width) (Goes (gone_on r) (Stores address width value ∷ []))

-- a load that leaves a reservation
-- RISC-V Unprivileged ISA 20191213, 8.2, LR
abbrev pub reserving : Regs → (rd address width : ℕ) → (ℕ → ℕ) → Accessed → Done
reserving r rd address width extend (Value value) =
    Goes (gone_on (with_reg r rd (extend value))) (Reserves address width ∷ [])
reserving r rd address width extend (Fault bad) = Traps 11
reserving r rd address width extend (Shared area) = Touches area

abbrev pub load_reserved : SeenMemory → Regs → (rd address width : ℕ) → (ℕ → ℕ) → Done
load_reserved m r rd address width extend =
    aligned address width (reserving r rd address width extend (loaded m.data_ address width))

-- a store where the task has the reservation of just that address and width, and a register that tells of it: 0 where
-- it stored, else 1. It ends the reservation in either case
-- RISC-V Unprivileged ISA 20191213, 8.2, SC; that it needs the right to store where it fails too: profile
abbrev pub conditional : Regs → (rd address width value : ℕ) → Bool → Done
conditional r rd address width value true =
    Goes (gone_on (with_reg r rd 0)) (Releases address ∷ Stores address width value ∷ [])
conditional r rd address width value false = Goes (gone_on (with_reg r rd 1)) (Releases address ∷ [])

abbrev pub store_conditional : SeenMemory → Regs → (rd address width value : ℕ) → Done
store_conditional m r rd address width value =
    aligned address width
    (allowed (loaded m.room address width) (conditional r rd address width value (m.reserves address width)))

-- an access to bytes that needs both the right to read and the right to write: a byte that lacks one of them goes
-- before one in a shared area
-- signal(7), SIGSEGV 11; that it goes first: profile
abbrev pub both : (data_ room : Accessed) → Accessed
both (Fault bad) room = Fault bad
both (Value value) (Value old) = Value value
both (Value value) (Fault bad) = Fault bad
both (Value value) (Shared area) = Shared area
both (Shared area) (Value old) = Shared area
both (Shared area) (Fault bad) = Fault bad
both (Shared area) (Shared other) = Shared other

-- an atomic memory operation: a register gets what memory held, and memory what the operation makes of it
-- RISC-V Unprivileged ISA 20191213, 8.4, Atomic Memory Operations
abbrev pub operating : Regs → Instr → (rd address width b : ℕ) → (ℕ → ℕ) → Accessed → Done
operating r i rd address width b extend (Value old) =
    Goes (gone_on (with_reg r rd (extend old))) (Stores address width (stored_by i (extend old) b) ∷ [])
operating r i rd address width b extend (Fault bad) = Traps 11
operating r i rd address width b extend (Shared area) = Touches area

abbrev pub operates : SeenMemory → Regs → Instr → (rd address width b : ℕ) → (ℕ → ℕ) → Done
operates m r i rd address width b extend =
    aligned address width
    (operating r i rd address width b extend (both (loaded m.data_ address width) (loaded m.room address width)))

-- what an instruction does; fences do nothing, since a task's own accesses are in order
-- RISC-V Unprivileged ISA 20191213, 2.4 to 2.8, 3.1, 5.2 to 5.3, 7.1 to 7.2, 8.2 and 8.4; signal(7), SIGTRAP 5 and
-- SIGILL 4
unfoldable pub done_by : SeenMemory → Regs → Instr → Done
done_by m r (instr.Lui rd imm) = valued r rd (value_of (instr.Lui rd imm) 0 0)
done_by m r (instr.Auipc rd imm) = valued r rd (value_of (instr.Auipc rd imm) r.pc 0)
done_by m r (instr.Jal rd imm) = jumped r rd (sum r.pc imm)
done_by m r (instr.Jalr rd rs1 imm) = jumped r rd (even (sum (reg r rs1) imm))
done_by m r (instr.Beq rs1 rs2 imm) =
    branched r (is_taken (instr.Beq rs1 rs2 imm) (reg r rs1) (reg r rs2)) (sum r.pc imm)
done_by m r (instr.Bne rs1 rs2 imm) =
    branched r (is_taken (instr.Bne rs1 rs2 imm) (reg r rs1) (reg r rs2)) (sum r.pc imm)
done_by m r (instr.Blt rs1 rs2 imm) =
    branched r (is_taken (instr.Blt rs1 rs2 imm) (reg r rs1) (reg r rs2)) (sum r.pc imm)
done_by m r (instr.Bge rs1 rs2 imm) =
    branched r (is_taken (instr.Bge rs1 rs2 imm) (reg r rs1) (reg r rs2)) (sum r.pc imm)
done_by m r (instr.Bltu rs1 rs2 imm) =
    branched r (is_taken (instr.Bltu rs1 rs2 imm) (reg r rs1) (reg r rs2)) (sum r.pc imm)
done_by m r (instr.Bgeu rs1 rs2 imm) =
    branched r (is_taken (instr.Bgeu rs1 rs2 imm) (reg r rs1) (reg r rs2)) (sum r.pc imm)
done_by m r (instr.Lb rd rs1 imm) = loads m r rd (sum (reg r rs1) imm) 1 (extended 7)
done_by m r (instr.Lh rd rs1 imm) = loads m r rd (sum (reg r rs1) imm) 2 (extended 15)
done_by m r (instr.Lw rd rs1 imm) = loads m r rd (sum (reg r rs1) imm) 4 (extended 31)
done_by m r (instr.Ld rd rs1 imm) = loads m r rd (sum (reg r rs1) imm) 8 (λ value. value)
done_by m r (instr.Lbu rd rs1 imm) = loads m r rd (sum (reg r rs1) imm) 1 (λ value. value)
done_by m r (instr.Lhu rd rs1 imm) = loads m r rd (sum (reg r rs1) imm) 2 (λ value. value)
done_by m r (instr.Lwu rd rs1 imm) = loads m r rd (sum (reg r rs1) imm) 4 (λ value. value)
done_by m r (instr.Sb rs1 rs2 imm) = stores m r (sum (reg r rs1) imm) 1 (reg r rs2)
done_by m r (instr.Sh rs1 rs2 imm) = stores m r (sum (reg r rs1) imm) 2 (reg r rs2)
done_by m r (instr.Sw rs1 rs2 imm) = stores m r (sum (reg r rs1) imm) 4 (reg r rs2)
done_by m r (instr.Sd rs1 rs2 imm) = stores m r (sum (reg r rs1) imm) 8 (reg r rs2)
done_by m r (instr.Addi rd rs1 imm) = valued r rd (value_of (instr.Addi rd rs1 imm) (reg r rs1) 0)
done_by m r (instr.Slti rd rs1 imm) = valued r rd (value_of (instr.Slti rd rs1 imm) (reg r rs1) 0)
done_by m r (instr.Sltiu rd rs1 imm) = valued r rd (value_of (instr.Sltiu rd rs1 imm) (reg r rs1) 0)
done_by m r (instr.Xori rd rs1 imm) = valued r rd (value_of (instr.Xori rd rs1 imm) (reg r rs1) 0)
done_by m r (instr.Ori rd rs1 imm) = valued r rd (value_of (instr.Ori rd rs1 imm) (reg r rs1) 0)
done_by m r (instr.Andi rd rs1 imm) = valued r rd (value_of (instr.Andi rd rs1 imm) (reg r rs1) 0)
done_by m r (instr.Slli rd rs1 shamt) = valued r rd (value_of (instr.Slli rd rs1 shamt) (reg r rs1) 0)
done_by m r (instr.Srli rd rs1 shamt) = valued r rd (value_of (instr.Srli rd rs1 shamt) (reg r rs1) 0)
done_by m r (instr.Srai rd rs1 shamt) = valued r rd (value_of (instr.Srai rd rs1 shamt) (reg r rs1) 0)
done_by m r (instr.Add rd rs1 rs2) = valued r rd (value_of (instr.Add rd rs1 rs2) (reg r rs1) (reg r rs2))
done_by m r (instr.Sub rd rs1 rs2) = valued r rd (value_of (instr.Sub rd rs1 rs2) (reg r rs1) (reg r rs2))
done_by m r (instr.Sll rd rs1 rs2) = valued r rd (value_of (instr.Sll rd rs1 rs2) (reg r rs1) (reg r rs2))
done_by m r (instr.Slt rd rs1 rs2) = valued r rd (value_of (instr.Slt rd rs1 rs2) (reg r rs1) (reg r rs2))
done_by m r (instr.Sltu rd rs1 rs2) = valued r rd (value_of (instr.Sltu rd rs1 rs2) (reg r rs1) (reg r rs2))
done_by m r (instr.Xor rd rs1 rs2) = valued r rd (value_of (instr.Xor rd rs1 rs2) (reg r rs1) (reg r rs2))
done_by m r (instr.Srl rd rs1 rs2) = valued r rd (value_of (instr.Srl rd rs1 rs2) (reg r rs1) (reg r rs2))
done_by m r (instr.Sra rd rs1 rs2) = valued r rd (value_of (instr.Sra rd rs1 rs2) (reg r rs1) (reg r rs2))
done_by m r (instr.Or rd rs1 rs2) = valued r rd (value_of (instr.Or rd rs1 rs2) (reg r rs1) (reg r rs2))
done_by m r (instr.And rd rs1 rs2) = valued r rd (value_of (instr.And rd rs1 rs2) (reg r rs1) (reg r rs2))
done_by m r instr.Fence = Goes (gone_on r) []
done_by m r instr.FenceI = Goes (gone_on r) []
done_by m r instr.Ecall = Calls
done_by m r instr.Ebreak = Traps 5
done_by m r (instr.Addiw rd rs1 imm) = valued r rd (value_of (instr.Addiw rd rs1 imm) (reg r rs1) 0)
done_by m r (instr.Slliw rd rs1 shamt) = valued r rd (value_of (instr.Slliw rd rs1 shamt) (reg r rs1) 0)
done_by m r (instr.Srliw rd rs1 shamt) = valued r rd (value_of (instr.Srliw rd rs1 shamt) (reg r rs1) 0)
done_by m r (instr.Sraiw rd rs1 shamt) = valued r rd (value_of (instr.Sraiw rd rs1 shamt) (reg r rs1) 0)
done_by m r (instr.Addw rd rs1 rs2) = valued r rd (value_of (instr.Addw rd rs1 rs2) (reg r rs1) (reg r rs2))
done_by m r (instr.Subw rd rs1 rs2) = valued r rd (value_of (instr.Subw rd rs1 rs2) (reg r rs1) (reg r rs2))
done_by m r (instr.Sllw rd rs1 rs2) = valued r rd (value_of (instr.Sllw rd rs1 rs2) (reg r rs1) (reg r rs2))
done_by m r (instr.Srlw rd rs1 rs2) = valued r rd (value_of (instr.Srlw rd rs1 rs2) (reg r rs1) (reg r rs2))
done_by m r (instr.Sraw rd rs1 rs2) = valued r rd (value_of (instr.Sraw rd rs1 rs2) (reg r rs1) (reg r rs2))
done_by m r (instr.Mul rd rs1 rs2) = valued r rd (value_of (instr.Mul rd rs1 rs2) (reg r rs1) (reg r rs2))
done_by m r (instr.Mulh rd rs1 rs2) = valued r rd (value_of (instr.Mulh rd rs1 rs2) (reg r rs1) (reg r rs2))
done_by m r (instr.Mulhsu rd rs1 rs2) = valued r rd (value_of (instr.Mulhsu rd rs1 rs2) (reg r rs1) (reg r rs2))
done_by m r (instr.Mulhu rd rs1 rs2) = valued r rd (value_of (instr.Mulhu rd rs1 rs2) (reg r rs1) (reg r rs2))
done_by m r (instr.Div rd rs1 rs2) = valued r rd (value_of (instr.Div rd rs1 rs2) (reg r rs1) (reg r rs2))
done_by m r (instr.Divu rd rs1 rs2) = valued r rd (value_of (instr.Divu rd rs1 rs2) (reg r rs1) (reg r rs2))
done_by m r (instr.Rem rd rs1 rs2) = valued r rd (value_of (instr.Rem rd rs1 rs2) (reg r rs1) (reg r rs2))
done_by m r (instr.Remu rd rs1 rs2) = valued r rd (value_of (instr.Remu rd rs1 rs2) (reg r rs1) (reg r rs2))
done_by m r (instr.Mulw rd rs1 rs2) = valued r rd (value_of (instr.Mulw rd rs1 rs2) (reg r rs1) (reg r rs2))
done_by m r (instr.Divw rd rs1 rs2) = valued r rd (value_of (instr.Divw rd rs1 rs2) (reg r rs1) (reg r rs2))
done_by m r (instr.Divuw rd rs1 rs2) = valued r rd (value_of (instr.Divuw rd rs1 rs2) (reg r rs1) (reg r rs2))
done_by m r (instr.Remw rd rs1 rs2) = valued r rd (value_of (instr.Remw rd rs1 rs2) (reg r rs1) (reg r rs2))
done_by m r (instr.Remuw rd rs1 rs2) = valued r rd (value_of (instr.Remuw rd rs1 rs2) (reg r rs1) (reg r rs2))
done_by m r (instr.LrW rd rs1) = load_reserved m r rd (reg r rs1) 4 (extended 31)
done_by m r (instr.ScW rd rs1 rs2) = store_conditional m r rd (reg r rs1) 4 (reg r rs2)
done_by m r (instr.AmoswapW rd rs1 rs2) =
    operates m r (instr.AmoswapW rd rs1 rs2) rd (reg r rs1) 4 (reg r rs2) (extended 31)
done_by m r (instr.AmoaddW rd rs1 rs2) =
    operates m r (instr.AmoaddW rd rs1 rs2) rd (reg r rs1) 4 (reg r rs2) (extended 31)
done_by m r (instr.AmoxorW rd rs1 rs2) =
    operates m r (instr.AmoxorW rd rs1 rs2) rd (reg r rs1) 4 (reg r rs2) (extended 31)
done_by m r (instr.AmoandW rd rs1 rs2) =
    operates m r (instr.AmoandW rd rs1 rs2) rd (reg r rs1) 4 (reg r rs2) (extended 31)
done_by m r (instr.AmoorW rd rs1 rs2) =
    operates m r (instr.AmoorW rd rs1 rs2) rd (reg r rs1) 4 (reg r rs2) (extended 31)
done_by m r (instr.AmominW rd rs1 rs2) =
    operates m r (instr.AmominW rd rs1 rs2) rd (reg r rs1) 4 (reg r rs2) (extended 31)
done_by m r (instr.AmomaxW rd rs1 rs2) =
    operates m r (instr.AmomaxW rd rs1 rs2) rd (reg r rs1) 4 (reg r rs2) (extended 31)
done_by m r (instr.AmominuW rd rs1 rs2) =
    operates m r (instr.AmominuW rd rs1 rs2) rd (reg r rs1) 4 (reg r rs2) (extended 31)
done_by m r (instr.AmomaxuW rd rs1 rs2) =
    operates m r (instr.AmomaxuW rd rs1 rs2) rd (reg r rs1) 4 (reg r rs2) (extended 31)
done_by m r (instr.LrD rd rs1) = load_reserved m r rd (reg r rs1) 8 (λ value. value)
done_by m r (instr.ScD rd rs1 rs2) = store_conditional m r rd (reg r rs1) 8 (reg r rs2)
done_by m r (instr.AmoswapD rd rs1 rs2) =
    operates m r (instr.AmoswapD rd rs1 rs2) rd (reg r rs1) 8 (reg r rs2) (λ value. value)
done_by m r (instr.AmoaddD rd rs1 rs2) =
    operates m r (instr.AmoaddD rd rs1 rs2) rd (reg r rs1) 8 (reg r rs2) (λ value. value)
done_by m r (instr.AmoxorD rd rs1 rs2) =
    operates m r (instr.AmoxorD rd rs1 rs2) rd (reg r rs1) 8 (reg r rs2) (λ value. value)
done_by m r (instr.AmoandD rd rs1 rs2) =
    operates m r (instr.AmoandD rd rs1 rs2) rd (reg r rs1) 8 (reg r rs2) (λ value. value)
done_by m r (instr.AmoorD rd rs1 rs2) =
    operates m r (instr.AmoorD rd rs1 rs2) rd (reg r rs1) 8 (reg r rs2) (λ value. value)
done_by m r (instr.AmominD rd rs1 rs2) =
    operates m r (instr.AmominD rd rs1 rs2) rd (reg r rs1) 8 (reg r rs2) (λ value. value)
done_by m r (instr.AmomaxD rd rs1 rs2) =
    operates m r (instr.AmomaxD rd rs1 rs2) rd (reg r rs1) 8 (reg r rs2) (λ value. value)
done_by m r (instr.AmominuD rd rs1 rs2) =
    operates m r (instr.AmominuD rd rs1 rs2) rd (reg r rs1) 8 (reg r rs2) (λ value. value)
done_by m r (instr.AmomaxuD rd rs1 rs2) =
    operates m r (instr.AmomaxuD rd rs1 rs2) rd (reg r rs1) 8 (reg r rs2) (λ value. value)
done_by m r instr.Illegal = Traps 4

-- what the bytes at pc do: where they may not be executed it is a segmentation violation
-- signal(7), SIGSEGV 11; that it goes first: profile
abbrev pub by_fetched : SeenMemory → Regs → Accessed → Done
by_fetched m r (Value word) = done_by m r (instr_of word)
by_fetched m r (Fault address) = Traps 11
by_fetched m r (Shared area) = Touches area

-- what the next instruction of a task does
-- RISC-V Unprivileged ISA 20191213, 1.2 and 1.5
unfoldable pub exec : SeenMemory → Regs → Done
exec m r = by_fetched m r (loaded m.code r.pc 4)

-- a step did as the instruction does, to registers and to what is told of memory; what traps, calls or touches an area
-- changes nothing, nor does want of memory
-- RISC-V Unprivileged ISA 20191213, 1.6
abbrev pub StepsAs : {State : Type 0} → (Write → State → State) → Done → (before after : Regs)
    → (old new : State) → Step → Type 0
StepsAs write (Goes r ws) before after old new steps.Next = (after ≡ r) × (new ≡ all_after write ws old)
StepsAs write Calls before after old new steps.Call = (after ≡ before) × (new ≡ old)
StepsAs write (Traps signal) before after old new (steps.Trap told) =
    (told ≡ signal) × (after ≡ before) × (new ≡ old)
StepsAs write (Touches area) before after old new (steps.Shared told) =
    (told ≡ area) × (after ≡ before) × (new ≡ old)
StepsAs write done before after old new steps.Memory = (after ≡ before) × (new ≡ old)
StepsAs write done before after old new _ = ⊥
