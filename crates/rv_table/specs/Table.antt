-- The table of instructions: RV64I, M, A and Zifencei, a row a line in the manual's order.
-- RISC-V Unprivileged ISA 20191213, chapter 24, RV32/64G Instruction Set Listings
use Rattle.std.specs.Prelude.{ℕ, nat_eq, List, [], ◌∷◌, ◌++◌, map, filter, ◌≡◌}
use Rattle.std.specs.List.{flat_map}
use Rattle.rv_table.specs.declared.instr.Instr.{Instr}
use Rattle.rv_table.specs.declared.instr.Instr.TheVariants as instr
use Rattle.rv_table.specs.Fields.{opcode_of, rd_of, funct3_of, rs1_of, rs2_of, funct7_of, funct6_of, funct5_of}
use Rattle.rv_table.specs.Fields.{shamt_of, word_shamt_of, i_immediate, s_immediate, b_immediate, u_immediate}
use Rattle.rv_table.specs.Fields.{j_immediate}

-- a table's rows, each under its key; and all rows of a key
-- profile
abbrev pub Rows : Type 0 → Type 0
Rows A = List (ℕ × A)

abbrev pub rows_at : {A : Type 0} → ℕ → Rows A → List A
rows_at key rows = map (λ row. row.1) (filter (λ row. nat_eq key row.0) rows)

-- ---- what a row takes from a word, by its format
-- 2.2, Base Instruction Formats

abbrev pub r_format : (ℕ → ℕ → ℕ → Instr) → ℕ → Instr
r_format make word = make (rd_of word) (rs1_of word) (rs2_of word)

abbrev pub i_format : (ℕ → ℕ → ℕ → Instr) → ℕ → Instr
i_format make word = make (rd_of word) (rs1_of word) (i_immediate word)

abbrev pub s_format : (ℕ → ℕ → ℕ → Instr) → ℕ → Instr
s_format make word = make (rs1_of word) (rs2_of word) (s_immediate word)

abbrev pub b_format : (ℕ → ℕ → ℕ → Instr) → ℕ → Instr
b_format make word = make (rs1_of word) (rs2_of word) (b_immediate word)

abbrev pub u_format : (ℕ → ℕ → Instr) → ℕ → Instr
u_format make word = make (rd_of word) (u_immediate word)

abbrev pub j_format : (ℕ → ℕ → Instr) → ℕ → Instr
j_format make word = make (rd_of word) (j_immediate word)

-- 5.2, shifts by an immediate; 8.2, LR, which has no rs2

abbrev pub shift_format : (ℕ → ℕ → ℕ → Instr) → ℕ → Instr
shift_format make word = make (rd_of word) (rs1_of word) (shamt_of word)

abbrev pub word_shift_format : (ℕ → ℕ → ℕ → Instr) → ℕ → Instr
word_shift_format make word = make (rd_of word) (rs1_of word) (word_shamt_of word)

abbrev pub load_reserved_format : (ℕ → ℕ → Instr) → ℕ → Instr
load_reserved_format make word = make (rd_of word) (rs1_of word)

-- ---- the rows of each opcode

-- by funct3
-- chapter 24, RV32I and RV64I
abbrev pub jumps : Rows (ℕ → ℕ → ℕ → Instr)
jumps = (0, instr.Jalr) ∷ []

abbrev pub branches : Rows (ℕ → ℕ → ℕ → Instr)
branches =
    (0, instr.Beq) ∷
    (1, instr.Bne) ∷
    (4, instr.Blt) ∷
    (5, instr.Bge) ∷
    (6, instr.Bltu) ∷
    (7, instr.Bgeu) ∷ []

abbrev pub load_rows : Rows (ℕ → ℕ → ℕ → Instr)
load_rows =
    (0, instr.Lb) ∷
    (1, instr.Lh) ∷
    (2, instr.Lw) ∷
    (3, instr.Ld) ∷
    (4, instr.Lbu) ∷
    (5, instr.Lhu) ∷
    (6, instr.Lwu) ∷ []

abbrev pub store_rows : Rows (ℕ → ℕ → ℕ → Instr)
store_rows =
    (0, instr.Sb) ∷
    (1, instr.Sh) ∷
    (2, instr.Sw) ∷
    (3, instr.Sd) ∷ []

abbrev pub immediates : Rows (ℕ → ℕ → ℕ → Instr)
immediates =
    (0, instr.Addi) ∷
    (2, instr.Slti) ∷
    (3, instr.Sltiu) ∷
    (4, instr.Xori) ∷
    (6, instr.Ori) ∷
    (7, instr.Andi) ∷ []

-- by funct3, and then by the bits above the shift
-- chapter 24, RV64I
abbrev pub shifts : Rows (Rows (ℕ → ℕ → ℕ → Instr))
shifts =
    (1, (0, instr.Slli) ∷ []) ∷
    (5, (0, instr.Srli) ∷ (16, instr.Srai) ∷ []) ∷ []

-- by funct7, and then by funct3
-- chapter 24, RV32I and RV32M
abbrev pub base_registers : Rows (ℕ → ℕ → ℕ → Instr)
base_registers =
    (0, instr.Add) ∷
    (1, instr.Sll) ∷
    (2, instr.Slt) ∷
    (3, instr.Sltu) ∷
    (4, instr.Xor) ∷
    (5, instr.Srl) ∷
    (6, instr.Or) ∷
    (7, instr.And) ∷ []

abbrev pub alternate_registers : Rows (ℕ → ℕ → ℕ → Instr)
alternate_registers =
    (0, instr.Sub) ∷
    (5, instr.Sra) ∷ []

abbrev pub multiply_registers : Rows (ℕ → ℕ → ℕ → Instr)
multiply_registers =
    (0, instr.Mul) ∷
    (1, instr.Mulh) ∷
    (2, instr.Mulhsu) ∷
    (3, instr.Mulhu) ∷
    (4, instr.Div) ∷
    (5, instr.Divu) ∷
    (6, instr.Rem) ∷
    (7, instr.Remu) ∷ []

abbrev pub registers : Rows (Rows (ℕ → ℕ → ℕ → Instr))
registers = (0, base_registers) ∷ (32, alternate_registers) ∷ (1, multiply_registers) ∷ []

-- by funct3
-- chapter 24, RV64I
abbrev pub word_immediates : Rows (ℕ → ℕ → ℕ → Instr)
word_immediates = (0, instr.Addiw) ∷ []

-- by funct3, and then by funct7
-- chapter 24, RV64I
abbrev pub word_shifts : Rows (Rows (ℕ → ℕ → ℕ → Instr))
word_shifts =
    (1, (0, instr.Slliw) ∷ []) ∷
    (5, (0, instr.Srliw) ∷ (32, instr.Sraiw) ∷ []) ∷ []

-- by funct7, and then by funct3
-- chapter 24, RV64I and RV64M
abbrev pub base_word_registers : Rows (ℕ → ℕ → ℕ → Instr)
base_word_registers =
    (0, instr.Addw) ∷
    (1, instr.Sllw) ∷
    (5, instr.Srlw) ∷ []

abbrev pub alternate_word_registers : Rows (ℕ → ℕ → ℕ → Instr)
alternate_word_registers =
    (0, instr.Subw) ∷
    (5, instr.Sraw) ∷ []

abbrev pub multiply_word_registers : Rows (ℕ → ℕ → ℕ → Instr)
multiply_word_registers =
    (0, instr.Mulw) ∷
    (4, instr.Divw) ∷
    (5, instr.Divuw) ∷
    (6, instr.Remw) ∷
    (7, instr.Remuw) ∷ []

abbrev pub word_registers : Rows (Rows (ℕ → ℕ → ℕ → Instr))
word_registers = (0, base_word_registers) ∷ (32, alternate_word_registers) ∷ (1, multiply_word_registers) ∷ []

-- by funct3, and then by funct5; LR by rs2 too, which is 0. The bits aq and rl are not looked at
-- chapter 24, RV32A and RV64A
abbrev pub load_reserveds : Rows (Rows (Rows (ℕ → ℕ → Instr)))
load_reserveds =
    (2, (2, (0, instr.LrW) ∷ []) ∷ []) ∷
    (3, (2, (0, instr.LrD) ∷ []) ∷ []) ∷ []

abbrev pub word_atomics : Rows (ℕ → ℕ → ℕ → Instr)
word_atomics =
    (3, instr.ScW) ∷
    (1, instr.AmoswapW) ∷
    (0, instr.AmoaddW) ∷
    (4, instr.AmoxorW) ∷
    (12, instr.AmoandW) ∷
    (8, instr.AmoorW) ∷
    (16, instr.AmominW) ∷
    (20, instr.AmomaxW) ∷
    (24, instr.AmominuW) ∷
    (28, instr.AmomaxuW) ∷ []

abbrev pub double_atomics : Rows (ℕ → ℕ → ℕ → Instr)
double_atomics =
    (3, instr.ScD) ∷
    (1, instr.AmoswapD) ∷
    (0, instr.AmoaddD) ∷
    (4, instr.AmoxorD) ∷
    (12, instr.AmoandD) ∷
    (8, instr.AmoorD) ∷
    (16, instr.AmominD) ∷
    (20, instr.AmomaxD) ∷
    (24, instr.AmominuD) ∷
    (28, instr.AmomaxuD) ∷ []

abbrev pub atomics : Rows (Rows (ℕ → ℕ → ℕ → Instr))
atomics = (2, word_atomics) ∷ (3, double_atomics) ∷ []

-- by funct3; no other field is looked at
-- chapter 24, RV32I and Zifencei
abbrev pub fences : Rows Instr
fences =
    (0, instr.Fence) ∷
    (1, instr.FenceI) ∷ []

-- by the whole word
-- chapter 24, RV32I
abbrev pub systems : Rows Instr
systems =
    (0x00000073, instr.Ecall) ∷
    (0x00100073, instr.Ebreak) ∷ []

-- ---- the opcodes

-- the instructions of rows by funct3, and of rows by one key and then another
-- profile
abbrev pub by_funct3 : ((ℕ → ℕ → ℕ → Instr) → ℕ → Instr) → Rows (ℕ → ℕ → ℕ → Instr)
    → ℕ → List Instr
by_funct3 format rows word = map (λ make. format make word) (rows_at (funct3_of word) rows)

abbrev pub by_two : ((ℕ → ℕ → ℕ → Instr) → ℕ → Instr) → (ℕ → ℕ) → (ℕ → ℕ)
    → Rows (Rows (ℕ → ℕ → ℕ → Instr)) → ℕ → List Instr
by_two format first second rows word =
    map (λ make. format make word) (flat_map (rows_at (second word)) (rows_at (first word) rows))

abbrev pub by_three : ((ℕ → ℕ → Instr) → ℕ → Instr) → (ℕ → ℕ) → (ℕ → ℕ) → (ℕ → ℕ)
    → Rows (Rows (Rows (ℕ → ℕ → Instr))) → ℕ → List Instr
by_three format first second third rows word =
    map (λ make. format make word)
    (flat_map (rows_at (third word)) (flat_map (rows_at (second word)) (rows_at (first word) rows)))

-- the instructions that the rows of an opcode make of a word
-- chapter 24, RV32/64G Instruction Set Listings; table 24.1
abbrev pub opcodes : Rows (ℕ → List Instr)
opcodes =
    (0x37, λ word. u_format instr.Lui word ∷ []) ∷
    (0x17, λ word. u_format instr.Auipc word ∷ []) ∷
    (0x6f, λ word. j_format instr.Jal word ∷ []) ∷
    (0x67, by_funct3 i_format jumps) ∷
    (0x63, by_funct3 b_format branches) ∷
    (0x03, by_funct3 i_format load_rows) ∷
    (0x23, by_funct3 s_format store_rows) ∷
    (0x13, λ word. by_funct3 i_format immediates word ++ by_two shift_format funct3_of funct6_of shifts word) ∷
    (0x33, by_two r_format funct7_of funct3_of registers) ∷
    (0x0f, λ word. rows_at (funct3_of word) fences) ∷
    (0x73, λ word. rows_at word systems) ∷ (
      0x1b,
      λ word. by_funct3 i_format word_immediates word
          ++ by_two word_shift_format funct3_of funct7_of word_shifts word,
    ) ∷
    (0x3b, by_two r_format funct7_of funct3_of word_registers) ∷ (
      0x2f,
      λ word. by_three load_reserved_format funct3_of funct5_of rs2_of load_reserveds word
          ++ by_two r_format funct3_of funct5_of atomics word,
    ) ∷ []

-- the instructions that the rows of the table make of a word
-- chapter 24, RV32/64G Instruction Set Listings
unfoldable pub rows_of : ℕ → List Instr
rows_of word = flat_map (λ make. make word) (rows_at (opcode_of word) opcodes)

-- an instruction is the only one of some, or illegal where there is none
-- chapter 24, RV32/64G Instruction Set Listings
abbrev pub IsOnly : List Instr → Instr → Type 0
IsOnly [] told = told ≡ instr.Illegal
IsOnly (only ∷ []) told = told ≡ only
IsOnly (one ∷ two ∷ more) told = ⊥

-- the first of some instructions, or an illegal one where there is none
-- profile
abbrev pub first_or_illegal : List Instr → Instr
first_or_illegal [] = instr.Illegal
first_or_illegal (first ∷ rest) = first

-- the instruction that a word is
-- chapter 24, RV32/64G Instruction Set Listings
abbrev pub instr_of : ℕ → Instr
instr_of word = first_or_illegal (rows_of word)
