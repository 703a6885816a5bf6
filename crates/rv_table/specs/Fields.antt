-- The fields of an instruction word, bit 0 the lowest. RISC-V Unprivileged ISA 20191213, chapter 2.
use Rattle.std.specs.Prelude.{ℕ, ◌+◌, ◌-◌, ◌*◌, ◌/◌, ◌%◌, ◌^◌, nat_lt, if◌then◌else◌}

-- so many bits of a word from a place on
-- 2.2, Base Instruction Formats
abbrev pub bits : (place width word : ℕ) → ℕ
bits place width word = word / 2 ^ place % 2 ^ width

-- 2.2, Base Instruction Formats
abbrev pub opcode_of : ℕ → ℕ
opcode_of word = bits 0 7 word

abbrev pub rd_of : ℕ → ℕ
rd_of word = bits 7 5 word

abbrev pub funct3_of : ℕ → ℕ
funct3_of word = bits 12 3 word

abbrev pub rs1_of : ℕ → ℕ
rs1_of word = bits 15 5 word

abbrev pub rs2_of : ℕ → ℕ
rs2_of word = bits 20 5 word

abbrev pub funct7_of : ℕ → ℕ
funct7_of word = bits 25 7 word

-- the bits above a shift of six bits
-- 5.2, Integer Register-Immediate Instructions
abbrev pub funct6_of : ℕ → ℕ
funct6_of word = bits 26 6 word

-- the operation of an atomic instruction
-- 8.1, Specifying Ordering of Atomic Instructions
abbrev pub funct5_of : ℕ → ℕ
funct5_of word = bits 27 5 word

-- how far a shift goes: of 64 bits, and of 32
-- 5.2, Integer Register-Immediate Instructions
abbrev pub shamt_of : ℕ → ℕ
shamt_of word = bits 20 6 word

abbrev pub word_shamt_of : ℕ → ℕ
word_shamt_of word = bits 20 5 word

-- a number of which bit `top` is the sign, in 64 bits
-- 1.3 and 2.2, sign-extension
abbrev pub sign_extend : (top n : ℕ) → ℕ
sign_extend top n = if nat_lt n (2 ^ top) then n else n + (2 ^ 64 - 2 ^ (top + 1))

-- the immediates of the formats, each bit in its place
-- 2.3, Immediate Encoding Variants
abbrev pub i_immediate : ℕ → ℕ
i_immediate word = sign_extend 11 (bits 20 12 word)

abbrev pub s_immediate : ℕ → ℕ
s_immediate word = sign_extend 11 (bits 25 7 word * 2 ^ 5 + bits 7 5 word)

abbrev pub b_immediate : ℕ → ℕ
b_immediate word =
    sign_extend 12 (bits 31 1 word * 2 ^ 12 + bits 7 1 word * 2 ^ 11 + bits 25 6 word * 2 ^ 5 + bits 8 4 word * 2)

abbrev pub u_immediate : ℕ → ℕ
u_immediate word = sign_extend 31 (bits 12 20 word * 2 ^ 12)

abbrev pub j_immediate : ℕ → ℕ
j_immediate word =
    sign_extend 20 (bits 31 1 word * 2 ^ 20 + bits 12 8 word * 2 ^ 12 + bits 20 1 word * 2 ^ 11 + bits 21 10 word * 2)
