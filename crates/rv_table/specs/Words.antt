-- Numbers of 64 and of 32 bits, with and without a sign.
use Rattle.std.specs.Prelude.{◌≡◌, ◌⊎◌, ℕ, ◌+◌, ◌-◌, ◌*◌, ◌/◌, ◌%◌, ◌^◌, ℤ, Bool, if◌then◌else◌}
use Rattle.std.specs.Int.{cast_signed, cast_unsigned, w32, w64}

-- a register as a signed number, and a signed number as a register
-- RISC-V Unprivileged ISA 20191213, 1.5: two's complement
abbrev pub signed : ℕ → ℤ
signed n = cast_signed w64 n

abbrev pub bits_of : ℤ → ℕ
bits_of z = cast_unsigned w64 z

-- the low 32 bits of a register, as they are and as a signed number
-- 5.2, the W instructions
abbrev pub low_word : ℕ → ℕ
low_word n = n % 2 ^ 32

abbrev pub signed_word : ℕ → ℤ
signed_word n = cast_signed w32 (low_word n)

-- the low 32 bits, with their sign carried on to 64
-- 5.2, the W instructions
abbrev pub word : ℕ → ℕ
word n = bits_of (signed_word n)

-- 1 where a test holds, and else 0
-- 2.4, SLT and SLTU
abbrev pub flag : Bool → ℕ
flag b = if b then 1 else 0

-- sum, difference and product, without what overflows
-- 2.4, ADD and SUB; 7.1, MUL
abbrev pub sum : ℕ → ℕ → ℕ
sum a b = (a + b) % 2 ^ 64

abbrev pub difference : ℕ → ℕ → ℕ
difference a b = (a + (2 ^ 64 - b)) % 2 ^ 64

abbrev pub product : ℕ → ℕ → ℕ
product a b = a * b % 2 ^ 64

-- shifts: to the left and to the right with zeros, and to the right with the sign
-- 2.4 and 5.2, SLL, SRL and SRA
abbrev pub shifted_left : ℕ → ℕ → ℕ
shifted_left n places = n * 2 ^ places % 2 ^ 64

abbrev pub shifted_right : ℕ → ℕ → ℕ
shifted_right n places = n / 2 ^ places

-- so many bytes are one, two, four or eight
-- 2.6 and 5.3, Load and Store Instructions
abbrev pub IsWidth : ℕ → Type 0
IsWidth width = (width ≡ 1) ⊎ (width ≡ 2) ⊎ (width ≡ 4) ⊎ (width ≡ 8)
