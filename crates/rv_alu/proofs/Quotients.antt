-- The low 32 bits of a quotient of words are those of the quotient in 64 bits, and what a divisor that is not 0 gives.
use Rattle.std.proofs.Common.{◌≡◌, refl, sym, ap, ℕ, zero, suc, ◌/◌, ◌%◌, ◌^◌, ◌≤◌, ℤ, pos, negsuc, neg_ℤ, arith}
use Rattle.std.proofs.Common.{◌∙◌, unsigned_abs, int_div, FitsSigned, nat_eq, if◌then◌else◌}
use Rattle.std.proofs.lemmas.Bool.{ne_eqb}
use Rattle.std.proofs.lemmas.Int.{to_z-of_z}
use Rattle.std.specs.Int.{cast_unsigned, cast_signed, int_wrapping_div, w32, w64}
use Rattle.rv_table.specs.Words.{bits_of, word}
use native.Mathlib.Nat.{div-le_self}

-- the same of a number from -2^31 to 2^31
low_of : (z : ℤ) → unsigned_abs z ≤ 2 ^ 31 → cast_unsigned w64 z % 2 ^ 32 ≡ cast_unsigned w32 z
low_of (pos n) small = omega (arith, small)
low_of (negsuc n) small = omega (arith, small)

size_of_negative : (n : ℕ) → unsigned_abs (neg_ℤ (pos n)) ≡ n
size_of_negative zero = refl
size_of_negative (suc n) = refl

-- a quotient is no larger than the dividend
size_of_quotient : (x y : ℤ) → unsigned_abs (int_div x y) ≤ unsigned_abs x
size_of_quotient (pos a) (pos b) = div-le_self a b
size_of_quotient (pos a) (negsuc b) = rw (size_of_negative (a / suc b)) (div-le_self a (suc b))
size_of_quotient (negsuc a) (pos b) = rw (size_of_negative (suc a / b)) (div-le_self (suc a) b)
size_of_quotient (negsuc a) (negsuc b) = div-le_self (suc a) (suc b)

size_of_word : (x : ℤ) → FitsSigned w32 x → unsigned_abs x ≤ 2 ^ 31
size_of_word (pos n) fits = omega (arith, fits.sfits)
size_of_word (negsuc n) fits = omega (arith, fits.sfits)

low_of_quotient : (x y : ℤ) → FitsSigned w32 x
    → cast_unsigned w64 (int_div x y) % 2 ^ 32 ≡ cast_unsigned w32 (int_div x y)
low_of_quotient x y fits =
    let size = size_of_quotient x y in
    let word = size_of_word x fits in low_of (int_div x y) (omega (arith, size, word))

-- what `wrapping_div` of words gives, with its sign carried on
pub quotient_of_words : (x y : ℤ) → FitsSigned w32 x → bits_of (int_wrapping_div w32 x y) ≡ word (bits_of (int_div x y))
quotient_of_words x y fits = ap (λ n. bits_of (cast_signed w32 n)) (sym (low_of_quotient x y fits))

-- a word with its sign carried on is its own low 32 bits, with their sign carried on
pub word_of_signed : (z : ℤ) → FitsSigned w32 z → word (bits_of z) ≡ bits_of z
word_of_signed z fits =
    ap bits_of (ap (cast_signed w32) (low_of z (size_of_word z fits)) ∙ to_z-of_z w32 z fits)

-- what a division by a number that is not 0 gives
pub by_some : (n whole other : ℕ) → (n ≡ 0 → ⊥) → (if nat_eq n 0 then whole else other) ≡ other
by_some n whole other some = ap (λ test. if test then whole else other) (ne_eqb n 0 some)
