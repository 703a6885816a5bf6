-- What is read of a register by the bits that count of it.
use Rattle.std.proofs.Common.{◌≡◌, ℕ, zero, suc, ◌-◌, ◌%◌, ◌^◌, ◌<◌, false, List, ◌∷◌, ap, sym, ◌∙◌, arith}
use Rattle.std.proofs.Common.{bit_and, slice_index_or}
use Rattle.std.specs.Prelude.{◌==◌, if◌then◌else◌, replicate}
use Rattle.std.proofs.lemmas.Bool.Decides.{nat_tests}
use Rattle.std.specs.Int.Bits.{and_zero_r}
use Rattle.std.proofs.lemmas.List.{get_or-replicate}
use Rattle.std.proofs.lemmas.Nat.{and_mask}

-- none of those of x0, and all of each other register
abbrev counting : List ℕ
counting = 0 ∷ replicate 31 18446744073709551615

pub read_by : (value number : ℕ) → number < 32 → value < 2 ^ 64
    → bit_and value (slice_index_or counting number 0) ≡ (if number == 0 then 0 else value)
read_by value zero below fits = and_zero_r value
read_by value (suc k) below fits =
    let small : value % 2 ^ 64 ≡ value = omega (arith, fits) in
    let other : (suc k == 0) ≡ false = grind (arith, nat_tests) in
    ap (bit_and value) (get_or-replicate 31 k 18446744073709551615 0 (omega (arith, below)))
    ∙ and_mask value 64
    ∙ small
    ∙ sym (ap (λ b. if b then 0 else value) other)
