-- Accesses byte by byte.
use Rattle.std.proofs.Common.{◌≡◌, ℕ, zero, suc, ◌+◌, ◌*◌, ◌-◌, ◌/◌, ◌%◌, ◌^◌, ◌<◌, ◌≤◌, refl, arith, sub-one}
use Rattle.std.proofs.Math.Nat.{pow-le-pow_right}
use native.Mathlib.Numerals.{unary_clauses}
use Rattle.std.specs.Prelude.{nat_eq, if◌then◌else◌}
use Rattle.rv_exec.specs.Writes.{stored_byte, with_value}
use Rattle.rv_table.specs.Bytes.{Byte, behind, first_area, first_barred, number_from, or_area, or_barred, value_in}

-- an access to some bytes: its first, and the others
pub first_barred_step : (byte : ℕ → Byte) (address count : ℕ) → 0 < count → first_barred byte address count
    ≡ or_barred (byte address) address (first_barred byte (behind address) (count - 1))
unfolding first_barred
first_barred_step byte address zero h = absurd (omega arith)
first_barred_step byte address (suc n) h = rw sub-one refl

pub first_area_step : (byte : ℕ → Byte) (address count : ℕ) → 0 < count
    → first_area byte address count ≡ or_area (byte address) (first_area byte (behind address) (count - 1))
unfolding first_area
first_area_step byte address zero h = absurd (omega arith)
first_area_step byte address (suc n) h = rw sub-one refl

pub number_from_step : (byte : ℕ → Byte) (address count : ℕ) → 0 < count
    → number_from byte address count ≡ value_in (byte address) + 256 * number_from byte (behind address) (count - 1)
unfolding number_from
number_from_step byte address zero h = absurd (omega arith)
number_from_step byte address (suc n) h = rw sub-one refl

-- the numbers that so many bytes hold lie below a power of 256
pub power_step : (n : ℕ) → 0 < n → 256 ^ n ≡ 256 * 256 ^ (n - 1)
power_step zero h = absurd (omega arith)
power_step (suc n) h = rw sub-one (simp unary_clauses (omega arith))

-- seven bytes leave room for one more
pub power_small : (n : ℕ) → n ≤ 7 → 256 ^ n ≤ 2 ^ 56
power_small n h = pow-le-pow_right (omega arith) h

-- a byte after a store: the first of the stored bytes, and the others
pub stored_step : (at width value address : ℕ) (byte : Byte) → 0 < width
    → stored_byte nat_eq at width value address byte
    ≡ (if nat_eq at address then with_value byte (value % 256)
    else stored_byte nat_eq (behind at) (width - 1) (value / 256) address byte)
unfolding stored_byte
stored_step at zero value address byte h = absurd (omega arith)
stored_step at (suc n) value address byte h = rw sub-one refl

pub stored_none : (at value address : ℕ) (byte : Byte) → stored_byte nat_eq at 0 value address byte ≡ byte
unfolding stored_byte
stored_none at value address byte = refl
