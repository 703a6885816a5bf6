-- Numbers of so many bytes fit in 64 bits.
use Rattle.std.proofs.Common.{◌≡◌, ℕ, zero, suc, ◌+◌, ◌-◌, ◌*◌, ◌^◌, ◌<◌, ◌≤◌, refl, arith, subst}
use native.Mathlib.Numerals.{unary_clauses}

room_for : (count : ℕ) → count ≤ 8 → 256 ^ count ≤ 2 ^ 64
room_for zero h = omega arith
room_for (suc zero) h = omega arith
room_for (suc (suc zero)) h = omega arith
room_for (suc (suc (suc zero))) h = omega arith
room_for (suc (suc (suc (suc zero)))) h = omega arith
room_for (suc (suc (suc (suc (suc zero))))) h = omega arith
room_for (suc (suc (suc (suc (suc (suc zero)))))) h = omega arith
room_for (suc (suc (suc (suc (suc (suc (suc zero))))))) h = omega arith
room_for (suc (suc (suc (suc (suc (suc (suc (suc zero)))))))) h = omega arith
room_for (suc (suc (suc (suc (suc (suc (suc (suc (suc n))))))))) h = absurd (omega arith)

-- a byte before a number of one byte less
power_more : (n : ℕ) → 256 ^ suc n ≡ 256 ^ n * 256
power_more n = simp unary_clauses

grown_suc : (n byte rest : ℕ) → byte < 256 → rest < 256 ^ n → byte + 256 * rest < 256 ^ suc n
grown_suc n byte rest b r = rw (power_more n) (omega (arith, b, r))

pub grown : (count byte rest : ℕ) → (count ≡ 0 → ⊥) → byte < 256 → rest < 256 ^ (count - 1)
    → byte + 256 * rest < 256 ^ count
grown zero byte rest some b r = absurd (some refl)
grown (suc n) byte rest some b r =
    grown_suc n byte rest b
    (subst (λ (m : ℕ). rest < 256 ^ m) (let one_less : suc n - 1 ≡ n = simp unary_clauses in one_less) r)

pub grown_fits : (count byte rest : ℕ) → (count ≡ 0 → ⊥) → count ≤ 8 → byte < 256 → rest < 256 ^ (count - 1)
    → byte + 256 * rest < 2 ^ 64
grown_fits count byte rest some few b r = omega (arith, grown count byte rest some b r, room_for count few)

pub scaled_fits : (count byte rest : ℕ) → (count ≡ 0 → ⊥) → count ≤ 8 → byte < 256
    → rest < 256 ^ (count - 1) → 256 * rest < 2 ^ 64
scaled_fits count byte rest some few b r = omega (arith, grown_fits count byte rest some few b r)
