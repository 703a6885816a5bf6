-- Numbers that are read out of bytes.
use Rattle.std.proofs.Common.{◌≡◌, ℕ, zero, suc, ◌+◌, ◌-◌, ◌*◌, ◌≤◌, List, [], ◌∷◌, length, get_or, take, drop, refl}
use Rattle.std.proofs.Common.{ap, ◌∙◌, arith, length-drop, length-take-le}
use Rattle.byteorder.specs.Endian.{little_from, little_number}
use Rattle.sn_bytes.specs.Fields.{little, field}

little_from-tail : (i n y : ℕ) (ys : List ℕ) → little_from (suc i) n (y ∷ ys) ≡ little_from i n ys
little_from-tail i zero y ys = refl
little_from-tail i (suc n) y ys = ap (λ k. get_or ys i 0 + 256 * k) (little_from-tail (suc i) n y ys)

-- the number in all of some bytes
pub little_number-all : (n : ℕ) (ys : List ℕ) → length ys ≡ n → little_number n ys ≡ little ys
little_number-all zero [] long = refl
little_number-all zero (y ∷ ys) long = absurd (omega arith)
little_number-all (suc n) [] long = absurd (omega arith)
little_number-all (suc n) (y ∷ ys) long =
    ap (λ k. y + 256 * k) (little_from-tail 0 n y ys ∙ little_number-all n ys (omega arith))

-- the number in a field that is inside is what a read of its bytes gives
pub read_inside : (width at : ℕ) (bytes part : List ℕ) → at + width ≤ length bytes
    → part ≡ take (at + width - at) (drop at bytes) → little_number width part ≡ field width at bytes
read_inside width at bytes part fits same =
    let long : length part ≡ width =
    omega (
      arith,
      ap length same,
      length-take-le (at + width - at) (drop at bytes) (omega (arith, length-drop at bytes)),
      length-drop at bytes,
    ) in
    little_number-all width part long ∙ ap little same
