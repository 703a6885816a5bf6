-- Four bytes that are put over four others.
use Rattle.std.proofs.Common.{◌≡◌, ℕ, zero, suc, ◌+◌, ◌≤◌, ◌<◌, List, [], ◌∷◌, ◌++◌, length, take, drop, refl, ap}
use Rattle.std.proofs.Common.{arith, slice_set}

-- four sets in a row, at places that follow one another
behind : (at : ℕ) (old : List ℕ) (a b c d : ℕ) → suc (suc (suc at)) < length old
    → slice_set (slice_set (slice_set (slice_set old at a) (suc at) b) (suc (suc at)) c) (suc (suc (suc at))) d
    ≡ take at old ++ (a ∷ b ∷ c ∷ d ∷ drop (suc (suc (suc (suc at)))) old)
behind at [] a b c d room = absurd (omega (arith, room))
behind zero (w ∷ []) a b c d room = absurd (omega (arith, room))
behind zero (w ∷ x ∷ []) a b c d room = absurd (omega (arith, room))
behind zero (w ∷ x ∷ y ∷ []) a b c d room = absurd (omega (arith, room))
behind zero (w ∷ x ∷ y ∷ z ∷ rest) a b c d room = refl
behind (suc at) (w ∷ rest) a b c d room =
    ap (λ (t : List ℕ). w ∷ t) (behind at rest a b c d (omega (arith, room)))

-- the same, by sums
pub patched : (at : ℕ) (old : List ℕ) (a b c d : ℕ) → at + 4 ≤ length old
    → slice_set (slice_set (slice_set (slice_set old at a) (at + 1) b) (at + 2) c) (at + 3) d
    ≡ take at old ++ (a ∷ b ∷ c ∷ d ∷ drop (at + 4) old)
patched at old a b c d room =
    let one : at + 1 ≡ suc at = omega arith in
    let two : at + 2 ≡ suc (suc at) = omega arith in
    let three : at + 3 ≡ suc (suc (suc at)) = omega arith in
    let four : at + 4 ≡ suc (suc (suc (suc at))) = omega arith in
    rw (one, two, three, four) (behind at old a b c d (omega (arith, room)))
