-- Numbers in bytes of which some have changed.
use Rattle.std.proofs.Common.{◌≡◌, ◌≢◌, ◌⊎◌, ℕ, zero, suc, ◌+◌, ◌*◌, ◌/◌, ◌%◌, ◌<◌, ◌≤◌, List, length, get_or, set, inl}
use Rattle.std.proofs.Common.{inr, refl, ap, ◌∙◌, arith}
use Rattle.std.proofs.lemmas.List.{length-set, get_or-set_other}
use Rattle.mm_frames.specs.Numbers.{little_number_at, with_number}

-- a number that is put leaves as many bytes as there were
pub length-with_number : (bytes : List ℕ) (offset width value : ℕ)
    → length (with_number bytes offset width value) ≡ length bytes
unfolding with_number
length-with_number bytes offset zero value = refl
length-with_number bytes offset (suc n) value =
    length-set (with_number bytes (offset + 1) n (value / 256)) offset (value % 256)
    ∙ length-with_number bytes (offset + 1) n (value / 256)

-- bytes that are the same below an offset and from so many on
abbrev pub SameOutside : (old new : List ℕ) (offset count : ℕ) → Type 0
SameOutside old new offset count = (k : ℕ) → (k < offset) ⊎ (offset + count ≤ k) → get_or new k 0 ≡ get_or old k 0

-- so are the numbers there
pub same_number : (old new : List ℕ) (offset count : ℕ) → SameOutside old new offset count → (at width : ℕ)
    → (at + width ≤ offset) ⊎ (offset + count ≤ at) → little_number_at new at width ≡ little_number_at old at width
same_number old new offset count same at zero side = refl
same_number old new offset count same at (suc n) (inl below) =
    ap (λ byte. byte + 256 * little_number_at new (at + 1) n) (same at (inl (omega arith)))
    ∙ ap (λ rest. get_or old at 0 + 256 * rest) (same_number old new offset count same (at + 1) n (inl (omega arith)))
same_number old new offset count same at (suc n) (inr above) =
    ap (λ byte. byte + 256 * little_number_at new (at + 1) n) (same at (inr above))
    ∙ ap (λ rest. get_or old at 0 + 256 * rest) (same_number old new offset count same (at + 1) n (inr (omega arith)))

-- a byte that is put changes no other
pub same_set : (bytes : List ℕ) (offset value : ℕ) → SameOutside bytes (set bytes offset value) offset 1
same_set bytes offset value k (inl below) = let apart : k ≢ offset =
    omega arith in get_or-set_other bytes offset k value 0 apart
same_set bytes offset value k (inr above) = let apart : k ≢ offset =
    omega arith in get_or-set_other bytes offset k value 0 apart

-- nor does a number
pub same_with_number : (bytes : List ℕ) (offset width value : ℕ)
    → SameOutside bytes (with_number bytes offset width value) offset width
unfolding with_number
same_with_number bytes offset zero value k side = refl
same_with_number bytes offset (suc n) value k (inl below) =
    let apart : k ≢ offset = omega arith in
    get_or-set_other (with_number bytes (offset + 1) n (value / 256)) offset k (value % 256) 0 apart
    ∙ same_with_number bytes (offset + 1) n (value / 256) k (inl (omega arith))
same_with_number bytes offset (suc n) value k (inr above) =
    let apart : k ≢ offset = omega arith in
    get_or-set_other (with_number bytes (offset + 1) n (value / 256)) offset k (value % 256) 0 apart
    ∙ same_with_number bytes (offset + 1) n (value / 256) k (inr (omega arith))
