-- The key of a seed that is filled up with zeros.
use Rattle.std.proofs.Common.{◌≡◌, ℕ, ◌+◌, ◌*◌, ◌<◌, List, refl, arith}
use Rattle.std.specs.Prelude.{slice_index}
use Rattle.rand_core.specs.Steps.{u32_at}
use Rattle.rand_chacha.specs.ChaCha.{key_of}
use Rattle.kernel_model.specs.machine.Random.{random_bytes}

-- the same 32 bytes
abbrev pub SameBytes : (seed other : List ℕ) → Type 0
SameBytes seed other = (k : ℕ) → k < 32 → slice_index seed k ≡ slice_index other k

same_word : (seed other : List ℕ) (word : ℕ) → SameBytes seed other → word < 8 → u32_at seed word ≡ u32_at other word
unfolding u32_at
same_word seed other word same small =
    let a : slice_index seed (4 * word) ≡ slice_index other (4 * word) = same (4 * word) (omega arith) in
    let b : slice_index seed (4 * word + 1) ≡ slice_index other (4 * word + 1) = same (4 * word + 1) (omega arith) in
    let c : slice_index seed (4 * word + 2) ≡ slice_index other (4 * word + 2) = same (4 * word + 2) (omega arith) in
    let d : slice_index seed (4 * word + 3) ≡ slice_index other (4 * word + 3) = same (4 * word + 3) (omega arith) in
    omega arith

pub same_key : (seed other : List ℕ) → SameBytes seed other → key_of seed ≡ key_of other
same_key seed other same =
    let a = same_word seed other 0 same (omega arith) in
    let b = same_word seed other 1 same (omega arith) in
    let c = same_word seed other 2 same (omega arith) in
    let d = same_word seed other 3 same (omega arith) in
    let e = same_word seed other 4 same (omega arith) in
    let f = same_word seed other 5 same (omega arith) in
    let g = same_word seed other 6 same (omega arith) in
    let h = same_word seed other 7 same (omega arith) in
    cc

-- the same random bytes
pub same_bytes : (seed other : List ℕ) (stream : ℕ) → SameBytes seed other
    → random_bytes seed stream ≡ random_bytes other stream
same_bytes seed other stream same = rw (same_key seed other same) refl
