-- Sums that stop at the greatest number of 64 bits, as counters and limits add up.
use Rattle.std.specs.Prelude.{ℕ, ◌-◌, ◌^◌, min, List, sum}

-- n, or the greatest number of 64 bits where n is above it
-- Rust standard library, u64::saturating_add
abbrev pub capped : ℕ → ℕ
capped n = min n (2 ^ 64 - 1)

-- the sum of a list, or the greatest number of 64 bits where the sum is above it
-- Rust standard library, u64::saturating_add, for each number in turn
abbrev pub capped_sum : List ℕ → ℕ
capped_sum xs = capped (sum xs)
