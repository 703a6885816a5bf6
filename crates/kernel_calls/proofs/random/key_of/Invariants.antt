-- How far the key has the seed's bytes.
use Rattle.std.proofs.Common.{◌≡◌, ℕ, ◌<◌, length, get_or}
use Rattle.kernel_calls.proofs.random.key_of.Given as goal

abbrev pub invariant-loop-place : goal.invariant-loop-place
invariant-loop-place l = record {
  len : length l.key ≡ 32;
  same : (k : ℕ) → k < l.place → get_or l.key k 0 ≡ get_or l.seed k 0;
}
