use Rattle.std.specs.Prelude.{◌≡◌, false, map, replicate}
use Rattle.mm_frames.specs.Frames.{bytes_of, is_own}
use Rattle.mm_frames.proofs.frames.Frames.zeros.Given as goal

abbrev pub invariant-loop-k : goal.invariant-loop-k
invariant-loop-k l = record {
  pages : map bytes_of l.frames.items ≡ replicate l.k (replicate 4096 0);
  owned : map is_own l.frames.items ≡ replicate l.k false;
}
