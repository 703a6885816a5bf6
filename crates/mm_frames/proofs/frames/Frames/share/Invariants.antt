use Rattle.std.specs.Prelude.{◌≡◌, false, map, take, replicate}
use Rattle.mm_frames.specs.Frames.{bytes_of, is_own, bytes_of_frames, owned_of}
use Rattle.mm_frames.proofs.frames.Frames.share.Given as goal

abbrev pub invariant-loop-page : goal.invariant-loop-page
invariant-loop-page l = record {
  kept : bytes_of_frames l.self ≡ bytes_of_frames l.initial.self;
  pages : map bytes_of l.others.items ≡ take l.page (bytes_of_frames l.initial.self);
  owned : map is_own l.others.items ≡ replicate l.page false;
  lost : take l.page (owned_of l.self) ≡ replicate l.page false;
}
