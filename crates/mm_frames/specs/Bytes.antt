-- What a frame holds.
use Rattle.std.specs.Prelude.{ℕ, List, replicate, Bool, true, false}
use Rattle.std.specs.Arc.{arc_value}
use Rattle.mm_frames.specs.declared.bytes.Bytes.{Bytes}
use Rattle.mm_frames.specs.declared.bytes.Bytes.TheVariants.{Zero, Own, Shared}

-- a page's 4,096 bytes: zeros where nobody has written
-- mmap(2), MAP_ANONYMOUS
abbrev pub bytes_in : Bytes → List ℕ
bytes_in Zero = replicate 4096 0
bytes_in (Own own) = own.value
bytes_in (Shared shared) = arc_value shared

-- whether the bytes have one holder, who may write to them where they are
-- fork(2), NOTES: copy-on-write pages
abbrev pub is_own_in : Bytes → Bool
is_own_in Zero = false
is_own_in (Own own) = true
is_own_in (Shared shared) = false
