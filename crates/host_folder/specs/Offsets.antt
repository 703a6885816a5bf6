-- Reads of a file at an offset, as far as the file tells where it stands and what it has left.
use Rattle.std.specs.Prelude.{◌≡◌, ◌<◌, ℕ, List, length, take, Option, Some, None, IfSome}
use Rattle.std.specs.Io.KnownBytes.{Consumes, IsAtEnd}

-- a file went to an offset, and there as much was read as it has, up to a buffer's length
-- pread(2), as lseek(2), SEEK_SET, and read(2)
pub record ReadsFrom {F : Type 0} (position : F → Option ℕ) (remaining : F → Option (List ℕ)) (at : ℕ)
    (before after : F) (count : ℕ) (buffer : List ℕ) : Type 0 where
  pub there : F
  pub went : IfSome (position before) (λ _. position there ≡ Some at)
  pub bytes : Consumes (remaining there) (remaining after) (take count buffer)
  pub end : count < length buffer → IsAtEnd (remaining after)

-- the file that is open was read so; where none is open, nothing was read
-- pread(2), EBADF
abbrev pub ReadsOpened : {F : Type 0} → (position : F → Option ℕ) (remaining : F → Option (List ℕ)) (at : ℕ)
    (before after : Option F) (count : ℕ) (buffer : List ℕ) → Type 0
ReadsOpened position remaining at None after count buffer = ⊥
ReadsOpened position remaining at (Some before) None count buffer = ⊥
ReadsOpened position remaining at (Some before) (Some after) count buffer =
    ReadsFrom position remaining at before after count buffer
