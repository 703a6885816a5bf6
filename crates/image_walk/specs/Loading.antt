-- What a program's node gives: its image, or an error.
use Rattle.std.specs.Prelude.{◌≡◌, ◌⊎◌, ℕ, ◌+◌, ◌/◌, ◌%◌, ◌<◌, ◌≤◌, ◌^◌, List, length, Bool, true, false, ⊤}
use Rattle.std.specs.Prelude.{Option, Some, None, Ok, Err}
use Rattle.host_node.specs.Tree.{Shape, kind_of, faults_of, with_faults, file_bytes, attr_of, is_lent}
use Rattle.host_node.specs.declared.kind.Kind.TheVariants.{File}
use Rattle.host_node.specs.declared.kind.Attr.{Attr}
use Rattle.sn_base.specs.Sums.{capped}
use Rattle.sn_errno.specs.declared.errno.Errno.{Errno}
use Rattle.sn_errno.specs.declared.errno.Errno.TheVariants.{EIO, EACCES, ENOEXEC}
use Rattle.kernel_model.specs.declared.limits.TheConstants.{LONGEST_IMAGE}
use Rattle.kernel_model.specs.machine.Image.{image_of}
use Rattle.kernel_model.specs.opening.Opening.{has_room, executed, image_within}
use Rattle.image_walk.specs.declared.loading.ImageAnswer.{ImageAnswer}
use Rattle.image_walk.specs.declared.loading.ImageAnswer.TheVariants.{Starts, Refuses, Memory}

-- a node with these attributes is refused so, or it is a file whose bytes decide
-- execve(2), ERRORS: EACCES, ELOOP, ENOEXEC
abbrev pub RefusalOf : Shape → Option Errno → Type 0
RefusalOf s (Some errno) = executed s ≡ Err errno
RefusalOf s None = (kind_of s ≡ File) × (executed s ≡ image_within (image_of (file_bytes s)))

abbrev pub Refusal : Attr → Option Errno → Type 0
Refusal attr refusal = (s : Shape) → attr ≡ attr_of s → is_lent s ≡ false → RefusalOf s refusal

-- the mode and size of a file refuse it so
-- execve(2), ERRORS: EACCES, ENOEXEC
abbrev pub FileRefusal : ℕ → ℕ → Option Errno → Type 0
FileRefusal mode size (Some errno) =
    ((mode / 64 % 2 ≡ 0) × (errno ≡ EACCES))
    ⊎ ((mode / 64 % 2 ≡ 1) × (LONGEST_IMAGE < size) × (errno ≡ ENOEXEC))
FileRefusal mode size None = (mode / 64 % 2 ≡ 1) × (size ≤ LONGEST_IMAGE)

-- a node that is told stands here, and not with a borrower
-- profile
abbrev pub IsHere : Option Shape → Type 0
IsHere None = ⊤
IsHere (Some s) = is_lent s ≡ false

-- a node that is told is a file of that size
-- stat(2), st_size
abbrev pub IsFileOf : ℕ → Option Shape → Type 0
IsFileOf size None = ⊤
IsFileOf size (Some s) = (kind_of s ≡ File) × (is_lent s ≡ false) × (length (file_bytes s) ≡ size)

-- what was read is all that a node tells
-- read(2)
abbrev pub ReadsFile : Option Shape → List ℕ → Type 0
ReadsFile None bytes = ⊤
ReadsFile (Some s) bytes = bytes ≡ file_bytes s

-- a node's call failed: its count rose by so much, and the answer is EIO
-- profile
abbrev pub FailedBy : ℕ → ℕ → Option ℕ → ImageAnswer → Type 0
FailedBy before now (Some d) (Refuses errno) = (errno ≡ EIO) × (0 < d) × (now ≡ capped (before + d))
FailedBy before now _ _ = ⊥

-- an answer is that of the bytes of an executable file
-- execve(2), ERRORS: ENOEXEC, ENOMEM
abbrev pub Classified : List ℕ → ImageAnswer → Type 0
Classified bytes (Starts image) = image_within (image_of bytes) ≡ Ok image
Classified bytes (Refuses errno) = image_within (image_of bytes) ≡ Err errno
Classified bytes Memory = ⊤

-- an image that begins has no more pages than may be mapped
-- execve(2), ENOMEM
abbrev pub is_roomy : ImageAnswer → Bool
is_roomy (Starts image) = has_room image
is_roomy (Refuses errno) = true
is_roomy Memory = true

-- a node with its count of faults risen
-- profile
abbrev pub faulted_by : ℕ → Shape → Shape
faulted_by d s = with_faults (capped (faults_of s + d)) s

-- what a program's node gave, from what it told before, and what it tells then
-- execve(2)
abbrev pub Loads : Shape → (after : Option Shape) → (risen : Option ℕ) → ImageAnswer → Type 0
Loads s after None (Starts image) = (executed s ≡ Ok image) × (after ≡ Some s)
Loads s after None (Refuses errno) = (executed s ≡ Err errno) × (after ≡ Some s)
Loads s after None Memory = after ≡ Some s
Loads s after (Some d) (Refuses errno) = (errno ≡ EIO) × (0 < d) × (after ≡ Some (faulted_by d s))
Loads s after _ _ = ⊥

-- the same, where the node tells
-- profile
abbrev pub LoadsWhere : Option Shape → (after : Option Shape) → (risen : Option ℕ) → ImageAnswer → Type 0
LoadsWhere None after risen answer = after ≡ None
LoadsWhere (Some s) after risen answer = (faults_of s < 2 ^ 64) × Loads s after risen answer
