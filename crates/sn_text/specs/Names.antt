-- Which bytes are a name, and the first fault of those that are none.
use Rattle.std.specs.Prelude.{◌≡◌, ℕ, nat_eq, nat_lt, List, [], ◌∷◌, length, Bool, ◌||◌, Option, Some, None}
use Rattle.std.specs.Prelude.{if◌then◌else◌}
use Rattle.std.specs.List.{list_any}
use Rattle.std.specs.Str.{bytes_eq}
use Rattle.sn_text.specs.declared.fault.NameFault.{NameFault}
use Rattle.sn_text.specs.declared.fault.NameFault.TheVariants.{Empty, Long, Slash, Nul, Dot, Memory}
use Rattle.sn_text.specs.declared.fault.TheConstants.{NAME_MAX}

-- a byte stands among the bytes
-- POSIX.1-2017, Base Definitions, Filename: what a name may not contain
abbrev pub has_byte : ℕ → List ℕ → Bool
has_byte byte bytes = list_any (λ b. nat_eq b byte) bytes

-- the bytes are `.` or `..`, which stand for a directory and for its parent
-- POSIX.1-2017, Base Definitions, Dot and Dot-Dot
abbrev pub is_dots : List ℕ → Bool
is_dots bytes = bytes_eq bytes (46 ∷ []) || bytes_eq bytes (46 ∷ 46 ∷ [])

-- the first fault of bytes that are no name: `/` is byte 47, and a name has at most 255 bytes
-- POSIX.1-2017, Base Definitions, Filename; limits.h of Linux, NAME_MAX; order of the faults: profile
unfoldable pub name_fault_of : List ℕ → Option NameFault
name_fault_of bytes =
    if nat_eq (length bytes) 0 then Some Empty
    else if nat_lt NAME_MAX (length bytes) then Some Long
    else if has_byte 47 bytes then Some Slash
    else if has_byte 0 bytes then Some Nul
    else if is_dots bytes then Some Dot
    else None

-- the bytes are a name: one component of a path
-- POSIX.1-2017, Base Definitions, Filename; path_resolution(7)
abbrev pub IsName : List ℕ → Type 0
IsName bytes = name_fault_of bytes ≡ None

-- what a refusal may tell of these bytes: their first fault, or want of memory where they are a name
-- POSIX.1-2017, Base Definitions, Filename; malloc(3), ENOMEM; order of the faults: profile
abbrev pub IsNameFaultOf : List ℕ → NameFault → Type 0
IsNameFaultOf bytes Memory = IsName bytes
IsNameFaultOf bytes fault = name_fault_of bytes ≡ Some fault
