-- Descriptor tables: which numbers are open and free, and what the calls make of a table.
use Rattle.std.specs.Prelude.{◌≡◌, ℕ, ◌<◌, ◌≤◌, ◌==◌, nat_lt, Bool, false, ◌&&◌, List, filter, Option, Some, None}
use Rattle.std.specs.Prelude.{IsSome, IsTrue, if◌then◌else◌}
use Rattle.std.specs.Prelude.{filter_map, option_map}
use Rattle.std.specs.List.{range_with_len}
use Rattle.std.specs.Option.{option_map_or}
use Rattle.std.specs.Ordering.{nat_cmp}
use Rattle.std.specs.FinMap as map
use Rattle.sn_base.specs.declared.made.Made.{Made}
use Rattle.fd_table.specs.declared.descriptor.Descriptor.{Descriptor}
use Rattle.fd_table.specs.declared.descriptor.FdErr.{FdErr}
use Rattle.fd_table.specs.declared.descriptor.FdErr.TheVariants.{BadFd, Same}
use Rattle.fd_table.specs.declared.table.TheConstants.{OPEN_MAX}

-- a descriptor table: what each number that is open stands for
-- open(2), DESCRIPTION: a file descriptor is an index to an entry in the process's table
abbrev pub Table : Type 0
Table = map.FinMap nat_cmp Descriptor

-- each number that is open is below the limit
-- getrlimit(2), RLIMIT_NOFILE; the number: profile
abbrev pub IsWithinLimit : Table → Type 0
IsWithinLimit table = (n : ℕ) → IsTrue (map.contains_key table n) → n < OPEN_MAX

-- ---- the lowest free number

-- the lowest number at or above another that isn't open
-- open(2), DESCRIPTION; dup(2); fcntl(2), F_DUPFD
pub record IsLowestFree (table : Table) (from number : ℕ) : Type 0 where
  pub free : map.get table number ≡ None
  pub from_on : from ≤ number
  pub limited : number < OPEN_MAX
  pub taken : (n : ℕ) → from ≤ n → n < number → IsSome (map.get table n)

-- no number at or above another is free
-- open(2), dup(2) and fcntl(2), EMFILE; a minimum that no table has is the caller's to refuse: profile
abbrev pub IsFullFrom : Table → (from : ℕ) → Type 0
IsFullFrom table from = (n : ℕ) → from ≤ n → n < OPEN_MAX → IsSome (map.get table n)

-- ---- one descriptor

-- a descriptor with another mark, which tells whether execve(2) closes it
-- fcntl(2), File descriptor flags
abbrev pub with_mark : Descriptor → (cloexec : Bool) → Descriptor
with_mark d cloexec = record { description = d.description; cloexec = cloexec }

-- the fault where a number isn't open
-- close(2), dup(2) and fcntl(2), EBADF
abbrev pub open_fault : Table → (number : ℕ) → Option FdErr
open_fault table number = if map.contains_key table number then None else Some BadFd

-- a table with another mark of a number that is open
-- fcntl(2), F_SETFD
abbrev pub marked : Table → (number : ℕ) → (cloexec : Bool) → Table
marked table number cloexec =
    option_map_or (λ d. map.insert table number (with_mark d cloexec)) (map.get table number) table

-- ---- two descriptors with one description

-- a table in which a number has the description of another, in the place of what it had, and a mark of its own
-- dup(2); fcntl(2), F_DUPFD and F_DUPFD_CLOEXEC
abbrev pub duplicated : Table → (old new : ℕ) → (cloexec : Bool) → Table
duplicated table old new cloexec =
    option_map_or (λ d. map.insert table new (with_mark d cloexec)) (map.get table old) table

-- why a number isn't given another's description
-- dup(2), ERRORS: EINVAL of dup3, EBADF; their order: profile
abbrev pub dup3_fault : Table → (old new : ℕ) → Option FdErr
dup3_fault table old new =
    if old == new then Some Same
    else if map.contains_key table old && nat_lt new OPEN_MAX then None
    else Some BadFd

-- ---- all of them

-- the open file descriptions of a table's descriptors, in the order of their numbers
-- open(2), Open file descriptions
abbrev pub descriptions_of : Table → List Made
descriptions_of table =
    filter_map (λ n. option_map (λ (d : Descriptor). d.description) (map.get table n)) (range_with_len 0 OPEN_MAX)

-- whether execve(2) closes a number
-- execve(2), Effect on process attributes; open(2), O_CLOEXEC
abbrev pub is_closed_on_exec : Table → (number : ℕ) → Bool
is_closed_on_exec table number = option_map_or (λ d. d.cloexec) (map.get table number) false

-- the numbers that execve(2) closes, ascending
-- execve(2), Effect on process attributes
abbrev pub closed_on_exec : Table → List ℕ
closed_on_exec table = filter (λ n. is_closed_on_exec table n) (map.keys table)
