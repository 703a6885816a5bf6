-- brk, mmap, munmap and mprotect: what is mapped in the caller's address space.
use Rattle.std.specs.Prelude.{ℕ, ℤ, ◌/◌, ◌%◌, ◌==◌, ◌||◌, nat_lt, Bool, not, List, [], ◌∷◌}
use Rattle.std.specs.Prelude.{Option, Some, None, is_some, pos, unwrap_or, option_and_then, option_map, if◌then◌else◌}
use Rattle.std.specs.FinMap as map
use Rattle.sn_errno.specs.declared.errno.Errno.{Errno}
use Rattle.sn_errno.specs.declared.errno.Errno.TheVariants.{EINVAL, ENOMEM, ENODEV, EBADF}
use Rattle.fd_table.specs.Tables.{Table}
use Rattle.rv_table.specs.declared.error.Area.{Area}
use Rattle.mm_areas.specs.declared.fault.AreaFault.{AreaFault}
use Rattle.mm_areas.specs.declared.fault.AreaFault.TheVariants.{Invalid, Hole, Limit, NoRange}
use Rattle.mm_areas.specs.declared.page.Backing.{Backing}
use Rattle.mm_areas.specs.declared.page.Backing.TheVariants.{Zeros, Of}
use Rattle.mm_areas.specs.declared.rights.Rights.{Rights}
use Rattle.mm_areas.specs.Mappings.{pages_in, is_no_place, first_page_for, address_of, map_fault, unmap_fault, protect_fault}
use Rattle.mm_space.specs.Changes.{broken_in, mapped_in, unmapped_in, righted_in}
use Rattle.mm_space.specs.Handed.{zero_area}
use Rattle.mm_space.specs.Spaces.{AddressSpace}
use Rattle.kernel_model.specs.declared.caller.Caller.{Caller}
use Rattle.kernel_model.specs.declared.kernel.Part.TheVariants.{OfSpace, OfArea, OfTable}
use Rattle.kernel_model.specs.calls.Answers.{Answer, replies, refuses, address_reply}
use Rattle.kernel_model.specs.calls.Callers.{Context}
use Rattle.kernel_model.specs.calls.Lookups.{descriptor}
use Rattle.kernel_model.specs.entries.Parts.{Prog, done, look, ◌>>=◌, Change}

-- a call that replies a value, and leaves its caller such an address space
-- syscall(2)
abbrev pub remaps : Caller → AddressSpace → ℤ → List Change → Answer
remaps c space value changes = replies value ((OfSpace c.memory, Some space) ∷ changes)

-- the error of a change of what is mapped that is refused
-- mmap(2), munmap(2), mprotect(2), ERRORS
abbrev pub area_errno : AreaFault → Errno
area_errno Invalid = EINVAL
area_errno Hole = ENOMEM
area_errno Limit = ENOMEM
area_errno NoRange = ENOMEM

abbrev pub fault_errno : Option AreaFault → Option Errno
fault_errno fault = option_map area_errno fault

-- what a call comes to, unless it is refused with an error
-- syscall(2)
abbrev pub unless_refused : Option Errno → Answer → Answer
unless_refused None answer = answer
unless_refused (Some errno) answer = refuses errno

-- the rights that a protection is: PROT_READ 1, PROT_WRITE 2 and PROT_EXEC 4
-- mmap(2), DESCRIPTION
abbrev pub rights_in : (protection : ℕ) → Rights
rights_in protection = record { 0 = protection }

-- a protection with other bits than these; it is the whole register: profile
-- mmap(2), mprotect(2), EINVAL
abbrev pub is_no_protection : (protection : ℕ) → Bool
is_no_protection protection = nat_lt 7 protection

-- ---- the break

-- brk(address): the break after it, which is the one before where it can't be put there
-- brk(2), NOTES
abbrev pub brk_row : (address : ℕ) → Caller → Prog Answer
brk_row address c =
    done (remaps c (broken_in c.space address)
    (address_reply (broken_in c.space address).mapping.program_break) [])

-- ---- mappings

-- munmap(address, length)
-- munmap(2), ERRORS: EINVAL
abbrev pub munmap_row : (address length : ℕ) → Caller → Prog Answer
munmap_row address length c =
    done (unless_refused (fault_errno (unmap_fault address length))
    (remaps c (unmapped_in c.space address length) (pos 0) []))

-- mprotect(address, length, protection)
-- mprotect(2), ERRORS: EINVAL, ENOMEM; their order: profile
abbrev pub protect_refusal : AddressSpace → (address length protection : ℕ) → Option Errno
protect_refusal space address length protection =
    if is_no_protection protection then Some EINVAL else fault_errno (protect_fault space.mapping address length)

abbrev pub mprotect_row : (address length protection : ℕ) → Caller → Prog Answer
mprotect_row address length protection c =
    done (unless_refused (protect_refusal c.space address length protection)
    (remaps c (righted_in c.space address length (rights_in protection)) (pos 0) []))

-- the flags of mmap, of which other bits are not looked at: MAP_SHARED, MAP_PRIVATE, MAP_FIXED and MAP_ANONYMOUS
-- mmap(2), DESCRIPTION; flags are the low 32 bits of their register
abbrev pub is_shared : (flags : ℕ) → Bool
is_shared flags = flags % 2 == 1

abbrev pub is_private : (flags : ℕ) → Bool
is_private flags = flags / 2 % 2 == 1

abbrev pub is_fixed : (flags : ℕ) → Bool
is_fixed flags = flags / 16 % 2 == 1

abbrev pub is_anonymous : (flags : ℕ) → Bool
is_anonymous flags = flags / 32 % 2 == 1

-- just one of MAP_SHARED and MAP_PRIVATE
-- mmap(2), EINVAL
abbrev pub is_of_one_kind : (flags : ℕ) → Bool
is_of_one_kind flags = if is_shared flags then not (is_private flags) else is_private flags

-- the address that is asked for, with MAP_FIXED; else the address is a hint, which is ignored
-- mmap(2), MAP_FIXED; that hints are ignored: profile
abbrev pub asked_place : (address flags : ℕ) → Option ℕ
asked_place address flags = if is_fixed flags then Some address else None

-- arguments that no mapping has
-- mmap(2), EINVAL
abbrev pub is_no_mapping : (address length protection flags offset : ℕ) → Bool
is_no_mapping address length protection flags offset =
    is_no_protection protection || not (is_of_one_kind flags) || not (offset % 4096 == 0)
    || is_no_place (asked_place address flags) length

-- a mapping of a file: nothing that is open can be mapped so far; where no table is there nothing is open
-- mmap(2), ENODEV, EBADF
abbrev pub file_errno : (fd : ℕ) → Option Table → Errno
file_errno fd table =
    if is_some (option_and_then (λ t. map.get t (descriptor fd)) table) then ENODEV else EBADF

abbrev pub file_refusal : (flags fd : ℕ) → Caller → Prog (Option Errno)
file_refusal flags fd c =
    if is_anonymous flags then done None else look (OfTable c.table) (λ table. done (Some (file_errno fd table)))

-- what is mapped: zeros of its own, or the pages of an area that the call makes
-- mmap(2), MAP_PRIVATE, MAP_SHARED and MAP_ANONYMOUS
abbrev pub area_made_at : (place : ℕ) → Area
area_made_at place = record { place = place; index = 0 }

abbrev pub backing_by : (place flags : ℕ) → Backing
backing_by place flags = if is_shared flags then Of (area_made_at place) else Zeros

abbrev pub area_made_by : (place length flags : ℕ) → List Change
area_made_by place length flags =
    if is_shared flags then (OfArea (area_made_at place), Some (zero_area (pages_in length))) ∷ [] else []

-- mapped at an address
-- mmap(2)
abbrev pub maps_at : Context → Caller → (address length protection flags : ℕ) → Answer
maps_at context c address length protection flags =
    remaps c (mapped_in c.space address length (rights_in protection) (backing_by context.place flags))
    (address_reply address) (area_made_by context.place length flags)

-- where it goes
-- mmap(2), RETURN VALUE
abbrev pub address_in : AddressSpace → (asked : Option ℕ) → (length : ℕ) → ℕ
address_in space asked length = unwrap_or (address_of (first_page_for space.mapping.pages asked (pages_in length))) 0

-- mmap(address, length, protection, flags, fd, offset)
-- mmap(2), ERRORS: EINVAL, EBADF, ENODEV, ENOMEM; their order: profile
abbrev pub map_refusal : AddressSpace → (address length protection flags offset : ℕ) → (file : Option Errno)
    → Option Errno
map_refusal space address length protection flags offset file =
    if is_no_mapping address length protection flags offset then Some EINVAL
    else if is_some file then file
    else fault_errno (map_fault space.mapping (asked_place address flags) length)

abbrev pub maps : Context → Caller → (address length protection flags offset : ℕ) → (file : Option Errno) → Answer
maps context c address length protection flags offset file =
    unless_refused (map_refusal c.space address length protection flags offset file)
    (maps_at context c (address_in c.space (asked_place address flags) length) length protection flags)

abbrev pub mmap_row : Context → (address length protection flags fd offset : ℕ) → Caller → Prog Answer
mmap_row context address length protection flags fd offset c =
    file_refusal flags fd c >>= λ file. done (maps context c address length protection flags offset file)
