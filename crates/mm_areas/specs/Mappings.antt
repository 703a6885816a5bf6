-- What is mapped in an address space with its break, and what maps, unmaps, protects and moves the break.
use Rattle.std.specs.Prelude.{ℕ, zero, suc, ◌+◌, ◌-◌, ◌*◌, ◌/◌, ◌%◌, ◌^◌, ◌==◌, nat_le, nat_lt, Bool, ◌&&◌, ◌||◌, not}
use Rattle.std.specs.Prelude.{List, map as map_each, Option, option_map, Some, None, if◌then◌else◌}
use Rattle.std.specs.FinMap as map
use Rattle.mm_areas.specs.declared.fault.AreaFault.{AreaFault}
use Rattle.mm_areas.specs.declared.fault.AreaFault.TheVariants.{Invalid, Hole, Limit, NoRange}
use Rattle.mm_areas.specs.declared.rights.Rights.{Rights}
use Rattle.mm_areas.specs.declared.page.Backing.{Backing}
use Rattle.mm_areas.specs.declared.page.Backing.TheVariants.{Zeros}
use Rattle.mm_areas.specs.declared.page.Page.{Page}
use Rattle.mm_areas.specs.declared.areas.Areas.{Areas}
use Rattle.mm_areas.specs.declared.places.TheConstants.{MOST_PAGES}
use Rattle.mm_areas.specs.Pages.{Mapped, Pages, mapped_by, laid, unmapped, protected, is_free, is_covered, new_pages}
use Rattle.mm_areas.specs.Regions.{pages_of}

-- what is mapped, and the break: the address behind the heap, which begins at the break's start
-- mmap(2); brk(2)
pub record Mapping : Type 0 where
  pub pages : Pages
  pub start : ℕ
  pub program_break : ℕ

-- the mapping of areas: the pages of their regions, and the break
-- mmap(2); brk(2)
abbrev pub mapping : Areas → Mapping
mapping areas =
    record { pages = pages_of areas.regions.items; start = areas.start; program_break = areas.program_break }

-- nothing mapped, with the break at its start
-- execve(2)
abbrev pub unmapped_from : ℕ → Mapping
unmapped_from start = record { pages = map.empty; start = start; program_break = start }

-- a mapping with other pages: the break stays
-- mmap(2)
abbrev pub with_pages : Mapping → Pages → Mapping
with_pages m pages = record { pages = pages; start = m.start; program_break = m.program_break }

-- pages laid from one on, in the places of those that are there
-- mmap(2), MAP_FIXED
abbrev pub laid_in : Mapping → (first : ℕ) → List Page → Mapping
laid_in m first pages = with_pages m (laid first (map_each mapped_by pages) m.pages)

-- so many pages from the first on taken out
-- munmap(2)
abbrev pub taken_from : Mapping → (first count : ℕ) → Mapping
taken_from m first count = with_pages m (unmapped first count m.pages)

-- how many pages so many bytes take
-- getpagesize(2)
abbrev pub pages_in : ℕ → ℕ
pages_in length = (length + 4095) / 4096

-- an address or a length that a call doesn't take: an address that is no multiple of 4,096, an end above 2^38
-- mmap(2), munmap(2), mprotect(2), EINVAL
abbrev pub is_no_range : (address length : ℕ) → Bool
is_no_range address length = not (address % 4096 == 0) || nat_lt (2 ^ 38) (address + 4096 * pages_in length)

-- a length that no mapping has: none, or one that passes 2^63 in whole pages
-- mmap(2), EINVAL
abbrev pub is_no_length : ℕ → Bool
is_no_length length = (length == 0) || nat_lt (2 ^ 63) (4096 * pages_in length)

-- ---- where a mapping goes

-- the highest of the free ranges of so many pages that begin among the first candidates from the page 2^25 on
-- mmap(2); the highest free range, between the addresses 2^37 and 2^38 - 2^20: profile
unfoldable pub highest_of : Pages → (count candidates : ℕ) → Option ℕ
highest_of pages count zero = None
highest_of pages count (suc n) =
    if is_free pages (2 ^ 25 + n) count then Some (2 ^ 25 + n) else highest_of pages count n

-- the highest of the free ranges of so many pages
-- mmap(2); between the addresses 2^37 and 2^38 - 2^20: profile
abbrev pub highest_free : Pages → (count : ℕ) → Option ℕ
highest_free pages count = highest_of pages count (2 ^ 26 - 256 + 1 - (2 ^ 25 + count))

-- whether no mapping has that length, or none begins at the asked address: a multiple of 4,096, not below it, with its
-- end not above 2^38
-- mmap(2), MAP_FIXED, EINVAL
abbrev pub is_no_place : Option ℕ → (length : ℕ) → Bool
is_no_place None length = is_no_length length
is_no_place (Some address) length = is_no_length length || is_no_range address length || nat_lt address 4096

-- how many pages are mapped once so many more are
-- mmap(2), ENOMEM
abbrev pub pages_after : Pages → Option ℕ → (count : ℕ) → ℕ
pages_after pages None count = map.len pages + count
pages_after pages (Some address) count = map.len (unmapped (address / 4096) count pages) + count

-- the page that a mapping begins at: of the address that is asked, or of the highest free range
-- mmap(2)
abbrev pub first_page_for : Pages → Option ℕ → (count : ℕ) → Option ℕ
first_page_for pages None count = highest_free pages count
first_page_for pages (Some address) count = Some (address / 4096)

-- the address that a page begins at
-- getpagesize(2)
abbrev pub address_of : Option ℕ → Option ℕ
address_of page = option_map (λ p. 4096 * p) page

-- the fault where no free range is long enough
-- mmap(2), ENOMEM
abbrev pub or_no_range : Option ℕ → Option AreaFault
or_no_range None = Some NoRange
or_no_range (Some page) = None

-- why a mapping is refused, the first that fits
-- mmap(2), ERRORS; their order: profile
abbrev pub map_fault : Mapping → Option ℕ → (length : ℕ) → Option AreaFault
map_fault m at length =
    if is_no_place at length then Some Invalid
    else if nat_lt MOST_PAGES (pages_after m.pages at (pages_in length)) then Some Limit
    else or_no_range (first_page_for m.pages at (pages_in length))

-- a mapping with new pages from a page on, in the places of those that are there
-- mmap(2)
abbrev pub mapped_at : Mapping → (page length : ℕ) → Rights → Backing → Mapping
mapped_at m page length rights backing = with_pages m (laid page (new_pages backing rights (pages_in length)) m.pages)

-- ---- what is unmapped, and what gets other rights

-- why nothing is unmapped
-- munmap(2), ERRORS
abbrev pub unmap_fault : (address length : ℕ) → Option AreaFault
unmap_fault address length = if (length == 0) || is_no_range address length then Some Invalid else None

-- a mapping without the pages of so many bytes from an address on
-- munmap(2)
abbrev pub unmapped_at : Mapping → (address length : ℕ) → Mapping
unmapped_at m address length = with_pages m (unmapped (address / 4096) (pages_in length) m.pages)

-- why no page gets other rights
-- mprotect(2), ERRORS
abbrev pub protect_fault : Mapping → (address length : ℕ) → Option AreaFault
protect_fault m address length =
    if is_no_range address length then Some Invalid
    else if is_covered m.pages (address / 4096) (pages_in length) then None
    else Some Hole

-- a mapping with other rights of the pages of so many bytes from an address on
-- mprotect(2)
abbrev pub protected_in : Mapping → (address length : ℕ) → Rights → Mapping
protected_in m address length rights = with_pages m (protected rights (address / 4096) (pages_in length) m.pages)

-- ---- the break

-- the pages of the heap may be read and written
-- brk(2)
abbrev pub heap_pages : ℕ → List Mapped
heap_pages count = new_pages Zeros (record { 0 = 3 }) count

-- whether the break may be put there: not below its start, below 2^37, and no page on the way up to it is mapped, or
-- one too many
-- brk(2), ENOMEM; the bounds: profile
abbrev pub is_break : Mapping → ℕ → Bool
is_break m to =
    let more = pages_in to - pages_in m.program_break in
    nat_le m.start to && nat_lt to (2 ^ 37)
    && is_free m.pages (pages_in m.program_break) more && nat_le (map.len m.pages + more) MOST_PAGES

-- the break moved: new pages up to it, or none behind it
-- brk(2)
abbrev pub broken_at : Mapping → ℕ → Mapping
broken_at m to = record {
  pages =
      if nat_lt (pages_in m.program_break) (pages_in to)
      then laid (pages_in m.program_break) (heap_pages (pages_in to - pages_in m.program_break)) m.pages
      else unmapped (pages_in to) (pages_in m.program_break - pages_in to) m.pages;
  start = m.start;
  program_break = to;
}

-- the break where it is asked, if it may be put there
-- brk(2), NOTES: the system call answers the break after it
abbrev pub after_brk : Mapping → ℕ → Mapping
after_brk m to = if is_break m to then broken_at m to else m
