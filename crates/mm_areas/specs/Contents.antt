-- The bytes of private pages, and pages of which one has other bytes.
use Rattle.std.specs.Prelude.{ℕ, List, Option, Some, None}
use Rattle.std.specs.FinMap as map
use Rattle.mm_areas.specs.Pages.{Held, Mapped, Pages}
use Rattle.mm_areas.specs.Pages.Held.{Bytes, PageOf}

-- the bytes of a page that has its own, and none of one that isn't mapped or is a page of a shared area
-- mmap(2), MAP_PRIVATE
abbrev pub bytes_held : Held → Option (List ℕ)
bytes_held (Bytes bytes) = Some bytes
bytes_held (PageOf area number) = None

-- the same of a page that may not be mapped
-- mmap(2), MAP_PRIVATE
abbrev pub bytes_mapped : Option Mapped → Option (List ℕ)
bytes_mapped None = None
bytes_mapped (Some m) = bytes_held m.held

-- the same of a page by its number
-- mmap(2), MAP_PRIVATE
abbrev pub bytes_at : Pages → (page : ℕ) → Option (List ℕ)
bytes_at pages page = bytes_mapped (map.get pages page)

-- what a page has, with its bytes changed, where it has its own
-- mmap(2), MAP_PRIVATE
abbrev pub changed_held : (List ℕ → List ℕ) → Held → Held
changed_held change (Bytes bytes) = Bytes (change bytes)
changed_held change (PageOf area number) = PageOf area number

-- a page with its bytes changed, and its rights as before
-- mmap(2), MAP_PRIVATE
abbrev pub with_bytes_changed : (List ℕ → List ℕ) → Mapped → Mapped
with_bytes_changed change m = record { rights = m.rights; held = changed_held change m.held }

-- pages of which one that may not be mapped has its bytes changed
-- mmap(2), MAP_PRIVATE
abbrev pub bytes_changed_at : (List ℕ → List ℕ) → (page : ℕ) → Option Mapped → Pages → Pages
bytes_changed_at change page None pages = pages
bytes_changed_at change page (Some m) pages = map.insert pages page (with_bytes_changed change m)

-- pages of which one has its bytes changed, and the others are as before
-- mmap(2), MAP_PRIVATE
abbrev pub with_change : Pages → (page : ℕ) → (List ℕ → List ℕ) → Pages
with_change pages page change = bytes_changed_at change page (map.get pages page) pages
