-- Hints: guesses at the region that has a page.
use Rattle.std.specs.Prelude.{ℕ, Bool, false, length, Option, Some, None, slice_get}
use Rattle.std.specs.FinMap as map
use Rattle.mm_areas.specs.declared.areas.Region.{Region}
use Rattle.mm_areas.specs.declared.areas.Areas.{Areas}
use Rattle.mm_areas.specs.declared.rights.Rights.{Rights}
use Rattle.mm_areas.specs.Rights.{has}
use Rattle.mm_areas.specs.Pages.{Mapped, Pages, is_within}

-- whether a region has a page
-- mmap(2)
abbrev pub has_page : Option Region → (page : ℕ) → Bool
has_page None page = false
has_page (Some r) page = is_within r.first (length r.pages.items) page

-- whether the region at an index has a page
-- profile
abbrev pub is_hint : Areas → (hint page : ℕ) → Bool
is_hint areas hint page = has_page (slice_get areas.regions.items hint) page

-- whether a page that may not be mapped has a right
-- mmap(2), PROT_READ, PROT_WRITE and PROT_EXEC
abbrev pub allows_mapped : Option Mapped → Rights → Bool
allows_mapped None right = false
allows_mapped (Some m) right = has m.rights right

-- whether a page is mapped with a right
-- mmap(2), PROT_READ, PROT_WRITE and PROT_EXEC
abbrev pub allows_at : Pages → (page : ℕ) → Rights → Bool
allows_at pages page right = allows_mapped (map.get pages page) right
