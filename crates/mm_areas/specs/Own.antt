-- Which pages have bytes of their own.
use Rattle.std.specs.Prelude.{ℕ, ◌-◌, Bool, false, List, [], ◌∷◌, length, Option, Some, None, slice_get, if◌then◌else◌}
use Rattle.mm_frames.specs.Frames.{is_own}
use Rattle.mm_areas.specs.declared.page.Content.{Content}
use Rattle.mm_areas.specs.declared.page.Content.TheVariants.{Private, Shared}
use Rattle.mm_areas.specs.declared.page.Page.{Page}
use Rattle.mm_areas.specs.declared.areas.Region.{Region}
use Rattle.mm_areas.specs.declared.areas.Areas.{Areas}
use Rattle.mm_areas.specs.Pages.{is_within}

-- the page of a number among regions in order
-- mmap(2)
abbrev pub page_in : List Region → ℕ → Option Page
page_in [] n = None
page_in (r ∷ rs) n =
    if is_within r.first (length r.pages.items) n then slice_get r.pages.items (n - r.first) else page_in rs n

-- whether a page's bytes are its own, so that a store to them takes no memory
-- fork(2), NOTES: copy-on-write pages
abbrev pub is_own_content : Content → Bool
is_own_content (Private frame) = is_own frame
is_own_content (Shared page) = false

-- the same of a page that may not be there
-- fork(2), NOTES: copy-on-write pages
abbrev pub is_own_at : Option Page → Bool
is_own_at None = false
is_own_at (Some page) = is_own_content page.content

-- the page of a number in an address space
-- mmap(2)
abbrev pub page_of : Areas → ℕ → Option Page
page_of areas page = page_in areas.regions.items page

-- whether the bytes of a page by its number in an address space are its own
-- fork(2), NOTES: copy-on-write pages
abbrev pub owns : Areas → ℕ → Bool
owns areas page = is_own_at (page_of areas page)
