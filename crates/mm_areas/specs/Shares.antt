-- A region as what it stands for, whichever frames its pages have, and pages that share their frames.
use Rattle.std.specs.Prelude.{◌≡◌, ℕ, false, List, map, slice_get}
use Rattle.mm_areas.specs.declared.areas.Region.{Region}
use Rattle.mm_areas.specs.declared.page.Page.{Page}
use Rattle.mm_areas.specs.Pages.{Mapped, mapped_by}
use Rattle.mm_areas.specs.Own.{page_in, is_own_at}

-- where a region begins, and its pages as contracts see them
-- fork(2)
pub record Seen : Type 0 where
  pub first : ℕ
  pub pages : List Mapped

abbrev pub seen_by : Region → Seen
seen_by region = record { first = region.first; pages = map mapped_by region.pages.items }

-- none of some pages has bytes of its own
-- fork(2), NOTES: copy-on-write pages
abbrev pub AreShared : List Page → Type 0
AreShared pages = (index : ℕ) → is_own_at (slice_get pages index) ≡ false

-- nor has any page of regions
-- fork(2), NOTES: copy-on-write pages
abbrev pub AreSharedIn : List Region → Type 0
AreSharedIn regions = (page : ℕ) → is_own_at (page_in regions page) ≡ false
