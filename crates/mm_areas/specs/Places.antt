-- Where a page lies among regions in order.
use Rattle.std.specs.Prelude.{◌≡◌, ℕ, suc, ◌+◌, ◌<◌, ◌≤◌, nat_le, List, [], ◌∷◌, ◌++◌, length, ◌⊎◌, if◌then◌else◌}
use Rattle.mm_areas.specs.declared.areas.Region.{Region}

-- how many regions in front end by a page: the index of the first that ends behind it
-- profile
abbrev pub index_behind : ℕ → List Region → ℕ
index_behind page [] = 0
index_behind page (r ∷ rs) = if nat_le (r.first + length r.pages.items) page then suc (index_behind page rs) else 0

-- no region reaches over a page: each ends by it, or begins there or behind it
-- profile
abbrev pub AreCut : ℕ → List Region → Type 0
AreCut page [] = Unit {0}
AreCut page (r ∷ rs) = ((r.first + length r.pages.items ≤ page) ⊎ (page ≤ r.first)) × AreCut page rs

-- a region's two halves: the first ends at a page, the second begins there and has the other pages
-- profile
pub record AreHalves (page : ℕ) (whole low high : Region) : Type 0 where
  pub first : low.first ≡ whole.first
  pub second : high.first ≡ page
  pub ends : whole.first + length low.pages.items ≡ page
  pub all : low.pages.items ++ high.pages.items ≡ whole.pages.items
  pub some_low : 0 < length low.pages.items
  pub some_high : 0 < length high.pages.items
