-- The order of regions: ascending, apart, none of them empty, none above the end of the address space.
use Rattle.std.specs.Prelude.{ℕ, ◌+◌, ◌^◌, ◌<◌, ◌≤◌, nat_le, nat_lt, Bool, ◌&&◌, List, [], ◌∷◌, length}
use Rattle.mm_areas.specs.declared.areas.Region.{Region}

-- regions from a page on: each begins where the one before ends or behind it, has a page, and ends by the page 2^26
-- profile: addresses go to 2^38
abbrev pub AreFrom : ℕ → List Region → Type 0
AreFrom page [] = page ≤ 2 ^ 26
AreFrom page (r ∷ rs) = (page ≤ r.first) × (0 < length r.pages.items) × AreFrom (r.first + length r.pages.items) rs

-- the same as a test
-- profile
abbrev pub are_from : ℕ → List Region → Bool
are_from page [] = nat_le page (2 ^ 26)
are_from page (r ∷ rs) =
    nat_le page r.first && nat_lt 0 (length r.pages.items) && are_from (r.first + length r.pages.items) rs
