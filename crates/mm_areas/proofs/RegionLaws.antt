-- Laws of regions: their order, and the pages that they stand for.
use Rattle.std.proofs.Common.{◌≡◌, ℕ, ◌+◌, ◌-◌, ◌^◌, ◌<◌, ◌≤◌, true, ◌&&◌, List, [], ◌∷◌, ◌++◌, length, map, None, ap}
use Rattle.std.proofs.Common.{◌∙◌, arith}
use Rattle.std.specs.Prelude.{nat_le, nat_lt}
use Rattle.std.specs.List.{slice_get}
use Rattle.std.specs.FinMap.{get, len, len-empty}
use Rattle.std.specs.Ordering.{nat_cmp}
use Rattle.std.proofs.lemmas.List.{length-map}
use Rattle.std.proofs.lemmas.Bool.{leb-true, le-leb, ltb-true, lt-ltb, and_parts, and_from}
use Rattle.sn_base.proofs.Maps.{get_of_empty}
use Rattle.mm_areas.specs.declared.areas.Region.{Region}
use Rattle.mm_areas.specs.Pages.{Mapped, mapped_by, laid}
use Rattle.mm_areas.specs.Regions.{pages_of}
use Rattle.mm_areas.specs.Order.{AreFrom, are_from}
use Rattle.mm_areas.proofs.PageLaws.{get-laid_at, get-laid_below, get-laid_behind, len-laid_free}

-- the page behind a region
abbrev pub end_of : Region → ℕ
end_of r = r.first + length r.pages.items

-- the pages of a region as contracts see them
abbrev pub mapped_in : Region → List Mapped
mapped_in r = map mapped_by r.pages.items

pub length-mapped_in : (r : Region) → length (mapped_in r) ≡ length r.pages.items
length-mapped_in r = length-map r.pages.items mapped_by

-- ---- their order, as a fact and as a test

pub order_from_test : (page : ℕ) (rs : List Region) → are_from page rs ≡ true → AreFrom page rs
order_from_test page [] h = leb-true page (2 ^ 26) h
order_from_test page (r ∷ rs) h =
    let parts = and_parts (nat_le page r.first && nat_lt 0 (length r.pages.items)) (are_from (end_of r) rs) h in
    let both = and_parts (nat_le page r.first) (nat_lt 0 (length r.pages.items)) parts.0 in
    (leb-true page r.first both.0, ltb-true 0 (length r.pages.items) both.1, order_from_test (end_of r) rs parts.1)

pub test_from_order : (page : ℕ) (rs : List Region) → AreFrom page rs → are_from page rs ≡ true
test_from_order page [] h = le-leb page (2 ^ 26) h
test_from_order page (r ∷ rs) h =
    and_from (nat_le page r.first && nat_lt 0 (length r.pages.items)) (are_from (end_of r) rs)
    (and_from (nat_le page r.first) (nat_lt 0 (length r.pages.items)) (le-leb page r.first h.0)
    (lt-ltb 0 (length r.pages.items) h.1))
    (test_from_order (end_of r) rs h.2)

-- regions from a page on are from each lower one on
pub from_lower : (low page : ℕ) (rs : List Region) → low ≤ page → AreFrom page rs → AreFrom low rs
from_lower low page [] le h = let all : low ≤ 2 ^ 26 = omega arith in all
from_lower low page (r ∷ rs) le h = (let all : low ≤ r.first = omega (arith, h.0) in all, h.1, h.2)

-- all are below the end of the address space
pub from_bounded : (page : ℕ) (rs : List Region) → AreFrom page rs → page ≤ 2 ^ 26
from_bounded page [] h = h
from_bounded page (r ∷ rs) h = let rest = from_bounded (end_of r) rs h.2 in omega (arith, h.0, rest)

-- ---- their pages

-- none below the page that they begin at
pub get_below : (page : ℕ) (rs : List Region) (q : ℕ) → AreFrom page rs → q < page → get (pages_of rs) q ≡ None
get_below page [] q h below = get_of_empty q
get_below page (r ∷ rs) q h below =
    let first : q < r.first = omega (arith, h.0) in
    let next : q < end_of r = omega arith in
    get-laid_below r.first (mapped_in r) (pages_of rs) q first ∙ get_below (end_of r) rs q h.2 next

-- those of the first region, and those of the others
pub get_in_first : (r : Region) (rs : List Region) (q : ℕ) → r.first ≤ q → q < end_of r
    → get (pages_of (r ∷ rs)) q ≡ slice_get (mapped_in r) (q - r.first)
get_in_first r rs q low high = let to : q < r.first + length (mapped_in r) =
    omega (arith, length-mapped_in r) in get-laid_at r.first (mapped_in r) (pages_of rs) q low to

pub get_behind_first : (r : Region) (rs : List Region) (q : ℕ) → end_of r ≤ q
    → get (pages_of (r ∷ rs)) q ≡ get (pages_of rs) q
get_behind_first r rs q behind = let to : r.first + length (mapped_in r) ≤ q =
    omega (arith, length-mapped_in r) in get-laid_behind r.first (mapped_in r) (pages_of rs) q to

pub get_before_first : (r : Region) (rs : List Region) (q : ℕ) → AreFrom (end_of r) rs → q < r.first
    → get (pages_of (r ∷ rs)) q ≡ None
get_before_first r rs q h below =
    let next : q < end_of r = omega arith in
    get-laid_below r.first (mapped_in r) (pages_of rs) q below ∙ get_below (end_of r) rs q h next

-- how many pages they have
abbrev pub count_in : List Region → ℕ
count_in [] = 0
count_in (r ∷ rs) = length r.pages.items + count_in rs

pub len-pages_of : (page : ℕ) (rs : List Region) → AreFrom page rs → len (pages_of rs) ≡ count_in rs
len-pages_of page [] h = len-empty nat_cmp Mapped
len-pages_of page (r ∷ rs) h =
    let rest = len-pages_of (end_of r) rs h.2 in
    let free = len-laid_free r.first (mapped_in r) (pages_of rs)
    (λ q low high. get_below (end_of r) rs q h.2 (omega (arith, length-mapped_in r))) in
    free ∙ omega (arith, rest, length-mapped_in r)

-- ---- regions in front of others

-- what stands in front stays, whatever comes behind it
pub pages_in_front : (front old new : List Region) → pages_of old ≡ pages_of new
    → pages_of (front ++ old) ≡ pages_of (front ++ new)
pages_in_front [] old new same = same
pages_in_front (r ∷ front) old new same = ap (laid r.first (mapped_in r)) (pages_in_front front old new same)

pub order_in_front : (page : ℕ) (front old new : List Region) → ((from : ℕ) → AreFrom from old → AreFrom from new)
    → AreFrom page (front ++ old) → AreFrom page (front ++ new)
order_in_front page [] old new each h = each page h
order_in_front page (r ∷ front) old new each h = (h.0, h.1, order_in_front (end_of r) front old new each h.2)

pub len_of_none : len (pages_of []) ≡ 0
len_of_none = len-empty nat_cmp Mapped
