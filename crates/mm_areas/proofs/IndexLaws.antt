-- Laws of the first region that ends behind a page: what has the page, and what it takes to cut, to take out and to put
-- in.
use Rattle.std.proofs.Common.{◌≡◌, ℕ, zero, suc, ◌+◌, ◌-◌, ◌<◌, ◌≤◌, true, false, ◌&&◌, List, [], ◌∷◌, length, get_or}
use Rattle.std.proofs.Common.{None, refl, ap, sym, ◌∙◌, inl, inr, arith, leb}
use Rattle.std.specs.Prelude.{nat_le}
use Rattle.std.specs.Option.{is_some}
use Rattle.std.specs.List.{slice_get}
use Rattle.std.specs.List.Sorted.{IsNonDecreasingBy}
use Rattle.std.specs.FinMap.{get, contains_key}
use Rattle.std.proofs.lemmas.Bool.{leb-true, leb-false, le-leb, lt-leb, and_from, and_left, and_right, cases_lt}
use Rattle.std.proofs.lemmas.Bool.{cond-true, cond-false}
use Rattle.sn_base.proofs.Maps.{get_of_empty}
use Rattle.mm_areas.specs.declared.areas.Region.{Region}
use Rattle.mm_areas.specs.Regions.{pages_of}
use Rattle.mm_areas.specs.Order.{AreFrom}
use Rattle.mm_areas.specs.Places.{AreCut, index_behind}
use Rattle.mm_areas.proofs.RegionLaws.{end_of, mapped_in, length-mapped_in, get_in_first, get_behind_first}
use Rattle.mm_areas.proofs.RegionLaws.{get_before_first}

-- ---- the index

pub index_next : (page : ℕ) (r : Region) (rs : List Region) → end_of r ≤ page
    → index_behind page (r ∷ rs) ≡ suc (index_behind page rs)
index_next page r rs h = cond-true (nat_le (end_of r) page) (suc (index_behind page rs)) 0 (le-leb (end_of r) page h)

pub index_here : (page : ℕ) (r : Region) (rs : List Region) → page < end_of r → index_behind page (r ∷ rs) ≡ 0
index_here page r rs h = cond-false (nat_le (end_of r) page) (suc (index_behind page rs)) 0 (lt-leb (end_of r) page h)

-- a region in front ends by the page, and the others have the index less one
pub index_passed : (page : ℕ) (r : Region) (rs : List Region) (i : ℕ) → suc i ≡ index_behind page (r ∷ rs)
    → (end_of r ≤ page) × (i ≡ index_behind page rs)
index_passed page r rs i is = elim (cases_lt page (end_of r)) [
  | inl here ↦ absurd (omega (arith, is, index_here page r rs here))
  | inr passed ↦ (passed, omega (arith, is, index_next page r rs passed))
]

pub index_first : (page : ℕ) (r : Region) (rs : List Region) → 0 ≡ index_behind page (r ∷ rs) → page < end_of r
index_first page r rs is = elim (cases_lt page (end_of r)) [
  | inl here ↦ here
  | inr passed ↦ absurd (omega (arith, is, index_next page r rs passed))
]

pub index_bound : (page : ℕ) (rs : List Region) → index_behind page rs ≤ length rs
index_bound page [] = omega arith
index_bound page (r ∷ rs) = let rest = index_bound page rs in elim (cases_lt page (end_of r)) [
  | inl here ↦ omega (arith, index_here page r rs here)
  | inr passed ↦ omega (arith, rest, index_next page r rs passed)
]

-- regions behind a page have index 0
pub index_of_later : (page from : ℕ) (rs : List Region) → page < from → AreFrom from rs → 0 ≡ index_behind page rs
index_of_later page from [] below h = refl
index_of_later page from (r ∷ rs) below h = let here : page < end_of r =
    omega (arith, h.0) in sym (index_here page r rs here)

-- the index rises with the page
pub index_rises : (low high : ℕ) (rs : List Region) → low ≤ high → index_behind low rs ≤ index_behind high rs
index_rises low high [] le = omega arith
index_rises low high (r ∷ rs) le = let rest = index_rises low high rs le in elim (cases_lt low (end_of r)) [
  | inl here ↦ omega (arith, index_here low r rs here)
  | inr passed ↦
      let later : end_of r ≤ high = omega arith in
      omega (arith, rest, index_next low r rs passed, index_next high r rs later)
]

-- each region begins at the page that all are from, or behind it
pub first_from : (from : ℕ) (rs : List Region) (i : ℕ) (d : Region) → AreFrom from rs → i < length rs
    → from ≤ (get_or rs i d).first
first_from from [] i d h less = absurd (omega arith)
first_from from (r ∷ rs) zero d h less = h.0
first_from from (r ∷ rs) (suc i) d h less =
    let within : i < length rs = omega arith in
    let rest = first_from (end_of r) rs i d h.2 within in
    omega (arith, rest, h.0)

pub ends_rise : (from : ℕ) (rs : List Region) → AreFrom from rs → IsNonDecreasingBy end_of rs
ends_rise from [] h i j d le less = absurd (omega arith)
ends_rise from (r ∷ rs) h zero zero d le less = let same : end_of r ≤ end_of r = omega arith in same
ends_rise from (r ∷ rs) h zero (suc j) d le less =
    let within : j < length rs = omega arith in
    let first = first_from (end_of r) rs j d h.2 within in
    omega (arith, first)
ends_rise from (r ∷ rs) h (suc i) zero d le less = absurd (omega arith)
ends_rise from (r ∷ rs) h (suc i) (suc j) d le less = ends_rise (end_of r) rs h.2 i j d (omega arith) (omega arith)

-- the place between the regions that end by a page and the others is the index
pub index_is : (page : ℕ) (rs : List Region) (i : ℕ) → i ≤ length rs
    → ((k : ℕ) (d : Region) → 0 ≤ k → k < i → leb (end_of (get_or rs k d)) page ≡ true)
    → ((k : ℕ) (d : Region) → i ≤ k → k < length rs → leb (end_of (get_or rs k d)) page ≡ false)
    → i ≡ index_behind page rs
index_is page [] i le front back = omega arith
index_is page (r ∷ rs) zero le front back =
    sym (index_here page r rs (leb-false (end_of r) page (back 0 r (omega arith) (omega arith))))
index_is page (r ∷ rs) (suc i) le front back =
    ap suc (index_is page rs i (omega arith) (λ k d low high. front (suc k) d (omega arith) (omega arith))
    (λ k d low high. back (suc k) d (omega arith) (omega arith)))
    ∙ sym (index_next page r rs (leb-true (end_of r) page (front 0 r (omega arith) (omega arith))))

-- a region ends by a page where the page is so far behind its first
pub ends_by : (first count page : ℕ) → (nat_le first page && nat_le count (page - first)) ≡ nat_le (first + count) page
ends_by first count page = elim (cases_lt page (first + count)) [
  | inl before ↦ elim (cases_lt page first) [
    | inl low ↦ and_left (nat_le first page) (nat_le count (page - first)) (lt-leb first page low)
        ∙ sym (lt-leb (first + count) page before)
    | inr from ↦
        let short : page - first < count = omega arith in
        and_right (nat_le first page) (nat_le count (page - first)) (lt-leb count (page - first) short)
        ∙ sym (lt-leb (first + count) page before)
  ]
  | inr behind ↦
      let low : first ≤ page = omega arith in
      let enough : count ≤ page - first = omega arith in
      and_from (nat_le first page) (nat_le count (page - first)) (le-leb first page low)
      (le-leb count (page - first) enough) ∙ sym (le-leb (first + count) page behind)
]

-- ---- the region that has a page

-- the region at the index ends behind the page
pub index_ends : (page : ℕ) (rs : List Region) (i : ℕ) (d : Region) → i ≡ index_behind page rs → i < length rs
    → page < end_of (get_or rs i d)
index_ends page [] i d is less = absurd (omega arith)
index_ends page (r ∷ rs) zero d is less = index_first page r rs is
index_ends page (r ∷ rs) (suc i) d is less = index_ends page rs i d (index_passed page r rs i is).1 (omega arith)

-- the page that a region in a list has
pub get_in_region : (from : ℕ) (rs : List Region) (i : ℕ) (d : Region) (page : ℕ) → AreFrom from rs → i < length rs
    → (get_or rs i d).first ≤ page → page < end_of (get_or rs i d)
    → get (pages_of rs) page ≡ slice_get (mapped_in (get_or rs i d)) (page - (get_or rs i d).first)
get_in_region from [] i d page h less low high = absurd (omega arith)
get_in_region from (r ∷ rs) zero d page h less low high = get_in_first r rs page low high
get_in_region from (r ∷ rs) (suc i) d page h less low high =
    let within : i < length rs = omega arith in
    let first = first_from (end_of r) rs i d h.2 within in
    let behind : end_of r ≤ page = omega (arith, first, low) in
    get_behind_first r rs page behind ∙ get_in_region (end_of r) rs i d page h.2 within low high

some_in : {X : Type 0} → (xs : List X) (k : ℕ) → k < length xs → is_some (slice_get xs k) ≡ true
some_in [] k less = absurd (omega arith)
some_in (x ∷ xs) zero less = refl
some_in (x ∷ xs) (suc k) less = some_in xs k (omega arith)

pub has_in_region : (from : ℕ) (rs : List Region) (i : ℕ) (d : Region) (page : ℕ) → AreFrom from rs → i < length rs
    → (get_or rs i d).first ≤ page → page < end_of (get_or rs i d) → contains_key (pages_of rs) page ≡ true
has_in_region from rs i d page h less low high =
    let r = get_or rs i d in
    let within : page - r.first < length (mapped_in r) = omega (arith, low, high, length-mapped_in r) in
    ap is_some (get_in_region from rs i d page h less low high) ∙ some_in (mapped_in r) (page - r.first) within

-- no region has it where the one at the index begins behind it
pub get_nowhere : (page from : ℕ) (rs : List Region) (i : ℕ) → i ≡ index_behind page rs → AreFrom from rs
    → ((d : Region) → i < length rs → page < (get_or rs i d).first) → get (pages_of rs) page ≡ None
get_nowhere page from [] i is h behind = get_of_empty page
get_nowhere page from (r ∷ rs) zero is h behind = get_before_first r rs page h.2 (behind r (omega arith))
get_nowhere page from (r ∷ rs) (suc i) is h behind =
    let passed = index_passed page r rs i is in
    get_behind_first r rs page passed.0
    ∙ get_nowhere page (end_of r) rs i passed.1 h.2 (λ d less. behind d (omega arith))

-- ---- cut at a page

pub cut_later : (page from : ℕ) (rs : List Region) → page ≤ from → AreFrom from rs → AreCut page rs
cut_later page from [] le h = tt
cut_later page from (r ∷ rs) le h =
    let low : page ≤ r.first = omega (arith, h.0) in
    let next : page ≤ end_of r = omega arith in
    (inr low, cut_later page (end_of r) rs next h.2)

pub cut_already : (page from : ℕ) (rs : List Region) (i : ℕ) → i ≡ index_behind page rs → AreFrom from rs
    → ((d : Region) → i < length rs → page ≤ (get_or rs i d).first) → AreCut page rs
cut_already page from [] i is h behind = tt
cut_already page from (r ∷ rs) zero is h behind =
    let low : page ≤ r.first = behind r (omega arith) in
    let next : page ≤ end_of r = omega arith in
    (inr low, cut_later page (end_of r) rs next h.2)
cut_already page from (r ∷ rs) (suc i) is h behind =
    let passed = index_passed page r rs i is in
    (inl passed.0, cut_already page (end_of r) rs i passed.1 h.2 (λ d less. behind d (omega arith)))
