-- Laws of free ranges among regions in order, and of the highest of them.
use Rattle.std.proofs.Common.{◌≡◌, ℕ, zero, suc, ◌+◌, ◌-◌, ◌^◌, ◌<◌, ◌≤◌, true, false, cond, List, [], ◌∷◌, length}
use Rattle.std.proofs.Common.{get_or, Some, None, refl, ap, sym, ◌∙◌, inl, inr, arith}
use Rattle.std.specs.Option.{is_some}
use Rattle.std.specs.FinMap.{contains_key}
use Rattle.std.proofs.lemmas.Bool.{cases_Bool, cases_lt, cases_eq, cond-true, cond-false, false≢true}
use Rattle.sn_base.proofs.Maps.{get_of_empty}
use Rattle.mm_areas.specs.declared.areas.Region.{Region}
use Rattle.mm_areas.specs.Pages.{Pages, is_free}
use Rattle.mm_areas.specs.Regions.{pages_of}
use Rattle.mm_areas.specs.Order.{AreFrom}
use Rattle.mm_areas.specs.Places.{index_behind}
use Rattle.mm_areas.specs.Mappings.{highest_of, highest_free}
use Rattle.mm_areas.proofs.PageLaws.{is_free_at, is_free_from}
use Rattle.mm_areas.proofs.RegionLaws.{end_of, get_before_first, get_behind_first}
use Rattle.mm_areas.proofs.IndexLaws.{index_passed, has_in_region}

-- ---- free, or not

-- a range is free where the regions in front end by it and the others begin behind it
pub free_between : (from first count : ℕ) (rs : List Region) (i : ℕ) → AreFrom from rs → i ≤ length rs
    → ((k : ℕ) (d : Region) → k < i → end_of (get_or rs k d) ≤ first)
    → ((d : Region) → i < length rs → first + count ≤ (get_or rs i d).first) → is_free (pages_of rs) first count ≡ true
free_between from first count [] i h le front back =
    is_free_from (pages_of []) first count (λ q low high. get_of_empty q)
free_between from first count (r ∷ rs) zero h le front back =
    let later = back r (omega arith) in
    is_free_from (pages_of (r ∷ rs)) first count (λ q low high. get_before_first r rs q h.2 (omega arith))
free_between from first count (r ∷ rs) (suc i) h le front back =
    let ended : end_of r ≤ first = front 0 r (omega arith) in
    let rest = free_between (end_of r) first count rs i h.2 (omega arith) (λ k d less. front (suc k) d (omega arith))
    (λ d less. back d (omega arith)) in
    is_free_from (pages_of (r ∷ rs)) first count (λ q low high. get_behind_first r rs q (omega arith)
    ∙ is_free_at (pages_of rs) first count q rest low high)

-- a range with a mapped page is not free
pub not_free : (pages : Pages) (first count q : ℕ) → first ≤ q → q < first + count → contains_key pages q ≡ true
    → is_free pages first count ≡ false
not_free pages first count q low high there = elim (cases_Bool (is_free pages first count)) [
  | inl free ↦ absurd (false≢true (sym (ap is_some (is_free_at pages first count q free low high)) ∙ there))
  | inr taken ↦ taken
]

-- a range that a region reaches into is not free
pub reached_into : (rs : List Region) (i : ℕ) (d : Region) (first count : ℕ) → AreFrom 0 rs → i < length rs
    → 0 < length (get_or rs i d).pages.items → 0 < count → first < end_of (get_or rs i d)
    → (get_or rs i d).first < first + count → is_free (pages_of rs) first count ≡ false
reached_into rs i d first count h less some count_some before begins = elim (cases_lt first (get_or rs i d).first) [
  | inl inside ↦
      not_free (pages_of rs) first count (get_or rs i d).first (omega arith) begins
      (has_in_region 0 rs i d (get_or rs i d).first h less (omega arith) (omega arith))
  | inr over ↦
      not_free (pages_of rs) first count first (omega arith) (omega arith)
      (has_in_region 0 rs i d first h less over before)
]

pub some_pages : (from : ℕ) (rs : List Region) (i : ℕ) (d : Region) → AreFrom from rs → i < length rs
    → 0 < length (get_or rs i d).pages.items
some_pages from [] i d h less = absurd (omega arith)
some_pages from (r ∷ rs) zero d h less = h.1
some_pages from (r ∷ rs) (suc i) d h less = some_pages (end_of r) rs i d h.2 (omega arith)

-- ---- the first region that ends behind a page

-- the range is free where that region begins behind it
pub free_before : (from first count : ℕ) (rs : List Region) (i : ℕ) → i ≡ index_behind first rs → AreFrom from rs
    → ((d : Region) → i < length rs → first + count ≤ (get_or rs i d).first) → is_free (pages_of rs) first count ≡ true
free_before from first count [] i is h back = is_free_from (pages_of []) first count (λ q low high. get_of_empty q)
free_before from first count (r ∷ rs) zero is h back =
    let later = back r (omega arith) in
    is_free_from (pages_of (r ∷ rs)) first count (λ q low high. get_before_first r rs q h.2 (omega arith))
free_before from first count (r ∷ rs) (suc i) is h back =
    let passed = index_passed first r rs i is in
    let rest = free_before (end_of r) first count rs i passed.1 h.2 (λ d less. back d (omega arith)) in
    is_free_from (pages_of (r ∷ rs)) first count (λ q low high. get_behind_first r rs q (omega (arith, passed.0))
    ∙ is_free_at (pages_of rs) first count q rest low high)

-- ---- the highest

-- it is the free one above which none is free
pub highest_is : (pages : Pages) (count candidates k : ℕ) → k < candidates → is_free pages (2 ^ 25 + k) count ≡ true
    → ((n : ℕ) → k < n → n < candidates → is_free pages (2 ^ 25 + n) count ≡ false)
    → highest_of pages count candidates ≡ Some (2 ^ 25 + k)
unfolding highest_of
highest_is pages count zero k less free above = absurd (omega arith)
highest_is pages count (suc n) k less free above = elim (cases_eq k n) [
  | inl same ↦
      ap (λ (j : ℕ). cond (is_free pages (2 ^ 25 + j) count) (Some (2 ^ 25 + j)) (highest_of pages count n)) (sym same)
      ∙ cond-true (is_free pages (2 ^ 25 + k) count) (Some (2 ^ 25 + k)) (highest_of pages count n) free
  | inr other ↦
      cond-false (is_free pages (2 ^ 25 + n) count) (Some (2 ^ 25 + n)) (highest_of pages count n)
      (above n (omega arith) (omega arith))
      ∙ highest_is pages count n k (omega arith) free (λ j low high. above j low (omega arith))
]

pub highest_none : (pages : Pages) (count candidates : ℕ)
    → ((n : ℕ) → n < candidates → is_free pages (2 ^ 25 + n) count ≡ false) → highest_of pages count candidates ≡ None
unfolding highest_of
highest_none pages count zero none = refl
highest_none pages count (suc n) none =
    cond-false (is_free pages (2 ^ 25 + n) count) (Some (2 ^ 25 + n)) (highest_of pages count n) (none n (omega arith))
    ∙ highest_none pages count n (λ j less. none j (omega arith))

-- the highest free range, by the pages that a range above it would begin at
pub highest_found : (pages : Pages) (first count : ℕ) → 2 ^ 25 ≤ first → first + count ≤ 2 ^ 26 - 256
    → is_free pages first count ≡ true
    → ((f : ℕ) → first < f → f + count ≤ 2 ^ 26 - 256 → is_free pages f count ≡ false)
    → highest_free pages count ≡ Some first
highest_found pages first count low high free above =
    let at : 2 ^ 25 + (first - 2 ^ 25) ≡ first = omega arith in
    highest_is pages count (2 ^ 26 - 256 + 1 - (2 ^ 25 + count)) (first - 2 ^ 25) (omega arith)
    (ap (λ (f : ℕ). is_free pages f count) at ∙ free)
    (λ n more less. above (2 ^ 25 + n) (omega arith) (omega arith))
    ∙ ap (λ (f : ℕ). Some f) at

pub highest_nowhere : (pages : Pages) (count : ℕ)
    → ((f : ℕ) → 2 ^ 25 ≤ f → f + count ≤ 2 ^ 26 - 256 → is_free pages f count ≡ false)
    → highest_free pages count ≡ None
highest_nowhere pages count none =
    highest_none pages count (2 ^ 26 - 256 + 1 - (2 ^ 25 + count))
    (λ n less. none (2 ^ 25 + n) (omega arith) (omega arith))
