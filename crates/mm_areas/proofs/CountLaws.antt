-- Laws of how many pages of a range are mapped: page by page, and by regions.
use Rattle.std.proofs.Common.{◌≡◌, ◌≢◌, ℕ, zero, suc, ◌+◌, ◌-◌, ◌^◌, ◌<◌, ◌≤◌, Bool, true, false, cond, ◌&&◌, List, []}
use Rattle.std.proofs.Common.{◌∷◌, length, drop, get_or, min, max, Option, Some, None, refl, ap, sym, ◌∙◌, ◌⊎◌, inl}
use Rattle.std.proofs.Common.{inr, arith}
use Rattle.std.specs.Option.{is_some}
use Rattle.std.specs.Cmp.{nat_cmp_total}
use Rattle.std.specs.FinMap.{get, insert, contains_key, len, len-insert}
use Rattle.std.proofs.lemmas.Bool.{cases_Bool, cases_eq, cond-true, cond-false}
use Rattle.std.proofs.Math.Seq.{drop-cons}
use Rattle.sn_base.proofs.Maps.{same_by_get, get-insert_same, get-insert_other}
use Rattle.mm_areas.specs.declared.areas.Region.{Region}
use Rattle.mm_areas.specs.Pages.{Mapped, Pages, laid, unmapped, is_covered}
use Rattle.mm_areas.specs.Regions.{pages_of}
use Rattle.mm_areas.specs.Order.{AreFrom}
use Rattle.mm_areas.specs.Places.{index_behind}
use Rattle.mm_areas.proofs.PageLaws.{where_page, get-unmapped_in, get-unmapped_apart, get-laid_below, unmapped_absent}
use Rattle.mm_areas.proofs.PageLaws.{unmapped-empty, len-laid_free}
use Rattle.mm_areas.proofs.RegionLaws.{end_of, mapped_in, length-mapped_in, get_below, from_bounded, from_lower}
use Rattle.mm_areas.proofs.IndexLaws.{index_passed}

-- ---- page by page

-- how many of so many pages are mapped
abbrev pub held_in : Pages → (first count : ℕ) → ℕ
held_in pages first zero = 0
held_in pages first (suc n) = (cond (contains_key pages first) 1 0) + held_in pages (suc first) n

-- without a page more, one less is left, or as many
absent_more : (pages : Pages) (first n : ℕ) → get pages first ≡ None
    → unmapped (suc first) n pages ≡ unmapped first (suc n) pages
absent_more pages first n none = same_by_get _ _ (λ q. elim (where_page first (suc n) q) [
  | inl w ↦ elim (cases_eq first q) [
    | inl same ↦
        let below : q < suc first = omega arith in
        get-unmapped_apart (suc first) n pages q (inl below) ∙ sym (ap (get pages) same) ∙ none
        ∙ sym (get-unmapped_in first (suc n) pages q w.0 w.1)
    | inr other ↦
        get-unmapped_in (suc first) n pages q (omega (arith, w.0)) (omega (arith, w.1))
        ∙ sym (get-unmapped_in first (suc n) pages q w.0 w.1)
  ]
  | inr w ↦
      let apart : (q < suc first) ⊎ (suc first + n ≤ q) =
      elim w.0 [ inl low ↦ inl (omega arith) | inr high ↦ inr (omega arith) ] in
      get-unmapped_apart (suc first) n pages q apart ∙ sym (get-unmapped_apart first (suc n) pages q w.0)
])

there_more : (pages : Pages) (first n : ℕ) (m : Mapped) → get pages first ≡ Some m
    → unmapped (suc first) n pages ≡ insert (unmapped first (suc n) pages) first m
there_more pages first n m there = same_by_get _ _ (λ q. elim (cases_eq first q) [
  | inl same ↦
      let below : first < suc first = omega arith in
      ap (get (unmapped (suc first) n pages)) (sym same)
      ∙ get-unmapped_apart (suc first) n pages first (inl below) ∙ there
      ∙ sym (get-insert_same (unmapped first (suc n) pages) first m)
      ∙ ap (get (insert (unmapped first (suc n) pages) first m)) same
  | inr other ↦ elim (where_page first (suc n) q) [
    | inl w ↦ get-unmapped_in (suc first) n pages q (omega (arith, w.0)) (omega (arith, w.1))
        ∙ sym (get-insert_other (unmapped first (suc n) pages) first q m other
        ∙ get-unmapped_in first (suc n) pages q w.0 w.1)
    | inr w ↦
        let apart : (q < suc first) ⊎ (suc first + n ≤ q) =
        elim w.0 [ inl low ↦ inl (omega arith) | inr high ↦ inr (omega arith) ] in
        get-unmapped_apart (suc first) n pages q apart
        ∙ sym (get-insert_other (unmapped first (suc n) pages) first q m other
        ∙ get-unmapped_apart first (suc n) pages q w.0)
  ]
])

len_more : (pages : Pages) (first n : ℕ) (o : Option Mapped) → get pages first ≡ o
    → cond (is_some o) 1 0 + len (unmapped first (suc n) pages) ≡ len (unmapped (suc first) n pages)
len_more pages first n None is = omega (arith, ap len (absent_more pages first n is))
len_more pages first n (Some m) is =
    let low : first ≤ first = omega arith in
    let high : first < first + suc n = omega arith in
    let gone : contains_key (unmapped first (suc n) pages) first ≡ false =
    ap is_some (get-unmapped_in first (suc n) pages first low high) in
    let more = len-insert nat_cmp_total (unmapped first (suc n) pages) first m
    ∙ cond-false (contains_key (unmapped first (suc n) pages) first) (len (unmapped first (suc n) pages))
    (len (unmapped first (suc n) pages) + 1) gone in
    omega (arith, more, ap len (there_more pages first n m is))

pub len-held : (pages : Pages) (first count : ℕ)
    → held_in pages first count + len (unmapped first count pages) ≡ len pages
len-held pages first zero =
    omega (arith, ap len (unmapped_absent first zero pages (λ q low high. absurd (omega arith))))
len-held pages first (suc n) =
    omega (arith, len_more pages first n (get pages first) refl, len-held pages (suc first) n)

held_bound : (pages : Pages) (first count : ℕ) → held_in pages first count ≤ count
held_bound pages first zero = omega arith
held_bound pages first (suc n) = let rest =
    held_bound pages (suc first) n in elim (cases_Bool (contains_key pages first)) [
      | inl there ↦ omega (arith, rest, cond-true {A = ℕ} (contains_key pages first) 1 0 there)
      | inr absent ↦ omega (arith, rest, cond-false {A = ℕ} (contains_key pages first) 1 0 absent)
    ]

-- all of so many pages are mapped where so many are
pub covered_held : (pages : Pages) (first count : ℕ)
    → (held_in pages first count ≡ count → is_covered pages first count ≡ true)
    × (held_in pages first count ≢ count → is_covered pages first count ≡ false)
unfolding is_covered
covered_held pages first zero = (λ _. refl, λ less. absurd (less refl))
covered_held pages first (suc n) =
    let rest = covered_held pages (suc first) n in
    let bound = held_bound pages (suc first) n in
    elim (cases_Bool (contains_key pages first)) [
      | inl there ↦
          let one = cond-true {A = ℕ} (contains_key pages first) 1 0 there in (
            λ all. ap (λ (b : Bool). b && is_covered pages (suc first) n) there ∙ rest.0 (omega arith),
            λ less. ap (λ (b : Bool). b && is_covered pages (suc first) n) there ∙ rest.1 (λ all. less (omega arith)),
          )
      | inr absent ↦
          let none = cond-false {A = ℕ} (contains_key pages first) 1 0 absent in
          (λ all. absurd (omega arith), λ less. ap (λ (b : Bool). b && is_covered pages (suc first) n) absent)
    ]

-- ---- by regions

-- how many pages of a region are in a range up to an end
abbrev pub reach_in : (first end : ℕ) → Region → ℕ
reach_in first end r = min (end_of r) end - max r.first first

abbrev pub reach_of : (first end : ℕ) → List Region → ℕ
reach_of first end [] = 0
reach_of first end (r ∷ rs) = reach_in first end r + reach_of first end rs

-- pages laid where none is mapped: those that are in a range go with it
laid_in_more : (first count second : ℕ) (m : Mapped) (pages : Pages) → first ≤ second → second < first + count
    → unmapped first count (insert pages second m) ≡ unmapped first count pages
laid_in_more first count second m pages from to = same_by_get _ _ (λ q. elim (where_page first count q) [
  | inl w ↦ get-unmapped_in first count (insert pages second m) q w.0 w.1
      ∙ sym (get-unmapped_in first count pages q w.0 w.1)
  | inr w ↦
      let other : second ≢ q = elim w.0 [ inl low ↦ omega arith | inr high ↦ omega arith ] in
      get-unmapped_apart first count (insert pages second m) q w.0 ∙ get-insert_other pages second q m other
      ∙ sym (get-unmapped_apart first count pages q w.0)
])

laid_out_more : (first count second : ℕ) (m : Mapped) (pages : Pages) → (second < first) ⊎ (first + count ≤ second)
    → unmapped first count (insert pages second m) ≡ insert (unmapped first count pages) second m
laid_out_more first count second m pages out = same_by_get _ _ (λ q. elim (cases_eq second q) [
  | inl same ↦
      ap (get (unmapped first count (insert pages second m))) (sym same)
      ∙ get-unmapped_apart first count (insert pages second m) second out ∙ get-insert_same pages second m
      ∙ sym (get-insert_same (unmapped first count pages) second m)
      ∙ ap (get (insert (unmapped first count pages) second m)) same
  | inr other ↦ elim (where_page first count q) [
    | inl w ↦ get-unmapped_in first count (insert pages second m) q w.0 w.1
        ∙ sym (get-insert_other (unmapped first count pages) second q m other
        ∙ get-unmapped_in first count pages q w.0 w.1)
    | inr w ↦ get-unmapped_apart first count (insert pages second m) q w.0 ∙ get-insert_other pages second q m other
        ∙ sym (get-insert_other (unmapped first count pages) second q m other
        ∙ get-unmapped_apart first count pages q w.0)
  ]
])

len_laid : (first count second : ℕ) (ms : List Mapped) (pages : Pages)
    → ((q : ℕ) → second ≤ q → q < second + length ms → get pages q ≡ None)
    → (min (second + length ms) (first + count) - max second first) + len (unmapped first count (laid second ms pages))
    ≡ len (unmapped first count pages) + length ms
len_laid first count second [] pages none = omega arith
len_laid first count second (m ∷ ms) pages none =
    let p = laid (suc second) ms pages in
    let rest = len_laid first count (suc second) ms pages (λ q low high. none q (omega arith) (omega arith)) in
    elim (where_page first count second) [
      | inl w ↦
          let gone = ap len (laid_in_more first count second m p w.0 w.1) in
          omega (arith, rest, gone, w.0, w.1)
      | inr w ↦
          let here : second < suc second = omega arith in
          let at : second ≤ second = omega arith in
          let to : second < second + suc (length ms) = omega arith in
          let absent : get (unmapped first count p) second ≡ None =
          get-unmapped_apart first count p second w.0
          ∙ get-laid_below (suc second) ms pages second here ∙ none second at to in
          let more = len-insert nat_cmp_total (unmapped first count p) second m
          ∙ cond-false (contains_key (unmapped first count p) second) (len (unmapped first count p))
          (len (unmapped first count p) + 1) (ap is_some absent) in
          let kept = ap len (laid_out_more first count second m p w.0) ∙ more in
          elim w.0 [ inl low ↦ omega (arith, rest, kept, low) | inr high ↦ omega (arith, rest, kept, high) ]
    ]

-- the pages of regions are those in a range and those that are left without it
pub len-reach : (first count from : ℕ) (rs : List Region) → AreFrom from rs
    → reach_of first (first + count) rs + len (unmapped first count (pages_of rs)) ≡ len (pages_of rs)
len-reach first count from [] h = omega (arith, ap len (unmapped-empty first count))
len-reach first count from (r ∷ rs) h =
    let rest = len-reach first count (end_of r) rs h.2 in
    let none = λ (q : ℕ) (low : r.first ≤ q) (high : q < r.first + length (mapped_in r)). get_below (end_of r) rs q h.2
    (omega (arith, high, length-mapped_in r)) in
    let laid_here = len_laid first count r.first (mapped_in r) (pages_of rs) none in
    let all = len-laid_free r.first (mapped_in r) (pages_of rs) none in
    let size = length-mapped_in r in
    let here : min (r.first + length (mapped_in r)) (first + count) - max r.first first
    ≡ reach_in first (first + count) r =
    ap (λ (n : ℕ). min (r.first + n) (first + count) - max r.first first) size in
    omega (arith, rest, laid_here, all, here)

pub reach_bound : (first end from : ℕ) (rs : List Region) → AreFrom from rs → from + reach_of first end rs ≤ 2 ^ 26
reach_bound first end from [] h = omega (arith, h)
reach_bound first end from (r ∷ rs) h = let rest = reach_bound first end (end_of r) rs h.2 in omega (arith, rest, h.0)

-- regions that end by the range have none of it, and neither do those that begin behind it
pub reach_passed : (first end : ℕ) (rs : List Region) (i : ℕ) → i ≡ index_behind first rs
    → reach_of first end (drop i rs) ≡ reach_of first end rs
reach_passed first end [] zero is = refl
reach_passed first end [] (suc i) is = refl
reach_passed first end (r ∷ rs) zero is = refl
reach_passed first end (r ∷ rs) (suc i) is =
    let passed = index_passed first r rs i is in
    let rest = reach_passed first end rs i passed.1 in
    omega (arith, rest, passed.0)

pub reach_beyond : (first end from : ℕ) (rs : List Region) → AreFrom from rs → end ≤ from → reach_of first end rs ≡ 0
reach_beyond first end from [] h le = refl
reach_beyond first end from (r ∷ rs) h le =
    let rest = reach_beyond first end (end_of r) rs h.2 (omega (arith, h.0)) in
    omega (arith, rest, h.0)

-- those from an index on are in order
pub from_index : (from : ℕ) (rs : List Region) (i : ℕ) → AreFrom from rs → AreFrom from (drop i rs)
from_index from rs zero h = h
from_index from [] (suc i) h = h
from_index from (r ∷ rs) (suc i) h =
    from_lower from (end_of r) (drop i rs) (omega (arith, h.0)) (from_index (end_of r) rs i h.2)

pub end_bound : (from : ℕ) (rs : List Region) (i : ℕ) (d : Region) → AreFrom from rs → i < length rs
    → end_of (get_or rs i d) ≤ 2 ^ 26
end_bound from [] i d h less = absurd (omega arith)
end_bound from (r ∷ rs) zero d h less = from_bounded (end_of r) rs h.2
end_bound from (r ∷ rs) (suc i) d h less = end_bound (end_of r) rs i d h.2 (omega arith)

-- the sum at the first of regions in order, and where that begins behind the range
pub reach_next : (first end : ℕ) (rs : List Region) (i : ℕ) (r : Region) → i < length rs → r ≡ get_or rs i r
    → reach_of first end (drop i rs) ≡ reach_in first end r + reach_of first end (drop (suc i) rs)
reach_next first end rs i r less is =
    ap (reach_of first end) (drop-cons rs i r less ∙ ap (λ (x : Region). x ∷ drop (suc i) rs) (sym is))

pub reach_ended : (first end from : ℕ) (rs : List Region) (i : ℕ) (r : Region) → AreFrom from rs → i < length rs
    → r ≡ get_or rs i r → end ≤ r.first → reach_of first end (drop i rs) ≡ 0
reach_ended first end from [] i r h less is behind = absurd (omega arith)
reach_ended first end from (x ∷ xs) zero r h less is behind = let at : end ≤ x.first =
    omega (arith, behind, ap (λ (y : Region). y.first) is) in
    reach_beyond first end end (x ∷ xs) (at, h.1, h.2) (omega arith)
reach_ended first end from (x ∷ xs) (suc i) r h less is behind =
    reach_ended first end (end_of x) xs i r h.2 (omega arith) is behind
