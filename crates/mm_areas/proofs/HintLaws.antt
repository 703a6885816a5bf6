-- A hint that is right is an index that a look-up might answer.
use Rattle.std.proofs.Common.{◌≡◌, ℕ, ◌<◌, true, List, length, get_or, Option, Some, None, inl, inr, refl, ap, sym, ◌∙◌}
use Rattle.std.specs.List.{slice_get}
use Rattle.std.specs.FinMap.{contains_key}
use Rattle.std.proofs.lemmas.Option.{slice_get-get_or, slice_get_past}
use Rattle.std.proofs.lemmas.Bool.{cases_lt, false≢true}
use Rattle.mm_areas.specs.declared.areas.Region.{Region}
use Rattle.mm_areas.specs.Hints.{has_page}
use Rattle.mm_areas.specs.Order.{are_from}
use Rattle.mm_areas.specs.Pages.{is_within}
use Rattle.mm_areas.specs.Regions.{pages_of}
use Rattle.mm_areas.proofs.IndexLaws.{has_in_region}
use Rattle.mm_areas.proofs.PageLaws.{within_bounds}
use Rattle.mm_areas.proofs.RegionLaws.{order_from_test}

-- there is a region
pub near_within : (rs : List Region) (i page : ℕ) → has_page (slice_get rs i) page ≡ true → i < length rs
near_within rs i page near = elim (cases_lt i (length rs)) [
  | inl less ↦ less
  | inr past ↦ absurd (false≢true (sym (ap (λ (o : Option Region). has_page o page) (slice_get_past rs i past)) ∙ near))
]

-- which has the page
pub near_held : (rs : List Region) (i page : ℕ) → has_page (slice_get rs i) page ≡ true → (d : Region)
    → is_within (get_or rs i d).first (length (get_or rs i d).pages.items) page ≡ true
near_held rs i page near d =
    sym (ap (λ (o : Option Region). has_page o page) (slice_get-get_or rs i d (near_within rs i page near))) ∙ near

-- so that it is mapped
pub near_mapped : (rs : List Region) (i page : ℕ) → are_from 0 rs ≡ true → has_page (slice_get rs i) page ≡ true
    → contains_key (pages_of rs) page ≡ true
near_mapped rs i page order near = by (slice_get rs i) refl near
  where
    by : (o : Option Region) → slice_get rs i ≡ o → has_page o page ≡ true → contains_key (pages_of rs) page ≡ true
    by None is has = absurd (false≢true has)
    by (Some r) is has =
        let bounds =
        within_bounds (get_or rs i r).first (length (get_or rs i r).pages.items) page
        (near_held rs i page near r) in
        has_in_region 0 rs i r page (order_from_test 0 rs order) (near_within rs i page near) bounds.0 bounds.1
