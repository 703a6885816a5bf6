-- Laws of pages that were not mapped: nothing is said of them where they aren't, nor of new ones in their places.
use Rattle.std.proofs.Common.{◌≡◌, ℕ, ◌-◌, Bool, true, false, List, length, Option, None, refl, ap, sym, ◌∙◌, inl, inr}
use Rattle.std.specs.List.{slice_get}
use Rattle.std.specs.FinMap.{get, contains_key}
use Rattle.std.specs.Option.{is_some}
use Rattle.mm_areas.specs.declared.page.Page.{Page}
use Rattle.mm_areas.specs.declared.areas.Region.{Region}
use Rattle.mm_areas.specs.Pages.{Pages, is_within, unmapped}
use Rattle.mm_areas.specs.Regions.{pages_of}
use Rattle.mm_areas.specs.Order.{are_from}
use Rattle.mm_areas.specs.Own.{page_in}
use Rattle.mm_areas.proofs.PageLaws.{where_page, get-unmapped_in}
use Rattle.mm_areas.proofs.WriteLaws.{not_found}

-- a page that isn't mapped isn't there
pub absent : (rs : List Region) (page : ℕ) → are_from 0 rs ≡ true → contains_key (pages_of rs) page ≡ false
    → page_in rs page ≡ None
absent rs page order unmapped = not_found rs rs page refl order (sym unmapped)

-- what is said of no page, nor of any new one, isn't said of it once new ones are laid
pub fresh_laid : (word : Option Page → Bool) (olds news : List Region) (first : ℕ) (pages : List Page) (page : ℕ)
    → word None ≡ false → page_in olds page ≡ None → ((index : ℕ) → word (slice_get pages index) ≡ false)
    → ((q : ℕ) → is_within first (length pages) q ≡ false → page_in news q ≡ page_in olds q)
    → ((q : ℕ) → is_within first (length pages) q ≡ true → page_in news q ≡ slice_get pages (q - first))
    → word (page_in news page) ≡ false
fresh_laid word olds news first pages page nowhere none new kept put = elim (where_page first (length pages) page) [
  | inl w ↦ ap word (put page w.2) ∙ new (page - first)
  | inr w ↦ ap word (kept page w.1 ∙ none) ∙ nowhere
]

-- it isn't there once others are taken out
pub absent_left : (olds news : List Region) (first count page : ℕ) → are_from 0 news ≡ true
    → pages_of news ≡ unmapped first count (pages_of olds) → page_in olds page ≡ None
    → ((q : ℕ) → is_within first count q ≡ false → page_in news q ≡ page_in olds q) → page_in news page ≡ None
absent_left olds news first count page order is none kept = elim (where_page first count page) [
  | inl w ↦ absent news page order (ap (λ (p : Pages). is_some (get p page)) is
      ∙ ap is_some (get-unmapped_in first count (pages_of olds) page w.0 w.1))
  | inr w ↦ kept page w.1 ∙ none
]
