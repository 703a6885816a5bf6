-- Laws of pages and regions that share their bytes, one after another.
use Rattle.std.proofs.Common.{◌≡◌, ℕ, zero, suc, ◌+◌, ◌-◌, ◌<◌, ◌≤◌, Bool, true, false, Option, Some, None, List, []}
use Rattle.std.proofs.Common.{◌∷◌, ◌++◌, length, set, take, refl, ap, sym, ◌∙◌, subst, ◌⊎◌, inl, inr}
use Rattle.std.specs.List.{slice_get}
use Rattle.std.proofs.lemmas.List.{take_more_set, take_all}
use Rattle.std.proofs.lemmas.Bool.{cases_Bool, cond-true}
use Rattle.mm_areas.specs.declared.page.Page.{Page}
use Rattle.mm_areas.specs.declared.areas.Region.{Region}
use Rattle.mm_areas.specs.Pages.{is_within}
use Rattle.mm_areas.specs.Own.{page_in, is_own_at, is_own_content}
use Rattle.mm_areas.specs.DecodedWords.{has_row_in, has_row_content, AreUndecoded}
use Rattle.mm_areas.specs.Shares.{AreShared, AreSharedIn}
use Rattle.mm_areas.proofs.ChangeLaws.{page_there}

-- ---- pages

-- what is said of no page, and not of one more, is said of none with the one
none_more : (word : Option Page → Bool) (pages : List Page) (page : Page) → word None ≡ false
    → ((j : ℕ) → word (slice_get pages j) ≡ false) → word (Some page) ≡ false → (j : ℕ)
    → word (slice_get (pages ++ page ∷ []) j) ≡ false
none_more word [] page nowhere are is zero = is
none_more word [] page nowhere are is (suc j) = nowhere
none_more word (p ∷ pages) page nowhere are is zero = are 0
none_more word (p ∷ pages) page nowhere are is (suc j) = none_more word pages page nowhere (λ k. are (suc k)) is j

-- one more
pub shared_more : (copies : List Page) (copy : Page) → AreShared copies → is_own_content copy.content ≡ false
    → AreShared (copies ++ copy ∷ [])
shared_more copies copy are is = none_more is_own_at copies copy refl are is

pub undecoded_more : (pages : List Page) (page : Page) → AreUndecoded pages → has_row_content page.content ≡ false
    → AreUndecoded (pages ++ page ∷ [])
undecoded_more pages page are is = none_more has_row_in pages page refl are is

-- the next of those in their place
pub lost_more : (pages : List Page) (index : ℕ) (new : Page) → index < length pages → AreShared (take index pages)
    → is_own_content new.content ≡ false → AreShared (take (index + 1) (set pages index new))
lost_more pages index new less are is =
    subst AreShared (sym (take_more_set pages index new less)) (shared_more (take index pages) new are is)

pub lost_all : (pages : List Page) (count : ℕ) → length pages ≤ count → AreShared (take count pages) → AreShared pages
lost_all pages count all are = subst AreShared (take_all count pages all) are

-- ---- regions

page_first : (x : Region) (rs : List Region) (q : ℕ) → is_within x.first (length x.pages.items) q ≡ true
    → page_in (x ∷ rs) q ≡ slice_get x.pages.items (q - x.first)
page_first x rs q here =
    cond-true (is_within x.first (length x.pages.items) q) (slice_get x.pages.items (q - x.first)) (page_in rs q) here

-- a page of regions with one more is that of the others or that of the one
page_with : (rs : List Region) (r : Region) (q : ℕ) → (page_in (rs ++ r ∷ []) q ≡ page_in rs q)
    ⊎ (page_in (rs ++ r ∷ []) q ≡ page_in (r ∷ []) q)
page_with [] r q = inr refl
page_with (x ∷ rs) r q = elim (cases_Bool (is_within x.first (length x.pages.items) q)) [
  | inl here ↦ inl (page_first x (rs ++ r ∷ []) q here ∙ sym (page_first x rs q here))
  | inr apart ↦ elim (page_with rs r q) [
    | inl same ↦ inl (page_there x (rs ++ r ∷ []) q apart ∙ same ∙ sym (page_there x rs q apart))
    | inr last ↦ inr (page_there x (rs ++ r ∷ []) q apart ∙ last)
  ]
]

shared_one : (r : Region) → AreShared r.pages.items → AreSharedIn (r ∷ [])
shared_one r are q = elim (cases_Bool (is_within r.first (length r.pages.items) q)) [
  | inl here ↦ ap is_own_at (page_first r [] q here) ∙ are (q - r.first)
  | inr apart ↦ ap is_own_at (page_there r [] q apart)
]

-- one more
pub shared_region_more : (copies : List Region) (copy : Region) → AreSharedIn copies → AreShared copy.pages.items
    → AreSharedIn (copies ++ copy ∷ [])
shared_region_more copies copy are is q = elim (page_with copies copy q) [
  | inl same ↦ ap is_own_at same ∙ are q
  | inr last ↦ ap is_own_at last ∙ shared_one copy is q
]

-- the next of those in their place
pub lost_region_more : (regions : List Region) (index : ℕ) (new : Region) → index < length regions
    → AreSharedIn (take index regions) → AreShared new.pages.items
    → AreSharedIn (take (index + 1) (set regions index new))
lost_region_more regions index new less are is =
    subst AreSharedIn (sym (take_more_set regions index new less)) (shared_region_more (take index regions) new are is)

pub lost_region_all : (regions : List Region) (count : ℕ) → length regions ≤ count
    → AreSharedIn (take count regions) → AreSharedIn regions
lost_region_all regions count all are = subst AreSharedIn (take_all count regions all) are
