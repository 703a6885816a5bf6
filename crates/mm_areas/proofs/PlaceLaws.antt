-- Laws of where a mapping goes, and of how many pages are mapped then.
use Rattle.std.proofs.Common.{◌≡◌, ℕ, zero, suc, ◌+◌, ◌-◌, ◌^◌, ◌<◌, ◌≤◌, Bool, true, false, cond, ◌&&◌, List, length}
use Rattle.std.proofs.Common.{map, Option, Some, refl, ap, sym, ◌∙◌, inl, inr, arith}
use Rattle.std.specs.Prelude.{nat_le, nat_lt}
use Rattle.std.specs.FinMap.{contains_key, len}
use Rattle.std.specs.Option.{is_some}
use Rattle.std.proofs.lemmas.Bool.{and_parts, leb-true, false≢true}
use Rattle.mm_areas.specs.Pages.{Mapped, Pages, is_within, unmapped, is_free, laid, mapped_by, new_pages}
use Rattle.mm_areas.specs.declared.rights.Rights.{Rights}
use Rattle.mm_areas.specs.declared.page.Page.{Page}
use Rattle.mm_areas.specs.declared.page.Backing.{Backing}
use Rattle.mm_areas.specs.declared.page.Backing.TheVariants.{Zeros}
use Rattle.mm_areas.specs.declared.places.TheConstants.{MOST_PAGES}
use Rattle.mm_areas.specs.Mappings.{Mapping, highest_of, highest_free, pages_in, is_break}
use Rattle.mm_areas.proofs.PageLaws.{where_page, get-unmapped_in, is_free_at, unmapped_absent, len-laid}
use Rattle.mm_areas.proofs.NewPageLaws.{length-new_pages}
use Rattle.mm_areas.proofs.CountLaws.{len-held}

-- the highest free range is free, and begins below the end of the candidates
first_of : (pages : Pages) (count page n : ℕ) (b : Bool) (rest : Option ℕ)
    → (rest ≡ Some page → (is_free pages page count ≡ true) × (page < 2 ^ 25 + n)) → is_free pages (2 ^ 25 + n) count
    ≡ b → cond b (Some (2 ^ 25 + n)) rest ≡ Some page → (is_free pages page count ≡ true) × (page < 2 ^ 25 + suc n)
first_of pages count page n true rest below free at = let here : 2 ^ 25 + n ≡ page =
    cc at in (ap (λ (p : ℕ). is_free pages p count) (sym here) ∙ free, omega (arith, here))
first_of pages count page n false rest below free at = ((below at).0, omega (arith, (below at).1))

pub highest_at : (pages : Pages) (count candidates page : ℕ) → highest_of pages count candidates ≡ Some page
    → (is_free pages page count ≡ true) × (page < 2 ^ 25 + candidates)
unfolding highest_of
highest_at pages count zero page is = absurd (cc is)
highest_at pages count (suc n) page is =
    first_of pages count page n (is_free pages (2 ^ 25 + n) count) (highest_of pages count n)
    (λ at. highest_at pages count n page at) refl is

pub highest_ends : (pages : Pages) (count page : ℕ) → 0 < count → count ≤ MOST_PAGES
    → highest_free pages count ≡ Some page → page + count ≤ 2 ^ 26
highest_ends pages count page some most is = let at =
    highest_at pages count (2 ^ 26 - 256 + 1 - (2 ^ 25 + count)) page is in omega (arith, at.1)

pub highest_takes : (pages : Pages) (count page : ℕ) → highest_free pages count ≡ Some page
    → len (unmapped page count pages) ≡ len pages
highest_takes pages count page is =
    let at = highest_at pages count (2 ^ 26 - 256 + 1 - (2 ^ 25 + count)) page is in
    ap len (unmapped_absent page count pages (λ q low high. is_free_at pages page count q at.0 low high))

-- how many pages are mapped once new ones are laid
pub len_laid_new : (first count : ℕ) (backing : Backing) (rights : Rights) (new : List Page) (pages : Pages)
    → map mapped_by new ≡ new_pages backing rights count → len (laid first (map mapped_by new) pages)
    ≡ len (unmapped first count pages) + count
len_laid_new first count backing rights new pages is =
    let same : length (map mapped_by new) ≡ count = ap length is ∙ length-new_pages backing rights count in
    len-laid first (map mapped_by new) pages ∙ ap (λ (n : ℕ). len (unmapped first n pages) + n) same

-- how many pages are mapped once the break is put higher
pub grown_limit : (m : Mapping) (to broken count : ℕ) (rights : Rights) (new : List Page) → is_break m to ≡ true
    → broken ≡ pages_in m.program_break → count ≡ pages_in to - pages_in m.program_break
    → map mapped_by new ≡ new_pages Zeros rights count → len (laid broken (map mapped_by new) m.pages) ≤ MOST_PAGES
grown_limit m to broken count rights new is at more made =
    let first = pages_in m.program_break in
    let wanted = pages_in to - first in
    let front = nat_le m.start to && nat_lt to (2 ^ 37) in
    let parts = and_parts (front && is_free m.pages first wanted) (nat_le (len m.pages + wanted) MOST_PAGES) is in
    let free = (and_parts front (is_free m.pages first wanted) parts.0).1 in
    let few = leb-true (len m.pages + wanted) MOST_PAGES parts.1 in
    let absent : unmapped first wanted m.pages ≡ m.pages =
    unmapped_absent first wanted m.pages (λ q low high. is_free_at m.pages first wanted q free low high) in
    let same : unmapped broken count m.pages ≡ m.pages =
    ap (λ (p : ℕ). unmapped p count m.pages) at ∙ ap (λ (n : ℕ). unmapped first n m.pages) more ∙ absent in
    omega (arith, len_laid_new broken count Zeros rights new m.pages made, ap len same, more, few)

-- pages that are laid add at most themselves
pub len_laid_few : (first : ℕ) (ms : List Mapped) (pages : Pages) → len (laid first ms pages) ≤ len pages + length ms
len_laid_few first ms pages = omega (arith, len-laid first ms pages, len-held pages first (length ms))

-- ---- the pages that stay where the break moves

-- a mapped page isn't among those that a higher break takes
pub grown_apart : (m : Mapping) (to broken count page : ℕ) → is_break m to ≡ true → broken ≡ pages_in m.program_break
    → count ≡ pages_in to - pages_in m.program_break → contains_key m.pages page ≡ true
    → is_within broken count page ≡ false
grown_apart m to broken count page is at more mapped =
    let first = pages_in m.program_break in
    let wanted = pages_in to - first in
    let front = nat_le m.start to && nat_lt to (2 ^ 37) in
    let parts = and_parts (front && is_free m.pages first wanted) (nat_le (len m.pages + wanted) MOST_PAGES) is in
    let free = (and_parts front (is_free m.pages first wanted) parts.0).1 in
    elim (where_page broken count page) [
      | inl w ↦ absurd
          (false≢true (sym
          (ap is_some (is_free_at m.pages first wanted page free (omega (arith, w.0)) (omega (arith, w.1)))) ∙ mapped))
      | inr w ↦ w.1
    ]

-- a page that is mapped behind a cut isn't among those that were taken out
pub cut_apart : (first count page : ℕ) (pages : Pages) → contains_key (unmapped first count pages) page ≡ true
    → is_within first count page ≡ false
cut_apart first count page pages mapped = elim (where_page first count page) [
  | inl w ↦ absurd (false≢true (sym (ap is_some (get-unmapped_in first count pages page w.0 w.1)) ∙ mapped))
  | inr w ↦ w.1
]
