-- Laws of regions that are changed in place: where their pages are, and what they stand for.
use Rattle.std.proofs.Common.{◌≡◌, ℕ, zero, suc, ◌+◌, ◌-◌, ◌<◌, ◌≤◌, false, List, [], ◌∷◌, length, get_or, map, Option}
use Rattle.std.proofs.Common.{None, option_map, refl, ap, sym, ◌∙◌, subst, inl, inr, arith}
use Rattle.std.specs.List.{slice_get}
use Rattle.std.specs.FinMap.{get}
use Rattle.std.proofs.lemmas.Bool.{cond-true, cond-false}
use Rattle.sn_base.proofs.Maps.{get_of_empty}
use Rattle.mm_areas.specs.declared.page.Page.{Page}
use Rattle.mm_areas.specs.declared.areas.Region.{Region}
use Rattle.mm_areas.specs.Pages.{mapped_by, is_within}
use Rattle.mm_areas.specs.Regions.{pages_of}
use Rattle.mm_areas.specs.Order.{AreFrom}
use Rattle.mm_areas.specs.Own.{page_in}
use Rattle.mm_areas.proofs.PageLaws.{where_page, within_range}
use Rattle.mm_areas.proofs.RegionLaws.{end_of, get_below, get_in_first, get_behind_first, get_before_first}

-- ---- what it is to be changed page by page

-- a region that has its place and its length still, and of whose pages each stands to the old one as is asked
pub record IsLike (G : ℕ → Option Page → Option Page → Type 0) (old new : Region) : Type 0 where
  pub first : new.first ≡ old.first
  pub size : length new.pages.items ≡ length old.pages.items
  pub each : (j : ℕ) → j < length old.pages.items
      → G (old.first + j) (slice_get old.pages.items j) (slice_get new.pages.items j)

-- regions of which each is such a one
pub record AreLike (G : ℕ → Option Page → Option Page → Type 0) (olds news : List Region) : Type 0 where
  pub size : length news ≡ length olds
  pub each : (k : ℕ) (d : Region) → k < length olds → IsLike G (get_or olds k d) (get_or news k d)

-- ---- a page among regions

pub page_here : (r : Region) (rs : List Region) (q : ℕ) → r.first ≤ q → q < end_of r
    → page_in (r ∷ rs) q ≡ slice_get r.pages.items (q - r.first)
page_here r rs q low high =
    cond-true (is_within r.first (length r.pages.items) q) (slice_get r.pages.items (q - r.first)) (page_in rs q)
    (within_range r.first (length r.pages.items) q low high)

pub page_there : (r : Region) (rs : List Region) (q : ℕ) → is_within r.first (length r.pages.items) q ≡ false
    → page_in (r ∷ rs) q ≡ page_in rs q
page_there r rs q out =
    cond-false (is_within r.first (length r.pages.items) q) (slice_get r.pages.items (q - r.first)) (page_in rs q) out

slice_get-map : (ps : List Page) (j : ℕ) → slice_get (map mapped_by ps) j ≡ option_map mapped_by (slice_get ps j)
slice_get-map [] j = refl
slice_get-map (p ∷ ps) zero = refl
slice_get-map (p ∷ ps) (suc j) = slice_get-map ps j

-- what regions stand for at a number is their page as contracts see it
pub get_page : (from : ℕ) (rs : List Region) (q : ℕ) → AreFrom from rs
    → get (pages_of rs) q ≡ option_map mapped_by (page_in rs q)
get_page from [] q h = get_of_empty q
get_page from (r ∷ rs) q h = elim (where_page r.first (length r.pages.items) q) [
  | inl w ↦ get_in_first r rs q w.0 w.1 ∙ slice_get-map r.pages.items (q - r.first)
      ∙ ap (option_map mapped_by) (sym (page_here r rs q w.0 w.1))
  | inr w ↦
      elim w.0 [
        | inl low ↦ get_before_first r rs q h.2 low ∙ sym (get_below (end_of r) rs q h.2 (omega arith))
            ∙ get_page (end_of r) rs q h.2
        | inr high ↦ get_behind_first r rs q high ∙ get_page (end_of r) rs q h.2
      ]
      ∙ ap (option_map mapped_by) (sym (page_there r rs q w.1))
]

-- ---- regions changed in place

-- the others, past the first
like_rest : (G : ℕ → Option Page → Option Page → Type 0) (o : Region) (os : List Region) (n : Region) (ns : List Region)
    → AreLike G (o ∷ os) (n ∷ ns) → AreLike G os ns
like_rest G o os n ns are =
    record { size = omega (arith, are.size); each = λ k d less. are.each (suc k) d (omega arith) }

-- they are in order still
pub order_like : (G : ℕ → Option Page → Option Page → Type 0) (from : ℕ) (olds news : List Region) → AreLike G olds news
    → AreFrom from olds → AreFrom from news
order_like G from [] [] are h = h
order_like G from [] (n ∷ ns) are h = absurd (omega (arith, are.size))
order_like G from (o ∷ os) [] are h = absurd (omega (arith, are.size))
order_like G from (o ∷ os) (n ∷ ns) are h =
    let here = are.each 0 o (omega arith) in
    let ends : end_of o ≡ end_of n = omega (arith, here.first, here.size) in (
      (let low : from ≤ n.first = omega (arith, h.0, here.first) in low),
      (let some : 0 < length n.pages.items = omega (arith, h.1, here.size) in some),
      subst (λ (m : ℕ). AreFrom m ns) ends (order_like G (end_of o) os ns (like_rest G o os n ns are) h.2),
    )

-- each page stands to the old one as is asked
pub page_like : (G : ℕ → Option Page → Option Page → Type 0) (olds news : List Region) (q : ℕ) → G q None None
    → AreLike G olds news → G q (page_in olds q) (page_in news q)
page_like G [] [] q none are = none
page_like G [] (n ∷ ns) q none are = absurd (omega (arith, are.size))
page_like G (o ∷ os) [] q none are = absurd (omega (arith, are.size))
page_like G (o ∷ os) (n ∷ ns) q none are =
    let here = are.each 0 o (omega arith) in
    let same : is_within n.first (length n.pages.items) q ≡ is_within o.first (length o.pages.items) q =
    ap (λ (m : ℕ). is_within m (length n.pages.items) q) here.first
    ∙ ap (λ (m : ℕ). is_within o.first m q) here.size in
    elim (where_page o.first (length o.pages.items) q) [
      | inl w ↦
          let at : o.first + (q - o.first) ≡ q = omega (arith, w.0) in
          let new : page_in (n ∷ ns) q ≡ slice_get n.pages.items (q - o.first) =
          page_here n ns q (omega (arith, w.0, here.first)) (omega (arith, w.1, here.first, here.size))
          ∙ ap (λ (m : ℕ). slice_get n.pages.items (q - m)) here.first in
          subst (λ (x : Option Page). G q x (page_in (n ∷ ns) q)) (sym (page_here o os q w.0 w.1))
          (subst (λ (x : Option Page). G q (slice_get o.pages.items (q - o.first)) x) (sym new)
          (subst (λ (m : ℕ). G m (slice_get o.pages.items (q - o.first)) (slice_get n.pages.items (q - o.first))) at
          (here.each (q - o.first) (omega (arith, w.0, w.1)))))
      | inr w ↦
          subst (λ (x : Option Page). G q x (page_in (n ∷ ns) q)) (sym (page_there o os q w.1))
          (subst (λ (x : Option Page). G q (page_in os q) x) (sym (page_there n ns q (same ∙ w.1)))
          (page_like G os ns q none (like_rest G o os n ns are)))
    ]
