-- A segment's pages of which those at its ends aren't made again where they are there.
use Rattle.std.proofs.Common.{◌≡◌, ℕ, ◌+◌, ◌-◌, ◌^◌, ◌<◌, ◌≤◌, ◌⊎◌, Bool, true, false, cond, List, ◌∷◌, length, take}
use Rattle.std.proofs.Common.{drop, get_or, Some, refl, sym, ap, ◌∙◌, inl, inr, arith}
use Rattle.std.specs.Prelude.{All}
use Rattle.std.specs.FinMap.{get, contains_key}
use Rattle.sn_base.proofs.Maps.{same_by_get}
use Rattle.elf_image.specs.declared.image.Segment.{Segment}
use Rattle.elf_image.specs.Loadable.{first_page, page_count, IsPlaced}
use Rattle.mm_areas.specs.Pages.{Mapped, Pages, laid}
use Rattle.mm_areas.proofs.PageLaws.{where_page}
use Rattle.image_load.specs.Pages.{image_page, run_of, segments_laid}
use Rattle.image_load.proofs.PageCounts.{known_page, in_run, out_of_run}
use Rattle.image_load.proofs.Firsts.{first_and_rest, first_placed, first_ends}

-- a page outside of those that are made, at one of the two ends
at_an_end : (pages : Pages) (first count from end q : ℕ) (a b : Bool) → 0 < count →
    contains_key pages first ≡ a → contains_key pages (first + count - 1) ≡ b →
    from ≡ first + cond a 1 0 → end ≡ first + count - 1 + cond b 0 1 → first ≤ q → q < first + count →
    (q < from) ⊎ (from + (end - from) ≤ q) → contains_key pages q ≡ true
at_an_end pages first count from end q true b some is_a is_b begins ends low high (inl below) =
    let here : q ≡ first = omega arith in ap (contains_key pages) here ∙ is_a
at_an_end pages first count from end q false b some is_a is_b begins ends low high (inl below) = absurd (omega arith)
at_an_end pages first count from end q a true some is_a is_b begins ends low high (inr behind) =
    let here : q ≡ first + count - 1 = omega arith in ap (contains_key pages) here ∙ is_b
at_an_end pages first count from end q a false some is_a is_b begins ends low high (inr behind) = absurd (omega arith)

-- a page of the segment, made or there before
page_made : (all ss : List Segment) (s : Segment) (from end q : ℕ) → 0 < page_count s →
    from ≡ first_page s + cond (contains_key (segments_laid all ss) (first_page s)) 1 0 →
    end ≡ first_page s + page_count s - 1 + cond (contains_key (segments_laid all ss) (first_page s + page_count s - 1))
    0 1 →
    first_page s ≤ q → q < first_page s + page_count s →
    get (laid from (run_of (image_page all) from (end - from)) (segments_laid all ss)) q ≡ Some (image_page all q)
page_made all ss s from end q some begins ends low high = elim (where_page from (end - from) q) [
  | inl w ↦ in_run all (segments_laid all ss) from (end - from) q w.0 w.1
  | inr w ↦ out_of_run all (segments_laid all ss) from (end - from) q w.0
      ∙ known_page all ss q (at_an_end (segments_laid all ss) (first_page s) (page_count s) from end q
      _ _ some refl refl begins ends low high w.0)
]

between : (pages : Pages) (first count from end : ℕ) (a b : Bool) → 0 < count → from ≡ first + cond a 1 0
    → end ≡ first + count - 1 + cond b 0 1 →
    (first ≤ from) × (from + (end - from) ≤ first + count)
between pages first count from end true true some begins ends = (omega arith, omega arith)
between pages first count from end true false some begins ends = (omega arith, omega arith)
between pages first count from end false true some begins ends = (omega arith, omega arith)
between pages first count from end false false some begins ends = (omega arith, omega arith)

-- the pages that are made, with those that are there
pub made_once : (all ss : List Segment) (s : Segment) (from end : ℕ) → 0 < page_count s →
    from ≡ first_page s + cond (contains_key (segments_laid all ss) (first_page s)) 1 0 →
    end ≡ first_page s + page_count s - 1 + cond (contains_key (segments_laid all ss) (first_page s + page_count s - 1))
    0 1 →
    laid from (run_of (image_page all) from (end - from)) (segments_laid all ss) ≡ segments_laid all (s ∷ ss)
made_once all ss s from end some begins ends =
    let within = between (segments_laid all ss) (first_page s) (page_count s) from end _ _ some begins ends in
    same_by_get _ _ (λ q. elim (where_page (first_page s) (page_count s) q) [
      | inl w ↦ page_made all ss s from end q some begins ends w.0 w.1
          ∙ sym (in_run all (segments_laid all ss) (first_page s) (page_count s) q w.0 w.1)
      | inr w ↦
          let far : (q < from) ⊎ (from + (end - from) ≤ q) =
          elim w.0 [ inl low ↦ inl (omega (arith, within.0)) | inr high ↦ inr (omega (arith, within.1)) ] in
          out_of_run all (segments_laid all ss) from (end - from) q far
          ∙ sym (out_of_run all (segments_laid all ss) (first_page s) (page_count s) q w.0)
    ])

-- they lie where the segment's pages do
pub made_within : (all ss : List Segment) (s : Segment) (from end : ℕ) → 0 < page_count s →
    from ≡ first_page s + cond (contains_key (segments_laid all ss) (first_page s)) 1 0 →
    end ≡ first_page s + page_count s - 1 + cond (contains_key (segments_laid all ss) (first_page s + page_count s - 1))
    0 1 →
    from + (end - from) ≤ first_page s + page_count s
made_within all ss s from end some begins ends =
    (between (segments_laid all ss) (first_page s) (page_count s) from end _ _ some begins ends).1

-- ---- the same of the first of segments, with what was laid of the others

-- what is known once the others are laid, and it's known which pages are to be made
pub record IsToMake (all ss : List Segment) (s : Segment) (pages : Pages) (from end : ℕ) : Type 0 where
  pub some : 1 ≤ length ss
  pub is : s ≡ get_or ss 0 s
  pub placed : All IsPlaced ss
  pub others : pages ≡ segments_laid all (take (length ss - 1) (drop 1 ss))
  pub begins : from ≡ first_page s + cond (contains_key pages (first_page s)) 1 0
  pub ends : end ≡ first_page s + page_count s - 1 + cond (contains_key pages (first_page s + page_count s - 1)) 0 1

pub some_page : (s : Segment) → IsPlaced s → 0 < page_count s
some_page s placed = omega (arith, placed)

known_begin : (all ss : List Segment) (s : Segment) (pages : Pages) (from end : ℕ) → IsToMake all ss s pages from end →
    from ≡ first_page s + cond (contains_key (segments_laid all (take (length ss - 1) (drop 1 ss))) (first_page s)) 1 0
known_begin all ss s pages from end h =
    h.begins ∙ ap (λ p. first_page s + cond (contains_key p (first_page s)) 1 0) h.others

known_end : (all ss : List Segment) (s : Segment) (pages : Pages) (from end : ℕ) → IsToMake all ss s pages from end →
    end ≡ first_page s + page_count s - 1
    + cond (contains_key (segments_laid all (take (length ss - 1) (drop 1 ss))) (first_page s + page_count s - 1))
    0 1
known_end all ss s pages from end h =
    h.ends ∙ ap (λ p. first_page s + page_count s - 1 + cond (contains_key p (first_page s + page_count s - 1)) 0 1)
    h.others

pub laid_whole : (all ss : List Segment) (s : Segment) (pages : Pages) (from end count : ℕ) (ms : List Mapped) →
    IsToMake all ss s pages from end → count ≡ end - from → ms ≡ run_of (image_page all) from count →
    laid from ms pages ≡ segments_laid all ss
laid_whole all ss s pages from end count ms h many are =
    let rest = take (length ss - 1) (drop 1 ss) in
    let some = some_page s (first_placed ss s h.some h.is h.placed) in
    ap (λ xs. laid from xs pages) (are ∙ ap (run_of (image_page all) from) many)
    ∙ ap (laid from (run_of (image_page all) from (end - from))) h.others
    ∙ made_once all rest s from end some (known_begin all ss s pages from end h) (known_end all ss s pages from end h)
    ∙ sym (ap (segments_laid all) (first_and_rest ss s h.some h.is))

pub ends_within : (all ss : List Segment) (s : Segment) (pages : Pages) (from end count : ℕ) →
    IsToMake all ss s pages from end → count ≡ end - from → from + count ≤ 2 ^ 26
ends_within all ss s pages from end count h many =
    let rest = take (length ss - 1) (drop 1 ss) in
    let some = some_page s (first_placed ss s h.some h.is h.placed) in
    omega (
      arith,
      many,
      made_within all rest s from end some (known_begin all ss s pages from end h)
          (known_end all ss s pages from end h),
      first_ends ss s h.some h.is h.placed,
    )
