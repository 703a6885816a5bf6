-- Which pages segments meet, and how many they are.
use Rattle.std.proofs.Common.{◌≡◌, ℕ, suc, ◌+◌, ◌-◌, ◌^◌, ◌<◌, ◌≤◌, ◌⊎◌, Bool, true, false, cond, ◌||◌, List, [], ◌∷◌}
use Rattle.std.proofs.Common.{min, Some, None, refl, sym, ap, ◌∙◌, inl, inr, arith}
use Rattle.std.specs.Prelude.{All, nat_lt}
use Rattle.std.specs.Option.{is_some}
use Rattle.std.specs.Cmp.{nat_cmp_total}
use Rattle.std.specs.FinMap.{get, insert, contains_key, len, len-insert, len-empty}
use Rattle.std.specs.Ordering.{nat_cmp}
use Rattle.std.proofs.lemmas.Bool.{false≢true}
use Rattle.std.proofs.lemmas.Bool.Decides.{nat_tests}
use Rattle.sn_base.proofs.Maps.{get_of_empty}
use Rattle.elf_image.specs.declared.image.Segment.{Segment}
use Rattle.elf_image.specs.Loadable.{Loadable, first_page, page_count, IsPlaced}
use Rattle.mm_areas.specs.declared.places.TheConstants.{MOST_PAGES}
use Rattle.mm_areas.specs.Pages.{Mapped, Pages, laid}
use Rattle.mm_areas.proofs.PageLaws.{where_page, get-laid_at, get-laid_below, get-laid_apart, len-laid}
use Rattle.image_load.specs.Pages.{is_met_by, image_page, run_of, segments_laid, image_pages, pages_mapped}
use Rattle.image_load.proofs.Runs.{length-run, get-run, run_none, run_next}

-- ---- a map grows

insert_grows : (pages : Pages) (k : ℕ) (m : Mapped) → len pages ≤ len (insert pages k m)
insert_grows pages k m = by (contains_key pages k) (len-insert nat_cmp_total pages k m)
  where
    by : (b : Bool) → len (insert pages k m) ≡ cond b (len pages) (len pages + 1) → len pages ≤ len (insert pages k m)
    by true e = omega (arith, e)
    by false e = omega (arith, e)

pub laid_grows : (first : ℕ) (ms : List Mapped) (pages : Pages) → len pages ≤ len (laid first ms pages)
laid_grows first [] pages = omega arith
laid_grows first (m ∷ ms) pages =
    omega (arith, laid_grows (suc first) ms pages, insert_grows (laid (suc first) ms pages) first m)

-- ---- which pages there are

pub in_run : (all : List Segment) (pages : Pages) (first count q : ℕ) → first ≤ q → q < first + count →
    get (laid first (run_of (image_page all) first count) pages) q ≡ Some (image_page all q)
in_run all pages first count q low high =
    let there : first + (q - first) ≡ q = omega arith in
    get-laid_at first (run_of (image_page all) first count) pages q low
    (omega (arith, length-run (image_page all) first count))
    ∙ get-run (image_page all) first count (q - first) (omega arith)
    ∙ ap (λ n. Some (image_page all n)) there

pub out_of_run : (all : List Segment) (pages : Pages) (first count q : ℕ) → (q < first) ⊎ (first + count ≤ q) →
    get (laid first (run_of (image_page all) first count) pages) q ≡ get pages q
out_of_run all pages first count q apart =
    let long = length-run (image_page all) first count in
    get-laid_apart first (run_of (image_page all) first count) pages q (elim apart [
      | inl low ↦ inl low
      | inr high ↦ inr (omega (arith, long))
    ])

-- just those that a segment meets
pub met_there : (all ss : List Segment) (q : ℕ) → contains_key (segments_laid all ss) q ≡ is_met_by ss q
met_there all [] q = ap is_some (get_of_empty q)
met_there all (s ∷ ss) q = elim (where_page (first_page s) (page_count s) q) [
  | inl w ↦ ap is_some (in_run all (segments_laid all ss) (first_page s) (page_count s) q w.0 w.1)
      ∙ sym (ap (λ b. b || is_met_by ss q) w.2)
  | inr w ↦ ap is_some (out_of_run all (segments_laid all ss) (first_page s) (page_count s) q w.0) ∙ met_there all ss q
      ∙ sym (ap (λ b. b || is_met_by ss q) w.1)
]

-- each of them is as it is in the image
pub known_page : (all ss : List Segment) (q : ℕ) → contains_key (segments_laid all ss) q ≡ true
    → get (segments_laid all ss) q ≡ Some (image_page all q)
known_page all [] q there = absurd (false≢true (sym (ap is_some (get_of_empty q)) ∙ there))
known_page all (s ∷ ss) q there = elim (where_page (first_page s) (page_count s) q) [
  | inl w ↦ in_run all (segments_laid all ss) (first_page s) (page_count s) q w.0 w.1
  | inr w ↦ out_of_run all (segments_laid all ss) (first_page s) (page_count s) q w.0
      ∙ known_page all ss q
      (sym (ap is_some (out_of_run all (segments_laid all ss) (first_page s) (page_count s) q w.0)) ∙ there)
]

-- none from the page 2^25 on
pub none_above : (all ss : List Segment) (q : ℕ) → All IsPlaced ss → 2 ^ 25 ≤ q → get (segments_laid all ss) q ≡ None
none_above all [] q placed high = get_of_empty q
none_above all (s ∷ ss) q placed high =
    let here = placed 0 s (omega arith) in
    let end : first_page s + page_count s ≤ 2 ^ 25 = omega (arith, here) in
    out_of_run all (segments_laid all ss) (first_page s) (page_count s) q (inr (omega arith))
    ∙ none_above all ss q (λ k d below. placed (suc k) d (omega arith)) high

-- ---- how many there are

-- no page is counted yet
pub none_counted : (all rest : List Segment) (page many : ℕ) → many ≡ 0 →
    laid page (run_of (image_page all) page many) (segments_laid all rest) ≡ segments_laid all rest
none_counted all rest page many none =
    ap (λ n. laid page (run_of (image_page all) page n) (segments_laid all rest)) none
    ∙ ap (λ ms. laid page ms (segments_laid all rest)) (run_none (image_page all) page)

one_laid : (all rest : List Segment) (page many : ℕ) (b : Bool) → is_met_by rest page ≡ b →
    len (laid page (run_of (image_page all) page (suc many)) (segments_laid all rest))
    ≡ len (laid (suc page) (run_of (image_page all) (suc page) many) (segments_laid all rest)) + cond b 0 1
one_laid all rest page many b is =
    let above = laid (suc page) (run_of (image_page all) (suc page) many) (segments_laid all rest) in
    let below : page < suc page = omega arith in
    let known : contains_key above page ≡ b =
    ap is_some (get-laid_below (suc page) (run_of (image_page all) (suc page) many) (segments_laid all rest) page below)
    ∙ met_there all rest page ∙ is in
    ap (λ ms. len (laid page ms (segments_laid all rest))) (run_next (image_page all) page many)
    ∙ len-insert nat_cmp_total above page (image_page all page) ∙ ap (λ c. cond c (len above) (len above + 1)) known
    ∙ by b (len above)
  where
    by : (c : Bool) (n : ℕ) → cond c n (n + 1) ≡ n + cond c 0 1
    by true n = omega arith
    by false n = refl

-- one page more is counted
pub one_counted : (all rest : List Segment) (page now end before after new : ℕ) → now ≡ suc page → now ≤ end →
    before ≡ min (len (laid now (run_of (image_page all) now (end - now)) (segments_laid all rest))) 16321 →
    new ≡ cond (is_met_by rest page) 0 1 → after ≡ min (before + new) 16321 →
    after ≡ min (len (laid page (run_of (image_page all) page (end - page)) (segments_laid all rest))) 16321
one_counted all rest page now end before after new next inside counted is done =
    let many : end - page ≡ suc (end - suc page) = omega arith in
    let all_of : len (laid now (run_of (image_page all) now (end - now)) (segments_laid all rest))
    ≡ len (laid (suc page) (run_of (image_page all) (suc page) (end - suc page)) (segments_laid all rest)) =
    ap (λ n. len (laid n (run_of (image_page all) n (end - n)) (segments_laid all rest))) next in
    let more = one_laid all rest page (end - suc page) (is_met_by rest page) refl in
    let whole : len (laid page (run_of (image_page all) page (end - page)) (segments_laid all rest))
    ≡ len (laid page (run_of (image_page all) page (suc (end - suc page))) (segments_laid all rest)) =
    ap (λ n. len (laid page (run_of (image_page all) page n) (segments_laid all rest))) many in
    omega (arith, counted, is, done, all_of, more, whole)

-- too many pages of the other segments, and of one
pub over_with_rest : (all rest : List Segment) (s : Segment) (count : ℕ)
    → count ≡ min (len (segments_laid all rest)) 16321 → 16320 < count →
    count ≡ min (len (segments_laid all (s ∷ rest))) 16321
over_with_rest all rest s count is over =
    omega (
      arith,
      is,
      over,
      laid_grows (first_page s) (run_of (image_page all) (first_page s) (page_count s)) (segments_laid all rest),
    )

pub over_with_one : (all rest : List Segment) (s : Segment) (many : ℕ) → many ≡ page_count s → 16320 < many →
    16321 ≡ min (len (segments_laid all (s ∷ rest))) 16321
over_with_one all rest s many is over =
    let run = run_of (image_page all) (first_page s) (page_count s) in
    omega (
      arith,
      is,
      over,
      len-laid (first_page s) run (segments_laid all rest),
      length-run (image_page all) (first_page s) (page_count s),
    )

-- with the stack's they're too many
pub over_most : (image : Loadable) (count : ℕ) → count ≡ min (len (image_pages image)) 16321
    → nat_lt 16320 count ≡ nat_lt MOST_PAGES (pages_mapped image)
unfolding pages_mapped
over_most image count is = by (len (image_pages image)) is
  where
    by : (n : ℕ) → count ≡ min n 16321 → nat_lt 16320 count ≡ nat_lt 16384 (n + 64)
    by n same = grind (arith, nat_tests)

pub no_segments : (all : List Segment) → 0 ≡ min (len (segments_laid all [])) 16321
no_segments all = omega (arith, len-empty nat_cmp Mapped)
