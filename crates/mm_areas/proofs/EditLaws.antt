-- What regions stand for after a cut, after some are taken out, and after one is put in.
use Rattle.std.proofs.Common.{◌≡◌, ℕ, zero, suc, ◌+◌, ◌-◌, ◌^◌, ◌<◌, ◌≤◌, true, false, cond, Option, List, [], ◌∷◌}
use Rattle.std.proofs.Common.{◌++◌, length, take, drop, get_or, map, None, Vec, Global, refl, ap, sym, ◌∙◌, subst, inl}
use Rattle.std.proofs.Common.{inr, arith, length-append}
use Rattle.std.specs.Option.{is_some}
use Rattle.std.specs.List.{insert, remove_range, slice_get}
use Rattle.std.specs.FinMap.{get}
use Rattle.std.proofs.Math.ListN.{set}
use Rattle.std.proofs.lemmas.List.{length-take, length-drop}
use Rattle.std.specs.Vec.{vec_len}
use Rattle.std.proofs.lemmas.Bool.{cases_lt, cond-true, false≢true}
use Rattle.mm_areas.specs.declared.areas.Region.{Region}
use Rattle.mm_areas.specs.declared.page.Page.{Page}
use Rattle.mm_areas.specs.Pages.{Mapped, mapped_by, laid, unmapped, is_free, is_within}
use Rattle.mm_areas.specs.Own.{page_in}
use Rattle.mm_areas.specs.Regions.{pages_of}
use Rattle.mm_areas.specs.Order.{AreFrom}
use Rattle.mm_areas.specs.Places.{AreCut, AreHalves, index_behind}
use Rattle.mm_areas.proofs.PageLaws.{where_page, within_range, within_bounds, apart_below, apart_behind, laid-append}
use Rattle.mm_areas.proofs.PageLaws.{laid-laid_apart, unmapped_absent, unmapped-empty, unmapped-laid_within}
use Rattle.mm_areas.proofs.PageLaws.{unmapped-laid_apart, is_free_at}
use Rattle.mm_areas.proofs.RegionLaws.{end_of, mapped_in, length-mapped_in, from_lower, get_below, get_behind_first}
use Rattle.mm_areas.proofs.ChangeLaws.{page_here, page_there}
use Rattle.mm_areas.proofs.IndexLaws.{index_passed, index_first, index_of_later, first_from, has_in_region, cut_later}

-- ---- a cut

-- regions that stand for the same pages, in order, cut at a page more
pub record AreCutTo (page from : ℕ) (old new : List Region) : Type 0 where
  pub pages : pages_of new ≡ pages_of old
  pub order : AreFrom from new
  pub cut : AreCut page new
  pub others : (other : ℕ) → AreCut other old → AreCut other new
  pub kept : (q : ℕ) → page_in new q ≡ page_in old q

map-append : (xs ys : List _) → map mapped_by (xs ++ ys) ≡ map mapped_by xs ++ map mapped_by ys
map-append [] ys = refl
map-append (x ∷ xs) ys = ap (λ ms. mapped_by x ∷ ms) (map-append xs ys)

halves_count : (page : ℕ) (r low high : Region) → AreHalves page r low high
    → length low.pages.items + length high.pages.items ≡ length r.pages.items
halves_count page r low high is = sym (length-append low.pages.items high.pages.items) ∙ ap length is.all

halves_pages : (page : ℕ) (r low high : Region) (rs : List Region) → AreHalves page r low high
    → pages_of (low ∷ high ∷ rs) ≡ pages_of (r ∷ rs)
halves_pages page r low high rs is =
    let at : high.first ≡ r.first + length (mapped_in low) = omega (arith, is.second, is.ends, length-mapped_in low) in
    ap (λ (n : ℕ). laid n (mapped_in low) (laid high.first (mapped_in high) (pages_of rs))) is.first
    ∙ ap (λ (n : ℕ). laid r.first (mapped_in low) (laid n (mapped_in high) (pages_of rs))) at
    ∙ sym (laid-append r.first (mapped_in low) (mapped_in high) (pages_of rs))
    ∙ ap (λ (ms : List Mapped). laid r.first ms (pages_of rs)) (sym (map-append low.pages.items high.pages.items)
    ∙ ap (map mapped_by) is.all)

-- a page's bytes in one half are those in the whole
slice_get-front : {X : Type 0} (xs ys : List X) (k : ℕ) → k < length xs → slice_get xs k ≡ slice_get (xs ++ ys) k
slice_get-front [] ys k less = absurd (omega arith)
slice_get-front (x ∷ xs) ys zero less = refl
slice_get-front (x ∷ xs) ys (suc k) less = slice_get-front xs ys k (omega arith)

slice_get-behind : {X : Type 0} (xs ys : List X) (k j : ℕ) → j ≡ length xs + k → slice_get ys k ≡ slice_get (xs ++ ys) j
slice_get-behind [] ys k j at = let same : k ≡ j = omega (arith, at) in ap (slice_get ys) same
slice_get-behind (x ∷ xs) ys k zero at = absurd (omega (arith, at))
slice_get-behind (x ∷ xs) ys k (suc j) at = slice_get-behind xs ys k j (omega (arith, at))

-- both halves have the pages of the whole
halves_kept : (page : ℕ) (r low high : Region) (rs : List Region) → AreHalves page r low high → (q : ℕ)
    → page_in (low ∷ high ∷ rs) q ≡ page_in (r ∷ rs) q
halves_kept page r low high rs is q = elim (cases_lt q r.first) [
  | inl before ↦
      page_there low (high ∷ rs) q (apart_below low.first (length low.pages.items) q (omega (arith, before, is.first)))
      ∙ page_there high rs q
      (apart_below high.first (length high.pages.items) q (omega (arith, before, is.second, is.ends)))
      ∙ sym (page_there r rs q (apart_below r.first (length r.pages.items) q before))
  | inr from ↦ elim (cases_lt q page) [
    | inl front ↦
        let within : q - r.first < length low.pages.items = omega (arith, from, front, is.ends) in
        page_here low (high ∷ rs) q (omega (arith, from, is.first)) (omega (arith, front, is.first, is.ends))
        ∙ ap (λ (n : ℕ). slice_get low.pages.items (q - n)) is.first
        ∙ slice_get-front low.pages.items high.pages.items (q - r.first) within
        ∙ ap (λ (ps : List Page). slice_get ps (q - r.first)) is.all
        ∙ sym (page_here r rs q from (omega (arith, front, is.ends, count)))
    | inr behind ↦ elim (cases_lt q (end_of r)) [
      | inl inside ↦
          let at : q - r.first ≡ length low.pages.items + (q - high.first) =
          omega (arith, behind, is.second, is.ends) in
          page_there low (high ∷ rs) q
          (apart_behind low.first (length low.pages.items) q (omega (arith, behind, is.first, is.ends)))
          ∙ page_here high rs q (omega (arith, behind, is.second)) (omega (arith, inside, is.second, is.ends, count))
          ∙ slice_get-behind low.pages.items high.pages.items (q - high.first) (q - r.first) at
          ∙ ap (λ (ps : List Page). slice_get ps (q - r.first)) is.all
          ∙ sym (page_here r rs q from inside)
      | inr past ↦
          page_there low (high ∷ rs) q
          (apart_behind low.first (length low.pages.items) q (omega (arith, behind, is.first, is.ends)))
          ∙ page_there high rs q
          (apart_behind high.first (length high.pages.items) q (omega (arith, past, is.second, is.ends, count)))
          ∙ sym (page_there r rs q (apart_behind r.first (length r.pages.items) q past))
    ]
  ]
]
  where
    count : length low.pages.items + length high.pages.items ≡ length r.pages.items
    count = halves_count page r low high is

-- what stands behind a region stays, and so do all pages
behind_kept : (r : Region) (olds news : List Region) (q : ℕ) → page_in news q ≡ page_in olds q
    → page_in (r ∷ news) q ≡ page_in (r ∷ olds) q
behind_kept r olds news q same =
    ap (λ (o : Option Page).
    cond (is_within r.first (length r.pages.items) q) (slice_get r.pages.items (q - r.first)) o) same

halves_cut : (page from : ℕ) (r low high : Region) (rs : List Region) → AreFrom from (r ∷ rs)
    → AreHalves page r low high → AreCutTo page from (r ∷ rs) (low ∷ high ∷ rs)
halves_cut page from r low high rs h is = record {
  pages = halves_pages page r low high rs is;
  order = (
    (let a : from ≤ low.first = omega (arith, h.0, is.first) in a),
    is.some_low,
    (
      (let b : end_of low ≤ high.first = omega (arith, is.first, is.second, is.ends) in b),
      is.some_high,
      from_lower (end_of high) (end_of r) rs (omega (arith, count, is.second, is.ends)) h.2,
    ),
  );
  cut = (
    inl (omega (arith, is.first, is.ends)),
    (inr (omega (arith, is.second)), cut_later page (end_of r) rs (omega (arith, count, is.ends)) h.2),
  );
  others = λ other c. elim c.0 [
    | inl ended ↦
        (inl (omega (arith, ended, count, is.first)), (inl (omega (arith, ended, count, is.second, is.ends)), c.1))
    | inr later ↦ (inr (omega (arith, later, is.first)), (inr (omega (arith, later, is.second, is.ends)), c.1))
  ];
  kept = halves_kept page r low high rs is;
}
  where
    count : length low.pages.items + length high.pages.items ≡ length r.pages.items
    count = halves_count page r low high is

pub cut_laws : (page from : ℕ) (rs : List Region) (i : ℕ) (d low high : Region) → AreFrom from rs → i < length rs
    → AreHalves page (get_or rs i d) low high → AreCutTo page from rs (insert (set rs i low) (suc i) high)
cut_laws page from [] i d low high h less is = absurd (omega arith)
cut_laws page from (r ∷ rs) zero d low high h less is = halves_cut page from r low high rs h is
cut_laws page from (r ∷ rs) (suc i) d low high h less is =
    let within : i < length rs = omega arith in
    let rest = cut_laws page (end_of r) rs i d low high h.2 within is in
    let first = first_from (end_of r) rs i d h.2 within in
    record {
      pages = ap (laid r.first (mapped_in r)) rest.pages;
      order = (h.0, h.1, rest.order);
      cut = (inl (omega (arith, first, is.ends)), rest.cut);
      others = λ other c. (c.0, rest.others other c.1);
      kept = λ q. behind_kept r rs (insert (set rs i low) (suc i) high) q (rest.kept q);
    }

-- ---- some are taken out

pub record AreWithout (low high from : ℕ) (old new : List Region) : Type 0 where
  pub pages : pages_of new ≡ unmapped low (high - low) (pages_of old)
  pub order : AreFrom from new
  pub kept : (q : ℕ) → is_within low (high - low) q ≡ false → page_in new q ≡ page_in old q

-- a page outside a range is outside each part of it
outside_part : (low count first size q : ℕ) → low ≤ first → first + size ≤ low + count → is_within low count q ≡ false
    → is_within first size q ≡ false
outside_part low count first size q begins ends out = elim (where_page first size q) [
  | inl w ↦ absurd
      (false≢true (sym out ∙ within_range low count q (omega (arith, begins, w.0)) (omega (arith, ends, w.1))))
  | inr w ↦ w.1
]

pub taken_out : (low high from : ℕ) (rs : List Region) (i j : ℕ) → low ≤ high → AreFrom from rs → AreCut low rs
    → AreCut high rs → i ≡ index_behind low rs → j ≡ index_behind high rs
    → AreWithout low high from rs (remove_range rs i j)
taken_out low high from [] zero zero le h cut_low cut_high is_i is_j =
    record { pages = sym (unmapped-empty low (high - low)); order = h; kept = λ q out. refl }
taken_out low high from [] (suc i) j le h cut_low cut_high is_i is_j = absurd (omega (arith, is_i))
taken_out low high from [] zero (suc j) le h cut_low cut_high is_i is_j = absurd (omega (arith, is_j))
taken_out low high from (r ∷ rs) (suc i) (suc j) le h cut_low cut_high is_i is_j =
    let a = index_passed low r rs i is_i in
    let b = index_passed high r rs j is_j in
    let rest = taken_out low high (end_of r) rs i j le h.2 cut_low.1 cut_high.1 a.1 b.1 in
    let apart : r.first + length (mapped_in r) ≤ low = omega (arith, a.0, length-mapped_in r) in
    record {
      pages = ap (laid r.first (mapped_in r)) rest.pages
          ∙ sym (unmapped-laid_apart low (high - low) r.first (mapped_in r) (pages_of rs) (inl apart));
      order = (h.0, h.1, rest.order);
      kept = λ q out. behind_kept r rs (remove_range rs i j) q (rest.kept q out);
    }
taken_out low high from (r ∷ rs) (suc i) zero le h cut_low cut_high is_i is_j =
    absurd (omega (arith, (index_passed low r rs i is_i).0, index_first high r rs is_j))
taken_out low high from (r ∷ rs) zero (suc j) le h cut_low cut_high is_i is_j =
    let here = index_first low r rs is_i in
    let b = index_passed high r rs j is_j in
    let begins : low ≤ r.first = elim cut_low.0 [ inl ended ↦ absurd (omega arith) | inr later ↦ later ] in
    let rest = taken_out low high (end_of r) rs zero j le h.2 cut_low.1 cut_high.1
    (index_of_later low (end_of r) rs here h.2) b.1 in
    let within : r.first + length (mapped_in r) ≤ low + (high - low) = omega (arith, b.0, length-mapped_in r) in
    record {
      pages = rest.pages
          ∙ sym (unmapped-laid_within low (high - low) r.first (mapped_in r) (pages_of rs) begins within);
      order = from_lower from (end_of r) (drop j rs) (omega (arith, h.0)) rest.order;
      kept = λ q out. rest.kept q out
          ∙ sym (page_there r rs q
          (outside_part low (high - low) r.first (length r.pages.items) q begins (omega (arith, b.0)) out));
    }
taken_out low high from (r ∷ rs) zero zero le h cut_low cut_high is_i is_j =
    let here = index_first high r rs is_j in
    let begins : high ≤ r.first = elim cut_high.0 [ inl ended ↦ absurd (omega arith) | inr later ↦ later ] in
    let at_first : r.first ≤ r.first = omega arith in
    record {
      pages = sym (unmapped_absent low (high - low) (pages_of (r ∷ rs))
          (λ q a b. get_below r.first (r ∷ rs) q (at_first, h.1, h.2) (omega arith)));
      order = h;
      kept = λ q out. refl;
    }

-- ---- one is put in

pub record AreWith (from : ℕ) (region : Region) (old new : List Region) : Type 0 where
  pub pages : pages_of new ≡ laid region.first (mapped_in region) (pages_of old)
  pub order : AreFrom from new
  pub kept : (q : ℕ) → is_within region.first (length region.pages.items) q ≡ false → page_in new q ≡ page_in old q
  pub put : (q : ℕ) → is_within region.first (length region.pages.items) q ≡ true
      → page_in new q ≡ slice_get region.pages.items (q - region.first)

-- a region that a free range stands before is behind it
before_first : (from : ℕ) (region r : Region) (rs : List Region) → AreFrom from (r ∷ rs)
    → ((q : ℕ) → region.first ≤ q → q < end_of region → get (pages_of (r ∷ rs)) q ≡ None)
    → 0 < length region.pages.items → region.first < end_of r → end_of region ≤ r.first
before_first from region r rs h free some here = elim (cases_lt r.first (end_of region)) [
  | inr apart ↦ apart
  | inl below ↦ absurd (elim (cases_lt r.first region.first) [
    | inl low ↦ both region.first (omega arith) (omega arith) (omega (arith, some)) here
    | inr low ↦ both r.first (omega arith) (omega arith) (omega arith) (omega (arith, h.1))
  ])
]
  where
    at_first : r.first ≤ r.first
    at_first = omega arith

    both : (q : ℕ) → region.first ≤ q → r.first ≤ q → q < end_of region → q < end_of r → ⊥
    both q a b c e =
        false≢true (sym (ap is_some (free q a c)) ∙ has_in_region from (r ∷ rs) zero r q h (omega arith) b e)

-- a page of the first region
page_of_first : (r : Region) (rs : List Region) (q : ℕ) → is_within r.first (length r.pages.items) q ≡ true
    → page_in (r ∷ rs) q ≡ slice_get r.pages.items (q - r.first)
page_of_first r rs q here =
    cond-true (is_within r.first (length r.pages.items) q) (slice_get r.pages.items (q - r.first)) (page_in rs q) here

pub put_in : (from : ℕ) (rs : List Region) (i : ℕ) (region : Region) → AreFrom from rs → from ≤ region.first
    → 0 < length region.pages.items → end_of region ≤ 2 ^ 26
    → ((q : ℕ) → region.first ≤ q → q < end_of region → get (pages_of rs) q ≡ None) → i ≡ index_behind region.first rs
    → AreWith from region rs (insert rs i region)
put_in from [] zero region h low some high free is = record {
  pages = refl;
  order = (low, some, high);
  kept = λ q out. page_there region [] q out;
  put = λ q here. page_of_first region [] q here;
}
put_in from [] (suc i) region h low some high free is = absurd (omega (arith, is))
put_in from (r ∷ rs) zero region h low some high free is =
    let here = index_first region.first r rs is in
    record {
      pages = refl;
      order = (low, some, (before_first from region r rs h free some here, h.1, h.2));
      kept = λ q out. page_there region (r ∷ rs) q out;
      put = λ q here. page_of_first region (r ∷ rs) q here;
    }
put_in from (r ∷ rs) (suc i) region h low some high free is =
    let passed = index_passed region.first r rs i is in
    let rest = put_in (end_of r) rs i region h.2 passed.0 some high
    (λ q a b. sym (get_behind_first r rs q (omega (arith, passed.0, a))) ∙ free q a b) passed.1 in
    let apart : r.first + length (mapped_in r) ≤ region.first = omega (arith, passed.0, length-mapped_in r) in
    record {
      pages = ap (laid r.first (mapped_in r)) rest.pages
          ∙ laid-laid_apart r.first (mapped_in r) region.first (mapped_in region) (pages_of rs) (inl apart);
      order = (h.0, h.1, rest.order);
      kept = λ q out. behind_kept r rs (insert rs i region) q (rest.kept q out);
      put = λ q here.
          page_there r (insert rs i region) q
          (apart_behind r.first (length r.pages.items) q
          (omega (arith, passed.0, (within_bounds region.first (length region.pages.items) q here).0)))
          ∙ rest.put q here;
    }

pub without : (low high : ℕ) (old new : List Region) (i j : ℕ) → new ≡ remove_range old i j → low ≤ high → AreFrom 0 old
    → AreCut low old → AreCut high old → i ≡ index_behind low old → j ≡ index_behind high old
    → AreWithout low high 0 old new
without low high old new i j is le h cut_low cut_high is_i is_j =
    subst (λ (rs : List Region). AreWithout low high 0 old rs) (sym is)
    (taken_out low high 0 old i j le h cut_low cut_high is_i is_j)

pub without_room : (old new : Vec Region Global) (i j : ℕ) → new.items ≡ remove_range old.items i j → i ≤ j
    → vec_len new ≤ vec_len old
without_room old new i j is le =
    let fewer : length (remove_range old.items i j) ≤ length old.items =
    omega (
      arith,
      length-append (take i old.items) (drop j old.items),
      length-take i old.items,
      length-drop j old.items,
    ) in
    omega (arith, old.ok.0, new.ok.0, ap length is, fewer)

pub cut_at : (page : ℕ) (old new : List Region) (i : ℕ) (region low high : Region)
    → new ≡ insert (set old i low) (i + 1) high → AreFrom 0 old → i < length old → region ≡ get_or old i region
    → AreHalves page region low high → AreCutTo page 0 old new
cut_at page old new i region low high is h less at halves =
    let next : i + 1 ≡ suc i = omega arith in
    let whole = cut_laws page 0 old i region low high h less
    (subst (λ (r : Region). AreHalves page r low high) at halves) in
    subst (λ (rs : List Region). AreCutTo page 0 old rs)
    (sym (is ∙ ap (λ (k : ℕ). insert (set old i low) k high) next)) whole

pub put_at : (old new : List Region) (i : ℕ) (region : Region) → new ≡ insert old i region → AreFrom 0 old
    → 0 < length region.pages.items → end_of region ≤ 2 ^ 26
    → is_free (pages_of old) region.first (length region.pages.items) ≡ true → i ≡ index_behind region.first old
    → AreWith 0 region old new
put_at old new i region is h some high free is_i =
    subst (λ (rs : List Region). AreWith 0 region old rs) (sym is)
    (put_in 0 old i region h (omega arith) some high
    (λ q a b. is_free_at (pages_of old) region.first (length region.pages.items) q free a b) is_i)
