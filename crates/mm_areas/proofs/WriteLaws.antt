-- Laws of a page that is written in its place among regions.
use Rattle.std.proofs.Common.{◌≡◌, ◌≢◌, ℕ, zero, suc, ◌+◌, ◌-◌, ◌<◌, ◌≤◌, Bool, true, false, List, [], ◌∷◌, length}
use Rattle.std.proofs.Common.{get_or, Option, Some, None, Result, Ok, Err, option_map, refl, ap, sym, ◌∙◌, subst, ◌⊎◌}
use Rattle.std.proofs.Common.{inl, inr, arith, length-set, get_or-set_same, get_or-set_other}
use Rattle.std.specs.Prelude.{OnOk, OnErr, ◌↔◌, SomeIff, unwrap_or}
use Rattle.std.specs.Bool.{OnTrue, OnFalse}
use Rattle.std.specs.List.{slice_get}
use Rattle.std.specs.Vec.{with_item}
use Rattle.std.specs.FinMap.{get, insert, len, contains_key, len-insert}
use Rattle.std.specs.Cmp.{nat_cmp_total}
use Rattle.std.specs.Option.{is_some}
use Rattle.std.proofs.Math.ListN.{set}
use Rattle.std.proofs.lemmas.List.{get_or_default}
use Rattle.std.proofs.lemmas.Option.{slice_get-get_or, slice_get_past}
use Rattle.std.proofs.lemmas.Bool.{cases_lt, cases_eq, cond-true, false≢true}
use Rattle.sn_base.proofs.Maps.{same_by_get, get-insert_same, get-insert_other, insert_same}
use Rattle.mm_areas.specs.declared.page.Page.{Page}
use Rattle.mm_areas.specs.declared.areas.Region.{Region}
use Rattle.mm_areas.specs.Pages.{Mapped, Pages, mapped_by, is_within}
use Rattle.mm_areas.specs.Contents.{bytes_mapped, bytes_at, with_bytes_changed, bytes_changed_at, with_change}
use Rattle.mm_areas.specs.declared.rights.Rights.{Rights}
use Rattle.mm_areas.specs.Rights.{has}
use Rattle.mm_areas.specs.Hints.{has_page, allows_mapped, allows_at}
use Rattle.mm_areas.specs.Mappings.{Mapping}
use Rattle.mm_areas.specs.Regions.{pages_of}
use Rattle.mm_areas.specs.Order.{AreFrom, are_from}
use Rattle.mm_areas.specs.Own.{page_in, is_own_at, is_own_content}
use Rattle.mm_areas.proofs.PageLaws.{within_bounds, apart_behind}
use Rattle.mm_areas.proofs.RegionLaws.{end_of, order_from_test, test_from_order}
use Rattle.mm_areas.proofs.IndexLaws.{first_from}
use Rattle.mm_areas.proofs.ChangeLaws.{IsLike, AreLike, page_here, page_there, get_page, order_like, page_like}

-- ---- a list with one item changed

slice_get-set_same : {X : Type 0} → (xs : List X) (i : ℕ) (x : X) → i < length xs → slice_get (set xs i x) i ≡ Some x
slice_get-set_same [] i x less = absurd (omega arith)
slice_get-set_same (y ∷ ys) zero x less = refl
slice_get-set_same (y ∷ ys) (suc i) x less = slice_get-set_same ys i x (omega arith)

slice_get-set_other : {X : Type 0} → (xs : List X) (i j : ℕ) (x : X) → i ≢ j → slice_get (set xs i x) j ≡ slice_get xs j
slice_get-set_other [] i j x other = refl
slice_get-set_other (y ∷ ys) zero zero x other = absurd (other refl)
slice_get-set_other (y ∷ ys) zero (suc j) x other = refl
slice_get-set_other (y ∷ ys) (suc i) zero x other = refl
slice_get-set_other (y ∷ ys) (suc i) (suc j) x other = slice_get-set_other ys i j x (λ e. other (ap suc e))

-- ---- where regions are

-- of two regions the one in front ends by the other
apart_regions : (from : ℕ) (rs : List Region) (i k : ℕ) (d : Region) → AreFrom from rs → i < k → k < length rs
    → end_of (get_or rs i d) ≤ (get_or rs k d).first
apart_regions from [] i k d h less within = absurd (omega arith)
apart_regions from (r ∷ rs) i zero d h less within = absurd (omega arith)
apart_regions from (r ∷ rs) zero (suc k) d h less within = first_from (end_of r) rs k d h.2 (omega arith)
apart_regions from (r ∷ rs) (suc i) (suc k) d h less within =
    apart_regions (end_of r) rs i k d h.2 (omega arith) (omega arith)

-- the page of the region at an index
page_in_region : (from : ℕ) (rs : List Region) (i : ℕ) (d : Region) (page : ℕ) → AreFrom from rs → i < length rs
    → (get_or rs i d).first ≤ page → page < end_of (get_or rs i d)
    → page_in rs page ≡ slice_get (get_or rs i d).pages.items (page - (get_or rs i d).first)
page_in_region from [] i d page h less low high = absurd (omega arith)
page_in_region from (r ∷ rs) zero d page h less low high = page_here r rs page low high
page_in_region from (r ∷ rs) (suc i) d page h less low high =
    let first = first_from (end_of r) rs i d h.2 (omega arith) in
    page_there r rs page (apart_behind r.first (length r.pages.items) page (omega (arith, first, low)))
    ∙ page_in_region (end_of r) rs i d page h.2 (omega arith) low high

-- ---- one page written

-- a page is another, where it is there, and other pages are as before
abbrev pub IsPut : ℕ → Page → ℕ → Option Page → Option Page → Type 0
IsPut page new q o n = (q ≢ page → n ≡ o) × (q ≡ page → n ≡ option_map (λ _. new) o)

-- regions of which one page is another: what they are and stand for
pub record AreWritten (page : ℕ) (old new : Page) (olds news : List Region) : Type 0 where
  pub order : are_from 0 news ≡ true
  pub there : page_in olds page ≡ Some old
  pub mapped : get (pages_of olds) page ≡ Some (mapped_by old)
  pub here : page_in news page ≡ Some new
  pub others : (q : ℕ) → (q ≡ page → ⊥) → page_in news q ≡ page_in olds q
  pub pages : pages_of news ≡ insert (pages_of olds) page (mapped_by new)
  pub count : len (pages_of news) ≡ len (pages_of olds)

put_here : (page : ℕ) (new : Page) (r : Region) (j : ℕ) → r.first + j ≡ page → j < length r.pages.items
    → IsLike (IsPut page new) r (record { first = r.first; pages = with_item r.pages j new })
put_here page new r j at less = record {
  first = refl;
  size = length-set r.pages.items j new;
  each = λ k within. (
    (λ other. let apart : j ≢ k = λ e. other (omega arith) in slice_get-set_other r.pages.items j k new apart),
    (λ same.
        let is : k ≡ j = omega arith in
        ap (slice_get (set r.pages.items j new)) is ∙ slice_get-set_same r.pages.items j new less
        ∙ sym (ap (option_map (λ _. new)) (slice_get-get_or r.pages.items k new within))),
  );
}

put_apart : (page : ℕ) (new : Page) (r : Region) → (end_of r ≤ page) ⊎ (page < r.first) → IsLike (IsPut page new) r r
put_apart page new r apart = record {
  first = refl;
  size = refl;
  each = λ k within.
      ((λ other. refl), (λ same. absurd (elim apart [ inl behind ↦ omega arith | inr before ↦ omega arith ])));
}

put_like : (olds : List Region) (i : ℕ) (r : Region) (page : ℕ) (new : Page) → AreFrom 0 olds → i < length olds
    → r ≡ get_or olds i r → r.first ≤ page → page < end_of r
    → AreLike (IsPut page new) olds
    (set olds i (record { first = r.first; pages = with_item r.pages (page - r.first) new }))
put_like olds i r page new h less is low high =
    let written : Region = record { first = r.first; pages = with_item r.pages (page - r.first) new } in
    record {
      size = length-set olds i written;
      each = λ k d within.
          let same_first =
          λ (j : ℕ) (b : j < length olds). ap (λ (x : Region). x.first) (get_or_default olds j r d b) in
          elim (cases_eq i k) [
            | inl same ↦
                let old : get_or olds k d ≡ r =
                ap (λ (m : ℕ). get_or olds m d) (sym same) ∙ sym (get_or_default olds i r d less) ∙ sym is in
                let put : get_or (set olds i written) k d ≡ written =
                ap (λ (m : ℕ). get_or (set olds i written) m d) (sym same)
                ∙ get_or-set_same olds i written d less in
                subst (λ (x : Region). IsLike (IsPut page new) x (get_or (set olds i written) k d)) (sym old)
                (subst (λ (x : Region). IsLike (IsPut page new) r x) (sym put)
                (put_here page new r (page - r.first) (omega arith) (omega arith)))
            | inr other ↦
                let kept : get_or (set olds i written) k d ≡ get_or olds k d =
                get_or-set_other olds i k written d (λ e. other (sym e)) in
                let at : r ≡ get_or olds i d = is ∙ get_or_default olds i r d less in
                let firsts = ap (λ (x : Region). x.first) at in
                let ends = ap end_of at in
                subst (λ (x : Region). IsLike (IsPut page new) (get_or olds k d) x) (sym kept)
                (put_apart page new (get_or olds k d) (elim (cases_lt i k) [
                  | inl later ↦ let gap = apart_regions 0 olds i k d h later within in inr (omega arith)
                  | inr earlier ↦ let gap = apart_regions 0 olds k i d h (omega arith) less in inl (omega arith)
                ]))
          ];
    }

pub put_page : (olds : List Region) (i : ℕ) (r : Region) (page : ℕ) (old new : Page) → are_from 0 olds ≡ true
    → i < length olds → r ≡ get_or olds i r → is_within r.first (length r.pages.items) page ≡ true
    → old ≡ get_or r.pages.items (page - r.first) old
    → AreWritten page old new olds
    (set olds i (record { first = r.first; pages = with_item r.pages (page - r.first) new }))
put_page olds i r page old new order less is within was =
    let bounds = within_bounds r.first (length r.pages.items) page within in
    let h = order_from_test 0 olds order in
    let news = set olds i (record { first = r.first; pages = with_item r.pages (page - r.first) new }) in
    let like = put_like olds i r page new h less is bounds.0 bounds.1 in
    let law = λ (q : ℕ). page_like (IsPut page new) olds news q ((λ _. refl), (λ _. refl)) like in
    let h' = order_like (IsPut page new) 0 olds news like h in
    let low : (get_or olds i r).first ≤ page = omega (arith, bounds.0, ap (λ (x : Region). x.first) is) in
    let high : page < end_of (get_or olds i r) = omega (arith, bounds.1, ap end_of is) in
    let there : page_in olds page ≡ Some old =
    page_in_region 0 olds i r page h less low high
    ∙ ap (λ (x : Region). slice_get x.pages.items (page - x.first)) (sym is)
    ∙ slice_get-get_or r.pages.items (page - r.first) old (omega (arith, bounds.0, bounds.1))
    ∙ ap (λ (p : Page). Some p) (sym was) in
    let mapped = get_page 0 olds page h ∙ ap (option_map mapped_by) there in
    let here : page_in news page ≡ Some new = (law page).1 refl ∙ ap (option_map (λ _. new)) there in
    let pages : pages_of news ≡ insert (pages_of olds) page (mapped_by new) =
    same_by_get _ _ (λ q. elim (cases_eq page q) [
      | inl same ↦
          ap (get (pages_of news)) (sym same) ∙ get_page 0 news page h' ∙ ap (option_map mapped_by) here
          ∙ sym (get-insert_same (pages_of olds) page (mapped_by new))
          ∙ ap (get (insert (pages_of olds) page (mapped_by new))) same
      | inr other ↦
          get_page 0 news q h' ∙ ap (option_map mapped_by) ((law q).0 (λ e. other (sym e))) ∙ sym (get_page 0 olds q h)
          ∙ sym (get-insert_other (pages_of olds) page q (mapped_by new) other)
    ]) in
    record {
      order = test_from_order 0 news h';
      there = there;
      mapped = mapped;
      here = here;
      others = λ q other. (law q).0 other;
      pages = pages;
      count = ap len pages ∙ len-insert nat_cmp_total (pages_of olds) page (mapped_by new)
          ∙ cond-true (contains_key (pages_of olds) page) (len (pages_of olds))
          (len (pages_of olds) + 1) (ap is_some mapped);
    }

-- the same, where the region was found among the regions as a slice
pub put_found : (slice olds : List Region) (i : ℕ) (r : Region) (page : ℕ) (old new : Page) → slice ≡ olds
    → are_from 0 olds ≡ true → i < length slice
    → ((d : Region) → is_within (get_or slice i d).first (length (get_or slice i d).pages.items) page ≡ true)
    → r ≡ get_or olds i r → old ≡ get_or r.pages.items (page - r.first) old
    → AreWritten page old new olds
    (set olds i (record { first = r.first; pages = with_item r.pages (page - r.first) new }))
put_found slice olds i r page old new same order less within is was =
    let here : get_or slice i r ≡ r = ap (λ (rs : List Region). get_or rs i r) same ∙ sym is in
    put_page olds i r page old new order (subst (λ (rs : List Region). i < length rs) same less) is
    (subst (λ (x : Region). is_within x.first (length x.pages.items) page ≡ true) here (within r)) was

-- ---- what a write answers, and what is then

-- a mapping of other pages
abbrev pub mapping_of : Pages → (start program_break : ℕ) → Mapping
mapping_of pages start program_break = record { pages = pages; start = start; program_break = program_break }

pub write_ok : {X E : Type 0} (answer : Result X E) (page : ℕ) (old new : Page) (olds news : List Region)
    (start program_break : ℕ) (change : List ℕ → List ℕ) → AreWritten page old new olds news
    → OnOk answer (mapped_by new ≡ with_bytes_changed change (mapped_by old))
    → OnOk answer (mapping_of (pages_of news) start program_break
    ≡ mapping_of (with_change (pages_of olds) page change) start program_break)
write_ok (Ok x) page old new olds news start program_break change are is =
    ap (λ (p : Pages). mapping_of p start program_break)
    (are.pages ∙ ap (insert (pages_of olds) page) is
    ∙ ap (λ (o : Option Mapped). bytes_changed_at change page o (pages_of olds)) (sym are.mapped))
write_ok (Err e) page old new olds news start program_break change are is = tt

pub write_owns : {X E : Type 0} (answer : Result X E) (page : ℕ) (old new : Page) (olds news : List Region)
    → AreWritten page old new olds news → OnOk answer (is_own_content new.content ≡ true)
    → OnOk answer (is_own_at (page_in news page) ≡ true)
write_owns (Ok x) page old new olds news are is = ap is_own_at are.here ∙ is
write_owns (Err e) page old new olds news are is = tt

-- a page that stands for what it did leaves the pages as they were
pub write_same : (page : ℕ) (old new : Page) (olds news : List Region) → AreWritten page old new olds news
    → mapped_by new ≡ mapped_by old → pages_of news ≡ pages_of olds
write_same page old new olds news are same =
    are.pages ∙ insert_same (pages_of olds) page (mapped_by new) (are.mapped ∙ ap (λ (m : Mapped). Some m) (sym same))

pub write_err : {X E : Type 0} (answer : Result X E) (page : ℕ) (old new : Page) (olds news : List Region)
    (start program_break : ℕ) → AreWritten page old new olds news → OnErr answer (new ≡ old)
    → OnErr answer (mapping_of (pages_of news) start program_break ≡ mapping_of (pages_of olds) start program_break)
write_err (Ok x) page old new olds news start program_break are same = tt
write_err (Err e) page old new olds news start program_break are same =
    ap (λ (p : Pages). mapping_of p start program_break) (write_same page old new olds news are (ap mapped_by same))

pub write_kept : {X E : Type 0} (answer : Result X E) (page : ℕ) (old new : Page) (olds news : List Region)
    → AreWritten page old new olds news → OnErr answer (new ≡ old)
    → OnErr answer (is_own_at (page_in news page) ≡ is_own_at (page_in olds page))
write_kept (Ok x) page old new olds news are same = tt
write_kept (Err e) page old new olds news are same =
    ap is_own_at are.here ∙ ap (λ (p : Page). is_own_content p.content) same ∙ sym (ap is_own_at are.there)

pub write_lacks : {X E : Type 0} (answer : Result X E) (page : ℕ) (old new : Page) (olds news : List Region)
    → AreWritten page old new olds news → OnErr answer (is_own_content old.content ≡ false)
    → OnErr answer (is_own_at (page_in olds page) ≡ false)
write_lacks (Ok x) page old new olds news are is = tt
write_lacks (Err e) page old new olds news are is = ap is_own_at are.there ∙ is

pub write_others : (page : ℕ) (old new : Page) (olds news : List Region) → AreWritten page old new olds news → (q : ℕ)
    → (q ≡ page → ⊥) → is_own_at (page_in news q) ≡ is_own_at (page_in olds q)
write_others page old new olds news are q other = ap is_own_at (are.others q other)

-- ---- a fast write, which is made or not

pub put_ok : (done : Bool) (page : ℕ) (old new : Page) (olds news : List Region) (start program_break : ℕ)
    (change : List ℕ → List ℕ) → AreWritten page old new olds news
    → OnTrue done (mapped_by new ≡ with_bytes_changed change (mapped_by old))
    → OnTrue done (mapping_of (pages_of news) start program_break
    ≡ mapping_of (with_change (pages_of olds) page change) start program_break)
put_ok true page old new olds news start program_break change are is =
    write_ok {X = Unit {0}} {E = ℕ} (Ok tt) page old new olds news start program_break change are is
put_ok false page old new olds news start program_break change are is = tt

pub put_unchanged : (done : Bool) (page : ℕ) (old new : Page) (olds news : List Region) (start program_break : ℕ)
    → AreWritten page old new olds news → OnFalse done (new ≡ old)
    → OnFalse done (mapping_of (pages_of news) start program_break ≡ mapping_of (pages_of olds) start program_break)
put_unchanged true page old new olds news start program_break are same = tt
put_unchanged false page old new olds news start program_break are same =
    write_err {X = Unit {0}} {E = ℕ} (Err 0) page old new olds news start program_break are same

-- what is said of the page that is written as it was is said of all pages so
pub same_word : {X : Type 0} (word : Option Page → X) (page : ℕ) (old new : Page) (olds news : List Region)
    → AreWritten page old new olds news → word (Some new) ≡ word (Some old) → (q : ℕ)
    → word (page_in news q) ≡ word (page_in olds q)
same_word word page old new olds news are same q = elim (cases_eq q page) [
  | inl here ↦
      ap (λ (n : ℕ). word (page_in news n)) here ∙ ap word are.here ∙ same ∙ sym (ap word are.there)
      ∙ sym (ap (λ (n : ℕ). word (page_in olds n)) here)
  | inr other ↦ ap word (are.others q other)
]

-- a page that is its own as it was leaves all pages so
pub put_owned : (page : ℕ) (old new : Page) (olds news : List Region) → AreWritten page old new olds news
    → is_own_content new.content ≡ is_own_content old.content → (q : ℕ)
    → is_own_at (page_in news q) ≡ is_own_at (page_in olds q)
put_owned page old new olds news are same = same_word is_own_at page old new olds news are same

pub put_fits : {P Q : Type 0} (page : ℕ) (old new : Page) (olds news : List Region) → AreWritten page old new olds news
    → P ↔ ((is_own_content old.content ≡ true) × Q) → P ↔ ((is_own_at (page_in olds page) ≡ true) × Q)
put_fits page old new olds news are fits = (
  (λ h. (ap is_own_at are.there ∙ (fits.0 h).0, (fits.0 h).1)),
  (λ h. fits.1 (sym (ap is_own_at are.there) ∙ h.0, h.1)),
)

-- ---- a page that isn't found

pub not_found : (slice olds : List Region) (page : ℕ) → slice ≡ olds → are_from 0 olds ≡ true
    → false ≡ contains_key (pages_of slice) page → page_in olds page ≡ None
not_found slice olds page same order absent =
    none_of (page_in olds page) (ap is_some (sym (get_page 0 olds page (order_from_test 0 olds order)))
    ∙ ap (λ (rs : List Region). contains_key (pages_of rs) page) (sym same) ∙ sym absent)
  where
    none_of : (o : Option Page) → is_some (option_map mapped_by o) ≡ false → o ≡ None
    none_of None is = refl
    none_of (Some p) is = absurd (false≢true (sym is))

pub found_at : (slice olds : List Region) (i : ℕ) (r : Region) (page : ℕ) (p : Page) → slice ≡ olds
    → are_from 0 olds ≡ true → i < length slice
    → ((d : Region) → is_within (get_or slice i d).first (length (get_or slice i d).pages.items) page ≡ true)
    → r ≡ get_or olds i r → p ≡ get_or r.pages.items (page - r.first) p → page_in olds page ≡ Some p
found_at slice olds i r page p same order less within is was =
    (put_found slice olds i r page p p same order less within is was).there

-- ---- a page by a hint

pub put_near : (olds : List Region) (i : ℕ) (r : Region) (page : ℕ) (old new : Page) → are_from 0 olds ≡ true
    → has_page (slice_get olds i) page ≡ true → r ≡ get_or olds i r → old ≡ get_or r.pages.items (page - r.first) old
    → AreWritten page old new olds
    (set olds i (record { first = r.first; pages = with_item r.pages (page - r.first) new }))
put_near olds i r page old new order near is was = elim (cases_lt i (length olds)) [
  | inl less ↦
      put_page olds i r page old new order less is
      (ap (λ (x : Region). is_within x.first (length x.pages.items) page) is
      ∙ sym (ap (λ (o : Option Region). has_page o page) (slice_get-get_or olds i r less)) ∙ near) was
  | inr past ↦
      absurd (false≢true (sym (ap (λ (o : Option Region). has_page o page) (slice_get_past olds i past)) ∙ near))
]

pub near_fits : {P : Type 0} (page : ℕ) (old new : Page) (olds news : List Region) (near : Bool) (right : Rights)
    (Q : Type 0) → AreWritten page old new olds news → near ≡ true
    → P ↔ ((is_own_content old.content ≡ true) × (has old.rights right ≡ true) × Q)
    → P ↔ ((near ≡ true) × (is_own_at (page_in olds page) ≡ true) × (allows_at (pages_of olds) page right ≡ true) × Q)
near_fits page old new olds news near right Q are is fits =
    let allowed : allows_at (pages_of olds) page right ≡ has old.rights right =
    ap (λ (o : Option Mapped). allows_mapped o right) are.mapped in (
      (λ h. let f = fits.0 h in (is, ap is_own_at are.there ∙ f.0, allowed ∙ f.1, f.2)),
      (λ h. fits.1 (sym (ap is_own_at are.there) ∙ h.1, sym allowed ∙ h.2, h.3)),
    )

pub near_number : (answer : Option ℕ) (page : ℕ) (old new : Page) (olds news : List Region) (near : Bool)
    (right : Rights) (Q : Type 0) (read : List ℕ → ℕ) → AreWritten page old new olds news → near ≡ true
    → SomeIff answer ((has old.rights right ≡ true) × (is_some (bytes_mapped (Some (mapped_by old))) ≡ true) × Q)
    (read (unwrap_or (bytes_mapped (Some (mapped_by old))) []))
    → SomeIff answer ((near ≡ true) × (allows_at (pages_of olds) page right ≡ true)
    × (is_some (bytes_at (pages_of olds) page) ≡ true) × Q) (read (unwrap_or (bytes_at (pages_of olds) page) []))
near_number answer page old new olds news near right Q read are is fits =
    subst (λ (o : Option Mapped).
    SomeIff answer ((near ≡ true) × (allows_mapped o right ≡ true) × (is_some (bytes_mapped o) ≡ true) × Q)
    (read (unwrap_or (bytes_mapped o) []))) (sym are.mapped) (some_near answer fits)
  where
    some_near : (a : Option ℕ)
        → SomeIff a ((has old.rights right ≡ true) × (is_some (bytes_mapped (Some (mapped_by old))) ≡ true) × Q)
        (read (unwrap_or (bytes_mapped (Some (mapped_by old))) []))
        → SomeIff a ((near ≡ true) × (has old.rights right ≡ true)
        × (is_some (bytes_mapped (Some (mapped_by old))) ≡ true) × Q)
        (read (unwrap_or (bytes_mapped (Some (mapped_by old))) []))
    some_near None refused = λ h. refused (h.1, h.2, h.3)
    some_near (Some x) f = ((is, f.0.0, f.0.1, f.0.2), f.1)
