-- Laws of other rights for the pages of a range: of a list, of a region, and of all regions.
use Rattle.std.proofs.Common.{◌≡◌, ℕ, zero, suc, ◌+◌, ◌-◌, ◌<◌, ◌≤◌, Bool, true, false, cond, List, [], ◌∷◌, length}
use Rattle.std.proofs.Common.{get_or, min, Option, Some, None, option_map, refl, ap, sym, ◌∙◌, subst, ◌⊎◌, inl, inr}
use Rattle.std.proofs.Common.{arith}
use Rattle.std.specs.Option.{is_some, option_map_or}
use Rattle.std.specs.List.{slice_get}
use Rattle.std.proofs.lemmas.Option.{slice_get-map}
use Rattle.std.specs.Ordering.{nat_cmp}
use Rattle.std.specs.Cmp.{nat_cmp_total}
use Rattle.std.specs.FinMap.{get, insert, empty, contains_key, len, len-insert}
use Rattle.std.proofs.Math.ListN.{set}
use Rattle.std.proofs.lemmas.Bool.{cases_lt, cases_eq, cond-true, cond-false}
use Rattle.sn_base.proofs.Maps.{same_by_get, get_of_empty, get-insert_same, get-insert_other}
use Rattle.mm_areas.specs.declared.rights.Rights.{Rights}
use Rattle.mm_areas.specs.declared.areas.Region.{Region}
use Rattle.mm_areas.specs.Pages.{Mapped, Pages, laid, is_within, with_rights, protected_at, protected}
use Rattle.mm_areas.specs.Regions.{pages_of}
use Rattle.mm_areas.specs.Order.{AreFrom}
use Rattle.mm_areas.specs.Places.{index_behind}
use Rattle.mm_areas.specs.Protected.{protected_from, IsProtected, content_in}
use Rattle.mm_areas.specs.declared.page.Content.{Content}
use Rattle.mm_areas.specs.declared.page.Page.{Page}
use Rattle.mm_areas.specs.Own.{page_in, is_own_at, is_own_content}
use Rattle.mm_areas.specs.DecodedWords.{has_row_in, has_row_content}
use Rattle.mm_areas.proofs.ChangeLaws.{IsLike, page_like}
use Rattle.mm_areas.proofs.PageLaws.{where_page, within_range, apart_below, apart_behind, get-protected_in}
use Rattle.mm_areas.proofs.PageLaws.{get-protected_apart}
use Rattle.mm_areas.proofs.RegionLaws.{end_of, mapped_in, length-mapped_in}
use Rattle.mm_areas.proofs.IndexLaws.{index_passed, first_from}

-- a page with other rights where it is of a range
abbrev one : Rights → (first count page : ℕ) → Mapped → Mapped
one rights first count page m = cond (is_within first count page) (with_rights rights m) m

-- ---- pages of a list

pub length-protected_from : (rights : Rights) (first count page : ℕ) (ms : List Mapped)
    → length (protected_from rights first count page ms) ≡ length ms
length-protected_from rights first count page [] = refl
length-protected_from rights first count page (m ∷ ms) = ap suc (length-protected_from rights first count (suc page) ms)

-- pages apart from the range stay as they are
pub protected_from_apart : (rights : Rights) (first count page : ℕ) (ms : List Mapped)
    → ((q : ℕ) → page ≤ q → q < page + length ms → (q < first) ⊎ (first + count ≤ q))
    → protected_from rights first count page ms ≡ ms
protected_from_apart rights first count page [] apart = refl
protected_from_apart rights first count page (m ∷ ms) apart =
    let low : page ≤ page = omega arith in
    let high : page < page + suc (length ms) = omega arith in
    let outside : is_within first count page ≡ false =
    elim (apart page low high) [
      | inl below ↦ apart_below first count page below
      | inr behind ↦
          apart_behind first count page behind
    ] in
    ap (λ (x : Mapped). x ∷ protected_from rights first count (suc page) ms)
    (cond-false (is_within first count page) (with_rights rights m) m outside)
    ∙ ap (λ (xs : List Mapped). m ∷ xs)
    (protected_from_apart rights first count (suc page) ms (λ q from to. apart q (omega arith) (omega arith)))

-- a range that takes the same pages of the list
pub protected_from_same : (rights : Rights) (first count page first' count' page' : ℕ) (ms : List Mapped)
    → ((k : ℕ) → k < length ms → is_within first count (page + k) ≡ is_within first' count' (page' + k))
    → protected_from rights first count page ms ≡ protected_from rights first' count' page' ms
protected_from_same rights first count page first' count' page' [] same = refl
protected_from_same rights first count page first' count' page' (m ∷ ms) same =
    let here : page + 0 ≡ page = omega arith in
    let here' : page' + 0 ≡ page' = omega arith in
    let at : is_within first count page ≡ is_within first' count' page' =
    ap (is_within first count) (sym here) ∙ same 0 (omega arith) ∙ ap (is_within first' count') here' in
    ap (λ (b : Bool). cond b (with_rights rights m) m ∷ protected_from rights first count (suc page) ms) at
    ∙ ap (λ (xs : List Mapped). one rights first' count' page' m ∷ xs)
    (protected_from_same rights first count (suc page) first' count' (suc page') ms (λ k less.
    let next : suc page + k ≡ page + suc k = omega arith in
    let next' : page' + suc k ≡ suc page' + k = omega arith in
    ap (is_within first count) next ∙ same (suc k) (omega arith) ∙ ap (is_within first' count') next'))

-- a range with a page more takes the same pages below it
within_more : (first n q : ℕ) → q < first + n → is_within first n q ≡ is_within first (suc n) q
within_more first n q below = elim (cases_lt q first) [
  | inl low ↦ apart_below first n q low ∙ sym (apart_below first (suc n) q low)
  | inr from ↦ within_range first n q from below ∙ sym (within_range first (suc n) q from (omega arith))
]

-- a page more gets the rights
pub protected_from_next : (rights : Rights) (first n page i : ℕ) (ms : List Mapped) (d : Mapped) → first + n ≡ page + i
    → i < length ms
    → set (protected_from rights first n page ms) i
    (with_rights rights (get_or (protected_from rights first n page ms) i d))
    ≡ protected_from rights first (suc n) page ms
protected_from_next rights first n page i [] d at less = absurd (omega arith)
protected_from_next rights first n page zero (m ∷ ms) d at less =
    let behind : first + n ≤ page = omega arith in
    let here : is_within first (suc n) page ≡ true = within_range first (suc n) page (omega arith) (omega arith) in
    ap (λ (b : Bool). with_rights rights (cond b (with_rights rights m) m) ∷ protected_from rights first n
    (suc page) ms) (apart_behind first n page behind)
    ∙ ap (λ (b : Bool). cond b (with_rights rights m) m ∷ protected_from rights first n (suc page) ms) (sym here)
    ∙ ap (λ (xs : List Mapped). one rights first (suc n) page m ∷ xs)
    (protected_from_apart rights first n (suc page) ms (λ q low high. inr (omega arith))
    ∙ sym (protected_from_apart rights first (suc n) (suc page) ms (λ q low high. inr (omega arith))))
protected_from_next rights first n page (suc i) (m ∷ ms) d at less =
    let below : page < first + n = omega arith in
    ap (λ (xs : List Mapped). one rights first n page m ∷ xs)
    (protected_from_next rights first n (suc page) i ms d (omega arith) (omega arith))
    ∙ ap (λ (b : Bool). cond b (with_rights rights m) m ∷ protected_from rights first (suc n) (suc page) ms)
    (within_more first n page below)

-- ---- pages of a map

-- at a page, by whether it is of the range
get-protected : (rights : Rights) (first count : ℕ) (pages : Pages) (q : ℕ) → get (protected rights first count pages) q
    ≡ cond (is_within first count q) (option_map (with_rights rights) (get pages q)) (get pages q)
get-protected rights first count pages q = elim (where_page first count q) [
  | inl w ↦ get-protected_in rights first count pages q w.0 w.1
      ∙ sym (cond-true (is_within first count q) (option_map (with_rights rights) (get pages q)) (get pages q) w.2)
  | inr w ↦ get-protected_apart rights first count pages q w.0
      ∙ sym (cond-false (is_within first count q) (option_map (with_rights rights) (get pages q)) (get pages q) w.1)
]

some_one : (rights : Rights) (b : Bool) (m : Mapped) → cond b (option_map (with_rights rights) (Some m)) (Some m)
    ≡ Some (cond b (with_rights rights m) m)
some_one rights true m = refl
some_one rights false m = refl

pub protected-insert : (rights : Rights) (first count : ℕ) (pages : Pages) (page : ℕ) (m : Mapped)
    → protected rights first count (insert pages page m)
    ≡ insert (protected rights first count pages) page (one rights first count page m)
protected-insert rights first count pages page m =
    same_by_get _ _ (λ q. get-protected rights first count (insert pages page m) q ∙ elim (cases_eq page q) [
      | inl same ↦
          ap (λ (k : ℕ). cond (is_within first count k) (option_map (with_rights rights) (get (insert pages page m) k))
          (get (insert pages page m) k)) (sym same)
          ∙ ap (λ (o : Option Mapped). cond (is_within first count page) (option_map (with_rights rights) o) o)
          (get-insert_same pages page m)
          ∙ some_one rights (is_within first count page) m
          ∙ sym (get-insert_same (protected rights first count pages) page (one rights first count page m))
          ∙ ap (get (insert (protected rights first count pages) page (one rights first count page m))) same
      | inr other ↦
          ap (λ (o : Option Mapped). cond (is_within first count q) (option_map (with_rights rights) o) o)
          (get-insert_other pages page q m other)
          ∙ sym (get-protected rights first count pages q)
          ∙ sym (get-insert_other (protected rights first count pages) page q (one rights first count page m) other)
    ])

pub protected-laid : (rights : Rights) (first count page : ℕ) (ms : List Mapped) (pages : Pages)
    → protected rights first count (laid page ms pages) ≡ laid page (protected_from rights first count page ms)
    (protected rights first count pages)
protected-laid rights first count page [] pages = refl
protected-laid rights first count page (m ∷ ms) pages =
    protected-insert rights first count (laid (suc page) ms pages) page m
    ∙ ap (λ (p : Pages). insert p page (one rights first count page m))
    (protected-laid rights first count (suc page) ms pages)

pub protected-empty : (rights : Rights) (first count : ℕ)
    → protected rights first count (empty {X = Mapped} {R = nat_cmp}) ≡ empty
protected-empty rights first count = same_by_get _ _ (λ q. elim (where_page first count q) [
  | inl w ↦ get-protected_in rights first count empty q w.0 w.1
      ∙ ap (option_map (with_rights rights)) (get_of_empty q) ∙ sym (get_of_empty q)
  | inr w ↦ get-protected_apart rights first count empty q w.0
])

-- as many pages as before
len_at : (rights : Rights) (page : ℕ) (o : Option Mapped) (pages : Pages) → get pages page ≡ o
    → len (protected_at rights page o pages) ≡ len pages
len_at rights page None pages is = refl
len_at rights page (Some m) pages is =
    len-insert nat_cmp_total pages page (with_rights rights m)
    ∙ cond-true (contains_key pages page) (len pages) (len pages + 1) (ap is_some is)

pub as_many_protected : (rights : Rights) (first count : ℕ) (pages : Pages)
    → len (protected rights first count pages) ≡ len pages
unfolding protected
as_many_protected rights first zero pages = refl
as_many_protected rights first (suc n) pages =
    let below : first < suc first = omega arith in
    len_at rights first (get pages first) (protected rights (suc first) n pages)
    (get-protected_apart rights (suc first) n pages first (inl below))
    ∙ as_many_protected rights (suc first) n pages

-- ---- regions

-- a region apart from the range is as before
pub protected_already : (rights : Rights) (first count : ℕ) (r : Region) → (end_of r ≤ first)
    ⊎ (first + count ≤ r.first) → IsProtected rights first count r r
protected_already rights first count r apart = record {
  place = refl;
  pages = sym (protected_from_apart rights first count r.first (mapped_in r) (λ q low high. elim apart [
    | inl below ↦ inl (omega (arith, length-mapped_in r))
    | inr behind ↦ inr (omega arith)
  ]));
  contents = refl;
}

-- a region's pages of a range, counted from its first
pub protected_by_index : (rights : Rights) (first end at low high : ℕ) (ms : List Mapped) → first ≤ end
    → high ≡ min (end - at) (length ms) → low ≡ min (first - at) high → protected_from rights low (high - low) 0 ms
    ≡ protected_from rights first (end - first) at ms
protected_by_index rights first end at low high ms le is_high is_low =
    protected_from_same rights low (high - low) 0 first (end - first) at ms (λ k less. elim (cases_lt (at + k) first) [
      | inl before ↦ elim (cases_lt k low) [
        | inl low' ↦
            apart_below low (high - low) (0 + k) (omega arith) ∙ sym (apart_below first (end - first) (at + k) before)
        | inr high' ↦
            apart_behind low (high - low) (0 + k) (omega arith) ∙ sym (apart_below first (end - first) (at + k) before)
      ]
      | inr from ↦ elim (cases_lt (at + k) end) [
        | inl inside ↦
            within_range low (high - low) (0 + k) (omega arith) (omega arith)
            ∙ sym (within_range first (end - first) (at + k) from (omega arith))
        | inr behind ↦
            apart_behind low (high - low) (0 + k) (omega arith)
            ∙ sym (apart_behind first (end - first) (at + k) (omega arith))
      ]
    ])

length_of_protected : (rights : Rights) (first count : ℕ) (old new : Region) → IsProtected rights first count old new
    → length new.pages.items ≡ length old.pages.items
length_of_protected rights first count old new is =
    sym (length-mapped_in new) ∙ ap length is.pages
    ∙ length-protected_from rights first count old.first (mapped_in old) ∙ length-mapped_in old

-- all regions: each is protected
abbrev pub AreProtected : Rights → (first count : ℕ) → (old new : List Region) → Type 0
AreProtected rights first count old new =
    (k : ℕ) (d : Region) → k < length old → IsProtected rights first count (get_or old k d) (get_or new k d)

pub protected_regions : (rights : Rights) (first count : ℕ) (old new : List Region) → length new ≡ length old
    → AreProtected rights first count old new → pages_of new ≡ protected rights first count (pages_of old)
protected_regions rights first count [] [] same each = sym (protected-empty rights first count)
protected_regions rights first count [] (n ∷ ns) same each = absurd (omega (arith, same))
protected_regions rights first count (o ∷ os) [] same each = absurd (omega (arith, same))
protected_regions rights first count (o ∷ os) (n ∷ ns) same each =
    let is : IsProtected rights first count o n = each 0 o (omega arith) in
    ap (λ (p : ℕ). laid p (mapped_in n) (pages_of ns)) is.place
    ∙ ap (λ (ms : List Mapped). laid o.first ms (pages_of ns)) is.pages
    ∙ ap (laid o.first (protected_from rights first count o.first (mapped_in o)))
    (protected_regions rights first count os ns (omega (arith, same)) (λ k d less. each (suc k) d (omega arith)))
    ∙ sym (protected-laid rights first count o.first (mapped_in o) (pages_of os))

pub protected_order : (rights : Rights) (first count from : ℕ) (old new : List Region) → length new ≡ length old
    → AreProtected rights first count old new → AreFrom from old → AreFrom from new
protected_order rights first count from [] [] same each h = h
protected_order rights first count from [] (n ∷ ns) same each h = absurd (omega (arith, same))
protected_order rights first count from (o ∷ os) [] same each h = absurd (omega (arith, same))
protected_order rights first count from (o ∷ os) (n ∷ ns) same each h =
    let is : IsProtected rights first count o n = each 0 o (omega arith) in
    let size = length_of_protected rights first count o n is in
    let low : from ≤ n.first = omega (arith, h.0, is.place) in
    let some : 0 < length n.pages.items = omega (arith, h.1, size) in
    let ends : end_of o ≡ end_of n = omega (arith, size, is.place) in (
      low,
      some,
      subst (λ (p : ℕ). AreFrom p ns) ends
          (protected_order rights first count (end_of o) os ns (omega (arith, same))
          (λ k d less. each (suc k) d (omega arith)) h.2),
    )

-- ---- what pages have, which stays

-- a page has what it had
abbrev HasSame : ℕ → Option Page → Option Page → Type 0
HasSame page old new = content_in new ≡ content_in old

like_protected : (rights : Rights) (first count : ℕ) (old new : Region) → IsProtected rights first count old new
    → IsLike HasSame old new
like_protected rights first count old new is = record {
  first = is.place;
  size = length_of_protected rights first count old new is;
  each = λ j less.
      sym (slice_get-map (λ (p : Page). p.content) new.pages.items j)
      ∙ ap (λ (xs : List Content). slice_get xs j) is.contents
      ∙ slice_get-map (λ (p : Page). p.content) old.pages.items j;
}

pub contents_kept : (rights : Rights) (first count : ℕ) (old new : List Region) → length new ≡ length old
    → AreProtected rights first count old new → (page : ℕ)
    → content_in (page_in new page) ≡ content_in (page_in old page)
contents_kept rights first count old new same each page =
    page_like HasSame old new page refl
    (record {
      size = same;
      each = λ k d less.
          like_protected rights first count (get_or old k d) (get_or new k d) (each k d less);
    })

own_by : (page : Option Page) → is_own_at page ≡ option_map_or is_own_content (content_in page) false
own_by None = refl
own_by (Some page) = refl

row_by : (page : Option Page) → has_row_in page ≡ option_map_or has_row_content (content_in page) false
row_by None = refl
row_by (Some page) = refl

-- so it is as own as it was, and has its words there as before
pub own_same : (old new : Option Page) → content_in new ≡ content_in old → is_own_at new ≡ is_own_at old
own_same old new same =
    own_by new ∙ ap (λ (c : Option Content). option_map_or is_own_content c false) same ∙ sym (own_by old)

pub row_same : (old new : Option Page) → content_in new ≡ content_in old → has_row_in new ≡ has_row_in old
row_same old new same =
    row_by new ∙ ap (λ (c : Option Content). option_map_or has_row_content c false) same ∙ sym (row_by old)

-- ---- the regions in front of the range, and those behind it

pub ended_before : (page : ℕ) (rs : List Region) (i k : ℕ) (d : Region) → i ≡ index_behind page rs → k < i
    → end_of (get_or rs k d) ≤ page
ended_before page [] i k d is less = absurd (omega (arith, is))
ended_before page (r ∷ rs) zero k d is less = absurd (omega arith)
ended_before page (r ∷ rs) (suc i) zero d is less = (index_passed page r rs i is).0
ended_before page (r ∷ rs) (suc i) (suc k) d is less =
    ended_before page rs i k d (index_passed page r rs i is).1 (omega arith)

pub begins_later : (from : ℕ) (rs : List Region) (i k : ℕ) (d : Region) → AreFrom from rs → i ≤ k → k < length rs
    → (get_or rs i d).first ≤ (get_or rs k d).first
begins_later from [] i k d h le less = absurd (omega arith)
begins_later from (r ∷ rs) zero zero d h le less = let same : r.first ≤ r.first = omega arith in same
begins_later from (r ∷ rs) zero (suc k) d h le less = let first =
    first_from (end_of r) rs k d h.2 (omega arith) in omega (arith, first)
begins_later from (r ∷ rs) (suc i) zero d h le less = absurd (omega arith)
begins_later from (r ∷ rs) (suc i) (suc k) d h le less =
    begins_later (end_of r) rs i k d h.2 (omega arith) (omega arith)
