-- Laws of the pages of an address space: what they have at a number once others are laid, unmapped or protected, and
-- how many there are.
use Rattle.std.proofs.Common.{◌≡◌, ◌≢◌, ℕ, zero, suc, ◌+◌, ◌-◌, ◌<◌, ◌≤◌, Bool, true, false, cond, not, List, [], ◌∷◌}
use Rattle.std.proofs.Common.{◌++◌, length, Option, Some, None, option_map, refl, ap, sym, ◌∙◌, ◌⊎◌, inl, inr, arith}
use Rattle.std.specs.Prelude.{nat_le, nat_lt, is_none}
use Rattle.std.specs.List.{slice_get}
use Rattle.std.specs.Option.{is_some}
use Rattle.std.specs.Ordering.{nat_cmp}
use Rattle.std.specs.Cmp.{nat_cmp_total}
use Rattle.std.specs.FinMap.{get, insert, empty, contains_key, len, get-retain_keys, len-insert}
use Rattle.std.specs.FinMap.{nat_cmp-IsAntisymmetric}
use Rattle.std.proofs.lemmas.Bool.{leb-true, le-leb, lt-leb, ltb-true, lt-ltb, le-ltb, and_parts, and_from, and_left}
use Rattle.std.proofs.lemmas.Bool.{and_right, cases_lt, cases_eq, not_from_true, not_from_false, cond-true, cond-false}
use Rattle.std.proofs.lemmas.Bool.{false≢true}
use Rattle.sn_base.proofs.Maps.{same_by_get, get_of_empty, get-insert_same, get-insert_other}
use Rattle.mm_areas.specs.declared.rights.Rights.{Rights}
use Rattle.mm_areas.specs.Pages.{Mapped, Pages, laid, is_within, unmapped, with_rights, protected_at, protected}
use Rattle.mm_areas.specs.Pages.{is_free, is_covered}

-- ---- a page within a range, or apart from it

pub within_range : (first count q : ℕ) → first ≤ q → q < first + count → is_within first count q ≡ true
within_range first count q low high =
    and_from (nat_le first q) (nat_lt q (first + count)) (le-leb first q low) (lt-ltb q (first + count) high)

pub within_bounds : (first count q : ℕ) → is_within first count q ≡ true → (first ≤ q) × (q < first + count)
within_bounds first count q h =
    let parts = and_parts (nat_le first q) (nat_lt q (first + count)) h in
    (leb-true first q parts.0, ltb-true q (first + count) parts.1)

pub apart_below : (first count q : ℕ) → q < first → is_within first count q ≡ false
apart_below first count q h = and_left (nat_le first q) (nat_lt q (first + count)) (lt-leb first q h)

pub apart_behind : (first count q : ℕ) → first + count ≤ q → is_within first count q ≡ false
apart_behind first count q h = and_right (nat_le first q) (nat_lt q (first + count)) (le-ltb q (first + count) h)

-- a page within a range, one below it or one behind it
pub where_page : (first count q : ℕ) → ((first ≤ q) × (q < first + count) × (is_within first count q ≡ true))
    ⊎ (((q < first) ⊎ (first + count ≤ q)) × (is_within first count q ≡ false))
where_page first count q = elim (cases_lt q first) [
  | inl low ↦ inr (inl low, apart_below first count q low)
  | inr from ↦ elim (cases_lt q (first + count)) [
    | inl high ↦ inl (from, high, within_range first count q from high)
    | inr behind ↦ inr (inr behind, apart_behind first count q behind)
  ]
]

-- ---- pages laid

pub get-laid_in : (first : ℕ) (ms : List Mapped) (pages : Pages) (k q : ℕ) → q ≡ first + k → k < length ms
    → get (laid first ms pages) q ≡ slice_get ms k
get-laid_in first [] pages k q at within = absurd (omega arith)
get-laid_in first (m ∷ ms) pages zero q at within =
    let same : q ≡ first = omega arith in
    ap (get (insert (laid (suc first) ms pages) first m)) same ∙ get-insert_same (laid (suc first) ms pages) first m
get-laid_in first (m ∷ ms) pages (suc k) q at within =
    let other : first ≢ q = omega arith in
    let next : q ≡ suc first + k = omega arith in
    let less : k < length ms = omega arith in
    get-insert_other (laid (suc first) ms pages) first q m other ∙ get-laid_in (suc first) ms pages k q next less

pub get-laid_below : (first : ℕ) (ms : List Mapped) (pages : Pages) (q : ℕ) → q < first
    → get (laid first ms pages) q ≡ get pages q
get-laid_below first [] pages q below = refl
get-laid_below first (m ∷ ms) pages q below =
    let other : first ≢ q = omega arith in
    let next : q < suc first = omega arith in
    get-insert_other (laid (suc first) ms pages) first q m other ∙ get-laid_below (suc first) ms pages q next

pub get-laid_behind : (first : ℕ) (ms : List Mapped) (pages : Pages) (q : ℕ) → first + length ms ≤ q
    → get (laid first ms pages) q ≡ get pages q
get-laid_behind first [] pages q behind = refl
get-laid_behind first (m ∷ ms) pages q behind =
    let other : first ≢ q = omega arith in
    let next : suc first + length ms ≤ q = omega arith in
    get-insert_other (laid (suc first) ms pages) first q m other ∙ get-laid_behind (suc first) ms pages q next

pub get-laid_apart : (first : ℕ) (ms : List Mapped) (pages : Pages) (q : ℕ) → (q < first) ⊎ (first + length ms ≤ q)
    → get (laid first ms pages) q ≡ get pages q
get-laid_apart first ms pages q apart = elim apart [
  | inl below ↦ get-laid_below first ms pages q below
  | inr behind ↦ get-laid_behind first ms pages q behind
]

-- the same at a page of the range
pub get-laid_at : (first : ℕ) (ms : List Mapped) (pages : Pages) (q : ℕ) → first ≤ q → q < first + length ms
    → get (laid first ms pages) q ≡ slice_get ms (q - first)
get-laid_at first ms pages q from to =
    let at : q ≡ first + (q - first) = omega arith in
    let less : q - first < length ms = omega arith in
    get-laid_in first ms pages (q - first) q at less

-- lists laid one behind another
pub laid-append : (first : ℕ) (ms ns : List Mapped) (pages : Pages)
    → laid first (ms ++ ns) pages ≡ laid first ms (laid (first + length ms) ns pages)
laid-append first [] ns pages = let none : first ≡ first + 0 = omega arith in ap (λ (n : ℕ). laid n ns pages) none
laid-append first (m ∷ ms) ns pages =
    let one : suc first + length ms ≡ first + suc (length ms) = omega arith in
    ap (λ (p : Pages). insert p first m) (laid-append (suc first) ms ns pages
    ∙ ap (λ (n : ℕ). laid (suc first) ms (laid n ns pages)) one)

-- two answers for a page, by where it is
by_place : (m n : Pages) (first count q : ℕ) → (first ≤ q → q < first + count → get m q ≡ get n q)
    → ((q < first) ⊎ (first + count ≤ q) → get m q ≡ get n q) → get m q ≡ get n q
by_place m n first count q inside outside = elim (where_page first count q) [
  | inl at ↦ inside at.0 at.1
  | inr at ↦ outside at.0
]

-- what is laid over pages that it covers leaves none of them
pub laid-laid_over : (first : ℕ) (ms : List Mapped) (second : ℕ) (ns : List Mapped) (pages : Pages) → first ≤ second
    → second + length ns ≤ first + length ms → laid first ms (laid second ns pages) ≡ laid first ms pages
laid-laid_over first ms second ns pages from to = same_by_get _ _ (λ q. by_place _ _ first (length ms) q
    (λ low high. get-laid_at first ms (laid second ns pages) q low high ∙ sym (get-laid_at first ms pages q low high))
    (λ apart.
    let far : (q < second) ⊎ (second + length ns ≤ q) =
    elim apart [ inl low ↦ inl (omega arith) | inr high ↦ inr (omega arith) ] in
    get-laid_apart first ms (laid second ns pages) q apart ∙ get-laid_apart second ns pages q far
    ∙ sym (get-laid_apart first ms pages q apart)))

-- what is laid apart may be laid in either order
pub laid-laid_apart : (first : ℕ) (ms : List Mapped) (second : ℕ) (ns : List Mapped) (pages : Pages)
    → (first + length ms ≤ second) ⊎ (second + length ns ≤ first) → laid first ms (laid second ns pages)
    ≡ laid second ns (laid first ms pages)
laid-laid_apart first ms second ns pages apart = same_by_get _ _ (λ q. by_place _ _ first (length ms) q
    (λ low high.
    let far : (q < second) ⊎ (second + length ns ≤ q) =
    elim apart [ inl before ↦ inl (omega arith) | inr behind ↦ inr (omega arith) ] in
    get-laid_at first ms (laid second ns pages) q low high
    ∙ sym (get-laid_apart second ns (laid first ms pages) q far ∙ get-laid_at first ms pages q low high))
    (λ out. get-laid_apart first ms (laid second ns pages) q out
    ∙ by_place (laid second ns pages) (laid second ns (laid first ms pages)) second (length ns) q
    (λ low high. get-laid_at second ns pages q low high ∙ sym (get-laid_at second ns (laid first ms pages) q low high))
    (λ far. get-laid_apart second ns pages q far
    ∙ sym (get-laid_apart second ns (laid first ms pages) q far ∙ get-laid_apart first ms pages q out))))

-- ---- pages unmapped

pub get-unmapped : (first count : ℕ) (pages : Pages) (q : ℕ) → get (unmapped first count pages) q
    ≡ cond (not (is_within first count q)) (get pages q) None
get-unmapped first count pages q =
    get-retain_keys pages (λ page. not (is_within first count page)) q
    (λ x tied. ap (λ (p : ℕ). not (is_within first count p)) (sym (nat_cmp-IsAntisymmetric q x tied)))

pub get-unmapped_in : (first count : ℕ) (pages : Pages) (q : ℕ) → first ≤ q → q < first + count
    → get (unmapped first count pages) q ≡ None
get-unmapped_in first count pages q low high =
    get-unmapped first count pages q
    ∙ cond-false (not (is_within first count q)) (get pages q) None
    (not_from_true (is_within first count q) (within_range first count q low high))

pub get-unmapped_apart : (first count : ℕ) (pages : Pages) (q : ℕ) → (q < first) ⊎ (first + count ≤ q)
    → get (unmapped first count pages) q ≡ get pages q
get-unmapped_apart first count pages q apart = by (is_within first count q) refl
  where
    outside : is_within first count q ≡ false
    outside = elim apart [ inl low ↦ apart_below first count q low | inr high ↦ apart_behind first count q high ]

    by : (b : Bool) → is_within first count q ≡ b → get (unmapped first count pages) q ≡ get pages q
    by b is = get-unmapped first count pages q
        ∙ cond-true (not (is_within first count q)) (get pages q) None
        (not_from_false (is_within first count q) outside)

-- pages of which none is there in the range are as before
pub unmapped_absent : (first count : ℕ) (pages : Pages) → ((q : ℕ) → first ≤ q → q < first + count → get pages q ≡ None)
    → unmapped first count pages ≡ pages
unmapped_absent first count pages none = same_by_get _ _ (λ q. by_place _ _ first count q
    (λ low high. get-unmapped_in first count pages q low high ∙ sym (none q low high))
    (λ apart. get-unmapped_apart first count pages q apart))

pub unmapped-empty : (first count : ℕ) → unmapped first count (empty {X = Mapped} {R = nat_cmp}) ≡ empty
unmapped-empty first count = unmapped_absent first count empty (λ q _ _. get_of_empty q)

pub unmapped-laid_within : (first count second : ℕ) (ms : List Mapped) (pages : Pages) → first ≤ second
    → second + length ms ≤ first + count → unmapped first count (laid second ms pages) ≡ unmapped first count pages
unmapped-laid_within first count second ms pages from to = same_by_get _ _ (λ q. by_place _ _ first count q
    (λ low high. get-unmapped_in first count (laid second ms pages) q low high
    ∙ sym (get-unmapped_in first count pages q low high))
    (λ apart.
    let far : (q < second) ⊎ (second + length ms ≤ q) =
    elim apart [ inl low ↦ inl (omega arith) | inr high ↦ inr (omega arith) ] in
    get-unmapped_apart first count (laid second ms pages) q apart ∙ get-laid_apart second ms pages q far
    ∙ sym (get-unmapped_apart first count pages q apart)))

pub unmapped-laid_apart : (first count second : ℕ) (ms : List Mapped) (pages : Pages) → (second + length ms ≤ first)
    ⊎ (first + count ≤ second) → unmapped first count (laid second ms pages)
    ≡ laid second ms (unmapped first count pages)
unmapped-laid_apart first count second ms pages apart = same_by_get _ _ (λ q. by_place _ _ second (length ms) q
    (λ low high.
    let far : (q < first) ⊎ (first + count ≤ q) =
    elim apart [ inl before ↦ inl (omega arith) | inr behind ↦ inr (omega arith) ] in
    get-unmapped_apart first count (laid second ms pages) q far ∙ get-laid_at second ms pages q low high
    ∙ sym (get-laid_at second ms (unmapped first count pages) q low high))
    (λ out. by_place (unmapped first count (laid second ms pages))
    (laid second ms (unmapped first count pages)) first count q
    (λ low high. get-unmapped_in first count (laid second ms pages) q low high
    ∙ sym (get-laid_apart second ms (unmapped first count pages) q out
    ∙ get-unmapped_in first count pages q low high))
    (λ far. get-unmapped_apart first count (laid second ms pages) q far ∙ get-laid_apart second ms pages q out
    ∙ sym (get-laid_apart second ms (unmapped first count pages) q out
    ∙ get-unmapped_apart first count pages q far))))

-- what is laid takes the places of what is there
pub laid-unmapped : (first : ℕ) (ms : List Mapped) (pages : Pages)
    → laid first ms (unmapped first (length ms) pages) ≡ laid first ms pages
laid-unmapped first ms pages = same_by_get _ _ (λ q. by_place _ _ first (length ms) q
    (λ low high. get-laid_at first ms (unmapped first (length ms) pages) q low high
    ∙ sym (get-laid_at first ms pages q low high))
    (λ apart. get-laid_apart first ms (unmapped first (length ms) pages) q apart
    ∙ get-unmapped_apart first (length ms) pages q apart ∙ sym (get-laid_apart first ms pages q apart)))

-- ---- how many there are

pub len-laid_free : (first : ℕ) (ms : List Mapped) (pages : Pages)
    → ((q : ℕ) → first ≤ q → q < first + length ms → get pages q ≡ None)
    → len (laid first ms pages) ≡ len pages + length ms
len-laid_free first [] pages none = omega arith
len-laid_free first (m ∷ ms) pages none =
    let behind : suc first ≤ suc first = omega arith in
    let below : first < suc first = omega arith in
    let low : first ≤ first = omega arith in
    let high : first < first + suc (length ms) = omega arith in
    let absent : is_some (get (laid (suc first) ms pages) first) ≡ false =
    ap is_some (get-laid_below (suc first) ms pages first below ∙ none first low high) in
    let rest = len-laid_free (suc first) ms pages (λ q from to. none q (omega arith) (omega arith)) in
    len-insert nat_cmp_total (laid (suc first) ms pages) first m
    ∙ cond-false (contains_key (laid (suc first) ms pages) first) (len (laid (suc first) ms pages))
    (len (laid (suc first) ms pages) + 1) absent
    ∙ omega (arith, rest)

pub len-laid : (first : ℕ) (ms : List Mapped) (pages : Pages)
    → len (laid first ms pages) ≡ len (unmapped first (length ms) pages) + length ms
len-laid first ms pages =
    ap len (sym (laid-unmapped first ms pages))
    ∙ len-laid_free first ms (unmapped first (length ms) pages)
    (λ q low high. get-unmapped_in first (length ms) pages q low high)

-- ---- pages with other rights

get-protected_at : (rights : Rights) (page : ℕ) (o : Option Mapped) (pages : Pages) (q : ℕ) → page ≢ q
    → get (protected_at rights page o pages) q ≡ get pages q
get-protected_at rights page None pages q other = refl
get-protected_at rights page (Some m) pages q other = get-insert_other pages page q (with_rights rights m) other

get-protected_here : (rights : Rights) (page : ℕ) (o : Option Mapped) (pages : Pages) → get pages page ≡ o
    → get (protected_at rights page o pages) page ≡ option_map (with_rights rights) o
get-protected_here rights page None pages is = is
get-protected_here rights page (Some m) pages is = get-insert_same pages page (with_rights rights m)

pub get-protected_apart : (rights : Rights) (first count : ℕ) (pages : Pages) (q : ℕ) → (q < first)
    ⊎ (first + count ≤ q) → get (protected rights first count pages) q ≡ get pages q
unfolding protected
get-protected_apart rights first zero pages q apart = refl
get-protected_apart rights first (suc n) pages q apart =
    let other : first ≢ q = elim apart [ inl low ↦ omega arith | inr high ↦ omega arith ] in
    let next : (q < suc first) ⊎ (suc first + n ≤ q) =
    elim apart [ inl low ↦ inl (omega arith) | inr high ↦ inr (omega arith) ] in
    get-protected_at rights first (get pages first) (protected rights (suc first) n pages) q other
    ∙ get-protected_apart rights (suc first) n pages q next

pub get-protected_in : (rights : Rights) (first count : ℕ) (pages : Pages) (q : ℕ) → first ≤ q → q < first + count
    → get (protected rights first count pages) q ≡ option_map (with_rights rights) (get pages q)
unfolding protected
get-protected_in rights first zero pages q low high = absurd (omega arith)
get-protected_in rights first (suc n) pages q low high = elim (cases_eq first q) [
  | inl same ↦
      let below : first < suc first = omega arith in
      let kept = get-protected_apart rights (suc first) n pages first (inl below) in
      ap (get (protected_at rights first (get pages first) (protected rights (suc first) n pages))) (sym same)
      ∙ get-protected_here rights first (get pages first) (protected rights (suc first) n pages) kept
      ∙ ap (λ (k : ℕ). option_map (with_rights rights) (get pages k)) same
  | inr other ↦
      let next : suc first ≤ q = omega arith in
      let to : q < suc first + n = omega arith in
      get-protected_at rights first (get pages first) (protected rights (suc first) n pages) q other
      ∙ get-protected_in rights (suc first) n pages q next to
]

-- ---- ranges that are free, and ranges that are mapped

none_from : {X : Type 0} → (o : Option X) → is_none o ≡ true → o ≡ None
none_from None h = refl
none_from (Some x) h = absurd (false≢true h)

pub is_free_at : (pages : Pages) (first count q : ℕ) → is_free pages first count ≡ true → first ≤ q
    → q < first + count → get pages q ≡ None
unfolding is_free
is_free_at pages first zero q free low high = absurd (omega arith)
is_free_at pages first (suc n) q free low high =
    let parts = and_parts (is_none (get pages first)) (is_free pages (suc first) n) free in
    elim (cases_eq first q) [
      | inl same ↦ ap (get pages) (sym same) ∙ none_from (get pages first) parts.0
      | inr other ↦ is_free_at pages (suc first) n q parts.1 (omega arith) (omega arith)
    ]

pub is_free_from : (pages : Pages) (first count : ℕ) → ((q : ℕ) → first ≤ q → q < first + count → get pages q ≡ None)
    → is_free pages first count ≡ true
unfolding is_free
is_free_from pages first zero none = refl
is_free_from pages first (suc n) none =
    let low : first ≤ first = omega arith in
    let high : first < first + suc n = omega arith in
    and_from (is_none (get pages first)) (is_free pages (suc first) n) (ap is_none (none first low high))
    (is_free_from pages (suc first) n (λ q from to. none q (omega arith) (omega arith)))

pub is_covered_at : (pages : Pages) (first count q : ℕ) → is_covered pages first count ≡ true → first ≤ q
    → q < first + count → contains_key pages q ≡ true
unfolding is_covered
is_covered_at pages first zero q covered low high = absurd (omega arith)
is_covered_at pages first (suc n) q covered low high =
    let parts = and_parts (contains_key pages first) (is_covered pages (suc first) n) covered in
    elim (cases_eq first q) [
      | inl same ↦ ap (contains_key pages) (sym same) ∙ parts.0
      | inr other ↦ is_covered_at pages (suc first) n q parts.1 (omega arith) (omega arith)
    ]

pub is_covered_from : (pages : Pages) (first count : ℕ)
    → ((q : ℕ) → first ≤ q → q < first + count → contains_key pages q ≡ true) → is_covered pages first count ≡ true
unfolding is_covered
is_covered_from pages first zero each = refl
is_covered_from pages first (suc n) each =
    let low : first ≤ first = omega arith in
    let high : first < first + suc n = omega arith in
    and_from (contains_key pages first) (is_covered pages (suc first) n) (each first low high)
    (is_covered_from pages (suc first) n (λ q from to. each q (omega arith) (omega arith)))

-- the pages laid over a free range are so many more
pub len-laid_over_free : (first : ℕ) (ms : List Mapped) (pages : Pages) → is_free pages first (length ms) ≡ true
    → len (laid first ms pages) ≡ len pages + length ms
len-laid_over_free first ms pages free =
    len-laid_free first ms pages (λ q low high. is_free_at pages first (length ms) q free low high)

pub is_free_unmapped : (first count : ℕ) (pages old : Pages) → pages ≡ unmapped first count old
    → is_free pages first count ≡ true
is_free_unmapped first count pages old is =
    is_free_from pages first count (λ q low high. ap (λ (p : Pages). get p q) is
    ∙ get-unmapped_in first count old q low high)
