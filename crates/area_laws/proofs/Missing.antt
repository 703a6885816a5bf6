-- How many of some pages lie in areas that are not in hand.
use Rattle.std.proofs.Common.{◌≡◌, ℕ, zero, suc, ◌+◌, ◌%◌, ◌/◌, ◌^◌, ◌<◌, ◌≤◌, Bool, true, false, List, [], ◌∷◌}
use Rattle.std.proofs.Common.{◌++◌, length, Option, Some, None, refl, ap, sym, ◌∙◌, ◌⊎◌, inl, inr, arith}
use Rattle.std.specs.Prelude.{is_none, if◌then◌else◌}
use Rattle.std.proofs.Common.{subst}
use Rattle.std.proofs.lemmas.Bool.{cases_eq}
use Rattle.std.specs.FinMap as map
use Rattle.rv_table.specs.Areas.{is_area}
use Rattle.rv_table.specs.Bytes.{behind}
use Rattle.rv_table.specs.declared.error.Area.{Area}
use Rattle.mm_space.specs.Accesses.{page_number}
use Rattle.mm_space.specs.Handed.{AreaState, InHand, area_in}
use Rattle.mm_space.specs.Places.{area_of_page}
use Rattle.mm_space.specs.Spaces.{AddressSpace}
use Rattle.area_laws.proofs.Bytes.{later}
use Rattle.area_laws.proofs.Hands.{area_in_more, area_itself, or_one, with_one}

-- ---- pages

-- so many pages from one on, as their numbers go round
abbrev pub pages_from : (first count : ℕ) → List ℕ
pages_from first zero = []
pages_from first (suc n) = (first + n) % 2 ^ 52 ∷ pages_from first n

abbrev pub IsPageOf : ℕ → List ℕ → Type 0
IsPageOf page [] = ⊥
IsPageOf page (p ∷ ps) = (page ≡ p) ⊎ IsPageOf page ps

pub front_page : (page : ℕ) (ps qs : List ℕ) → IsPageOf page ps → IsPageOf page (ps ++ qs)
front_page page [] qs is = absurd is
front_page page (p ∷ ps) qs (inl e) = inl e
front_page page (p ∷ ps) qs (inr is) = inr (front_page page ps qs is)

pub back_page : (page : ℕ) (ps qs : List ℕ) → IsPageOf page qs → IsPageOf page (ps ++ qs)
back_page page [] qs is = is
back_page page (p ∷ ps) qs is = inr (back_page page ps qs is)

among_pages : (first q count : ℕ) → q < count → IsPageOf ((first + q) % 2 ^ 52) (pages_from first count)
among_pages first q zero h = absurd (omega (arith, h))
among_pages first q (suc n) h = by (λ before. among_pages first q n before) (cases_eq q n)
  where
    by : (q < n → IsPageOf ((first + q) % 2 ^ 52) (pages_from first n)) → (q ≡ n) ⊎ (q ≡ n → ⊥)
        → IsPageOf ((first + q) % 2 ^ 52) (pages_from first (suc n))
    by before (inl e) = inl (ap (λ x. (first + x) % 2 ^ 52) e)
    by before (inr d) = inr (before (omega (arith, h, d)))

later_round : (steps at : ℕ) → later steps at % 2 ^ 64 ≡ (at + steps) % 2 ^ 64
later_round zero at = ap (λ x. x % 2 ^ 64) (omega arith)
later_round (suc j) at = later_round j (behind at) ∙ (omega arith)

-- the page of a byte is one of those from the first byte's on
pub page_within : (at steps most count : ℕ) → steps < most → (4094 + most) / 4096 < count
    → IsPageOf (page_number (later steps at)) (pages_from (page_number at) count)
page_within at steps most count within few =
    let q : ℕ = (at % 2 ^ 64 % 4096 + steps) / 4096 in
    let same : page_number (later steps at) ≡ (page_number at + q) % 2 ^ 52 =
    ap (λ x. x / 4096) (later_round steps at) ∙ omega arith in
    let small : q < count = omega (arith, within, few) in
    subst (λ (page : ℕ). IsPageOf page (pages_from (page_number at) count)) (sym same)
    (among_pages (page_number at) q count small)

-- ---- those that lack an area

module _ (space : AddressSpace) where
  abbrev count_missing : List InHand → Option Area → ℕ
  count_missing hand None = 0
  count_missing hand (Some name) = if is_none (area_in name hand) then 1 else 0

  abbrev pub missing : List ℕ → List InHand → ℕ
  missing [] hand = 0
  missing (p ∷ ps) hand = count_missing hand (area_of_page (map.get space.mapping.pages p)) + missing ps hand

  at_most_one : (hand : List InHand) (o : Option Area) → count_missing hand o ≤ 1
  at_most_one hand None = omega arith
  at_most_one hand (Some name) = by (is_none (area_in name hand))
    where
      by : (b : Bool) → (if b then 1 else 0) ≤ 1
      by true = omega arith
      by false = omega arith

  pub missing_few : (ps : List ℕ) (hand : List InHand) → missing ps hand ≤ length ps
  missing_few [] hand = omega arith
  missing_few (p ∷ ps) hand =
      let one = at_most_one hand (area_of_page (map.get space.mapping.pages p)) in
      let rest = missing_few ps hand in omega (arith, one, rest)

  module _ (hand : List InHand) (name : Area) (state : AreaState) where
    fewer_by : (o : Option Area) → count_missing (with_one hand name state) o ≤ count_missing hand o
    fewer_by None = omega arith
    fewer_by (Some other) = by (area_in other hand) (is_area name other) (area_in_more hand name other state) refl
      where
        by : (o : Option AreaState) (b : Bool)
            → area_in other (with_one hand name state) ≡ or_one (area_in other hand) (is_area name other) state
            → area_in other hand ≡ o
            → count_missing (with_one hand name state) (Some other) ≤ count_missing hand (Some other)
        by None b e h =
            let here : count_missing hand (Some other) ≡ 1 =
            ap (λ x. if is_none x then 1 else 0) h in
            let one = at_most_one (with_one hand name state) (Some other) in omega (arith, here, one)
        by (Some x) b e h =
            let there : count_missing (with_one hand name state) (Some other) ≡ 0 =
            ap (λ y. if is_none y then 1 else 0) (e ∙ ap (λ y. or_one y (is_area name other) state) h) in
            omega (arith, there)

    no_more : (ps : List ℕ) → missing ps (with_one hand name state) ≤ missing ps hand
    no_more [] = omega arith
    no_more (p ∷ ps) =
        let one = fewer_by (area_of_page (map.get space.mapping.pages p)) in
        let rest = no_more ps in omega (arith, one, rest)

    -- with an area more fewer are missing, where a page lies in it
    pub fewer_missing : (page : ℕ) (ps : List ℕ) → area_of_page (map.get space.mapping.pages page) ≡ Some name
        → area_in name hand ≡ None → IsPageOf page ps
        → missing ps (with_one hand name state) < missing ps hand
    fewer_missing page [] lies none is = absurd is
    fewer_missing page (p ∷ ps) lies none (inl e) =
        let here : count_missing hand (area_of_page (map.get space.mapping.pages p)) ≡ 1 =
        ap (λ x. count_missing hand (area_of_page (map.get space.mapping.pages x))) (sym e)
        ∙ ap (count_missing hand) lies ∙ ap (λ x. if is_none x then 1 else 0) none in
        let there : count_missing (with_one hand name state) (area_of_page (map.get space.mapping.pages p)) ≡ 0 =
        ap (λ x. count_missing (with_one hand name state) (area_of_page (map.get space.mapping.pages x))) (sym e)
        ∙ ap (count_missing (with_one hand name state)) lies
        ∙ ap (λ x. if is_none x then 1 else 0)
        (area_in_more hand name name state ∙ ap (λ x. or_one x (is_area name name) state) none
        ∙ ap (λ b. or_one None b state) (area_itself name)) in
        let rest = no_more ps in omega (arith, here, there, rest)
    fewer_missing page (p ∷ ps) lies none (inr is) =
        let one = fewer_by (area_of_page (map.get space.mapping.pages p)) in
        let rest = fewer_missing page ps lies none is in omega (arith, one, rest)
