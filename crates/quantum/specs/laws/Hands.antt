-- The area of a name among those in hand, where one of them has changed.
use Rattle.std.proofs.Common.{◌≡◌, ◌==◌, Bool, true, false, ◌&&◌, List, [], ◌∷◌, Option, Some, None, refl, ap, ap₂, sym}
use Rattle.std.proofs.Common.{◌∙◌, eq-eqb, eqb-true}
use Rattle.std.specs.Prelude.{if◌then◌else◌, option_map}
use Rattle.std.proofs.lemmas.Bool.{and_from, and_parts, both_ways}
use Rattle.rv_table.specs.Areas.{is_area}
use Rattle.rv_table.specs.declared.error.Area.{Area}
use Rattle.rv_atomic.specs.Reservations.{is_same_area}
use Rattle.mm_space.specs.Handed.{AreaState, InHand, area_in}
use Rattle.mm_space.specs.Puts.{changed_in_hand, with_area}

-- names of one area are alike, and alike names are of one area
parts : (a b : Area) → is_area a b ≡ true → (a.place ≡ b.place) × (a.index ≡ b.index)
parts a b same =
    let both : ((a.place == b.place) ≡ true) × ((a.index == b.index) ≡ true) = and_parts _ _ same in
    (eqb-true a.place b.place both.0, eqb-true a.index b.index both.1)

whole : (a b : Area) → a.place ≡ b.place → a.index ≡ b.index → is_area a b ≡ true
whole a b place index =
    and_from (a.place == b.place) (a.index == b.index) (eq-eqb a.place b.place place) (eq-eqb a.index b.index index)

pub area_itself : (name : Area) → is_area name name ≡ true
area_itself name = whole name name refl refl

-- a page lies in the area that it lies in
pub same_area_itself : (area : Option Area) → is_same_area area area ≡ true
same_area_itself None = refl
same_area_itself (Some name) = area_itself name

-- two names of one area are of a third both or neither
named_alike : (a b c : Area) → is_area a b ≡ true → is_area a c ≡ is_area b c
named_alike a b c same =
    let both : (a.place ≡ b.place) × (a.index ≡ b.index) = parts a b same in
    ap₂ (λ place index. (place == c.place) && (index == c.index)) both.0 both.1

named_apart : (a b c : Area) → is_area a b ≡ false → is_area a c ≡ true → is_area b c ≡ true → ⊥
named_apart a b c apart first second =
    let one : (a.place ≡ c.place) × (a.index ≡ c.index) = parts a c first in
    let two : (b.place ≡ c.place) × (b.index ≡ c.index) = parts b c second in
    both_ways (is_area a b) apart (whole a b (one.0 ∙ sym two.0) (one.1 ∙ sym two.1))

-- a state that has changed where a test says so
-- profile
abbrev pub changed_if : Bool → (AreaState → AreaState) → Option AreaState → Option AreaState
changed_if same change state = if same then option_map change state else state

none_stays : (same : Bool) (change : AreaState → AreaState) → None ≡ changed_if same change None
none_stays true change = refl
none_stays false change = refl

pub area_in_changed : (name other : Area) (change : AreaState → AreaState) (hand : List InHand)
    → area_in other (with_area name change hand) ≡ changed_if (is_area name other) change (area_in other hand)
area_in_changed name other change [] = none_stays (is_area name other) change
area_in_changed name other change (h ∷ hs) = by (is_area h.name name) refl (area_in_changed name other change hs)
  where
    rest : Option AreaState
    rest = area_in other hs

    -- what the name has, where the first is its own or isn't
    found : Bool → Option AreaState
    found own = if own then Some h.state else rest

    this : (own : Bool) → (if own then Some (change h.state) else rest) ≡ changed_if own change (found own)
    this true = refl
    this false = refl

    later : (own same : Bool) → is_area h.name other ≡ own → is_area name other ≡ same
        → is_area h.name name ≡ false
        → (if own then Some h.state else changed_if same change rest) ≡ changed_if same change (found own)
    later true true is is_same apart = absurd (named_apart h.name name other apart is is_same)
    later true false is is_same apart = refl
    later false true is is_same apart = refl
    later false false is is_same apart = refl

    by : (first : Bool) → is_area h.name name ≡ first
        → area_in other (with_area name change hs) ≡ changed_if (is_area name other) change rest
        → area_in other (if first then changed_in_hand change h ∷ hs else h ∷ with_area name change hs)
        ≡ changed_if (is_area name other) change (found (is_area h.name other))
    by true first tail =
        this (is_area h.name other)
        ∙ ap (λ (same : Bool). changed_if same change (found (is_area h.name other)))
        (named_alike h.name name other first)
    by false first tail =
        ap (λ (state : Option AreaState). if is_area h.name other then Some h.state else state) tail
        ∙ later (is_area h.name other) (is_area name other) refl refl first
