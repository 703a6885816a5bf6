-- Areas in hand that are those of a state, and one more of them.
use Rattle.std.proofs.Common.{◌≡◌, Bool, true, false, List, [], ◌∷◌, ◌++◌, Option, Some, None, refl, ap, ap₂}
use Rattle.std.proofs.Common.{sym, ◌∙◌, eqb-true, eq-eqb}
use Rattle.std.specs.Prelude.{◌==◌, if◌then◌else◌}
use Rattle.std.proofs.lemmas.Bool.{and_from, and_parts}
use Rattle.rv_table.specs.Areas.{is_area}
use Rattle.rv_table.specs.declared.error.Area.{Area}
use Rattle.mm_space.specs.Handed.{AreaState, InHand, area_in}
use Rattle.kernel_model.specs.declared.kernel.Part.TheVariants.{OfArea}
use Rattle.kernel_model.specs.entries.Parts.{Parts}

-- names that are alike are one
pub area_is : (a b : Area) → is_area a b ≡ true → a ≡ b
area_is a b same =
    let both : ((a.place == b.place) ≡ true) × ((a.index == b.index) ≡ true) =
    and_parts (a.place == b.place) (a.index == b.index) same in
    ap₂ (λ place index. record { place = place; index = index }) (eqb-true a.place b.place both.0)
    (eqb-true a.index b.index both.1)

pub area_itself : (a : Area) → is_area a a ≡ true
area_itself a =
    and_from (a.place == a.place) (a.index == a.index) (eq-eqb a.place a.place refl) (eq-eqb a.index a.index refl)

-- an area more in hand
abbrev pub with_one : List InHand → Area → AreaState → List InHand
with_one hand name state = hand ++ record { name = name; state = state } ∷ []

abbrev pub or_one : Option AreaState → Bool → AreaState → Option AreaState
or_one (Some found) same state = Some found
or_one None same state = if same then Some state else None

pub area_in_more : (hand : List InHand) (name other : Area) (state : AreaState)
    → area_in other (with_one hand name state) ≡ or_one (area_in other hand) (is_area name other) state
area_in_more [] name other state = refl
area_in_more (h ∷ hand) name other state = by (is_area h.name other) (area_in_more hand name other state)
  where
    by : (b : Bool)
        → area_in other (with_one hand name state) ≡ or_one (area_in other hand) (is_area name other) state
        → (if b then Some h.state else area_in other (with_one hand name state))
        ≡ or_one (if b then Some h.state else area_in other hand) (is_area name other) state
    by true rest = refl
    by false rest = rest

-- what is in hand is as the state has it
abbrev pub AreOf : Parts → List InHand → Type 0
AreOf s hand = (name : Area) (state : AreaState) → area_in name hand ≡ Some state → s (OfArea name) ≡ Some state

pub of_none : (s : Parts) → AreOf s []
of_none s name state e = absurd (cc e)

pub of_more : (s : Parts) (hand : List InHand) (name : Area) (state : AreaState) → AreOf s hand
    → s (OfArea name) ≡ Some state → AreOf s (with_one hand name state)
of_more s hand name state are there other found e =
    by (area_in other hand) (is_area name other) refl refl (sym (area_in_more hand name other state) ∙ e)
  where
    by : (o : Option AreaState) (b : Bool) → area_in other hand ≡ o → is_area name other ≡ b
        → or_one o b state ≡ Some found → s (OfArea other) ≡ Some found
    by (Some x) b is same h = are other found (is ∙ h)
    by None true is same h = ap (λ n. s (OfArea n)) (sym (area_is name other same)) ∙ there ∙ h
    by None false is same h = absurd (cc h)
