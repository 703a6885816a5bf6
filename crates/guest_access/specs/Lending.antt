-- Shared areas that are handed in, and taken back.
use Rattle.std.specs.Prelude.{◌≡◌, ⊤, ℕ, List, [], ◌∷◌, ◌++◌, map, Some, None, IsTrue}
use Rattle.rv_table.specs.declared.error.Area.{Area}
use Rattle.mm_space.specs.Handed.{AreaState, InHand, area_in, zero_area}
use Rattle.kernel_model.specs.Names.{NamedMap, get_named, has_named, with_named}
use Rattle.kernel_model.specs.declared.kernel.Part.TheVariants.{OfArea}
use Rattle.kernel_model.specs.entries.Parts.{Parts}

-- areas with those in hand put back in their places, the last of them first
-- profile
abbrev pub with_hand : List InHand → NamedMap AreaState → NamedMap AreaState
with_hand [] areas = areas
with_hand (h ∷ hand) areas = with_named (with_hand hand areas) h.name.place h.name.index h.state

-- each area in hand has its place among these
-- profile
abbrev pub AreThere : List InHand → NamedMap AreaState → Type 0
AreThere [] areas = ⊤
AreThere (h ∷ hand) areas = IsTrue (has_named areas h.name.place h.name.index) × AreThere hand areas

-- the names of those in hand
-- profile
abbrev pub names : List InHand → List Area
names hand = map (λ (h : InHand). h.name) hand

-- the shared areas of a state are these
-- profile
abbrev pub AreThose : Parts → NamedMap AreaState → Type 0
AreThose s areas = (name : Area) → s (OfArea name) ≡ get_named areas name.place name.index

-- two maps of areas have the same under each name
-- profile
abbrev pub AreAlike : (areas other : NamedMap AreaState) → Type 0
AreAlike areas other = (place index : ℕ) → get_named areas place index ≡ get_named other place index

-- an area was taken from its place, where one without a page is now, and is in hand behind the others
-- profile
pub record IsLent (name : Area) (hand hand' : List InHand) (areas areas' : NamedMap AreaState) : Type 0 where
  pub state : AreaState
  pub unasked : area_in name hand ≡ None
  pub there : get_named areas name.place name.index ≡ Some state
  pub handed : hand' ≡ hand ++ record { name = name; state = state } ∷ []
  pub left : areas' ≡ with_named areas name.place name.index (zero_area 0)
