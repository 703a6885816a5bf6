-- What is tried with more and more shared areas in hand.
use Rattle.std.proofs.Common.{◌≡◌, ◌≢◌, ℕ, zero, suc, Bool, true, false, cond, List, [], ◌∷◌, ◌++◌, Option, Some, None}
use Rattle.std.proofs.Common.{refl, ap, sym, ◌∙◌, ◌⊎◌, inl, inr}
use Rattle.std.specs.Prelude.{is_some}
use Rattle.rv_table.specs.declared.error.Area.{Area}
use Rattle.mm_space.specs.Handed.{AreaState, InHand, area_in}
use Rattle.kernel_model.specs.Names.{NamedMap, get_named}
use Rattle.kernel_model.specs.declared.kernel.Part.TheVariants.{OfArea}
use Rattle.kernel_model.specs.entries.Areas.{Tried, Comes, Asks, handed_in, asked, comes_to, tried_with}
use Rattle.kernel_model.specs.entries.Parts.{Parts, done, look, outcome_in}
use Rattle.guest_access.specs.Lending.{AreThere, AreThose, IsLent, with_hand}
use Rattle.guest_access.proofs.Lendings.{get_unasked, lent_more}

module _ {A : Type 0} (try : List InHand → Tried A) (lacking : A) (hand : List InHand) (s : Parts) where
  -- what asks for no area comes to what it is
  pub comes_at_once : (most : ℕ) (a : A) → try hand ≡ Comes a → outcome_in s (tried_with try lacking most hand) ≡ a
  unfolding tried_with
  comes_at_once zero a e = ap (comes_to lacking) e
  comes_at_once (suc n) a e = ap (λ t. outcome_in s (asked lacking (tried_with try lacking n) hand t)) e

  module _ (area : Area) (asks : try hand ≡ Asks area) where
    -- what asks for an area and may have no more is lacking
    pub lacks_more : (most : ℕ) → most ≡ 0 → outcome_in s (tried_with try lacking most hand) ≡ lacking
    unfolding tried_with
    lacks_more zero e = ap (comes_to lacking) asks
    lacks_more (suc n) e = absurd (cc e)

    abbrev looks : (n : ℕ) → Bool → A
    looks n b =
        outcome_in s (cond b (done lacking)
        (look (OfArea area) (handed_in lacking (tried_with try lacking n) hand area)))

    asks_more : (n : ℕ) → outcome_in s (tried_with try lacking (suc n) hand) ≡ looks n (is_some (area_in area hand))
    unfolding tried_with
    asks_more n = ap (λ t. outcome_in s (asked lacking (tried_with try lacking n) hand t)) asks

    -- one that is in hand, or isn't there, is lacking
    lacks_area : (n : ℕ) → (is_some (area_in area hand) ≡ true) ⊎ (s (OfArea area) ≡ None)
        → outcome_in s (tried_with try lacking (suc n) hand) ≡ lacking
    lacks_area n (inl has) = asks_more n ∙ ap (looks n) has
    lacks_area n (inr none) = asks_more n ∙ by (is_some (area_in area hand))
      where
        by : (b : Bool) → looks n b ≡ lacking
        by true = refl
        by false = ap (λ o. outcome_in s (handed_in lacking (tried_with try lacking n) hand area o)) none

    -- and with one that is there it is tried again
    tries_again : (n : ℕ) (state : AreaState) → area_in area hand ≡ None → s (OfArea area) ≡ Some state
        → outcome_in s (tried_with try lacking (suc n) hand)
        ≡ outcome_in s (tried_with try lacking n (hand ++ record { name = area; state = state } ∷ []))
    tries_again n state unasked there =
        asks_more n
        ∙ ap (λ o. looks n (is_some o)) unasked
        ∙ ap (λ o. outcome_in s (handed_in lacking (tried_with try lacking n) hand area o)) there

    -- ---- where the state has all areas in their places

    module _ (areas : NamedMap AreaState) (those : AreThose s (with_hand hand areas)) where
      pub lacks_there : (most : ℕ) → most ≢ 0
          → (is_some (area_in area hand) ≡ true) ⊎ (get_named areas area.place area.index ≡ None)
          → outcome_in s (tried_with try lacking most hand) ≡ lacking
      lacks_there zero more none = absurd (more refl)
      lacks_there (suc n) more (inl has) = lacks_area n (inl has)
      lacks_there (suc n) more (inr none) = by (area_in area hand) refl
        where
          by : (o : Option AreaState) → area_in area hand ≡ o
              → outcome_in s (tried_with try lacking (suc n) hand) ≡ lacking
          by (Some state) e = lacks_area n (inl (ap is_some e))
          by None e = lacks_area n (inr (those area ∙ get_unasked hand area areas e ∙ none))

      pub tries_lent : (lent : List InHand) (left : NamedMap AreaState) → IsLent area hand lent areas left
          → (most less : ℕ) → most ≡ suc less
          → outcome_in s (tried_with try lacking most hand) ≡ outcome_in s (tried_with try lacking less lent)
      tries_lent lent left is most less e =
          ap (λ m. outcome_in s (tried_with try lacking m hand)) e
          ∙ tries_again less is.state is.unasked (those area ∙ get_unasked hand area areas is.unasked ∙ is.there)
          ∙ ap (λ h. outcome_in s (tried_with try lacking less h)) (sym is.handed)

-- what is in hand with one more is put back over the same
pub back_lent : (area : Area) (hand lent : List InHand) (areas left : NamedMap AreaState) → AreThere hand areas
    → IsLent area hand lent areas left → with_hand lent left ≡ with_hand hand areas
back_lent area hand lent areas left there is =
    (lent_more area hand lent areas left (with_hand hand areas) is (record { there = there; back = refl })).back

pub those_same : (s : Parts) (areas other : NamedMap AreaState) → other ≡ areas → AreThose s areas → AreThose s other
those_same s areas other same those name =
    those name ∙ ap (λ (m : NamedMap AreaState). get_named m name.place name.index) (sym same)
