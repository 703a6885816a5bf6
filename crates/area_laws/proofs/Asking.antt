-- What is tried, where each ask is for an area that is there, is not in hand, and leaves fewer to ask for.
use Rattle.std.proofs.Common.{◌≡◌, ℕ, zero, suc, ◌<◌, ◌≤◌, List, Some, None, refl, ap, sym, ◌∙◌, arith}
use Rattle.rv_table.specs.declared.error.Area.{Area}
use Rattle.mm_space.specs.Handed.{AreaState, InHand, area_in}
use Rattle.kernel_model.specs.declared.kernel.Part.TheVariants.{OfArea}
use Rattle.std.proofs.Common.{cond}
use Rattle.std.specs.Prelude.{is_some}
use Rattle.kernel_model.specs.entries.Areas.{Tried, Comes, Asks, asked, handed_in, tried_with}
use Rattle.kernel_model.specs.entries.Parts.{Parts, done, look, outcome_in}
use Rattle.guest_access.proofs.Tries.{comes_at_once}
use Rattle.area_laws.proofs.Hands.{AreOf, of_more, with_one}

-- what asks for an area that is there and not in hand is tried again with it
tried_again : {A : Type 0} (try : List InHand → Tried A) (lacking : A) (hand : List InHand) (s : Parts) (area : Area)
    → try hand ≡ Asks area → (n : ℕ) (state : AreaState) → area_in area hand ≡ None → s (OfArea area) ≡ Some state
    → outcome_in s (tried_with try lacking (suc n) hand)
    ≡ outcome_in s (tried_with try lacking n (with_one hand area state))
unfolding tried_with
tried_again try lacking hand s area asks n state unasked there =
    ap (λ t. outcome_in s (asked lacking (tried_with try lacking n) hand t)) asks
    ∙ ap (λ o. outcome_in s (cond (is_some o) (done lacking)
    (look (OfArea area) (handed_in lacking (tried_with try lacking n) hand area)))) unasked
    ∙ ap (λ o. outcome_in s (handed_in lacking (tried_with try lacking n) hand area o)) there

module _ {A : Type 0} (s : Parts) (try : List InHand → Tried A) (left : List InHand → ℕ) where
  -- an area that is asked for is there, is not in hand, and leaves fewer
  pub record Fewer (hand : List InHand) (area : Area) : Type 0 where
    pub unasked : area_in area hand ≡ None
    pub state : AreaState
    pub there : s (OfArea area) ≡ Some state
    pub fewer : left (with_one hand area state) < left hand

  abbrev pub AsksWell : Type 0
  AsksWell = (hand : List InHand) → AreOf s hand → (area : Area) → try hand ≡ Asks area → Fewer hand area

  -- it comes to that with some areas of the state in hand
  pub record ComesTo (outcome : A) : Type 0 where
    pub hand : List InHand
    pub are : AreOf s hand
    pub comes : try hand ≡ Comes outcome

  pub record ComesAlike (lacking other : A) (most : ℕ) (hand : List InHand) : Type 0 where
    pub comes : ComesTo (outcome_in s (tried_with try lacking most hand))
    pub alike : outcome_in s (tried_with try other most hand) ≡ outcome_in s (tried_with try lacking most hand)

  comes_now : (lacking other : A) (most : ℕ) (hand : List InHand) (a : A) → AreOf s hand → try hand ≡ Comes a
      → ComesAlike lacking other most hand
  comes_now lacking other most hand a are e =
      let here : outcome_in s (tried_with try lacking most hand) ≡ a = comes_at_once try lacking hand s most a e in
      record {
        comes = record { hand = hand; are = are; comes = e ∙ ap Comes (sym here) };
        alike = comes_at_once try other hand s most a e ∙ sym here;
      }

  pub comes_alike : AsksWell → (lacking other : A) (most : ℕ) (hand : List InHand) → AreOf s hand → left hand ≤ most
      → ComesAlike lacking other most hand
  comes_alike well lacking other zero hand are few = by (try hand) refl
    where
      by : (t : Tried A) → try hand ≡ t → ComesAlike lacking other zero hand
      by (Comes a) e = comes_now lacking other zero hand a are e
      by (Asks area) e =
          let f : Fewer hand area = well hand are area e in
          let h : left (with_one hand area f.state) < left hand = f.fewer in absurd (omega (arith, few, h))
  comes_alike well lacking other (suc n) hand are few =
      by (try hand) refl (λ more are_more. comes_alike well lacking other n more are_more)
    where
      by : (t : Tried A) → try hand ≡ t
          → ((more : List InHand) → AreOf s more → left more ≤ n → ComesAlike lacking other n more)
          → ComesAlike lacking other (suc n) hand
      by (Comes a) e again = comes_now lacking other (suc n) hand a are e
      by (Asks area) e again =
          let f : Fewer hand area = well hand are area e in
          let h : left (with_one hand area f.state) < left hand = f.fewer in
          let rest : ComesAlike lacking other n (with_one hand area f.state) =
          again (with_one hand area f.state) (of_more s hand area f.state are f.there) (omega (arith, few, h)) in
          let here = tried_again try lacking hand s area e n f.state f.unasked f.there in
          record {
            comes = record { hand = rest.comes.hand; are = rest.comes.are; comes = rest.comes.comes ∙ ap Comes (sym here) };
            alike = tried_again try other hand s area e n f.state f.unasked f.there ∙ rest.alike ∙ sym here;
          }
