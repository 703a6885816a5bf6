-- Store-conditionals whose bytes lie in one page that has its bytes for itself.
use Rattle.std.proofs.Common.{◌≡◌, ℕ, ◌/◌, ◌^◌, ◌<◌, Bool, true, false, ◌&&◌, List, Option, refl, ap, ap₂}
use Rattle.std.proofs.Common.{None, sym, ◌∙◌, arith}
use Rattle.std.specs.Bool.{OnTrue, OnFalse}
use Rattle.std.proofs.lemmas.Bool.{false≢true}
use Rattle.std.specs.FinMap as map
use Rattle.rv_atomic.specs.Reservations.{is_held, without}
use Rattle.rv_atomic.specs.declared.reservations.Reservation.{Reservation}
use Rattle.mm_areas.specs.declared.areas.Areas.{Areas}
use Rattle.mm_areas.specs.Mappings.{mapping}
use Rattle.mm_areas.specs.Own.{owns}
use Rattle.mm_areas.specs.Pages.{Mapped, Pages}
use Rattle.mm_space.specs.Accesses.{page_number, page_offset}
use Rattle.mm_space.specs.Conditionals.{ConditionalNear}
use Rattle.mm_space.specs.Handed.{InHand}
use Rattle.mm_space.specs.Places.{area_of_page}
use Rattle.mm_space.specs.Puts.{AllowsNear, StoresNear, after_stored}
use Rattle.mm_space.specs.Reserves.{after_taken, counts_mapped, is_held_at, leave_mapped}
use Rattle.mm_space.specs.Spaces.{AddressSpace, Reach}
use Rattle.mm_space.proofs.NearPuts.{IsPrivatePage, own_page}

and_true : (b : Bool) → (b && true) ≡ b
and_true true = refl
and_true false = refl

module _ (areas : Areas) (was : List Reservation) (task at : ℕ) (small : at < 2 ^ 64)
    (own : owns areas (at / 4096) ≡ true) where
  abbrev pages : Pages
  pages = (mapping areas).pages

  abbrev reaching : List Reservation → List InHand → Reach
  reaching rs hand = record { space = record { mapping = mapping areas; reservations = rs }; hand = hand }

  page : IsPrivatePage areas (at / 4096)
  page = own_page areas (at / 4096) own

  number : page_number at ≡ at / 4096
  number = omega (arith, small)

  -- such a page is no page of a shared area, so that the reservation counts
  counts : (hand : List InHand) → counts_mapped task (page_offset at) (map.get pages (page_number at)) hand ≡ true
  counts hand =
      ap (λ n. counts_mapped task (page_offset at) (map.get pages n) hand) number
      ∙ ap (λ (m : Option Mapped). counts_mapped task (page_offset at) m hand) page.there

  -- and it lies in no area
  in_none : area_of_page (map.get pages (page_number at)) ≡ None
  in_none = ap (λ n. area_of_page (map.get pages n)) number ∙ ap area_of_page page.there

  pub held_there : (width : ℕ) (hand : List InHand)
      → is_held was task at width None ≡ is_held_at task at width (reaching was hand)
  held_there width hand =
      sym (ap₂ (λ area b. is_held was task at width area && b) in_none (counts hand)
      ∙ and_true (is_held was task at width None))

  -- and its end changes nothing in an area
  leaves : (hand : List InHand) → leave_mapped task (map.get pages (page_number at)) hand ≡ hand
  leaves hand =
      ap (λ n. leave_mapped task (map.get pages n) hand) number
      ∙ ap (λ (m : Option Mapped). leave_mapped task m hand) page.there

  pub taken_there : (hand : List InHand) → reaching (without was task) hand ≡ after_taken task at (reaching was hand)
  taken_there hand = ap (reaching (without was task)) (sym (leaves hand))

-- a store-conditional, by what was found and done
pub conditional_done : (held : Bool) (areas : Areas) (was taken : List Reservation) (new : AddressSpace)
    (task at width value : ℕ) → at < 2 ^ 64 → owns areas (at / 4096) ≡ true
    → AllowsNear (record { mapping = mapping areas; reservations = was }) at width
    → held ≡ is_held was task at width None → taken ≡ without was task
    → OnTrue held (StoresNear (record { mapping = mapping areas; reservations = taken }) new task at width value)
    → OnFalse held (new ≡ record { mapping = mapping areas; reservations = taken })
    → ConditionalNear (record { mapping = mapping areas; reservations = was }) new task at width value held
conditional_done true areas was taken new task at width value small own room is ended stored kept = record {
  room = room;
  reserved = λ hand. is ∙ held_there areas was task at small own width hand;
  made = λ hand. (stored hand).1
      ∙ ap (λ (rs : List Reservation). after_stored task at width value
      (record { space = record { mapping = mapping areas; reservations = rs }; hand = hand })) ended
      ∙ ap (after_stored task at width value) (taken_there areas was task at small own hand);
}
conditional_done false areas was taken new task at width value small own room is ended stored kept = record {
  room = room;
  reserved = λ hand. is ∙ held_there areas was task at small own width hand;
  made = λ hand. ap (λ (s : AddressSpace). (let r : Reach = record { space = s; hand = hand } in r)) kept
      ∙ ap (λ (rs : List Reservation). (let r : Reach = record {
        space = record { mapping = mapping areas; reservations = rs };
        hand = hand;
      } in r)) ended
      ∙ taken_there areas was task at small own hand;
}

-- ---- facts of an answer that is known

pub on_true : {X : Type 0} → (b : Bool) → X → OnTrue b X
on_true true x = x
on_true false x = tt

pub on_false : {X : Type 0} → (b : Bool) → X → OnFalse b X
on_false true x = tt
on_false false x = x

pub from_true : {X : Type 0} → (b : Bool) → b ≡ true → OnTrue b X → X
from_true true is x = x
from_true false is x = absurd (false≢true is)

pub not_on_true : (X : Type 0) → (b : Bool) → b ≡ false → OnTrue b X
not_on_true X true is = absurd (false≢true (sym is))
not_on_true X false is = tt

pub not_on_false : (X : Type 0) → (b : Bool) → b ≡ true → OnFalse b X
not_on_false X true is = tt
not_on_false X false is = absurd (false≢true is)
