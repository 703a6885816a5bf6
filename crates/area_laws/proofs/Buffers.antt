-- A buffer of at most 65,536 bytes.
use Rattle.std.proofs.Common.{◌≡◌, ℕ, ◌≤◌, List, [], Option, Some, None, ap, sym, ◌∙◌, arith, subst}
use Rattle.std.specs.Prelude.{◌<◌, is_some, IfSome, unwrap_or}
use Rattle.rv_table.specs.declared.error.Area.{Area}
use Rattle.rv_table.specs.Bytes.{Accessed, Value, Fault, Shared, loaded}
use Rattle.mm_areas.specs.declared.rights.Rights.{Rights}
use Rattle.mm_space.specs.Accesses.{byte_at, page_number}
use Rattle.mm_space.specs.Handed.{InHand, area_in}
use Rattle.kernel_model.specs.declared.kernel.Part.TheVariants.{OfArea}
use Rattle.mm_space.specs.Spaces.{AddressSpace}
use Rattle.kernel_model.specs.machine.Spaces.{reach_with}
use Rattle.kernel_model.specs.entries.Areas.{Tried, Comes, Asks, access_row, access_tried, if_allowed, trying}
use Rattle.kernel_model.specs.entries.Areas.{comes_to}
use Rattle.kernel_model.specs.entries.Parts.{Parts, outcome_in}
use Rattle.area_laws.specs.Whole.{AreAll, HasAreas, is_value}
use Rattle.area_laws.proofs.Bytes.{LoadsNear, Same, Asking, later, loads_near, near, never_shared}
use Rattle.area_laws.proofs.Hands.{AreOf, of_none, with_one}
use Rattle.area_laws.proofs.Missing.{fewer_missing, missing, missing_few, page_within, pages_from}
use Rattle.area_laws.proofs.Asking.{AsksWell, ComesAlike, Fewer, comes_alike}

comes_is : {A : Type 0} {a b : A} → Comes a ≡ Comes b → a ≡ b
comes_is {A} {a} {b} e = ap (λ t. comes_to a t) e

some_is : {A : Type 0} {a b : A} → Some a ≡ Some b → a ≡ b
some_is {A} {a} {b} e = ap (λ o. unwrap_or o a) e

module _ (s : Parts) (right : Rights) (space : AddressSpace) (at count : ℕ) (all : List InHand)
    (whole : HasAreas s space) (every : AreAll s all) (few : count ≤ 65536) where
  abbrev try : List InHand → Tried (Option (List InHand))
  try = access_tried right space at count

  abbrev seen : List InHand → Accessed
  seen hand = loaded (byte_at right (reach_with space hand)) at count

  abbrev left : List InHand → ℕ
  left hand = missing space (pages_from (page_number at) 17) hand

  bytes_near : (hand : List InHand) → AreOf s hand
      → LoadsNear s space hand (byte_at right (reach_with space hand)) (byte_at right (reach_with space all)) at
      count
  bytes_near hand are =
      loads_near s space hand all (byte_at right (reach_with space hand)) (byte_at right (reach_with space all))
      (λ address. near s space hand all are whole every right address) at count

  -- what comes to something comes to the same with all,
  allowed_is : (accessed : Accessed) (hand : List InHand) (o : Option (List InHand))
      → if_allowed hand accessed ≡ Comes o → is_some o ≡ is_value accessed
  allowed_is (Value number) hand o e = ap is_some (sym (comes_is e))
  allowed_is (Fault address) hand o e = ap is_some (sym (comes_is e))
  allowed_is (Shared area) hand o e = absurd (cc e)

  well : AsksWell s try left
  well hand are area asks = by (bytes_near hand are)
    where
      asks_for : (accessed : Accessed) → if_allowed hand accessed ≡ Asks area → accessed ≡ Shared area
      asks_for (Value number) e = absurd (cc e)
      asks_for (Fault address) e = absurd (cc e)
      asks_for (Shared other) e = ap Shared (cc e)

      by : LoadsNear s space hand (byte_at right (reach_with space hand)) (byte_at right (reach_with space all)) at
          count → Fewer s try left hand area
      by (Same e) =
          absurd (never_shared s space hand all (byte_at right (reach_with space hand))
          (byte_at right (reach_with space all)) (λ address. near s space hand all are whole every right address) at
          count area (sym e ∙ asks_for (seen hand) asks))
      by (Asking name value e lacks g) =
          let same : name ≡ area = cc (sym e ∙ asks_for (seen hand) asks) in
          let l = lacks.lacks in
          record {
            unasked = ap (λ n. area_in n hand) (sym same) ∙ l.unasked;
            state = l.state;
            there = ap (λ n. s (OfArea n)) (sym same) ∙ l.there;
            fewer =
                subst (λ (n : Area). left (with_one hand n l.state) < left hand) same
                (fewer_missing space hand name l.state (page_number (later lacks.steps at))
                (pages_from (page_number at) 17) l.lies l.unasked
                (page_within at lacks.steps count 17 lacks.within (omega (arith, few))));
          }

  all_tried : (lacking other : Option (List InHand)) → ComesAlike s try left lacking other 17 []
  all_tried lacking other =
      comes_alike s try left well lacking other 17 [] (of_none s)
      (missing_few space (pages_from (page_number at) 17) [])

  over_all : (hand : List InHand) → AreOf s hand → (o : Option (List InHand)) → try hand ≡ Comes o
      → seen hand ≡ seen all
  over_all hand are o comes = by (bytes_near hand are)
    where
      by : LoadsNear s space hand (byte_at right (reach_with space hand)) (byte_at right (reach_with space all)) at
          count → seen hand ≡ seen all
      by (Same e) = e
      by (Asking name value e lacks g) = absurd (cc (sym comes ∙ ap (if_allowed hand) e))

  pub buffer : is_some (outcome_in s (access_row right space at count)) ≡ is_value (seen all)
  buffer =
      let t = (all_tried None None).comes in
      allowed_is (seen t.hand) t.hand (outcome_in s (access_row right space at count)) t.comes
      ∙ ap is_value (over_all t.hand t.are (outcome_in s (access_row right space at count)) t.comes)

  pub buffer_asks : (lacking : Option (List InHand))
      → outcome_in s (trying try lacking) ≡ outcome_in s (access_row right space at count)
  buffer_asks lacking = (all_tried None lacking).alike

  -- with the hand that it comes to
  pub suffices : IfSome (outcome_in s (access_row right space at count)) (λ hand. seen hand ≡ seen all)
  suffices =
      let t = (all_tried None None).comes in
      by (outcome_in s (access_row right space at count)) t.hand t.are t.comes
    where
      is_hand : (accessed : Accessed) (hand found : List InHand) → if_allowed hand accessed ≡ Comes (Some found)
          → hand ≡ found
      is_hand (Value number) hand found e = some_is (comes_is e)
      is_hand (Fault address) hand found e = absurd (cc (comes_is e))
      is_hand (Shared area) hand found e = absurd (cc e)

      by : (o : Option (List InHand)) (hand : List InHand) → AreOf s hand → try hand ≡ Comes o
          → IfSome o (λ found. seen found ≡ seen all)
      by None hand are comes = tt
      by (Some found) hand are comes =
          ap seen (sym (is_hand (seen hand) hand found comes)) ∙ over_all hand are (Some found) comes
