-- Accesses with the shared areas that they ask for, as they are tried.
use Rattle.std.proofs.Common.{◌≡◌, ◌≢◌, ℕ, zero, suc, ◌-◌, Bool, true, false, List, [], Option, Some, None, Ok, Err}
use Rattle.std.proofs.Common.{refl, ap, sym, ◌∙◌, ◌⊎◌, arith, subst, length, option_map, Result, OnOk, OnErr}
use Rattle.std.specs.Prelude.{⊤, is_some}
use Rattle.rv_table.specs.declared.error.Area.{Area}
use Rattle.rv_table.specs.declared.error.MemErr.{MemErr}
use Rattle.rv_table.specs.declared.error.MemErr.TheVariants as refusals
use Rattle.rv_table.specs.Bytes.{Accessed, AllowsAs, Value, Fault, Shared, loaded}
use Rattle.mm_areas.specs.declared.rights.Rights.{Rights}
use Rattle.mm_space.specs.Accesses.{byte_at, readable, writable}
use Rattle.mm_space.specs.Handed.{AreaState, InHand, area_in}
use Rattle.mm_space.specs.Puts.{after_run_stored}
use Rattle.mm_space.specs.Spaces.{AddressSpace, Reach}
use Rattle.kernel_model.specs.Names.{NamedMap, get_named}
use Rattle.kernel_model.specs.machine.Spaces.{reach_with}
use Rattle.kernel_model.specs.entries.Areas.{Asks, Comes, Tried, if_allowed, access_tried, access_row, asked}
use Rattle.kernel_model.specs.entries.Areas.{bytes_read}
use Rattle.kernel_model.specs.entries.Areas.{bytes_with, bytes_written, tried_with, written_with}
use Rattle.kernel_model.specs.entries.Parts.{Parts, done, outcome_in, uses}
use Rattle.kernel_model.proofs.Trees.{outcome-bind}
use Rattle.guest_access.specs.Lending.{AreThere, AreThose, IsLent, names, with_hand}
use Rattle.guest_access.specs.Trying.{Accesses, IsAllowed, Wrote, by_right}
use Rattle.guest_access.proofs.Lendings.{lent_left, there_same}
use Rattle.guest_access.proofs.Runs.{put_run_names}
use Rattle.guest_access.proofs.Tries.{back_lent, comes_at_once, lacks_more, lacks_there, those_same, tries_lent}

-- ---- what an access that only tests bytes, or stores, has answered

allows_value : (seen : Accessed) (told : ⊤) → AllowsAs seen (Ok told) → (number : ℕ) × (seen ≡ Value number)
allows_value (Value number) told e = (number, refl)
allows_value (Fault address) told e = absurd e
allows_value (Shared area) told e = absurd e

allows_fault : (seen : Accessed) (address : ℕ) → AllowsAs seen (Err (refusals.Fault address)) → seen ≡ Fault address
allows_fault (Value number) address e = absurd e
allows_fault (Fault at) address e = ap Fault (sym e)
allows_fault (Shared area) address e = absurd e

allows_shared : (seen : Accessed) (area : Area) → AllowsAs seen (Err (refusals.Shared area)) → seen ≡ Shared area
allows_shared (Value number) area e = absurd e
allows_shared (Fault at) area e = absurd e
allows_shared (Shared other) area e = ap Shared (sym e)

-- ---- an access with what is in hand

module _ (right : Rights) (space own : AddressSpace) (at count : ℕ) (hand : List InHand) (is : own ≡ space) where
  abbrev seen : AddressSpace → Accessed
  seen space = loaded (byte_at right (reach_with space hand)) at count

  pub is_allowed : (told : ⊤) → AllowsAs (seen own) (Ok told) → IsAllowed right space at count hand
  is_allowed told e = let there = allows_value (seen own) told e in (there.0, sym (ap seen is) ∙ there.1)

  module _ (most : ℕ) (last : List InHand) where
    pub access_comes : (all : NamedMap AreaState) (told : ⊤) → AllowsAs (seen own) (Ok told)
        → Accesses right space at count most hand all true hand
    access_comes all told e s those =
        comes_at_once (access_tried right space at count) None hand s most (Some hand)
        (ap (if_allowed hand) (is_allowed told e).1)

    pub access_bars : (all : NamedMap AreaState) (address : ℕ) → AllowsAs (seen own) (Err (refusals.Fault address))
        → Accesses right space at count most hand all false last
    access_bars all address e s those =
        comes_at_once (access_tried right space at count) None hand s most None
        (ap (if_allowed hand) (sym (ap seen is) ∙ allows_fault (seen own) address e))

    module _ (area : Area) (asks : AllowsAs (seen own) (Err (refusals.Shared area))) where
      abbrev asks_for : access_tried right space at count hand ≡ Asks area
      asks_for = ap (if_allowed hand) (sym (ap seen is) ∙ allows_shared (seen own) area asks)

      pub access_full : (all : NamedMap AreaState) → most ≡ 0 → Accesses right space at count most hand all false last
      access_full all none s those = lacks_more (access_tried right space at count) None hand s area asks_for most none

      pub access_lacks : (areas : NamedMap AreaState) → most ≢ 0
          → (is_some (area_in area hand) ≡ true) ⊎ (get_named areas area.place area.index ≡ None)
          → Accesses right space at count most hand (with_hand hand areas) false last
      access_lacks areas more lacking s those =
          lacks_there (access_tried right space at count) None hand s area asks_for areas those most more lacking

      pub access_more : (areas left : NamedMap AreaState) (lent : List InHand) (allowed : Bool) → AreThere hand areas
          → IsLent area hand lent areas left → most ≢ 0
          → Accesses right space at count (most - 1) lent (with_hand lent left) allowed last
          → Accesses right space at count most hand (with_hand hand areas) allowed last
      access_more areas left lent allowed there one more rest s those =
          tries_lent (access_tried right space at count) None hand s area asks_for areas those lent left one most
          (most - 1) (omega (arith, more))
          ∙ rest s (those_same s (with_hand hand areas) (with_hand lent left)
          (back_lent area hand lent areas left there one) those)

-- ---- an access that asks for no area

looks_nowhere : {A : Type 0} (try : List InHand → Tried A) (lacking : A) (s : Parts) (most : ℕ) (hand : List InHand)
    (a : A) → try hand ≡ Comes a → uses s (tried_with try lacking most hand) ≡ []
unfolding tried_with
looks_nowhere try lacking s zero hand a e = refl
looks_nowhere try lacking s (suc n) hand a e = ap (λ t. uses s (asked lacking (tried_with try lacking n) hand t)) e

module _ (right : Rights) (space own : AddressSpace) (at count : ℕ) (hand : List InHand) (is : own ≡ space)
    (none : hand ≡ []) (s : Parts) where
  nowhere : (a : Option (List InHand)) → access_tried right own at count hand ≡ Comes a
      → uses s (access_row right space at count) ≡ []
  nowhere a e =
      looks_nowhere (access_tried right space at count) None s 17 [] a
      (ap (access_tried right space at count) (sym none) ∙ ap (λ o. access_tried right o at count hand) (sym is) ∙ e)

  pub asks_not : (told : ⊤) → AllowsAs (seen right space own at count hand is own) (Ok told)
      → uses s (access_row right space at count) ≡ []
  asks_not told e =
      nowhere (Some hand) (ap (if_allowed hand) (allows_value (seen right space own at count hand is own) told e).1)

  pub bars_at_once : (address : ℕ) → AllowsAs (seen right space own at count hand is own) (Err (refusals.Fault address))
      → uses s (access_row right space at count) ≡ []
  bars_at_once address e =
      nowhere None (ap (if_allowed hand) (allows_fault (seen right space own at count hand is own) address e))

-- ---- bytes that are read, with nothing in hand before

module _ (space : AddressSpace) (at count : ℕ) (hand last : List InHand) (none : hand ≡ [])
    (areas : NamedMap AreaState) (allowed : Bool)
    (comes : Accesses readable space at count 17 hand (with_hand hand areas) allowed last) where
  reads : (s : Parts) → AreThose s areas
      → outcome_in s (bytes_read space at count) ≡ option_map (bytes_with space at count) (by_right allowed last)
  reads s those =
      outcome-bind s (access_row readable space at count) (λ hand. done (option_map (bytes_with space at count) hand))
      ∙ ap (option_map (bytes_with space at count))
      (subst (λ h. Accesses readable space at count 17 h (with_hand h areas) allowed last) none comes s those)

  pub none_read : allowed ≡ false → (s : Parts) → AreThose s areas → outcome_in s (bytes_read space at count) ≡ None
  none_read barred s those = reads s those ∙ ap (λ b. option_map (bytes_with space at count) (by_right b last)) barred

  pub all_read : allowed ≡ true → (own : AddressSpace) → own ≡ space → (n : ℕ) → n ≡ count → (bytes : List ℕ)
      → bytes ≡ bytes_with own at n last → (s : Parts) → AreThose s areas
      → outcome_in s (bytes_read space at count) ≡ Some bytes
  all_read free own is n same bytes e s those =
      reads s those ∙ ap (λ b. option_map (bytes_with space at count) (by_right b last)) free
      ∙ ap Some (sym (e ∙ ap (λ a. bytes_with a at n last) is ∙ ap (λ m. bytes_with space at m last) same))

-- ---- bytes that are put, with nothing in hand before

module _ (task : ℕ) (own space' : AddressSpace) (at : ℕ) (bytes : List ℕ) (last left : List InHand) where
  -- the names of what is in hand stay
  run_names : reach_with space' left ≡ after_run_stored task at bytes (reach_with own last) → names left ≡ names last
  run_names ran = ap (λ (r : Reach). names r.hand) ran ∙ put_run_names task at bytes (reach_with own last)

  pub there_behind : (told : Result ⊤ MemErr)
      → OnOk told (reach_with space' left ≡ after_run_stored task at bytes (reach_with own last))
      → OnErr told (reach_with space' left ≡ reach_with own last) → (areas : NamedMap AreaState)
      → AreThere last areas → AreThere left areas
  there_behind (Ok told) ran kept areas there = there_same last left areas (run_names ran) there
  there_behind (Err err) ran kept areas there =
      there_same last left areas (ap (λ (r : Reach). names r.hand) kept) there

module _ (task : ℕ) (space : AddressSpace) (at : ℕ) (bytes : List ℕ) (hand last : List InHand) (none : hand ≡ [])
    (areas mid : NamedMap AreaState) (allowed : Bool)
    (comes : Accesses writable space at (length bytes) 17 hand (with_hand hand areas) allowed last)
    (back : with_hand last mid ≡ with_hand hand areas) where
  writes : (s : Parts) → AreThose s areas
      → outcome_in s (bytes_written task space at bytes)
      ≡ option_map (written_with task space at bytes) (by_right allowed last)
  writes s those =
      outcome-bind s (access_row writable space at (length bytes))
      (λ hand. done (option_map (written_with task space at bytes) hand))
      ∙ ap (option_map (written_with task space at bytes))
      (subst (λ h. Accesses writable space at (length bytes) 17 h (with_hand h areas) allowed last) none comes s those)

  all_back : with_hand last mid ≡ areas
  all_back = back ∙ ap (λ h. with_hand h areas) none

  pub none_written : allowed ≡ false → (s : Parts) → AreThose s areas
      → Wrote (outcome_in s (bytes_written task space at bytes)) false space space areas (with_hand last mid)
  none_written barred s those =
      subst (λ o. Wrote o false space space areas (with_hand last mid))
      (sym (writes s those ∙ ap (λ b. option_map (written_with task space at bytes) (by_right b last)) barred))
      (refl, refl, all_back)

  pub all_written : allowed ≡ true → AreThere last mid → (own space' : AddressSpace) → own ≡ space
      → (left : List InHand) → reach_with space' left ≡ after_run_stored task at bytes (reach_with own last)
      → (s : Parts) → AreThose s areas
      → Wrote (outcome_in s (bytes_written task space at bytes)) true space space' areas (with_hand left mid)
  all_written free there own space' is left ran s those =
      subst (λ o. Wrote o true space space' areas (with_hand left mid))
      (sym (writes s those ∙ ap (λ b. option_map (written_with task space at bytes) (by_right b last)) free)) (
        refl,
        ap (λ (r : Reach). r.space) to,
        lent_left last left mid areas (record { there = there; back = all_back })
            (run_names task own space' at bytes last left ran)
            ∙ ap (λ (r : Reach). with_hand r.hand areas) to,
      )
    where
      to : reach_with space' left ≡ written_with task space at bytes last
      to = ran ∙ ap (λ a. written_with task a at bytes last) is
