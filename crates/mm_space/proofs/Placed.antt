-- The place of an area among those handed in, and what changes where that area does.
use Rattle.std.proofs.Common.{◌≡◌, ℕ, zero, suc, ◌<◌, Bool, true, false, List, [], ◌∷◌, length, get_or, set, map}
use Rattle.std.proofs.Common.{Option, Some, None, Result, Ok, Err, refl, ap, sym, ◌∙◌, subst, arith}
use Rattle.std.specs.Prelude.{OnOk, OnErr, if◌then◌else◌, option_map}
use Rattle.std.proofs.Math.Seq.{map-set_same}
use Rattle.rv_table.specs.Areas.{is_area}
use Rattle.rv_table.specs.declared.error.Area.{Area}
use Rattle.mm_space.specs.declared.handed.HandedArea.{HandedArea}
use Rattle.mm_space.specs.Handed.{AreaState, InHand, area_in, area_state, in_hand}
use Rattle.mm_space.specs.Places.{owned_in, page_owned, place_of}
use Rattle.mm_space.specs.Puts.{changed_in_hand, with_area}

-- an area that is handed in stands at its place
pub data StandsAt (name : Area) : List HandedArea → ℕ → Type 0 where
  Here : (h : HandedArea) (hs : List HandedArea) → is_area h.name name ≡ true → StandsAt name (h ∷ hs) 0
  Later : (h : HandedArea) (hs : List HandedArea) (place : ℕ) → is_area h.name name ≡ false → StandsAt name hs place
      → StandsAt name (h ∷ hs) (suc place)

pub stands : (name : Area) (hs : List HandedArea) (place : ℕ) → place_of name hs ≡ Some place → StandsAt name hs place
stands name [] place is = absurd (cc is)
stands name (h ∷ hs) place is = by (is_area h.name name) refl (stands name hs) is
  where
    later : (found : Option ℕ) → place_of name hs ≡ found → is_area h.name name ≡ false
        → ((n : ℕ) → place_of name hs ≡ Some n → StandsAt name hs n) → option_map suc found ≡ Some place
        → StandsAt name (h ∷ hs) place
    later None found other rest at = absurd (cc at)
    later (Some n) found other rest at =
        let at_next : suc n ≡ place = cc at in
        subst (StandsAt name (h ∷ hs)) at_next (Later h hs n other (rest n found))

    by : (own : Bool) → is_area h.name name ≡ own → ((n : ℕ) → place_of name hs ≡ Some n → StandsAt name hs n)
        → (if own then Some 0 else option_map suc (place_of name hs)) ≡ Some place → StandsAt name (h ∷ hs) place
    by true own rest at = let at_once : 0 ≡ place = cc at in subst (StandsAt name (h ∷ hs)) at_once (Here h hs own)
    by false own rest at = later (place_of name hs) refl own rest at

pub stands_within : (name : Area) (hs : List HandedArea) (place : ℕ) → StandsAt name hs place → place < length hs
stands_within name [] place at = elim at [ ]
stands_within name (h ∷ hs) zero at = omega arith
stands_within name (h ∷ hs) (suc place) (Later _ _ _ other at) = omega (arith, stands_within name hs place at)

-- its state is the one that the name has
pub area_at : (name : Area) (hs : List HandedArea) (place : ℕ) (d : HandedArea) → StandsAt name hs place
    → area_in name (map in_hand hs) ≡ Some (area_state (get_or hs place d).area)
area_at name [] place d at = elim at [ ]
area_at name (h ∷ hs) zero d (Here _ _ own) =
    ap (λ (b : Bool). if b then Some (area_state h.area) else area_in name (map in_hand hs)) own
area_at name (h ∷ hs) (suc place) d (Later _ _ _ other at) =
    ap (λ (b : Bool). if b then Some (area_state h.area) else area_in name (map in_hand hs)) other
    ∙ area_at name hs place d at

-- its pages are own where the frames there are
pub owned_at : (name : Area) (number : ℕ) (hs : List HandedArea) (place : ℕ) (d : HandedArea) → StandsAt name hs place
    → owned_in name number hs ≡ page_owned (get_or hs place d).area.frames number
owned_at name number [] place d at = elim at [ ]
owned_at name number (h ∷ hs) zero d (Here _ _ own) =
    ap (λ (b : Bool). if b then page_owned h.area.frames number else owned_in name number hs) own
owned_at name number (h ∷ hs) (suc place) d (Later _ _ _ other at) =
    ap (λ (b : Bool). if b then page_owned h.area.frames number else owned_in name number hs) other
    ∙ owned_at name number hs place d at

-- where it changes, the area of that name does
pub changed_at : (name : Area) (change : AreaState → AreaState) (hs : List HandedArea) (place : ℕ) (d new : HandedArea)
    → StandsAt name hs place
    → in_hand new ≡ changed_in_hand change (in_hand (get_or hs place d))
    → map in_hand (set hs place new) ≡ with_area name change (map in_hand hs)
changed_at name change [] place d new at is = elim at [ ]
changed_at name change (h ∷ hs) zero d new (Here _ _ own) is =
    ap (λ (i : InHand). i ∷ map in_hand hs) is
    ∙ sym (ap (λ (b : Bool). if b then changed_in_hand change (in_hand h) ∷ map in_hand hs
    else in_hand h ∷ with_area name change (map in_hand hs)) own)
changed_at name change (h ∷ hs) (suc place) d new (Later _ _ _ other at) is =
    ap (λ (is : List InHand). in_hand h ∷ is) (changed_at name change hs place d new at is)
    ∙ sym (ap (λ (b : Bool). if b then changed_in_hand change (in_hand h) ∷ map in_hand hs
    else in_hand h ∷ with_area name change (map in_hand hs)) other)

-- where none of more has a name, the first hasn't
pub first_other : (name : Area) (h : HandedArea) (hs : List HandedArea) → place_of name (h ∷ hs) ≡ None
    → (is_area h.name name ≡ false) × (place_of name hs ≡ None)
first_other name h hs none_there = by (is_area h.name name) refl (place_of name hs) refl none_there
  where
    by : (own : Bool) → is_area h.name name ≡ own → (found : Option ℕ) → place_of name hs ≡ found
        → (if own then Some 0 else option_map suc found) ≡ None → (is_area h.name name ≡ false)
        × (place_of name hs ≡ None)
    by true own found at is = absurd (cc is)
    by false own None at is = (own, at)
    by false own (Some n) at is = absurd (cc is)

-- where no area has the name, none changes
pub none_changed : (name : Area) (change : AreaState → AreaState) (hs : List HandedArea) → place_of name hs ≡ None
    → with_area name change (map in_hand hs) ≡ map in_hand hs
none_changed name change [] none_there = refl
none_changed name change (h ∷ hs) none_there =
    let other : (is_area h.name name ≡ false) × (place_of name hs ≡ None) = first_other name h hs none_there in
    ap (λ (b : Bool). if b then changed_in_hand change (in_hand h) ∷ map in_hand hs
    else in_hand h ∷ with_area name change (map in_hand hs)) other.0
    ∙ ap (λ (is : List InHand). in_hand h ∷ is) (none_changed name change hs other.1)

pub none_owned : (name : Area) (number : ℕ) (hs : List HandedArea) → place_of name hs ≡ None
    → owned_in name number hs ≡ true
none_owned name number [] none_there = refl
none_owned name number (h ∷ hs) none_there =
    let other : (is_area h.name name ≡ false) × (place_of name hs ≡ None) = first_other name h hs none_there in
    ap (λ (b : Bool). if b then page_owned h.area.frames number else owned_in name number hs) other.0
    ∙ none_owned name number hs other.1

-- own pages stay own where one area changes and its own do
pub owned_set : (name : Area) (number : ℕ) (hs : List HandedArea) (place : ℕ) (d new : HandedArea) → place < length hs
    → new.name ≡ (get_or hs place d).name
    → ((other : ℕ) → page_owned (get_or hs place d).area.frames other ≡ true → page_owned new.area.frames other ≡ true)
    → owned_in name number hs ≡ true → owned_in name number (set hs place new) ≡ true
owned_set name number [] place d new within named still was = elim within [ ]
owned_set name number (h ∷ hs) zero d new within named still was = by (is_area h.name name) refl was
  where
    by : (own : Bool) → is_area h.name name ≡ own
        → (if own then page_owned h.area.frames number else owned_in name number hs) ≡ true
        → owned_in name number (new ∷ hs) ≡ true
    by true own is =
        ap (λ (b : Bool). if b then page_owned new.area.frames number else owned_in name number hs)
        (ap (λ (n : Area). is_area n name) named ∙ own) ∙ still number is
    by false own is =
        ap (λ (b : Bool). if b then page_owned new.area.frames number else owned_in name number hs)
        (ap (λ (n : Area). is_area n name) named ∙ own) ∙ is
owned_set name number (h ∷ hs) (suc place) d new within named still was =
    by (is_area h.name name) refl (owned_set name number hs place d new (omega (arith, within)) named still) was
  where
    by : (own : Bool) → is_area h.name name ≡ own
        → (owned_in name number hs ≡ true → owned_in name number (set hs place new) ≡ true)
        → (if own then page_owned h.area.frames number else owned_in name number hs) ≡ true
        → owned_in name number (h ∷ set hs place new) ≡ true
    by true own rest is =
        ap (λ (b : Bool). if b then page_owned h.area.frames number else owned_in name number (set hs place new)) own
        ∙ is
    by false own rest is =
        ap (λ (b : Bool). if b then page_owned h.area.frames number else owned_in name number (set hs place new)) own
        ∙ rest is

-- and pages are as own as they were where its are
pub owned_same : (name : Area) (number : ℕ) (hs : List HandedArea) (place : ℕ) (d new : HandedArea) → place < length hs
    → new.name ≡ (get_or hs place d).name
    → ((other : ℕ) → page_owned new.area.frames other ≡ page_owned (get_or hs place d).area.frames other)
    → owned_in name number (set hs place new) ≡ owned_in name number hs
owned_same name number [] place d new within named same = elim within [ ]
owned_same name number (h ∷ hs) zero d new within named same =
    ap (λ (n : Area). if is_area n name then page_owned new.area.frames number else owned_in name number hs) named
    ∙ ap (λ (b : Bool). if is_area h.name name then b else owned_in name number hs) (same number)
owned_same name number (h ∷ hs) (suc place) d new within named same =
    ap (λ (b : Bool). if is_area h.name name then page_owned h.area.frames number else b)
    (owned_same name number hs place d new (omega (arith, within)) named same)

-- its pages are own then where its frames' are
pub owned_at_set : (name : Area) (number : ℕ) (hs : List HandedArea) (place : ℕ) (d new : HandedArea)
    → StandsAt name hs place → new.name ≡ (get_or hs place d).name
    → owned_in name number (set hs place new) ≡ page_owned new.area.frames number
owned_at_set name number [] place d new at named = elim at [ ]
owned_at_set name number (h ∷ hs) zero d new (Here _ _ own) named =
    ap (λ (b : Bool). if b then page_owned new.area.frames number else owned_in name number hs)
    (ap (λ (n : Area). is_area n name) named ∙ own)
owned_at_set name number (h ∷ hs) (suc place) d new (Later _ _ _ other at) named =
    ap (λ (b : Bool). if b then page_owned h.area.frames number else owned_in name number (set hs place new)) other
    ∙ owned_at_set name number hs place d new at named

-- an area that stands at a place, before and after the area there has changed
pub record Placing (name : Area) (hs : List HandedArea) (place : ℕ) (old new : HandedArea) : Type 0 where
  pub found : place_of name hs ≡ Some place
  pub was : old ≡ get_or hs place old
  pub named : new.name ≡ old.name

module _ (name : Area) (hs : List HandedArea) (place : ℕ) (old new : HandedArea)
    (p : Placing name hs place old new) where
  at_place : StandsAt name hs place
  at_place = stands name hs place p.found

  named_alike : new.name ≡ (get_or hs place old).name
  named_alike = p.named ∙ ap (λ (h : HandedArea). h.name) p.was

  pub same_there : area_state new.area ≡ area_state old.area → map in_hand (set hs place new) ≡ map in_hand hs
  same_there same =
      let name_and_state : in_hand new ≡ in_hand old =
      ap (λ (n : Area). (let i : InHand = record { name = n; state = area_state new.area } in i)) p.named
      ∙ ap (λ (s : AreaState). (let i : InHand = record { name = old.name; state = s } in i)) same in
      map-set_same in_hand hs place new old (name_and_state ∙ ap in_hand p.was)

  pub own_there : {E : Type 0} (answer : Result Unit E) (number : ℕ)
      → OnOk answer (page_owned new.area.frames number ≡ true)
      → OnOk answer (owned_in name number (set hs place new) ≡ true)
  own_there (Ok done) number is = owned_at_set name number hs place old new at_place named_alike ∙ is
  own_there (Err e) number is = tt

  pub lacking_there : {E : Type 0} (answer : Result Unit E) (number : ℕ)
      → OnErr answer (page_owned old.area.frames number ≡ false) → OnErr answer (owned_in name number hs ≡ false)
  lacking_there (Ok done) number is = tt
  lacking_there (Err e) number is =
      owned_at name number hs place old at_place
      ∙ ap (λ (h : HandedArea). page_owned h.area.frames number) (sym p.was) ∙ is

  pub owned_there : (number : ℕ) → owned_in name number hs ≡ page_owned old.area.frames number
  owned_there number =
      owned_at name number hs place old at_place ∙ ap (λ (h : HandedArea). page_owned h.area.frames number) (sym p.was)

  pub still_there : ((other : ℕ) → page_owned old.area.frames other ≡ true → page_owned new.area.frames other ≡ true)
      → (others : Area) (number : ℕ) → owned_in others number hs ≡ true
      → owned_in others number (set hs place new) ≡ true
  still_there still others number was =
      owned_set others number hs place old new (stands_within name hs place at_place) named_alike
      (λ other own. still other (ap (λ (h : HandedArea). page_owned h.area.frames other) p.was ∙ own)) was

  pub alike_there : ((other : ℕ) → page_owned new.area.frames other ≡ page_owned old.area.frames other)
      → (others : Area) (number : ℕ) → owned_in others number (set hs place new) ≡ owned_in others number hs
  alike_there alike others number =
      owned_same others number hs place old new (stands_within name hs place at_place) named_alike
      (λ other. alike other ∙ ap (λ (h : HandedArea). page_owned h.area.frames other) p.was)

  pub put_there : (change : AreaState → AreaState) → area_state new.area ≡ change (area_state old.area)
      → map in_hand (set hs place new) ≡ with_area name change (map in_hand hs)
  put_there change is =
      changed_at name change hs place old new at_place
      (ap (λ (n : Area). (let i : InHand = record { name = n; state = area_state new.area } in i)) p.named
      ∙ ap (λ (s : AreaState). (let i : InHand = record { name = old.name; state = s } in i)) is
      ∙ ap (λ (h : HandedArea). changed_in_hand change (in_hand h)) p.was)

  pub put_ok : {E : Type 0} (answer : Result Unit E) (change : AreaState → AreaState)
      → OnOk answer (area_state new.area ≡ change (area_state old.area))
      → OnOk answer (map in_hand (set hs place new) ≡ with_area name change (map in_hand hs))
  put_ok (Ok done) change is = put_there change is
  put_ok (Err e) change is = tt

  pub same_err : {E : Type 0} (answer : Result Unit E) → OnErr answer (area_state new.area ≡ area_state old.area)
      → OnErr answer (map in_hand (set hs place new) ≡ map in_hand hs)
  same_err (Ok done) same = tt
  same_err (Err e) same = same_there same
