-- Bytes as an access sees them with some areas in hand, and with all.
use Rattle.std.proofs.Common.{◌≡◌, ℕ, zero, suc, ◌+◌, ◌*◌, ◌<◌, Bool, true, false, List, Option}
use Rattle.std.proofs.Common.{Some, None, refl, ap, ap₂, sym, ◌∙◌, arith, subst}
use Rattle.std.specs.Prelude.{IsSome, if◌then◌else◌}
use Rattle.std.specs.FinMap as map
use Rattle.rv_table.specs.declared.error.Area.{Area}
use Rattle.rv_table.specs.Bytes.{Byte, Holds, Barred, InArea, Value, Shared, behind, by_area}
use Rattle.rv_table.specs.Bytes.{by_barred, first_area, first_barred, loaded, number_from, or_area, or_barred}
use Rattle.rv_table.specs.Bytes.{value_in}
use Rattle.mm_areas.specs.declared.rights.Rights.{Rights}
use Rattle.mm_areas.specs.Pages.{Held, Bytes, PageOf, Mapped}
use Rattle.mm_areas.specs.Rights.{has}
use Rattle.mm_frames.specs.Frames.{byte_of_pages}
use Rattle.mm_space.specs.Accesses.{area_byte, byte_at, held_byte, mapped_byte, page_number, page_offset}
use Rattle.mm_space.specs.Handed.{AreaState, InHand, area_in}
use Rattle.mm_space.specs.Places.{area_of_page}
use Rattle.mm_space.specs.Sight.{as_byte}
use Rattle.mm_space.specs.Spaces.{AddressSpace}
use Rattle.kernel_model.specs.declared.kernel.Part.TheVariants.{OfArea}
use Rattle.kernel_model.specs.machine.Spaces.{reach_with}
use Rattle.kernel_model.specs.entries.Parts.{Parts}
use Rattle.area_laws.specs.Whole.{AreAll, HasAreas, HasPage}
use Rattle.area_laws.proofs.Hands.{AreOf}

-- the area in which a page lies that is mapped at an address
abbrev pub area_at : AddressSpace → (address : ℕ) → Option Area
area_at space address = area_of_page (map.get space.mapping.pages (page_number address))

-- an area of which the byte at an address is: it is there, and not in hand
pub record Lacks (s : Parts) (space : AddressSpace) (hand : List InHand) (address : ℕ) (name : Area) : Type 0 where
  pub lies : area_at space address ≡ Some name
  pub unasked : area_in name hand ≡ None
  pub state : AreaState
  pub there : s (OfArea name) ≡ Some state

module _ (s : Parts) (space : AddressSpace) (hand all : List InHand) where
  -- a byte is the same with all, or lies in an area that is not in hand, and is there with all
  pub data Near (address : ℕ) (f g : Byte) : Type 0 where
    Held_as : (value : ℕ) → f ≡ Holds value → g ≡ Holds value → Near address f g
    Barred_both : f ≡ Barred → g ≡ Barred → Near address f g
    Lacking : (name : Area) (value : ℕ) → f ≡ InArea name → Lacks s space hand address name → g ≡ Holds value
        → Near address f g

  near_same : (address : ℕ) (o : Option ℕ) (f g : Byte) → f ≡ as_byte o → g ≡ as_byte o → Near address f g
  near_same address None f g e h = Barred_both e h
  near_same address (Some value) f g e h = Held_as value e h

  module _ (are : AreOf s hand) (whole : HasAreas s space) (every : AreAll s all) (right : Rights) (address : ℕ) where
    offset_small : page_offset address < 4096
    offset_small = omega arith

    by_area_in : (m : Mapped) (name : Area) (number : ℕ) → map.get space.mapping.pages (page_number address) ≡ Some m
        → m.held ≡ PageOf name number
        → Near address (area_byte name number (page_offset address) (area_in name hand))
        (area_byte name number (page_offset address) (area_in name all))
    by_area_in m name number found held =
        by (area_in name hand) (s (OfArea name)) refl refl (whole (page_number address) number m name found held)
      where
        with_byte : (state : AreaState) (o : Option ℕ) → byte_of_pages state.pages number (page_offset address) ≡ o
            → IsSome o → s (OfArea name) ≡ Some state → area_in name hand ≡ None
            → Near address (area_byte name number (page_offset address) (area_in name hand))
            (area_byte name number (page_offset address) (area_in name all))
        with_byte state None is some there none = absurd (cc some)
        with_byte state (Some value) is some there none =
            Lacking name value (ap (area_byte name number (page_offset address)) none)
            (record {
              lies = ap area_of_page found ∙ by_held held;
              unasked = none;
              state = state;
              there = there;
            })
            (ap (area_byte name number (page_offset address)) (every name ∙ there) ∙ ap as_byte is)
          where
            by_held : m.held ≡ PageOf name number → area_of_page (Some m) ≡ Some name
            by_held e = ap (λ h. area_of_page (Some (record m { held = h }))) e

        by : (o p : Option AreaState) → area_in name hand ≡ o → s (OfArea name) ≡ p → HasPage number (s (OfArea name))
            → Near address (area_byte name number (page_offset address) (area_in name hand))
            (area_byte name number (page_offset address) (area_in name all))
        by (Some state) p is there has =
            near_same address (byte_of_pages state.pages number (page_offset address)) _ _
            (ap (area_byte name number (page_offset address)) is)
            (ap (area_byte name number (page_offset address)) (every name ∙ are name state is))
        by None None is there has = absurd (subst (HasPage number) there has)
        by None (Some state) is there has =
            with_byte state (byte_of_pages state.pages number (page_offset address)) refl
            (subst (HasPage number) there has (page_offset address) offset_small) there is

    by_held_byte : (m : Mapped) (held : Held) → map.get space.mapping.pages (page_number address) ≡ Some m
        → m.held ≡ held
        → Near address (held_byte hand (page_offset address) held) (held_byte all (page_offset address) held)
    by_held_byte m (Bytes bytes) found is = near_same address _ _ _ refl refl
    by_held_byte m (PageOf name number) found is = by_area_in m name number found is

    by_right : (m : Mapped) → map.get space.mapping.pages (page_number address) ≡ Some m → (b : Bool)
        → Near address (if b then held_byte hand (page_offset address) m.held else Barred)
        (if b then held_byte all (page_offset address) m.held else Barred)
    by_right m found true = by_held_byte m m.held found refl
    by_right m found false = Barred_both refl refl

    by_page : (o : Option Mapped) → map.get space.mapping.pages (page_number address) ≡ o
        → Near address (mapped_byte right hand (page_offset address) o) (mapped_byte right all (page_offset address) o)
    by_page None found = Barred_both refl refl
    by_page (Some m) found = by_right m found (has m.rights right)

    pub near : Near address (byte_at right (reach_with space hand) address)
        (byte_at right (reach_with space all) address)
    near = by_page (map.get space.mapping.pages (page_number address)) refl

-- ---- addresses one behind another

abbrev pub later : (steps address : ℕ) → ℕ
later zero address = address
later (suc j) address = later j (behind address)

-- ---- so many bytes

module _ (s : Parts) (space : AddressSpace) (hand : List InHand) where
  -- an area that one of the bytes lacks
  pub record LacksOne (at n : ℕ) (name : Area) : Type 0 where
    pub steps : ℕ
    pub within : steps < n
    pub lacks : Lacks s space hand (later steps at) name

  -- an access comes to the same with all, or asks for an area that one of its bytes lacks
  pub data LoadsNear (f g : ℕ → Byte) (at n : ℕ) : Type 0 where
    Same : loaded f at n ≡ loaded g at n → LoadsNear f g at n
    Asking : (name : Area) (value : ℕ) → loaded f at n ≡ Shared name → LacksOne at n name → loaded g at n ≡ Value value
        → LoadsNear f g at n

module _ (s : Parts) (space : AddressSpace) (hand all : List InHand) (f g : ℕ → Byte)
    (each : (address : ℕ) → Near s space hand all address (f address) (g address)) where
  barred_same : (at n : ℕ) → first_barred f at n ≡ first_barred g at n
  unfolding first_barred
  barred_same at zero = refl
  barred_same at (suc n) = by (each at) (barred_same (behind at) n)
    where
      by : Near s space hand all at (f at) (g at)
          → first_barred f (behind at) n ≡ first_barred g (behind at) n
          → or_barred (f at) at (first_barred f (behind at) n) ≡ or_barred (g at) at (first_barred g (behind at) n)
      by (Held_as value e h) rest =
          ap₂ (λ b o. or_barred b at o) e rest ∙ ap (λ b. or_barred b at (first_barred g (behind at) n)) (sym h)
      by (Barred_both e h) rest =
          ap₂ (λ b o. or_barred b at o) e rest ∙ ap (λ b. or_barred b at (first_barred g (behind at) n)) (sym h)
      by (Lacking name value e lacks h) rest =
          ap₂ (λ b o. or_barred b at o) e rest ∙ ap (λ b. or_barred b at (first_barred g (behind at) n)) (sym h)

  none_with_all : (at n : ℕ) → first_area g at n ≡ None
  unfolding first_area
  none_with_all at zero = refl
  none_with_all at (suc n) = by (each at) (none_with_all (behind at) n)
    where
      by : Near s space hand all at (f at) (g at) → first_area g (behind at) n ≡ None
          → or_area (g at) (first_area g (behind at) n) ≡ None
      by (Held_as value e h) rest = ap₂ or_area h rest
      by (Barred_both e h) rest = ap₂ or_area h rest
      by (Lacking name value e lacks h) rest = ap₂ or_area h rest

  numbers_same : (at n : ℕ) → first_area f at n ≡ None → number_from f at n ≡ number_from g at n
  unfolding first_area number_from
  numbers_same at zero none = refl
  numbers_same at (suc n) none = by (each at) (numbers_same (behind at) n) none
    where
      by : Near s space hand all at (f at) (g at)
          → (first_area f (behind at) n ≡ None → number_from f (behind at) n ≡ number_from g (behind at) n)
          → or_area (f at) (first_area f (behind at) n) ≡ None
          → value_in (f at) + 256 * number_from f (behind at) n ≡ value_in (g at) + 256 * number_from g (behind at) n
      by (Held_as value e h) rest none =
          ap₂ (λ b m. value_in b + 256 * m) (e ∙ sym h)
          (rest (sym (ap (λ b. or_area b (first_area f (behind at) n)) e) ∙ none))
      by (Barred_both e h) rest none =
          ap₂ (λ b m. value_in b + 256 * m) (e ∙ sym h)
          (rest (sym (ap (λ b. or_area b (first_area f (behind at) n)) e) ∙ none))
      by (Lacking name value e lacks h) rest none =
          absurd (cc (sym (ap (λ b. or_area b (first_area f (behind at) n)) e) ∙ none))

  asked_for : (at n : ℕ) (name : Area) → first_area f at n ≡ Some name → LacksOne s space hand at n name
  unfolding first_area
  asked_for at zero name e = absurd (cc e)
  asked_for at (suc n) name e = by (each at) (asked_for (behind at) n name) e
    where
      further : (first_area f (behind at) n ≡ Some name → LacksOne s space hand (behind at) n name)
          → first_area f (behind at) n ≡ Some name → LacksOne s space hand at (suc n) name
      further rest e =
          let r : LacksOne s space hand (behind at) n name = rest e in
          let h : r.steps < n = r.within in
          record { steps = suc r.steps; within = omega (arith, h); lacks = r.lacks }

      by : Near s space hand all at (f at) (g at)
          → (first_area f (behind at) n ≡ Some name → LacksOne s space hand (behind at) n name)
          → or_area (f at) (first_area f (behind at) n) ≡ Some name → LacksOne s space hand at (suc n) name
      by (Held_as value e h) rest is =
          further rest (sym (ap (λ b. or_area b (first_area f (behind at) n)) e) ∙ is)
      by (Barred_both e h) rest is =
          further rest (sym (ap (λ b. or_area b (first_area f (behind at) n)) e) ∙ is)
      by (Lacking other value e lacks h) rest is =
          let same : other ≡ name = cc (sym (ap (λ b. or_area b (first_area f (behind at) n)) e) ∙ is) in
          record { steps = 0; within = omega arith; lacks = subst (Lacks s space hand at) same lacks }

  pub loads_near : (at n : ℕ) → LoadsNear s space hand f g at n
  unfolding loaded
  loads_near at n = by (first_barred f at n) (first_area f at n) refl refl
    where
      by : (b : Option ℕ) (a : Option Area) → first_barred f at n ≡ b → first_area f at n ≡ a → LoadsNear s space hand f g at n
      by (Some address) a e h =
          Same (ap (λ o. by_barred o (by_area (first_area f at n) (number_from f at n))) e
          ∙ ap (λ o. by_barred o (by_area (first_area g at n) (number_from g at n))) (sym e ∙ barred_same at n))
      by None None e h =
          Same (ap (λ o. by_barred o (by_area (first_area f at n) (number_from f at n))) (barred_same at n)
          ∙ ap₂ (λ o v. by_barred (first_barred g at n) (by_area o v)) (h ∙ sym (none_with_all at n))
          (numbers_same at n h))
      by None (Some name) e h =
          Asking name (number_from g at n)
          (ap (λ o. by_barred o (by_area (first_area f at n) (number_from f at n))) e
          ∙ ap (λ o. by_area o (number_from f at n)) h)
          (asked_for at n name h)
          (ap (λ o. by_barred o (by_area (first_area g at n) (number_from g at n))) (sym (barred_same at n) ∙ e)
          ∙ ap (λ o. by_area o (number_from g at n)) (none_with_all at n))

  -- with all no area is asked for
  pub never_shared : (at n : ℕ) (name : Area) → loaded g at n ≡ Shared name → ⊥
  unfolding loaded
  never_shared at n name e =
      by (first_barred g at n)
      (sym (ap (λ o. by_barred (first_barred g at n) (by_area o (number_from g at n))) (none_with_all at n)) ∙ e)
    where
      by : (o : Option ℕ) → by_barred o (Value (number_from g at n)) ≡ Shared name → ⊥
      by None h = cc h
      by (Some address) h = cc h
