-- What a task reaches after it has reserved, and after it has given up what it had reserved: the bytes stay.
use Rattle.std.proofs.Common.{◌≡◌, ℕ, ◌==◌, Bool, true, false, ◌&&◌, List, Option, Some, None, refl, ap, ap₂, sym, ◌∙◌}
use Rattle.std.proofs.Common.{◌⊎◌, inl, inr, ne_eqb}
use mathlib.Core.Path.{fun_ext}
use Rattle.std.specs.Prelude.{if◌then◌else◌}
use Rattle.std.specs.FinMap as map
use Rattle.std.proofs.lemmas.Bool.{cases_eq}
use Rattle.rv_table.specs.Areas.{is_area}
use Rattle.rv_table.specs.declared.error.Area.{Area}
use Rattle.rv_table.specs.Bytes.{Byte, Barred, Holds}
use Rattle.rv_atomic.specs.Reservations.{is_same_area}
use Rattle.mm_frames.specs.Frames as frames
use Rattle.mm_areas.specs.declared.rights.Rights.{Rights}
use Rattle.mm_areas.specs.Pages.{Held, Bytes, PageOf, Mapped}
use Rattle.mm_areas.specs.Rights.{has}
use Rattle.mm_space.specs.Accesses.{area_byte, byte_at, held_byte, mapped_byte, page_number, page_offset}
use Rattle.mm_space.specs.Handed.{AreaState, InHand, area_in}
use Rattle.mm_space.specs.Places.{area_of_page}
use Rattle.mm_space.specs.Puts.{with_area}
use Rattle.mm_space.specs.Reserves.{after_reserved, after_taken, area_granule, counts_held, counts_mapped, is_held_at}
use Rattle.mm_space.specs.Reserves.{is_held_in_area, leave_held, leave_in_area, leave_mapped, reserve_held}
use Rattle.mm_space.specs.Reserves.{reserve_in_area, reserve_mapped}
use Rattle.mm_space.specs.Sight.{as_byte}
use Rattle.mm_space.specs.Spaces.{Reach}
use Rattle.quantum.specs.laws.Hands.{area_in_changed, area_itself, changed_if, same_area_itself}
use Rattle.quantum.specs.laws.Reservations.{just_reserved, reserved_there, without_ends}

-- ---- the bytes

-- bytes of areas stay where a change leaves an area's pages
module _ (change : AreaState → AreaState) (leaves : (area : AreaState) → (change area).pages ≡ area.pages) where
  changed_byte : (name : Area) (number offset : ℕ) (same : Bool) (state : Option AreaState)
      → area_byte name number offset (changed_if same change state) ≡ area_byte name number offset state
  changed_byte name number offset false state = refl
  changed_byte name number offset true None = refl
  changed_byte name number offset true (Some area) =
      ap (λ (pages : List (List ℕ)). as_byte (frames.byte_of_pages pages number offset)) (leaves area)

  area_stays : (other name : Area) (number offset : ℕ) (hand : List InHand)
      → area_byte name number offset (area_in name (with_area other change hand))
      ≡ area_byte name number offset (area_in name hand)
  area_stays other name number offset hand =
      ap (area_byte name number offset) (area_in_changed other name change hand)
      ∙ changed_byte name number offset (is_area other name) (area_in name hand)

  held_stays : (other : Area) (offset : ℕ) (hand : List InHand) (held : Held)
      → held_byte (with_area other change hand) offset held ≡ held_byte hand offset held
  held_stays other offset hand (Bytes bytes) = refl
  held_stays other offset hand (PageOf name number) = area_stays other name number offset hand

  byte_stays : (right : Rights) (other : Area) (offset : ℕ) (hand : List InHand) (found : Option Mapped)
      → mapped_byte right (with_area other change hand) offset found ≡ mapped_byte right hand offset found
  byte_stays right other offset hand None = refl
  byte_stays right other offset hand (Some m) =
      ap (λ (b : Byte). if has m.rights right then b else Barred) (held_stays other offset hand m.held)

reserved_byte : (right : Rights) (task place offset : ℕ) (hand : List InHand) (at found : Option Mapped)
    → mapped_byte right (reserve_mapped task place at hand) offset found ≡ mapped_byte right hand offset found
reserved_byte right task place offset hand None found = refl
reserved_byte right task place offset hand (Some m) found = by m.held
  where
    by : (held : Held)
        → mapped_byte right (reserve_held task place held hand) offset found ≡ mapped_byte right hand offset found
    by (Bytes bytes) = refl
    by (PageOf name number) = byte_stays (reserve_in_area task number place) (λ area. refl) right name offset hand found

left_byte : (right : Rights) (task offset : ℕ) (hand : List InHand) (at found : Option Mapped)
    → mapped_byte right (leave_mapped task at hand) offset found ≡ mapped_byte right hand offset found
left_byte right task offset hand None found = refl
left_byte right task offset hand (Some m) found = by m.held
  where
    by : (held : Held)
        → mapped_byte right (leave_held task held hand) offset found ≡ mapped_byte right hand offset found
    by (Bytes bytes) = refl
    by (PageOf name number) = byte_stays (leave_in_area task) (λ area. refl) right name offset hand found

pub bytes_reserved : (right : Rights) (task at width : ℕ) (r : Reach)
    → byte_at right (after_reserved task at width r) ≡ byte_at right r
bytes_reserved right task at width r =
    fun_ext (λ address.
    reserved_byte right task (page_offset at) (page_offset address) r.hand
    (map.get r.space.mapping.pages (page_number at)) (map.get r.space.mapping.pages (page_number address)))

pub bytes_left : (right : Rights) (task at : ℕ) (r : Reach) → byte_at right (after_taken task at r) ≡ byte_at right r
bytes_left right task at r =
    fun_ext (λ address.
    left_byte right task (page_offset address) r.hand
    (map.get r.space.mapping.pages (page_number at)) (map.get r.space.mapping.pages (page_number address)))

-- ---- the reservation

-- in an area whose byte is there a task's reservation of it counts
area_counts : (task number offset value : ℕ) (name : Area) (state : Option AreaState)
    → area_byte name number offset state ≡ Holds value
    → is_held_in_area task number offset (changed_if true (reserve_in_area task number offset) state) ≡ true
area_counts task number offset value name None there = absurd (cc there)
area_counts task number offset value name (Some area) there =
    reserved_there area.reservations task (area_granule number offset)

held_counts : (task offset value : ℕ) (right rights : Rights) (held : Held) (hand : List InHand)
    → mapped_byte right hand offset (Some (record { rights = rights; held = held })) ≡ Holds value
    → counts_held task offset held (reserve_held task offset held hand) ≡ true
held_counts task offset value right rights (Bytes bytes) hand there = refl
held_counts task offset value right rights (PageOf name number) hand there = by (has rights right) there
  where
    change : AreaState → AreaState
    change = reserve_in_area task number offset

    by : (allowed : Bool) → (if allowed then area_byte name number offset (area_in name hand) else Barred) ≡ Holds value
        → is_held_in_area task number offset (area_in name (with_area name change hand)) ≡ true
    by false barred = absurd (cc barred)
    by true is =
        ap (is_held_in_area task number offset)
        (area_in_changed name name change hand
        ∙ ap (λ (same : Bool). changed_if same change (area_in name hand)) (area_itself name))
        ∙ area_counts task number offset value name (area_in name hand) is

mapped_counts : (task offset value : ℕ) (right : Rights) (found : Option Mapped) (hand : List InHand)
    → mapped_byte right hand offset found ≡ Holds value
    → counts_mapped task offset found (reserve_mapped task offset found hand) ≡ true
mapped_counts task offset value right None hand there = refl
mapped_counts task offset value right (Some m) hand there =
    held_counts task offset value right m.rights m.held hand there

both_true : (b : Bool) → ((b && true) && true) ≡ b
both_true true = refl
both_true false = refl

pub held_reserved : (right : Rights) (task at width value : ℕ) (r : Reach) → byte_at right r at ≡ Holds value
    → (address size : ℕ)
    → is_held_at task address size (after_reserved task at width r) ≡ ((address == at) && (size == width))
held_reserved right task at width value r there address size =
    ap (λ held. held && counts address)
    (just_reserved r.space.reservations task at width (area at) address size (area address))
    ∙ by (cases_eq address at)
  where
    area : ℕ → Option Area
    area a = area_of_page (map.get r.space.mapping.pages (page_number a))

    counts : ℕ → Bool
    counts a =
        counts_mapped task (page_offset a)
        (map.get r.space.mapping.pages (page_number a)) (after_reserved task at width r).hand

    counts_there : counts at ≡ true
    counts_there =
        mapped_counts task (page_offset at) value right (map.get r.space.mapping.pages (page_number at)) r.hand there

    by : (address ≡ at) ⊎ (address ≡ at → ⊥)
        → ((((address == at) && (size == width)) && is_same_area (area at) (area address)) && counts address)
        ≡ ((address == at) && (size == width))
    by (inl same) =
        ap₂ (λ made c. (((address == at) && (size == width)) && made) && c)
        (ap (λ a. is_same_area (area at) (area a)) same ∙ same_area_itself (area at)) (ap counts same ∙ counts_there)
        ∙ both_true ((address == at) && (size == width))
    by (inr apart) =
        ap (λ test. ((test && (size == width)) && is_same_area (area at) (area address)) && counts address)
        (ne_eqb address at apart)
        ∙ sym (ap (λ test. test && (size == width)) (ne_eqb address at apart))

pub none_held : (task at : ℕ) (r : Reach) (address size : ℕ)
    → is_held_at task address size (after_taken task at r) ≡ false
none_held task at r address size =
    ap (λ held. held && counts_mapped task (page_offset address)
    (map.get r.space.mapping.pages (page_number address)) (after_taken task at r).hand)
    (without_ends r.space.reservations task address size
    (area_of_page (map.get r.space.mapping.pages (page_number address))))
