-- Each byte of memory, as any access sees it, after a task has put one.
use Rattle.std.proofs.Common.{◌≡◌, ℕ, ◌==◌, Bool, true, false, ◌&&◌, List, Option, Some, None, refl, ap, sym, ◌∙◌, ◌⊎◌}
use Rattle.std.proofs.Common.{inl, inr}
use Rattle.std.specs.Prelude.{option_map, slice_set}
use Rattle.std.specs.FinMap as map
use Rattle.std.proofs.lemmas.Bool.{cases_eq}
use Rattle.rv_table.specs.Areas.{is_area}
use Rattle.rv_table.specs.declared.error.Area.{Area}
use Rattle.rv_table.specs.Bytes.{Byte, Barred, InArea}
use Rattle.mm_areas.specs.declared.rights.Rights.{Rights}
use Rattle.mm_areas.specs.Contents.{with_bytes_changed, with_change}
use Rattle.mm_areas.specs.Pages.{Held, Bytes, PageOf, Mapped, Pages}
use Rattle.mm_areas.specs.Rights.{has}
use Rattle.mm_space.specs.Accesses.{area_byte, byte_at, mapped_byte, page_number, page_offset}
use Rattle.mm_space.specs.Handed.{AreaState, InHand, area_in}
use Rattle.mm_space.specs.Places.{shared_at}
use Rattle.mm_space.specs.Puts.{put_byte, put_in_area, put_mapped, with_area}
use Rattle.mm_space.specs.Spaces.{Reach}
use Rattle.quantum.specs.Acting.{is_same_held, is_same_mapped}
use Rattle.quantum.specs.laws.Addresses.{is_at, mapped_as, other_page, private_same, same_page}
use Rattle.quantum.specs.laws.Bytes.{barred_stays, byte_in_pages, byte_set, seen_by_right, valued_if}
use Rattle.quantum.specs.laws.Hands.{area_in_changed, changed_if}
use Rattle.quantum.specs.laws.Pages.{changed_apart, changed_here, same_in}

module _ (right : Rights) (task at value : ℕ) (r : Reach) (address : ℕ) where
  abbrev pages : Pages
  pages = r.space.mapping.pages

  -- what lies where the byte is put, and where a byte is looked at
  abbrev there : Option Mapped
  there = map.get pages (page_number at)

  abbrev here : Option Mapped
  here = map.get pages (page_number address)

  -- the byte that is looked at, by what lies there, before the put and after it
  abbrev byte_of : Option Mapped → Byte
  byte_of found = mapped_byte right r.hand (page_offset address) found

  abbrev before : Byte
  before = byte_at right r address

  abbrev after : Option Mapped → Byte
  after found = byte_at right (put_mapped task (page_number at) (page_offset at) value found r) address

  -- it stays where another page is put to
  stays_apart : (page_number at ≡ page_number address → ⊥) → before ≡ valued_if (is_at at address) value before
  stays_apart apart = sym (ap (λ (test : Bool). valued_if test value before) (other_page at address apart))

  -- ---- where nothing is mapped

  put_nowhere : there ≡ None → before ≡ valued_if (is_at at address) value before
  put_nowhere is = by (cases_eq (page_number at) (page_number address))
    where
      barred : page_number at ≡ page_number address → before ≡ Barred
      barred same = ap byte_of (ap (map.get pages) (sym same) ∙ is)

      by : (page_number at ≡ page_number address) ⊎ (page_number at ≡ page_number address → ⊥)
          → before ≡ valued_if (is_at at address) value before
      by (inl same) =
          barred same ∙ barred_stays (is_at at address) value
          ∙ ap (valued_if (is_at at address) value) (sym (barred same))
      by (inr apart) = stays_apart apart

  -- ---- in a private page

  module _ (rights : Rights) (bytes : List ℕ) (is : there ≡ mapped_as rights (Bytes bytes)) where
    abbrev change : List ℕ → List ℕ
    change bs = slice_set bs (page_offset at) value

    abbrev changed_page : ℕ → Option Mapped
    changed_page page = map.get (with_change pages (page_number at) change) page

    private_here : page_number at ≡ page_number address
        → byte_of (changed_page (page_number address)) ≡ valued_if (is_at at address) value before
    private_here same =
        ap (λ n. byte_of (changed_page n)) (sym same)
        ∙ ap byte_of (changed_here pages (page_number at) change)
        ∙ ap (λ (found : Option Mapped). byte_of (option_map (with_bytes_changed change) found)) is
        ∙ seen_by_right (has rights right) (page_offset at == page_offset address) value _ _
        (byte_set bytes (page_offset at) value (page_offset address))
        ∙ ap (λ (test : Bool). valued_if test value (byte_of (mapped_as rights (Bytes bytes))))
        (sym (same_page at address same))
        ∙ ap (λ (found : Option Mapped). valued_if (is_at at address) value (byte_of found))
        (sym is ∙ ap (map.get pages) same)

    private_apart : (page_number at ≡ page_number address → ⊥)
        → byte_of (changed_page (page_number address)) ≡ valued_if (is_at at address) value before
    private_apart apart =
        ap byte_of (changed_apart pages (page_number at) change (page_number address) apart) ∙ stays_apart apart

    put_private : after (mapped_as rights (Bytes bytes))
        ≡ valued_if (is_same_mapped at address (mapped_as rights (Bytes bytes)) here) value before
    put_private =
        by (cases_eq (page_number at) (page_number address))
        ∙ sym (ap (λ (test : Bool). valued_if test value before) (private_same at address rights bytes here))
      where
        by : (page_number at ≡ page_number address) ⊎ (page_number at ≡ page_number address → ⊥)
            → byte_of (changed_page (page_number address)) ≡ valued_if (is_at at address) value before
        by (inl same) = private_here same
        by (inr apart) = private_apart apart

  -- ---- in a page of an area

  module _ (rights : Rights) (name : Area) (number : ℕ) (is : there ≡ mapped_as rights (PageOf name number)) where
    abbrev change_area : AreaState → AreaState
    change_area = put_in_area task number (page_offset at) value

    abbrev hand_after : List InHand
    hand_after = with_area name change_area r.hand

    -- a byte of an area's page, and whether that is the place of the put
    abbrev area_at : Area → (place : ℕ) → Option AreaState → Byte
    area_at other place state = area_byte other place (page_offset address) state

    abbrev is_place : (place : ℕ) → Bool
    is_place place = (number == place) && (page_offset at == page_offset address)

    area_named : (other : Area) (same : Bool) → InArea other ≡ valued_if same value (InArea other)
    area_named other true = refl
    area_named other false = refl

    area_if : (other : Area) (place : ℕ) (same : Bool) (state : Option AreaState)
        → area_at other place (changed_if same change_area state)
        ≡ valued_if (same && is_place place) value (area_at other place state)
    area_if other place false state = refl
    area_if other place true None = area_named other (is_place place)
    area_if other place true (Some area) =
        byte_in_pages area.pages number (page_offset at) value place (page_offset address)

    area_put : (other : Area) (place : ℕ) → area_at other place (area_in other hand_after)
        ≡ valued_if (is_area name other && is_place place) value (area_at other place (area_in other r.hand))
    area_put other place =
        ap (area_at other place) (area_in_changed name other change_area r.hand)
        ∙ area_if other place (is_area name other) (area_in other r.hand)

    -- a private page is another
    private_elsewhere : (right_of : Rights) (bytes : List ℕ) → here ≡ mapped_as right_of (Bytes bytes)
        → page_number at ≡ page_number address → ⊥
    private_elsewhere right_of bytes found same =
        let of_area : shared_at (mapped_as rights (PageOf name number)) ≡ None
        = ap shared_at (sym is ∙ ap (map.get pages) same ∙ found) in
        cc

    in_held : (right_of : Rights) (held : Held) → here ≡ mapped_as right_of held
        → mapped_byte right hand_after (page_offset address) (mapped_as right_of held)
        ≡ valued_if (is_same_held at address (PageOf name number) held) value (byte_of (mapped_as right_of held))
    in_held right_of (Bytes bytes) found =
        sym (ap (λ (test : Bool). valued_if test value (byte_of (mapped_as right_of (Bytes bytes))))
        (other_page at address (private_elsewhere right_of bytes found)))
    in_held right_of (PageOf other place) found =
        seen_by_right (has right_of right) (is_area name other && is_place place) value _ _ (area_put other place)

    put_shared : after (mapped_as rights (PageOf name number))
        ≡ valued_if (is_same_mapped at address (mapped_as rights (PageOf name number)) here) value before
    put_shared = by here refl
      where
        by : (found : Option Mapped) → here ≡ found → mapped_byte right hand_after (page_offset address) found
            ≡ valued_if (is_same_mapped at address (mapped_as rights (PageOf name number)) found) value (byte_of found)
        by None found = barred_stays (is_at at address) value
        by (Some m) found = in_held m.rights m.held found

  -- ---- anywhere

  pub byte_put : byte_at right (put_byte task at value r) address ≡ valued_if (same_in pages at address) value before
  byte_put = by there refl
    where
      by_held : (rights : Rights) (held : Held) → there ≡ mapped_as rights held
          → after (mapped_as rights held)
          ≡ valued_if (is_same_mapped at address (mapped_as rights held) here) value before
      by_held rights (Bytes bytes) is = put_private rights bytes is
      by_held rights (PageOf name number) is = put_shared rights name number is

      by : (found : Option Mapped) → there ≡ found
          → after found ≡ valued_if (is_same_mapped at address found here) value before
      by None is = put_nowhere is
      by (Some m) is = by_held m.rights m.held is
