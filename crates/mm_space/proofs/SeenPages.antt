-- Pieces of a run that lie in one page, by what the page is to an access.
use Rattle.std.proofs.Common.{◌≡◌, ℕ, zero, suc, ◌+◌, ◌*◌, ◌/◌, ◌%◌, ◌^◌, ◌<◌, ◌≤◌, List, ◌∷◌, length, get_or, take}
use Rattle.std.proofs.Common.{drop, replicate, Some, None, refl, ap, sym, ◌∙◌, arith}
use Rattle.std.specs.Borrow.{Bor}
use Rattle.std.specs.FinMap as map
use Rattle.std.proofs.lemmas.List.{drop_more}
use Rattle.std.proofs.lemmas.Option.{slice_get-get_or}
use Rattle.rv_table.specs.declared.error.Area.{Area}
use Rattle.rv_table.specs.Bytes.{Byte, Holds, behind, or_barred, or_area, value_in, first_barred, first_area}
use Rattle.mm_areas.specs.declared.rights.Rights.{Rights}
use Rattle.mm_space.specs.declared.page_sight.PageSight.{PageSight}
use Rattle.mm_space.specs.declared.page_sight.PageSight.TheVariants as sights
use Rattle.mm_space.specs.Accesses.{byte_at, mapped_byte}
use Rattle.mm_space.specs.PageSights.{IsWhole, sight_byte, sight_bytes}
use Rattle.mm_space.specs.Runs.{bytes_from}
use Rattle.mm_space.specs.Sight.{as_byte}
use Rattle.mm_space.specs.Spaces.{Reach}

-- a page that an access by a right sees so
-- profile
pub record IsSeen (right : Rights) (r : Reach) (page : ℕ) (sight : PageSight) : Type 0 where
  pub bytes : (offset : ℕ)
      → sight_byte sight offset ≡ mapped_byte right r.hand offset (map.get r.space.mapping.pages page)
  pub whole : IsWhole sight

module _ (right : Rights) (r : Reach) (page : ℕ) (low : page < 2 ^ 52) where
  -- a byte of the page, by its address
  byte_here : (sight : PageSight) (at offset : ℕ) → IsSeen right r page sight → at ≡ (page * 4096 + offset) % 2 ^ 64
      → offset < 4096 → byte_at right r at ≡ sight_byte sight offset
  byte_here sight at offset seen is inside =
      let page_is : at % 2 ^ 64 / 4096 ≡ page = omega arith in
      let offset_is : at % 2 ^ 64 % 4096 ≡ offset = omega arith in
      ap (λ n. mapped_byte right r.hand (at % 2 ^ 64 % 4096) (map.get r.space.mapping.pages n)) page_is
      ∙ ap (λ o. mapped_byte right r.hand o (map.get r.space.mapping.pages page)) offset_is
      ∙ sym (seen.bytes offset)

  -- the address behind it
  next_here : (at offset : ℕ) → at ≡ (page * 4096 + offset) % 2 ^ 64 → behind at ≡ (page * 4096 + (offset + 1)) % 2 ^ 64
  next_here at offset is = omega arith

  -- in a page that may not be accessed the first byte is barred
  pub barred_first : (at offset count : ℕ) → IsSeen right r page sights.Barred → at ≡ (page * 4096 + offset) % 2 ^ 64
      → offset < 4096 → 0 < count → first_barred (byte_at right r) at count ≡ Some at
  unfolding first_barred
  barred_first at offset zero seen is inside some = absurd (omega arith)
  barred_first at offset (suc n) seen is inside some =
      ap (λ (b : Byte). or_barred b at (first_barred (byte_at right r) (behind at) n))
      (byte_here sights.Barred at offset seen is inside)

  -- in a page of an area that isn't handed in no byte is barred, and the first lies in the area
  pub area_unbarred : (area : Area) (at offset count : ℕ) → IsSeen right r page (sights.InArea area)
      → at ≡ (page * 4096 + offset) % 2 ^ 64 → offset + count ≤ 4096 → first_barred (byte_at right r) at count ≡ None
  unfolding first_barred
  area_unbarred area at offset zero seen is inside = refl
  area_unbarred area at offset (suc n) seen is inside =
      ap (λ (b : Byte). or_barred b at (first_barred (byte_at right r) (behind at) n))
      (byte_here (sights.InArea area) at offset seen is (omega arith))
      ∙ area_unbarred area (behind at) (offset + 1) n seen (next_here at offset is) (omega arith)

  pub area_first : (area : Area) (at offset count : ℕ) → IsSeen right r page (sights.InArea area)
      → at ≡ (page * 4096 + offset) % 2 ^ 64 → offset < 4096 → 0 < count
      → first_area (byte_at right r) at count ≡ Some area
  unfolding first_area
  area_first area at offset zero seen is inside some = absurd (omega arith)
  area_first area at offset (suc n) seen is inside some =
      ap (λ (b : Byte). or_area b (first_area (byte_at right r) (behind at) n))
      (byte_here (sights.InArea area) at offset seen is inside)

  -- in a page whose bytes are there none is barred, and none lies in an area
  byte_there : (bytes : Bor (List ℕ)) (at offset : ℕ) → IsSeen right r page (sights.Bytes bytes)
      → at ≡ (page * 4096 + offset) % 2 ^ 64 → offset < 4096 → byte_at right r at ≡ Holds (get_or bytes.now offset 0)
  byte_there bytes at offset seen is inside =
      let within : offset < length bytes.now = omega (arith, seen.whole) in
      byte_here (sights.Bytes bytes) at offset seen is inside ∙ ap as_byte (slice_get-get_or bytes.now offset 0 within)

  pub bytes_unbarred : (bytes : Bor (List ℕ)) (at offset count : ℕ) → IsSeen right r page (sights.Bytes bytes)
      → at ≡ (page * 4096 + offset) % 2 ^ 64 → offset + count ≤ 4096 → first_barred (byte_at right r) at count ≡ None
  unfolding first_barred
  bytes_unbarred bytes at offset zero seen is inside = refl
  bytes_unbarred bytes at offset (suc n) seen is inside =
      ap (λ (b : Byte). or_barred b at (first_barred (byte_at right r) (behind at) n))
      (byte_there bytes at offset seen is (omega arith))
      ∙ bytes_unbarred bytes (behind at) (offset + 1) n seen (next_here at offset is) (omega arith)

  pub bytes_apart : (bytes : Bor (List ℕ)) (at offset count : ℕ) → IsSeen right r page (sights.Bytes bytes)
      → at ≡ (page * 4096 + offset) % 2 ^ 64 → offset + count ≤ 4096 → first_area (byte_at right r) at count ≡ None
  unfolding first_area
  bytes_apart bytes at offset zero seen is inside = refl
  bytes_apart bytes at offset (suc n) seen is inside =
      ap (λ (b : Byte). or_area b (first_area (byte_at right r) (behind at) n))
      (byte_there bytes at offset seen is (omega arith))
      ∙ bytes_apart bytes (behind at) (offset + 1) n seen (next_here at offset is) (omega arith)

  -- what a piece of the page is
  zeros_here : (sight : PageSight) (at offset count : ℕ) → IsSeen right r page sight
      → ((o : ℕ) → value_in (sight_byte sight o) ≡ 0) → at ≡ (page * 4096 + offset) % 2 ^ 64 → offset + count ≤ 4096
      → bytes_from (byte_at right r) at count ≡ replicate count 0
  unfolding bytes_from
  zeros_here sight at offset zero seen none_held is inside = refl
  zeros_here sight at offset (suc n) seen none_held is inside =
      ap (λ b. b ∷ bytes_from (byte_at right r) (behind at) n)
      (ap value_in (byte_here sight at offset seen is (omega arith)) ∙ none_held offset)
      ∙ ap (λ bs. 0 ∷ bs)
      (zeros_here sight (behind at) (offset + 1) n seen none_held (next_here at offset is) (omega arith))

  taken_here : (bytes : Bor (List ℕ)) (at offset count : ℕ) → IsSeen right r page (sights.Bytes bytes)
      → at ≡ (page * 4096 + offset) % 2 ^ 64 → offset + count ≤ 4096 → bytes_from (byte_at right r) at count
      ≡ take count (drop offset bytes.now)
  unfolding bytes_from
  taken_here bytes at offset zero seen is inside = refl
  taken_here bytes at offset (suc n) seen is inside =
      let within : offset < length bytes.now = omega (arith, seen.whole) in
      ap (λ b. b ∷ bytes_from (byte_at right r) (behind at) n)
      (ap value_in (byte_there bytes at offset seen is (omega arith)))
      ∙ ap (λ bs. get_or bytes.now offset 0 ∷ bs)
      (taken_here bytes (behind at) (offset + 1) n seen (next_here at offset is) (omega arith))
      ∙ ap (take (suc n)) (sym (drop_more bytes.now offset 0 within))

  pub piece_here : (sight : PageSight) (at offset count : ℕ) → IsSeen right r page sight
      → at ≡ (page * 4096 + offset) % 2 ^ 64 → offset + count ≤ 4096 → bytes_from (byte_at right r) at count
      ≡ sight_bytes sight offset count
  piece_here sights.Barred at offset count seen is inside =
      zeros_here sights.Barred at offset count seen (λ o. refl) is inside
  piece_here (sights.InArea area) at offset count seen is inside =
      zeros_here (sights.InArea area) at offset count seen (λ o. refl) is inside
  piece_here (sights.Bytes bytes) at offset count seen is inside =
      taken_here bytes at offset count seen is inside ∙ ap (λ n. take n (drop offset bytes.now)) (omega arith)
