-- Accesses whose bytes lie in one private page.
use Rattle.std.proofs.Common.{◌≡◌, ℕ, zero, suc, ◌+◌, ◌*◌, ◌/◌, ◌%◌, ◌^◌, ◌<◌, ◌≤◌, Bool, true, List, length, get_or}
use Rattle.std.proofs.Common.{Option, Some, None, refl, ap, sym, ◌∙◌, arith}
use Rattle.std.specs.Prelude.{slice_get, if◌then◌else◌, IfSome}
use Rattle.std.specs.Option.{SomeIff}
use Rattle.std.specs.FinMap as map
use Rattle.std.proofs.lemmas.Option.{slice_get-get_or}
use Rattle.rv_table.specs.Bytes.{Byte, Holds, Barred, Value, behind, or_barred, or_area, value_in, first_barred}
use Rattle.rv_table.specs.Bytes.{first_area, number_from, loaded}
use Rattle.mm_frames.specs.Numbers.{little_number_at}
use Rattle.mm_areas.specs.declared.rights.Rights.{Rights}
use Rattle.mm_areas.specs.Pages.{Bytes}
use Rattle.mm_areas.specs.Rights.{has}
use Rattle.mm_space.specs.Sight.{as_byte}
use Rattle.mm_space.specs.Spaces.{AddressSpace, Reach}
use Rattle.mm_space.specs.Accesses.{LoadsNear, byte_at, mapped_byte}
use Rattle.mm_space.proofs.Accessed.{value_there}

-- a page of bytes of its own that has a right
-- mmap(2), MAP_PRIVATE
pub record IsPrivate (right : Rights) (r : Reach) (number : ℕ) (bytes : List ℕ) : Type 0 where
  pub rights : Rights
  pub there : map.get r.space.mapping.pages number ≡ Some (record { rights = rights; held = Bytes bytes })
  pub allowed : has rights right ≡ true
  pub whole : length bytes ≡ 4096

module _ (right : Rights) (r : Reach) (number : ℕ) (bytes : List ℕ) (low : number < 2 ^ 52)
    (private : IsPrivate right r number bytes) where
  -- a byte of the page, by its address
  byte_here : (at offset : ℕ) → at ≡ (number * 4096 + offset) % 2 ^ 64 → offset < 4096
      → byte_at right r at ≡ Holds (get_or bytes offset 0)
  byte_here at offset is inside =
      let page_is : at % 2 ^ 64 / 4096 ≡ number = omega arith in
      let offset_is : at % 2 ^ 64 % 4096 ≡ offset = omega arith in
      let within : offset < length bytes = omega (arith, private.whole) in
      ap (λ n. mapped_byte right r.hand (at % 2 ^ 64 % 4096) (map.get r.space.mapping.pages n)) page_is
      ∙ ap (λ o. mapped_byte right r.hand o (map.get r.space.mapping.pages number)) offset_is
      ∙ ap (mapped_byte right r.hand offset) private.there
      ∙ ap (λ (b : Bool). if b then as_byte (slice_get bytes offset) else Barred) private.allowed
      ∙ ap as_byte (slice_get-get_or bytes offset 0 within)

  -- the address behind it
  next_here : (at offset : ℕ) → at ≡ (number * 4096 + offset) % 2 ^ 64
      → behind at ≡ (number * 4096 + (offset + 1)) % 2 ^ 64
  next_here at offset is = omega arith

  none_barred : (at offset count : ℕ) → at ≡ (number * 4096 + offset) % 2 ^ 64 → offset + count ≤ 4096
      → first_barred (byte_at right r) at count ≡ None
  unfolding first_barred
  none_barred at offset zero is inside = refl
  none_barred at offset (suc n) is inside =
      ap (λ (b : Byte). or_barred b at (first_barred (byte_at right r) (behind at) n))
      (byte_here at offset is (omega arith))
      ∙ none_barred (behind at) (offset + 1) n (next_here at offset is) (omega arith)

  none_shared : (at offset count : ℕ) → at ≡ (number * 4096 + offset) % 2 ^ 64 → offset + count ≤ 4096
      → first_area (byte_at right r) at count ≡ None
  unfolding first_area
  none_shared at offset zero is inside = refl
  none_shared at offset (suc n) is inside =
      ap (λ (b : Byte). or_area b (first_area (byte_at right r) (behind at) n)) (byte_here at offset is (omega arith))
      ∙ none_shared (behind at) (offset + 1) n (next_here at offset is) (omega arith)

  number_is : (at offset count : ℕ) → at ≡ (number * 4096 + offset) % 2 ^ 64 → offset + count ≤ 4096
      → number_from (byte_at right r) at count ≡ little_number_at bytes offset count
  unfolding number_from
  number_is at offset zero is inside = refl
  number_is at offset (suc n) is inside =
      ap (λ (b : Byte). value_in b + 256 * number_from (byte_at right r) (behind at) n)
      (byte_here at offset is (omega arith))
      ∙ ap (λ rest. get_or bytes offset 0 + 256 * rest)
      (number_is (behind at) (offset + 1) n (next_here at offset is) (omega arith))

-- an access whose bytes lie in one private page finds none barred and none in an area
pub near_free : (right : Rights) (r : Reach) (bytes : List ℕ) (at count : ℕ) → at < 2 ^ 64
    → IsPrivate right r (at / 4096) bytes → at % 4096 + count ≤ 4096 → first_barred (byte_at right r) at count ≡ None
near_free right r bytes at count small private inside =
    none_barred right r (at / 4096) bytes (omega arith) private at (at % 4096) count (omega arith) inside

pub near_apart : (right : Rights) (r : Reach) (bytes : List ℕ) (at count : ℕ) → at < 2 ^ 64
    → IsPrivate right r (at / 4096) bytes → at % 4096 + count ≤ 4096 → first_area (byte_at right r) at count ≡ None
near_apart right r bytes at count small private inside =
    none_shared right r (at / 4096) bytes (omega arith) private at (at % 4096) count (omega arith) inside

-- and comes to the number that lies there
pub near_value : (right : Rights) (r : Reach) (bytes : List ℕ) (at count value : ℕ) → at < 2 ^ 64
    → IsPrivate right r (at / 4096) bytes → at % 4096 + count ≤ 4096 → value ≡ little_number_at bytes (at % 4096) count
    → loaded (byte_at right r) at count ≡ Value value
near_value right r bytes at count value small private inside is =
    value_there (byte_at right r) at count value (near_free right r bytes at count small private inside)
    (near_apart right r bytes at count small private inside)
    (is ∙ sym (number_is right r (at / 4096) bytes (omega arith) private at (at % 4096) count (omega arith) inside))

-- so what a page answers is what the access comes to
pub near_answer : (right rights : Rights) (space : AddressSpace) (bytes : List ℕ) (at width : ℕ) (fits : Type 0)
    (answer : Option ℕ) → at < 2 ^ 64
    → map.get space.mapping.pages (at / 4096) ≡ Some (record { rights = rights; held = Bytes bytes })
    → has rights right ≡ true → length bytes ≡ 4096 → (fits → at % 4096 + width ≤ 4096)
    → SomeIff answer fits (little_number_at bytes (at % 4096) width) → IfSome answer (LoadsNear right space at width)
near_answer right rights space bytes at width fits None small there allowed whole inside is = tt
near_answer right rights space bytes at width fits (Some value) small there allowed whole inside is = λ hand.
    near_value right (record { space = space; hand = hand }) bytes at width value small
    (record { rights = rights; there = there; allowed = allowed; whole = whole }) (inside is.0) is.1
