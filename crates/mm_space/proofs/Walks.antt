-- A step of a walk over a run: the piece that lies in the page of its first address, and the rest.
use Rattle.std.proofs.Common.{◌≡◌, ℕ, zero, suc, ◌+◌, ◌-◌, ◌*◌, ◌/◌, ◌%◌, ◌^◌, ◌<◌, ◌≤◌, List, Option, Some, None, refl}
use Rattle.std.proofs.Common.{ap, sym, ◌∙◌, arith}
use Rattle.std.specs.Option.{option_or}
use Rattle.rv_table.specs.declared.error.Area.{Area}
use Rattle.rv_table.specs.Bytes.{Byte, first_barred, first_area}
use Rattle.mm_areas.specs.declared.rights.Rights.{Rights}
use Rattle.mm_space.specs.declared.page_sight.PageSight.{PageSight}
use Rattle.mm_space.specs.declared.page_sight.PageSight.TheVariants as sights
use Rattle.mm_space.specs.Accesses.{byte_at}
use Rattle.mm_space.specs.PageSights.{sight_area, sight_bytes}
use Rattle.mm_space.specs.Runs.{bytes_from}
use Rattle.mm_space.specs.Spaces.{Reach}
use Rattle.mm_space.proofs.SeenPages.{IsSeen, barred_first, area_unbarred, area_first, bytes_unbarred, bytes_apart}
use Rattle.mm_space.proofs.SeenPages.{piece_here}
use Rattle.mm_space.proofs.Splits.{barred_split, area_split}

pub option_or_assoc : {A : Type 0} (a b c : Option A) → option_or a (option_or b c) ≡ option_or (option_or a b) c
option_or_assoc (Some x) b c = refl
option_or_assoc None b c = refl

-- a piece of a run: it lies in the page of its first address
-- getpagesize(2): 4,096 bytes
pub record IsPiece (at left piece : ℕ) : Type 0 where
  pub small : at < 2 ^ 64
  pub within : piece ≤ left
  pub inside : at % 4096 + piece ≤ 4096
  pub some : 0 < piece

-- where the page of an address may not be accessed, that address is the fault
pub barred_step : (right : Rights) (r : Reach) (at left : ℕ) → at < 2 ^ 64 → 0 < left
    → IsSeen right r (at / 4096) sights.Barred → first_barred (byte_at right r) at left ≡ Some at
barred_step right r at left small some seen =
    barred_first right r (at / 4096) (omega (arith, small)) at (at % 4096) left seen
    (omega (arith, small)) (omega arith) some

-- nothing is left at the end
pub barred_end : (byte : ℕ → Byte) (at left : ℕ) → left ≤ 0 → first_barred byte at left ≡ None
unfolding first_barred
barred_end byte at zero end = refl
barred_end byte at (suc n) end = absurd (omega arith)

pub area_end : (byte : ℕ → Byte) (at left : ℕ) (asked : Option Area) → left ≤ 0
    → option_or asked (first_area byte at left) ≡ asked
unfolding first_area
area_end byte at zero None end = refl
area_end byte at zero (Some area) end = refl
area_end byte at (suc n) asked end = absurd (omega arith)

module _ (right : Rights) (r : Reach) (at left piece : ℕ) (is : IsPiece at left piece) where
  begins : at ≡ (at / 4096 * 4096 + at % 4096) % 2 ^ 64
  begins = omega (arith, is.small)

  low : at / 4096 < 2 ^ 52
  low = omega (arith, is.small)

  all : piece + (left - piece) ≡ left
  all = omega (arith, is.within)

  -- in another page no byte is barred, so that the fault is that of the rest
  piece_unbarred : (sight : PageSight) → IsSeen right r (at / 4096) sight → (sight ≡ sights.Barred → ⊥)
      → first_barred (byte_at right r) at piece ≡ None
  piece_unbarred sights.Barred seen apart = absurd (apart refl)
  piece_unbarred (sights.InArea area) seen apart =
      area_unbarred right r (at / 4096) low area at (at % 4096) piece seen begins is.inside
  piece_unbarred (sights.Bytes bytes) seen apart =
      bytes_unbarred right r (at / 4096) low bytes at (at % 4096) piece seen begins is.inside

  pub unbarred_step : (sight : PageSight) → IsSeen right r (at / 4096) sight → (sight ≡ sights.Barred → ⊥)
      → first_barred (byte_at right r) at left ≡ first_barred (byte_at right r) ((at + piece) % 2 ^ 64) (left - piece)
  unbarred_step sight seen apart =
      ap (first_barred (byte_at right r) at) (sym all)
      ∙ barred_split (byte_at right r) at piece (left - piece) is.small
      ∙ ap (λ (o : Option ℕ). option_or o (first_barred (byte_at right r) ((at + piece) % 2 ^ 64) (left - piece)))
      (piece_unbarred sight seen apart)

  -- and the area the page's, or that of the rest
  piece_area : (sight : PageSight) → IsSeen right r (at / 4096) sight → (sight ≡ sights.Barred → ⊥)
      → first_area (byte_at right r) at piece ≡ sight_area sight
  piece_area sights.Barred seen apart = absurd (apart refl)
  piece_area (sights.InArea area) seen apart =
      area_first right r (at / 4096) low area at (at % 4096) piece seen begins
      (omega (arith, is.inside, is.some)) is.some
  piece_area (sights.Bytes bytes) seen apart =
      bytes_apart right r (at / 4096) low bytes at (at % 4096) piece seen begins is.inside

  pub area_step : (sight : PageSight) → IsSeen right r (at / 4096) sight → (sight ≡ sights.Barred → ⊥)
      → first_area (byte_at right r) at left
      ≡ option_or (sight_area sight) (first_area (byte_at right r) ((at + piece) % 2 ^ 64) (left - piece))
  area_step sight seen apart =
      ap (first_area (byte_at right r) at) (sym all)
      ∙ area_split (byte_at right r) at piece (left - piece) is.small
      ∙ ap (λ (o : Option Area). option_or o (first_area (byte_at right r) ((at + piece) % 2 ^ 64) (left - piece)))
      (piece_area sight seen apart)

-- so many bytes of the page, from the address on, are those of the run
pub piece_step : (right : Rights) (r : Reach) (at count piece : ℕ) (sight : PageSight) (bytes : List ℕ) → at < 2 ^ 64
    → IsSeen right r (at / 4096) sight → at % 4096 + piece ≤ 4096 → count ≡ piece
    → bytes ≡ sight_bytes sight (at % 4096) count → bytes ≡ bytes_from (byte_at right r) at piece
piece_step right r at count piece sight bytes small seen inside counted are =
    are ∙ ap (sight_bytes sight (at % 4096)) counted
    ∙ sym (piece_here right r (at / 4096) (omega (arith, small)) sight at (at % 4096) piece seen
    (omega (arith, small)) inside)
