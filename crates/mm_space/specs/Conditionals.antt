-- Store-conditionals whose bytes lie in one page that has its bytes for itself.
use Rattle.std.specs.Prelude.{◌≡◌, ℕ, ◌/◌, ◌%◌, Bool, true, false, List}
use Rattle.mm_frames.specs.Numbers.{IsInPage}
use Rattle.mm_areas.specs.Hints.{allows_at, is_hint}
use Rattle.mm_areas.specs.Mappings.{mapping}
use Rattle.mm_areas.specs.Own.{owns}
use Rattle.mm_space.specs.Accesses.{writable}
use Rattle.mm_space.specs.Handed.{InHand}
use Rattle.mm_space.specs.Puts.{AllowsNear, after_stored}
use Rattle.mm_space.specs.Reserves.{after_taken, is_held_at}
use Rattle.mm_space.specs.Spaces.{AddressSpace, Reach}
use Rattle.mm_space.specs.declared.space.Space.{Space}

-- so many bytes lie in one page that may be written and has its bytes for itself, and the guess at its region is right
-- profile
abbrev pub HasRoomBy : Space → (hint at width : ℕ) → Type 0
HasRoomBy space hint at width =
    (is_hint space.areas hint (at / 4096) ≡ true) × (owns space.areas (at / 4096) ≡ true)
    × (allows_at (mapping space.areas).pages (at / 4096) writable ≡ true) × IsInPage (at % 4096) width

-- what is reached after a store-conditional: the reservation is ended, and where it was held, the bytes stand there
-- RISC-V Unprivileged ISA 20191213, 8.2, SC
abbrev pub after_conditional : (held : Bool) → (task at width value : ℕ) → Reach → Reach
after_conditional true task at width value r = after_stored task at width value (after_taken task at r)
after_conditional false task at width value r = after_taken task at r

-- a store-conditional is made, and finds its reservation or not, whichever areas are handed in
-- RISC-V Unprivileged ISA 20191213, 8.2, SC
pub record ConditionalNear (old new : AddressSpace) (task at width value : ℕ) (held : Bool) : Type 0 where
  pub room : AllowsNear old at width
  pub reserved : (hand : List InHand) → held ≡ is_held_at task at width (record { space = old; hand = hand })
  pub made : (hand : List InHand) → (let after : Reach = record { space = new; hand = hand } in after)
      ≡ after_conditional held task at width value (record { space = old; hand = hand })
