-- A store-conditional by hints, as the memory's contract tells it.
use Rattle.std.proofs.Common.{◌≡◌, ℕ, Bool, true, false, List, Option, Some, None, refl, ap, ◌∙◌}
use Rattle.std.specs.Prelude.{IfSome}
use Rattle.rv_exec.specs.Writes.{all_after, conditional_writes}
use Rattle.mm_space.specs.Conditionals.{ConditionalNear, after_conditional}
use Rattle.mm_space.specs.Handed.{InHand}
use Rattle.mm_space.specs.Spaces.{AddressSpace, Reach}
use Rattle.quantum.specs.Acting.{acting_on, acting_after_write}

abbrev with_hand : AddressSpace → List InHand → Reach
with_hand space hand = record { space = space; hand = hand }

-- what is reached is as after its writes
written : (held : Bool) (r : Reach) (task at width value : ℕ)
    → acting_on task (after_conditional held task at width value r)
    ≡ all_after acting_after_write (conditional_writes held at width value) (acting_on task r)
written true r task at width value = refl
written false r task at width value = refl

pub near_done : (answer : Option Bool) (old new : AddressSpace) (hand : List InHand) (task at width value : ℕ)
    → IfSome answer (ConditionalNear old new task at width value)
    → IfSome answer (λ held. acting_on task (with_hand new hand)
    ≡ all_after acting_after_write (conditional_writes held at width value) (acting_on task (with_hand old hand)))
near_done None old new hand task at width value near = tt
near_done (Some held) old new hand task at width value near =
    ap (acting_on task) (near.made hand) ∙ written held (with_hand old hand) task at width value
