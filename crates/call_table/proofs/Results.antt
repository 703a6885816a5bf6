-- What holds of what was made, and of what a turn came to, by what else does.
use Rattle.std.proofs.Common.{◌≡◌, subst}
use Rattle.std.specs.Prelude.{Result, Ok, Err, Option, Some, None, IfSome, IfNone}
use Rattle.sn_base.specs.declared.memory.Memory.{Memory}
use Rattle.parked_tasks.specs.declared.used.Spot.{Spot}
use Rattle.call_table.specs.Entries.{IfEntered, IfEnters, IfParked, IfTurnWaits}
use Rattle.call_table.specs.declared.entered.Entered.{Entered}
use Rattle.call_table.specs.declared.entered.Turn.{Turn}
use Rattle.call_table.specs.declared.entered.Turn.TheVariants.{Enters, Waits}

-- of what was made, or of a step that was not ready
pub entered_behind : {A : Type 0} (r : Result (Option A) Memory) (P Q : A → Type 0) → ((made : A) → P made → Q made)
    → IfEntered r P → IfEntered r Q
entered_behind (Ok None) P Q f p = tt
entered_behind (Ok (Some made)) P Q f p = f made p
entered_behind (Err e) P Q f p = tt

pub parked_behind : {A P Q : Type 0} (r : Result (Option A) Memory) → (P → Q) → IfParked r P → IfParked r Q
parked_behind (Ok None) f p = f p
parked_behind (Ok (Some made)) f p = tt
parked_behind (Err e) f p = tt

pub parked_both : {A P Q S : Type 0} (r : Result (Option A) Memory) → (P → Q → S) → IfParked r P → IfParked r Q
    → IfParked r S
parked_both (Ok None) f p q = f p q
parked_both (Ok (Some made)) f p q = tt
parked_both (Err e) f p q = tt

-- and of what a turn came to
pub enters_behind : (r : Result Turn Memory) (P Q : Entered → Type 0) → ((made : Entered) → P made → Q made)
    → IfEnters r P → IfEnters r Q
enters_behind (Ok (Enters made)) P Q f p = f made p
enters_behind (Ok (Waits spot)) P Q f p = tt
enters_behind (Err e) P Q f p = tt

pub waits_behind : (r : Result Turn Memory) (P Q : Spot → Type 0) → ((spot : Spot) → P spot → Q spot) → IfTurnWaits r P
    → IfTurnWaits r Q
waits_behind (Ok (Enters made)) P Q f p = tt
waits_behind (Ok (Waits spot)) P Q f p = f spot p
waits_behind (Err e) P Q f p = tt

-- of what was made, where it is known to be something, or nothing
pub is_some_of : {A : Type 0} (made : Option A) (P : A → Type 0) (one : A) → made ≡ Some one → IfSome made P → P one
is_some_of made P one is p = subst (λ o. IfSome o P) is p

pub is_none : {A : Type 0} (made : Option A) (P : Type 0) → made ≡ None → IfNone made P → P
is_none made P is p = subst (λ o. IfNone o P) is p
