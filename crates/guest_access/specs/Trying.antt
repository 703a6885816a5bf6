-- Accesses and instructions with the shared areas that they ask for, as they are tried.
use Rattle.std.specs.Prelude.{◌≡◌, ℕ, Some, None, Bool, true, false, Option, List, if◌then◌else◌}
use Rattle.rv_table.specs.Bytes.{Value, loaded}
use Rattle.rv_table.specs.declared.registers.Regs.{Regs}
use Rattle.mm_areas.specs.declared.rights.Rights.{Rights}
use Rattle.mm_space.specs.Accesses.{byte_at}
use Rattle.mm_space.specs.Handed.{AreaState, InHand}
use Rattle.mm_space.specs.Spaces.{AddressSpace, Reach}
use Rattle.quantum.specs.declared.run.QuantumEnd.{QuantumEnd}
use Rattle.quantum.specs.declared.run.QuantumEnd.TheVariants as ends
use Rattle.quantum.specs.Instructions.{ran}
use Rattle.kernel_model.specs.Names.{NamedMap}
use Rattle.kernel_model.specs.declared.caller.Caller.{Caller}
use Rattle.kernel_model.specs.declared.traps.Next.{Next}
use Rattle.kernel_model.specs.declared.traps.Next.TheVariants.{Goes, Calls, Traps, Touches}
use Rattle.kernel_model.specs.machine.Spaces.{reach_with, going_with}
use Rattle.kernel_model.specs.entries.Areas.{stands_lacking, next_tried, access_tried, tried_with}
use Rattle.kernel_model.specs.entries.Parts.{Parts, outcome_in}
use Rattle.guest_access.specs.Lending.{AreThere, AreThose, with_hand}

-- an access with some areas in hand comes to those in hand at last, where each byte may be accessed so; the state has
-- all areas in their places
-- profile
abbrev pub by_right : Bool → List InHand → Option (List InHand)
by_right allowed hand = if allowed then Some hand else None

abbrev pub Accesses : Rights → AddressSpace → (at count most : ℕ) → (hand : List InHand)
    → (all : NamedMap AreaState) → Bool → (last : List InHand) → Type 0
Accesses right space at count most hand all allowed last =
    (s : Parts) → AreThose s all
    → outcome_in s (tried_with (access_tried right space at count) None most hand) ≡ by_right allowed last

-- each of so many bytes may be accessed so, with what is in hand
-- profile
abbrev pub IsAllowed : Rights → AddressSpace → (at count : ℕ) → List InHand → Type 0
IsAllowed right space at count hand =
    (number : ℕ) × (loaded (byte_at right (reach_with space hand)) at count ≡ Value number)

-- bytes were put, so that this is reached, or nothing was and has changed
-- read(2), EFAULT
abbrev pub Wrote : Option Reach → Bool → (space space' : AddressSpace) → (areas areas' : NamedMap AreaState)
    → Type 0
Wrote None wrote space space' areas areas' = (wrote ≡ false) × (space' ≡ space) × (areas' ≡ areas)
Wrote (Some r) wrote space space' areas areas' =
    (wrote ≡ true) × (space' ≡ r.space) × (areas' ≡ with_hand r.hand areas)

-- a task with these registers and this address space
-- RISC-V Unprivileged ISA 20191213, 1.2
pub record StandsOver (c : Caller) (number : ℕ) (before : Regs) (own : AddressSpace) : Type 0 where
  pub task : c.task ≡ number
  pub registers : c.registers ≡ before
  pub space : c.space ≡ own

-- what an instruction has left, with what was in hand for it: where it went on, what it does, and else nothing has
-- changed
-- RISC-V Unprivileged ISA 20191213, 1.2
abbrev pub LeftByInstruction : Caller → Next → (last : List InHand) → Regs → AddressSpace → (hand' : List InHand)
    → (areas' all : NamedMap AreaState) → Type 0
LeftByInstruction c Goes last registers space hand' areas' all =
    (ran 1 (going_with c.task c.space last c.registers) ≡ Some (going_with c.task space hand' registers))
    × (with_hand hand' areas' ≡ with_hand hand' all)
LeftByInstruction c _ last registers space hand' areas' all =
    (registers ≡ c.registers) × (space ≡ c.space) × (with_hand hand' areas' ≡ all)

-- what the next instruction does, by how a run of at most one ended, or None where memory was wanting
-- profile
abbrev pub next_by_end : QuantumEnd → Option Next
next_by_end (ends.Ended count) = Some Goes
next_by_end (ends.Call count) = Some Calls
next_by_end (ends.Trap count signal) = Some (Traps signal)
next_by_end (ends.Shared count area) = Some (Touches area)
next_by_end ends.Memory = None

-- areas that are in hand have their places, and put back they make all that there are
-- profile
pub record AreLent (hand : List InHand) (areas all : NamedMap AreaState) : Type 0 where
  pub there : AreThere hand areas
  pub back : with_hand hand areas ≡ all

-- an instruction with some areas in hand, and so many more at most; the state has all areas in their places
-- profile
pub record Stepped (c : Caller) (most : ℕ) (hand : List InHand) (all : NamedMap AreaState) (next : Next)
    (registers : Regs) (space : AddressSpace) (hand' : List InHand) (areas' : NamedMap AreaState) : Type 0 where
  pub last : List InHand
  pub stands : (s : Parts) → AreThose s all
      → outcome_in s (tried_with (next_tried c) stands_lacking most hand) ≡ record { next = next; hand = last }
  pub left : LeftByInstruction c next last registers space hand' areas' all
