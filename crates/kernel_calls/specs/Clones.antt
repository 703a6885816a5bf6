-- What the making of a child has come to, word by word.
use Rattle.std.specs.Prelude.{◌≡◌, ℕ, Bool, true, false, List, Option, Some, None, ◌||◌}
use Rattle.mm_space.specs.Handed.{AreaState, InHand}
use Rattle.mm_space.specs.Spaces.{AddressSpace, Reach}
use Rattle.sn_errno.specs.declared.errno.Errno.TheVariants.{EFAULT}
use Rattle.kernel_model.specs.Names.{NamedMap}
use Rattle.kernel_model.specs.declared.caller.Caller.{Caller}
use Rattle.kernel_model.specs.declared.kernel.Kernel.{Kernel}
use Rattle.kernel_model.specs.calls.Answers.{Answer, refuses}
use Rattle.kernel_model.specs.calls.Clone.{is_process, is_thread, word_set}
use Rattle.kernel_model.specs.entries.Parts.{Parts, parts, Prog, outcome_in}
use Rattle.guest_access.specs.Lending.{with_hand, AreThose}
use Rattle.kernel_calls.specs.Prepared.{MakesChild}
use Rattle.kernel_calls.specs.declared.clone.ClonedTask.{ClonedTask}
use Rattle.kernel_calls.specs.declared.clone.Words.{Words}

-- flags are those of a new process, or those of a new thread
-- clone(2), ERRORS, EINVAL; which they are: profile
abbrev pub is_shape : (flags : ℕ) → Bool
is_shape flags = is_process flags || is_thread flags

-- a word was set, or was not to be, and this address space and these areas are left; or it can't be written
-- clone(2), CLONE_PARENT_SETTID, CLONE_CHILD_SETTID
abbrev pub HasSet : Option Reach → Bool → AddressSpace → (areas all : NamedMap AreaState) → Type 0
HasSet None set space areas all = set ≡ false
HasSet (Some r) set space areas all = (set ≡ true) × (space ≡ r.space) × (areas ≡ with_hand r.hand all)

-- a task has set a word to a number, where that was asked for, whatever areas were left so before
-- clone(2), CLONE_PARENT_SETTID, CLONE_CHILD_SETTID
pub record SetsWord (task : ℕ) (asked : Bool) (space space' : AddressSpace) (areas areas' : NamedMap AreaState)
    (address number : ℕ) (set : Bool) : Type 0 where
  pub over : (s : Parts) (hand : List InHand) (all : NamedMap AreaState) → AreThose s all → areas ≡ with_hand hand all
      → HasSet (outcome_in s (word_set task asked space hand address number)) set space' areas' all

-- the same, where this is left of the memory, or nothing where the word can't be written
-- clone(2), CLONE_PARENT_SETTID
abbrev pub LeavesWords : (task : ℕ) (asked : Bool) → AddressSpace → NamedMap AreaState → (address number : ℕ)
    → Option Words → Type 0
LeavesWords task asked space areas address number None =
    (space' : AddressSpace) × (areas' : NamedMap AreaState)
    × SetsWord task asked space space' areas areas' address number false
LeavesWords task asked space areas address number (Some words) =
    SetsWord task asked space words.space areas words.areas address number true

-- a row comes to a child that is made, or to the error of a word that can't be written
-- clone(2), ERRORS
abbrev pub MakesIf : Prog Answer → Option ClonedTask → Caller → Kernel → Type 0
MakesIf row None c k = outcome_in (parts k) row ≡ refuses EFAULT
MakesIf row (Some child) c k = MakesChild row child c k
