-- Clear words of tasks that end, as they are cleared one after another.
use Rattle.std.specs.Prelude.{◌≡◌, ◌==◌, Bool, true, false, not, List, [], ◌∷◌, if◌then◌else◌}
use Rattle.futex_core.specs.declared.keys.FutexKey.{FutexKey}
use Rattle.mm_space.specs.Handed.{AreaState}
use Rattle.mm_space.specs.Spaces.{AddressSpace}
use Rattle.task_table.specs.declared.task.EndedTask.{EndedTask}
use Rattle.kernel_model.specs.Names.{NamedMap}
use Rattle.kernel_model.specs.declared.caller.Caller.{Caller}
use Rattle.kernel_model.specs.calls.ClearWords.{Cleared}
use Rattle.kernel_model.specs.entries.Parts.{Parts, Prog, outcome_in}
use Rattle.guest_access.specs.Lending.{AreThose, with_hand}
use Rattle.kernel_calls.specs.declared.context.Context.{Context}

-- whether any of these tasks has a clear word
-- set_tid_address(2), clear_child_tid
abbrev pub has_word : List EndedTask → Bool
has_word [] = false
has_word (e ∷ ended) = if e.clear == 0 then has_word ended else true

-- whether no more than one of them has
-- set_tid_address(2), clear_child_tid
abbrev pub has_few : List EndedTask → Bool
has_few [] = true
has_few (e ∷ ended) = if e.clear == 0 then has_few ended else not (has_word ended)

-- once words were cleared, with all areas as they were before, these are the address space, the areas, and the names of
-- the words
-- set_tid_address(2)
pub record IsCleared (x : Cleared) (all : NamedMap AreaState) (space : AddressSpace) (areas : NamedMap AreaState)
    (keys : List FutexKey) : Type 0 where
  pub space_is : space ≡ x.reach.space
  pub areas_are : areas ≡ with_hand x.reach.hand all
  pub keys_are : keys ≡ x.keys

-- what clears words leaves this address space, these areas and these names, where there were those before: of each task
-- of the context, whatever was cleared so far
-- set_tid_address(2)
abbrev pub Clears : Context → (Caller → Cleared → Prog Cleared) → (space : AddressSpace)
    → (areas : NamedMap AreaState) → (keys : List FutexKey)
    → (space' : AddressSpace) → (areas' : NamedMap AreaState) → (keys' : List FutexKey) → Type 0
Clears context clearing space areas keys space' areas' keys' =
    (c : Caller) (x : Cleared) (all : NamedMap AreaState) (s : Parts) → c.task ≡ context.task
    → c.memory ≡ context.memory → AreThose s all → IsCleared x all space areas keys
    → IsCleared (outcome_in s (clearing c x)) all space' areas' keys'
