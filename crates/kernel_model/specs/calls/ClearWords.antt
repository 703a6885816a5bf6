-- The clear words of tasks that end.
use Rattle.std.specs.Prelude.{ℕ, ◌==◌, List, [], ◌∷◌, ◌++◌, Option, Some, None, if◌then◌else◌}
use Rattle.futex_core.specs.declared.keys.FutexKey.{FutexKey}
use Rattle.mm_space.specs.Spaces.{AddressSpace, Reach}
use Rattle.task_table.specs.declared.task.EndedTask.{EndedTask}
use Rattle.kernel_model.specs.declared.caller.Caller.{Caller}
use Rattle.kernel_model.specs.machine.FutexWords.{key_at}
use Rattle.kernel_model.specs.machine.Spaces.{reach_with}
use Rattle.kernel_model.specs.entries.Areas.{bytes_written_over}
use Rattle.kernel_model.specs.entries.Parts.{Prog, done, ◌>>=◌}

-- what is reached once clear words were cleared, and the names of these words, in order
-- set_tid_address(2), clear_child_tid
pub record Cleared : Type 0 where
  pub reach : Reach
  pub keys : List FutexKey

abbrev pub nothing_cleared : AddressSpace → Cleared
nothing_cleared space = record { reach = reach_with space []; keys = [] }

-- a word of zero
-- set_tid_address(2): the kernel writes 0
abbrev pub zero_word : List ℕ
zero_word = 0 ∷ 0 ∷ 0 ∷ 0 ∷ []

-- with one word more, where it may be written
-- set_tid_address(2): where the write fails nothing happens
abbrev pub with_cleared : Caller → (address : ℕ) → Cleared → Option Reach → Cleared
with_cleared c address x None = x
with_cleared c address x (Some reach) =
    record { reach = reach; keys = x.keys ++ key_at c.memory x.reach.space address ∷ [] }

-- the clear word of a task that ends, where it has one, as a store of the caller
-- set_tid_address(2), DESCRIPTION; that it is the caller's store: profile
abbrev pub word_cleared : Caller → EndedTask → Cleared → Prog Cleared
word_cleared c ended x =
    if ended.clear == 0
    then done x
    else bytes_written_over c.task x.reach.space x.reach.hand ended.clear zero_word
    >>= λ reach. done (with_cleared c ended.clear x reach)

-- those of tasks that end, in their order
-- set_tid_address(2); the order: profile
abbrev pub words_cleared : Caller → List EndedTask → Cleared → Prog Cleared
words_cleared c [] x = done x
words_cleared c (e ∷ ended) x = word_cleared c e x >>= words_cleared c ended
