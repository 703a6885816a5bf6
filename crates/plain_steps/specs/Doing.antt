-- Entries done in place: what a kernel is left with, by what is answered; and who calls.
use Rattle.std.specs.Prelude.{◌≡◌, Bool, true, false, Option, Some, None, Result, Ok, Err, List, IsTrue, IsFalse}
use Rattle.std.specs.FinMap as map
use Rattle.sn_base.specs.declared.memory.Memory.{Memory}
use Rattle.futex_core.specs.declared.keys.FutexKey.{FutexKey}
use Rattle.task_table.specs.Table.{has_ended, is_live}
use Rattle.kernel_model.specs.declared.caller.Caller.{Caller}
use Rattle.kernel_model.specs.declared.kernel.Kernel.{Kernel}
use Rattle.kernel_model.specs.Names.{has_named}
use Rattle.kernel_model.specs.entries.Parts.{Change}
use Rattle.kernel_model.specs.laws.InPlace.{changed_by}
use Rattle.kernel_calls.specs.declared.prepared.Called.{Called as ACalled}
use Rattle.kernel_calls.specs.declared.prepared.Called.TheVariants as called
use Rattle.call_fs.specs.declared.call_end.CallEnd.{CallEnd}
use Rattle.call_fs.specs.declared.call_end.CallEnd.TheVariants.{Of, Moves, MakesPipe}

-- a kernel does changes, and answers whether there are any to do; a refusal or want of memory leaves it as it was
-- profile
abbrev pub Does : Option (List Change) → (before after : Kernel) → Result Bool Memory → Type 0
Does changes before after (Ok true) = changed_by changes before ≡ Some after
Does changes before after (Ok false) = (changes ≡ None) × (after ≡ before)
Does changes before after (Err e) = after ≡ before

-- a task lives, and what its entries change is there: its registers, its memory, and its thread group, which has not
-- ended
-- credentials(7), Process ID (PID); clone(2), CLONE_VM
pub record IsThere (c : Caller) (k : Kernel) : Type 0 where
  pub lives : IsTrue (is_live k.tasks.tasks c.task)
  pub registers : IsTrue (map.contains_key k.registers c.task)
  pub space : IsTrue (has_named k.spaces c.memory.place c.memory.index)
  pub group : IsTrue (map.contains_key k.tasks.groups c.group)
  pub going : IsFalse (has_ended k.tasks.groups c.group)

-- the futex word that a call of others than those on what is open puts its task to sleep on, where it does so
-- futex(2), FUTEX_WAIT
abbrev pub kept_key : ACalled → Option FutexKey
kept_key (called.Replies p) = None
kept_key (called.Makes child) = None
kept_key (called.Sleeps key) = Some key
kept_key (called.Waits awaited) = None

-- the futex word that a call puts its task to sleep on, where it does so
-- futex(2), FUTEX_WAIT
abbrev pub key_slept_on : CallEnd → Option FutexKey
key_slept_on (Of d) = kept_key d
key_slept_on (Moves reply transfer) = None
key_slept_on (MakesPipe new) = None
