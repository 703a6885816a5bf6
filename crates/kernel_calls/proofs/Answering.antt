-- What calls come to, as their rows have it.
use Rattle.std.proofs.Common.{◌≡◌, ℕ, ℤ, pos, min, length, List, [], ◌∷◌, Option, Some, None, Result, Ok}
use Rattle.std.proofs.Common.{Err, refl, ap, sym, ◌∙◌}
use Rattle.std.specs.Prelude.{IfSome}
use Rattle.sn_errno.specs.declared.errno.Errno.{Errno}
use Rattle.sn_errno.specs.declared.errno.Errno.TheVariants.{ENOSYS}
use Rattle.sn_errno.specs.Errors.{reply_of}
use Rattle.mm_space.specs.Handed.{AreaState}
use Rattle.mm_space.specs.Spaces.{AddressSpace}
use Rattle.futex_core.specs.Waiters.{FutexList, after_wake, waiters_on}
use Rattle.futex_core.specs.declared.keys.FutexKey.{FutexKey}
use Rattle.task_table.specs.Table.{TaskTable}
use Rattle.kernel_model.specs.Names.{NamedMap, get_named, with_named}
use Rattle.kernel_model.specs.declared.caller.Caller.{Caller}
use Rattle.kernel_model.specs.declared.kernel.Kernel.{Kernel}
use Rattle.kernel_model.specs.declared.kernel.Part.TheVariants.{OfSleepers, OfSpace, OfTasks}
use Rattle.kernel_model.specs.calls.Answers.{Answer, replies, refuses}
use Rattle.kernel_model.specs.calls.Ending.{clear_set, set_tid_address_row}
use Rattle.kernel_model.specs.calls.Futex.{wakes_on}
use Rattle.kernel_model.specs.calls.Memory.{remaps, unless_refused}
use Rattle.kernel_model.specs.entries.Parts.{parts, Prog, done, outcome_in, Change, changed}
use Rattle.kernel_model.proofs.NamedMaps.{with_same}
use Rattle.guest_access.specs.Memories.{with_memory}
use Rattle.kernel_calls.specs.Prepared.{Answers, AnswersKept, HasSpace, IsCalling, with_effect}
use Rattle.kernel_calls.specs.declared.context.Context.{Context}
use Rattle.kernel_calls.specs.declared.prepared.Effect.TheVariants.{Nothing, SetsClear, Wakes}
use Rattle.kernel_calls.specs.declared.prepared.Prepared.{Prepared}

-- a task that calls has its address space in the kernel
pub has_space : (c : Caller) (k : Kernel) (context : Context) (space : AddressSpace) (areas : NamedMap AreaState)
    (list : TaskTable) (waiting : FutexList) (console : ℕ) → IsCalling c k context space areas list waiting console
    → HasSpace c k space
has_space c k context space areas list waiting console calling = record { space = calling.space; there = calling.there }

-- a kernel with the memory that it has
pub kept_memory : (c : Caller) (k : Kernel) (space : AddressSpace) (areas : NamedMap AreaState)
    → get_named k.spaces c.memory.place c.memory.index ≡ Some c.space → space ≡ c.space → areas ≡ k.areas
    → with_memory c space areas k ≡ k
kept_memory c k space areas there same shared =
    ap (λ s. record k { spaces = with_named k.spaces c.memory.place c.memory.index s; areas = areas }) same
    ∙ ap (λ m. record k { spaces = m; areas = areas }) (with_same k.spaces c.memory.place c.memory.index c.space there)
    ∙ ap (λ m. record k { areas = m }) shared

-- ---- what leaves memory as it is

module _ (row : Prog Answer) (p : Prepared) (group : ℕ) (k : Kernel) where
  -- what comes to the same as another row
  pub kept_alike : (other : Prog Answer) → outcome_in (parts k) row ≡ outcome_in (parts k) other
      → AnswersKept other p group k → AnswersKept row p group k
  kept_alike other is kept =
      record { changes = kept.changes; row_is = is ∙ kept.row_is; done_is = kept.done_is }

  -- what is told its reply, and changes nothing,
  pub kept_told : outcome_in (parts k) row ≡ replies p.reply [] → p.effect ≡ Nothing → AnswersKept row p group k
  kept_told is none =
      record { changes = []; row_is = is; done_is = ap (λ e. with_effect e group k) (sym none) }

  -- and what is refused
  pub kept_refused : (errno : Errno) → outcome_in (parts k) row ≡ refuses errno → p.reply ≡ reply_of errno
      → p.effect ≡ Nothing → AnswersKept row p group k
  kept_refused errno is reply none = kept_told (is ∙ ap (λ v. replies v []) (sym reply)) none

-- a clear word that is set, and tasks that are woken
module _ (p : Prepared) (c : Caller) (k : Kernel) (group : ℕ) where
  pub answers_set : (task address : ℕ) → c.task ≡ task → p.reply ≡ pos task → p.effect ≡ SetsClear task address
      → AnswersKept (set_tid_address_row address c) p group k
  answers_set task address same reply does = record {
    changes = (OfTasks, clear_set task address k.tasks) ∷ [];
    row_is =
        ap (λ t. replies (pos t) ((OfTasks, clear_set t address k.tasks) ∷ [])) same
        ∙ ap (λ v. replies v ((OfTasks, clear_set task address k.tasks) ∷ [])) (sym reply);
    done_is = ap (λ e. with_effect e group k) (sym does);
  }

  pub answers_woken : (list : FutexList) (key : FutexKey) (most : ℕ) → k.sleepers ≡ list
      → p.reply ≡ pos (min most (length (waiters_on list.sleepers key))) → p.effect ≡ Wakes key most
      → AnswersKept (wakes_on key most) p group k
  answers_woken list key most same reply does = record {
    changes = (OfSleepers, after_wake k.sleepers key most) ∷ [];
    row_is =
        ap (λ v. replies v ((OfSleepers, after_wake k.sleepers key most) ∷ []))
        (ap (λ (l : FutexList). pos (min most (length (waiters_on l.sleepers key)))) same ∙ sym reply);
    done_is = ap (λ e. with_effect e group k) (sym does);
  }

-- ---- what a call comes to

module _ (row : Prog Answer) (p : Prepared) (c : Caller) (k : Kernel) (old space : AddressSpace)
    (areas : NamedMap AreaState) (has : HasSpace c k old) where
  -- a call that leaves memory as it is
  pub answers_kept : AnswersKept row p c.group k → space ≡ old → areas ≡ k.areas → Answers row p c k space areas
  answers_kept kept same shared = record {
    changes = kept.changes;
    row_is = kept.row_is;
    done_is =
        kept.done_is
        ∙ ap (with_effect p.effect c.group)
        (sym (kept_memory c k space areas has.there (same ∙ sym has.space) shared));
  }

  -- one that is refused
  pub answers_refused : (errno : Errno) → outcome_in (parts k) row ≡ refuses errno → p.reply ≡ reply_of errno
      → p.effect ≡ Nothing → space ≡ old → areas ≡ k.areas → Answers row p c k space areas
  answers_refused errno is reply none same shared =
      answers_kept (kept_refused row p c.group k errno is reply none) same shared

  -- one that is told its reply, and changes nothing
  pub answers_told_as : outcome_in (parts k) row ≡ replies p.reply [] → p.effect ≡ Nothing → space ≡ old
      → areas ≡ k.areas → Answers row p c k space areas
  answers_told_as is none same shared = answers_kept (kept_told row p c.group k is none) same shared

  -- one that leaves another address space, with these changes of areas
  pub answers_remapped : (changes : List Change) → outcome_in (parts k) row ≡ remaps c space p.reply changes
      → p.effect ≡ Nothing
      → changed changes (with_memory c space k.areas k) ≡ with_memory c space areas k
      → Answers row p c k space areas
  answers_remapped changes is none does = record {
    changes = (OfSpace c.memory, Some space) ∷ changes;
    row_is = is;
    done_is = does ∙ ap (λ e. with_effect e c.group (with_memory c space areas k)) (sym none);
  }

-- a call that is told a number, in a state that has the caller's address space
pub answers_told : (row : Prog Answer) (p : Prepared) (c : Caller) (k : Kernel) (own : AddressSpace) → HasSpace c k own
    → (value : ℤ) → outcome_in (parts k) row ≡ replies value [] → p.reply ≡ value → p.effect ≡ Nothing
    → Answers row p c k own k.areas
answers_told row p c k own has value is reply none =
    answers_told_as row p c k own own k.areas has (is ∙ ap (λ v. replies v []) (sym reply)) none refl refl

-- ---- rows of what may be refused by the address space

-- nothing is refused where the code was not
pub no_fault : {F E : Type 0} (err : F → E) (fault : Option F) (r : Result (Unit {0}) E) (u : Unit {0}) → r ≡ Ok u
    → IfSome fault (λ f. r ≡ Err (err f)) → fault ≡ None
no_fault err None r u is faulty = refl
no_fault err (Some f) r u is faulty = absurd (cc (is, faulty))

module _ (refusal : AddressSpace → Option Errno) (p : Prepared) (c : Caller) (k : Kernel) (old space : AddressSpace)
    (areas : NamedMap AreaState) (has : HasSpace c k old) (none : p.effect ≡ Nothing) where
  -- a call that is refused
  pub answers_if_refused : (answer : Answer) (errno : Errno) → refusal old ≡ Some errno → p.reply ≡ reply_of errno
      → space ≡ old → areas ≡ k.areas → Answers (done (unless_refused (refusal c.space) answer)) p c k space areas
  answers_if_refused answer errno is reply same shared =
      answers_refused (done (unless_refused (refusal c.space) answer)) p c k old space areas has errno
      (ap (λ s. unless_refused (refusal s) answer) has.space ∙ ap (λ o. unless_refused o answer) is) reply none same
      shared

  -- one that leaves another address space, and no other areas
  pub answers_unless_refused : (to : AddressSpace → AddressSpace) (value : ℤ) → refusal old ≡ None → p.reply ≡ value
      → space ≡ to old → areas ≡ k.areas
      → Answers (done (unless_refused (refusal c.space) (remaps c (to c.space) value []))) p c k space areas
  answers_unless_refused to value free reply is shared =
      answers_remapped (done (unless_refused (refusal c.space) (remaps c (to c.space) value []))) p c k old space areas
      has []
      (ap (λ s. unless_refused (refusal s) (remaps c (to s) value [])) has.space
      ∙ ap (λ o. unless_refused o (remaps c (to old) value [])) free
      ∙ ap (λ s. remaps c s value []) (sym is) ∙ ap (λ v. remaps c space v []) (sym reply))
      none (ap (λ m. with_memory c space m k) (sym shared))

-- a call that the kernel does not have
pub answers_lacking : (row : Prog Answer) (p : Prepared) (c : Caller) (k : Kernel) (space : AddressSpace)
    (areas : NamedMap AreaState) → c.space ≡ space → get_named k.spaces c.memory.place c.memory.index ≡ Some c.space
    → k.areas ≡ areas → outcome_in (parts k) row ≡ refuses ENOSYS → p.reply ≡ reply_of ENOSYS → p.effect ≡ Nothing
    → Answers row p c k space areas
answers_lacking row p c k space areas own there shared is reply none =
    answers_refused row p c k space space areas (record { space = own; there = there }) ENOSYS is reply none refl
    (sym shared)
