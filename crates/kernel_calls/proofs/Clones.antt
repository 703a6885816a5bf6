-- What clone comes to, as its rows have it.
use Rattle.std.proofs.Common.{◌≡◌, ℕ, ◌+◌, Bool, true, false, cond, List, [], ◌∷◌, ◌++◌, Option, Some, None, refl, ap}
use Rattle.std.proofs.Common.{sym, ◌∙◌}
use Rattle.std.specs.Prelude.{◌||◌}
use Rattle.std.specs.FinMap as map
use Rattle.sn_errno.specs.declared.errno.Errno.TheVariants.{EAGAIN, EFAULT, EINVAL}
use Rattle.rv_table.specs.declared.registers.Regs.{Regs}
use Rattle.mm_space.specs.Handed.{AreaState, InHand}
use Rattle.mm_space.specs.Spaces.{AddressSpace, Reach, unreserved}
use Rattle.futex_core.specs.Waiters.{FutexList}
use Rattle.task_table.specs.Clones.{forked, threaded}
use Rattle.task_table.specs.Table.{TaskTable}
use Rattle.sn_base.specs.declared.made.Made.{Made}
use Rattle.kernel_model.specs.Names.{NamedMap}
use Rattle.kernel_model.specs.declared.caller.Caller.{Caller}
use Rattle.kernel_model.specs.declared.kernel.Kernel.{Kernel}
use Rattle.kernel_model.specs.declared.kernel.Part.TheVariants.{OfTasks, OfTask, OfSpace}
use Rattle.kernel_model.specs.calls.Answers.{Answer, refuses}
use Rattle.kernel_model.specs.calls.Callers.{context_of}
use Rattle.kernel_model.specs.calls.Clone.{Cloning, caller_word, child_clear, child_registers, clone_row}
use Rattle.kernel_model.specs.calls.Clone.{cloning_of, is_full, is_process, is_thread, made_for_child, process_by}
use Rattle.kernel_model.specs.calls.Clone.{process_made, process_row, process_with, sets_child_word, sets_parent_word}
use Rattle.kernel_model.specs.calls.Clone.{thread_by, thread_made, thread_row, word_set}
use Rattle.kernel_model.specs.descriptors.Counts.{table_copied}
use Rattle.kernel_model.specs.declared.entry.Args.{Args}
use Rattle.kernel_model.specs.entries.Areas.{area_changes, reach_changes}
use Rattle.kernel_model.specs.entries.Parts.{Parts, parts, Prog, done, look, outcome_in, ◌>>=◌, Change, changed}
use Rattle.kernel_model.proofs.ChildLaws.{changed-append}
use Rattle.kernel_model.proofs.FileChanges.{copied_behind}
use Rattle.kernel_model.proofs.Trees.{outcome-bind}
use Rattle.kernel_calls.specs.Making.{with_new_child, with_new_task, with_words}
use Rattle.kernel_calls.specs.Clones.{HasSet, MakesIf, SetsWord, is_shape}
use Rattle.guest_access.specs.Lending.{with_hand}
use Rattle.guest_access.specs.Memories.{with_memory}
use Rattle.kernel_calls.specs.Prepared.{IsCalling, MakesChild}
use Rattle.kernel_calls.specs.declared.clone.ClonedTask.{ClonedTask}
use Rattle.kernel_calls.specs.declared.clone.Words.{Words}
use Rattle.kernel_calls.specs.declared.context.Context.{Context}
use Rattle.kernel_calls.proofs.Answering.{kept_memory}
use Rattle.guest_access.proofs.KernelAreas.{areas_changed}
use Rattle.kernel_calls.proofs.ClonedWords.{row_word}

-- ---- a child

-- where its registers, its clear word, its memory and what the words leave are these
pub record IsChild (child : ClonedTask) (c : Caller) (k : Kernel) (args : Args) (own : Option AddressSpace)
    (space : AddressSpace) (areas : NamedMap AreaState) : Type 0 where
  pub registers : child.registers
      ≡ child_registers (cloning_of args).flags (cloning_of args).stack (cloning_of args).tls c.registers
  pub clear : child.clear ≡ child_clear (cloning_of args).flags (cloning_of args).child_word
  pub memory : child.memory ≡ own
  pub words : with_words child.words c k ≡ with_memory c space areas k

module _ (c : Caller) (k : Kernel) where
  abbrev made_so : Regs → (clear : ℕ) → Option AddressSpace → Kernel → Kernel
  made_so registers clear memory after =
      let made = with_new_task (k.entries + 1) memory clear c after in
      record made { registers = map.insert made.registers (k.tasks.last + 1) registers }

  made_by : (child : ClonedTask) (args : Args) (memory : Option AddressSpace) (space : AddressSpace)
      (areas : NamedMap AreaState) → IsChild child c k args memory space areas
      → with_new_child child (k.entries + 1) c k
      ≡ made_so (child_registers (cloning_of args).flags (cloning_of args).stack (cloning_of args).tls c.registers)
      (child_clear (cloning_of args).flags (cloning_of args).child_word) memory (with_memory c space areas k)
  made_by child args memory space areas is =
      ap (λ r. made_so r child.clear child.memory (with_words child.words c k)) is.registers
      ∙ ap (λ n. made_so registers n child.memory (with_words child.words c k)) is.clear
      ∙ ap (λ m. made_so registers clear m (with_words child.words c k)) is.memory
      ∙ ap (made_so registers clear memory) is.words
    where
      registers : Regs
      registers = child_registers (cloning_of args).flags (cloning_of args).stack (cloning_of args).tls c.registers

      clear : ℕ
      clear = child_clear (cloning_of args).flags (cloning_of args).child_word

-- one whose words leave memory as it is, and one whose words leave this
module _ {c : Caller} {k : Kernel} {context : Context} {space : AddressSpace} {areas : NamedMap AreaState}
    {list : TaskTable} {waiting : FutexList} {console : ℕ} (child : ClonedTask) (args : Args)
    (own : Option AddressSpace)
    (registers : Regs) (calling : IsCalling c k context space areas list waiting console)
    (before : c.registers ≡ registers) (begins : child.registers
    ≡ child_registers (cloning_of args).flags (cloning_of args).stack (cloning_of args).tls registers)
    (clear : child.clear ≡ child_clear (cloning_of args).flags (cloning_of args).child_word)
    (memory : child.memory ≡ own) where
  is_child : (space' : AddressSpace) (areas' : NamedMap AreaState)
      → with_words child.words c k ≡ with_memory c space' areas' k → IsChild child c k args own space' areas'
  is_child space' areas' left = record {
    registers = begins ∙ ap (child_registers (cloning_of args).flags (cloning_of args).stack (cloning_of args).tls)
        (sym before);
    clear = clear;
    memory = memory;
    words = left;
  }

  pub child_alone : child.words ≡ None → IsChild child c k args own space areas
  child_alone unasked =
      is_child space areas (ap (λ w. with_words w c k) unasked
      ∙ sym (kept_memory c k space areas calling.there (sym calling.space) (sym calling.areas)))

  pub child_with : (words : Words) → child.words ≡ Some words → IsChild child c k args own words.space words.areas
  child_with words some = is_child words.space words.areas (ap (λ w. with_words w c k) some)

-- ---- the rows

module _ {c : Caller} {k : Kernel} {context : Context} {own : AddressSpace} {shared : NamedMap AreaState}
    {list : TaskTable} {waiting : FutexList} {console : ℕ} (args : Args) (number : ℕ)
    (calling : IsCalling c k context own shared list waiting console) (next : number ≡ k.tasks.last + 1)
    (free : is_full k.tasks ≡ false) {asked : Bool} {space space' : AddressSpace} {areas areas' : NamedMap AreaState}
    {set : Bool} (first : SetsWord context.task asked space space' areas areas' args.a2 number set)
    (due : asked ≡ sets_parent_word (cloning_of args).flags) (is_own : space ≡ own) (are_shared : areas ≡ shared) where
  abbrev x : Cloning
  x = cloning_of args

  abbrev s : Parts
  s = parts k

  -- the caller's word
  abbrev caller_set : Option Reach
  caller_set = outcome_in s (caller_word c x k.tasks)

  first_set : HasSet caller_set set space' areas' k.areas
  first_set =
      row_word c k context.task number calling.task next asked (sets_parent_word x.flags) space c.space space' areas
      areas' args.a2 set [] first due (is_own ∙ sym calling.space) (are_shared ∙ sym calling.areas)

  -- ---- a new process

  abbrev behind : Option Reach → Answer
  behind o = outcome_in s (process_by (context_of k) c x k.tasks o)

  process_is : outcome_in s (process_row (context_of k) c x k.tasks) ≡ behind caller_set
  process_is =
      ap (λ b. outcome_in s (cond b (done (refuses EAGAIN))
      (caller_word c x k.tasks >>= process_by (context_of k) c x k.tasks))) free
      ∙ outcome-bind s (caller_word c x k.tasks) (process_by (context_of k) c x k.tasks)

  process_unset_by : (o : Option Reach) → caller_set ≡ o → HasSet o set space' areas' k.areas → set ≡ false
      → outcome_in s (process_row (context_of k) c x k.tasks) ≡ refuses EFAULT
  process_unset_by None e h so = process_is ∙ ap behind e
  process_unset_by (Some r) e h so = absurd (cc (h.0, so))

  -- where the caller's word can't be written
  pub process_unset : set ≡ false → outcome_in s (process_row (context_of k) c x k.tasks) ≡ refuses EFAULT
  process_unset so = process_unset_by caller_set refl first_set so

  -- ---- a new process, whose word lies in its own memory

  module _ {asked' : Bool} {own' memory : AddressSpace} {areas'' : NamedMap AreaState} {set' : Bool}
      (so : set ≡ true) (second : SetsWord context.task asked' own' memory areas' areas'' args.a4 number set')
      (due' : asked' ≡ sets_child_word x.flags) (copied : own' ≡ unreserved own.mapping) where
    abbrev child_set : List InHand → Option Reach
    child_set hand =
        outcome_in s (word_set c.task (sets_child_word x.flags) (unreserved c.space.mapping) hand x.child_word
        (k.tasks.last + 1))

    second_set : (hand : List InHand) → areas' ≡ with_hand hand k.areas
        → HasSet (child_set hand) set' memory areas'' k.areas
    second_set hand lies =
        row_word c k context.task number calling.task next asked' (sets_child_word x.flags) own'
        (unreserved c.space.mapping) memory areas' areas'' args.a4 set' hand second due'
        (copied ∙ ap (λ (m : AddressSpace). unreserved m.mapping) (sym calling.space)) lies

    process_then : (r : Reach) (o : Option Reach) → caller_set ≡ Some r → child_set r.hand ≡ o
        → outcome_in s (process_row (context_of k) c x k.tasks)
        ≡ outcome_in s (process_with (context_of k) c x k.tasks r.space o)
    process_then r o e f =
        process_is ∙ ap behind e
        ∙ outcome-bind s (word_set c.task (sets_child_word x.flags) (unreserved c.space.mapping) r.hand x.child_word
        (k.tasks.last + 1)) (process_with (context_of k) c x k.tasks r.space)
        ∙ ap (λ last. outcome_in s (process_with (context_of k) c x k.tasks r.space last)) f

    process_barred_by : (r : Reach) (o : Option Reach) → caller_set ≡ Some r → child_set r.hand ≡ o
        → HasSet o set' memory areas'' k.areas → set' ≡ false
        → outcome_in s (process_row (context_of k) c x k.tasks) ≡ refuses EFAULT
    process_barred_by r None e f h barred = process_then r None e f
    process_barred_by r (Some last) e f h barred = absurd (cc (h.0, barred))

    process_made_by : (child : ClonedTask) (r : Reach) (o : Option Reach) → caller_set ≡ Some r → space' ≡ r.space
        → child_set r.hand ≡ o → HasSet o set' memory areas'' k.areas → set' ≡ true
        → IsChild child c k args (Some memory) space' areas''
        → MakesChild (process_row (context_of k) c x k.tasks) child c k
    process_made_by child r None e there f h wrote is = absurd (cc (h, wrote))
    process_made_by child r (Some last) e there f h wrote is = record {
      changes = (OfTasks, forked k.tasks c.task child_name child_name clear)
          ∷ (OfTask (k.tasks.last + 1), Some registers) ∷ (OfSpace c.memory, Some r.space)
          ∷ reach_changes child_name last ++ copies;
      row_is = process_then r (Some last) e f
          ∙ outcome-bind s (table_copied c.table child_name)
          (λ copied. done (process_made (context_of k) c x k.tasks r.space last copied));
      done_is =
          changed-append (area_changes last.hand) copies placed
          ∙ ap (changed copies) (areas_changed last.hand placed)
          ∙ copied_behind c.table child_name k (record placed { areas = with_hand last.hand k.areas }) refl
          ∙ sym (made_by c k child args (Some memory) space' areas'' is
          ∙ ap (λ (m : AddressSpace). made_so c k registers clear (Some m) (with_memory c space' areas'' k)) h.1
          ∙ ap (λ (m : AddressSpace). made_so c k registers clear (Some last.space) (with_memory c m areas'' k)) there
          ∙ ap (λ m. made_so c k registers clear (Some last.space) (with_memory c r.space m k)) h.2);
    }
      where
        registers : Regs
        registers = child_registers x.flags x.stack x.tls c.registers

        clear : ℕ
        clear = child_clear x.flags x.child_word

        child_name : Made
        child_name = made_for_child (k.entries + 1)

        copies : List Change
        copies = outcome_in s (table_copied c.table child_name)

        placed : Kernel
        placed = record (made_so c k registers clear (Some last.space) (with_memory c r.space k.areas k)) {
          areas = k.areas;
          files = k.files;
        }

    process_last : (P : Type 0) → ((r : Reach) → caller_set ≡ Some r → space' ≡ r.space
        → HasSet (child_set r.hand) set' memory areas'' k.areas → P) → P
    process_last P f = by caller_set refl first_set
      where
        by : (o : Option Reach) → caller_set ≡ o → HasSet o set space' areas' k.areas → P
        by None e h = absurd (cc (h, so))
        by (Some r) e h = f r e h.1 (second_set r.hand h.2)

    -- where its word can't be written
    pub process_barred : set' ≡ false → outcome_in s (process_row (context_of k) c x k.tasks) ≡ refuses EFAULT
    process_barred barred =
        process_last _ (λ r e there h. process_barred_by r (child_set r.hand) e refl h barred)

    -- and where both words are as they are to be
    pub process_makes : (child : ClonedTask) → set' ≡ true → IsChild child c k args (Some memory) space' areas''
        → MakesChild (process_row (context_of k) c x k.tasks) child c k
    process_makes child wrote is =
        process_last _ (λ r e there h. process_made_by child r (child_set r.hand) e there refl h wrote is)

  -- ---- a new thread, whose word lies where the caller's does

  abbrev beside : Option Reach → Answer
  beside o = outcome_in s (thread_by c x k.tasks o)

  thread_is : outcome_in s (thread_row c x k.tasks) ≡ beside caller_set
  thread_is =
      ap (λ b. outcome_in s (cond b (done (refuses EAGAIN))
      (caller_word c x k.tasks >>= thread_by c x k.tasks))) free
      ∙ outcome-bind s (caller_word c x k.tasks) (thread_by c x k.tasks)

  thread_unset_by : (o : Option Reach) → caller_set ≡ o → HasSet o set space' areas' k.areas → set ≡ false
      → outcome_in s (thread_row c x k.tasks) ≡ refuses EFAULT
  thread_unset_by None e h so = thread_is ∙ ap beside e
  thread_unset_by (Some r) e h so = absurd (cc (h.0, so))

  pub thread_unset : set ≡ false → outcome_in s (thread_row c x k.tasks) ≡ refuses EFAULT
  thread_unset so = thread_unset_by caller_set refl first_set so

  module _ {asked' : Bool} {space'' : AddressSpace} {areas'' : NamedMap AreaState} {set' : Bool} (so : set ≡ true)
      (second : SetsWord context.task asked' space' space'' areas' areas'' args.a4 number set')
      (due' : asked' ≡ sets_child_word x.flags) where
    abbrev beside_set : Reach → Option Reach
    beside_set r =
        outcome_in s (word_set c.task (sets_child_word x.flags) r.space r.hand x.child_word (k.tasks.last + 1))

    thread_then : (r : Reach) (o : Option Reach) → caller_set ≡ Some r → beside_set r ≡ o
        → outcome_in s (thread_row c x k.tasks) ≡ thread_made c x k.tasks o
    thread_then r o e f =
        thread_is ∙ ap beside e
        ∙ outcome-bind s (word_set c.task (sets_child_word x.flags) r.space r.hand x.child_word (k.tasks.last + 1))
        (λ last. done (thread_made c x k.tasks last))
        ∙ ap (thread_made c x k.tasks) f

    thread_barred_by : (r : Reach) (o : Option Reach) → caller_set ≡ Some r → beside_set r ≡ o
        → HasSet o set' space'' areas'' k.areas → set' ≡ false
        → outcome_in s (thread_row c x k.tasks) ≡ refuses EFAULT
    thread_barred_by r None e f h barred = thread_then r None e f
    thread_barred_by r (Some last) e f h barred = absurd (cc (h.0, barred))

    thread_made_by : (child : ClonedTask) (r : Reach) (o : Option Reach) → caller_set ≡ Some r → beside_set r ≡ o
        → HasSet o set' space'' areas'' k.areas → set' ≡ true → IsChild child c k args None space'' areas''
        → MakesChild (thread_row c x k.tasks) child c k
    thread_made_by child r None e f h wrote is = absurd (cc (h, wrote))
    thread_made_by child r (Some last) e f h wrote is = record {
      changes = (OfTasks, threaded k.tasks c.task clear) ∷ (OfTask (k.tasks.last + 1), Some registers)
          ∷ reach_changes c.memory last;
      row_is = thread_then r (Some last) e f;
      done_is =
          areas_changed last.hand (made_so c k registers clear None (with_memory c last.space k.areas k))
          ∙ sym (made_by c k child args None space'' areas'' is
          ∙ ap (λ m. made_so c k registers clear None (with_memory c m areas'' k)) h.1
          ∙ ap (λ m. made_so c k registers clear None (with_memory c last.space m k)) h.2);
    }
      where
        registers : Regs
        registers = child_registers x.flags x.stack x.tls c.registers

        clear : ℕ
        clear = child_clear x.flags x.child_word

    thread_last : (P : Type 0) → ((r : Reach) → caller_set ≡ Some r
        → HasSet (beside_set r) set' space'' areas'' k.areas → P) → P
    thread_last P f = by caller_set refl first_set
      where
        by : (o : Option Reach) → caller_set ≡ o → HasSet o set space' areas' k.areas → P
        by None e h = absurd (cc (h, so))
        by (Some r) e h =
            f r e (row_word c k context.task number calling.task next asked' (sets_child_word x.flags) space' r.space
            space'' areas' areas'' args.a4 set' r.hand second due' h.1 h.2)

    pub thread_barred : set' ≡ false → outcome_in s (thread_row c x k.tasks) ≡ refuses EFAULT
    thread_barred barred = thread_last _ (λ r e h. thread_barred_by r (beside_set r) e refl h barred)

    pub thread_makes : (child : ClonedTask) → set' ≡ true → IsChild child c k args None space'' areas''
        → MakesChild (thread_row c x k.tasks) child c k
    thread_makes child wrote is = thread_last _ (λ r e h. thread_made_by child r (beside_set r) e refl h wrote is)

-- ---- the call

module _ (c : Caller) (k : Kernel) (args : Args) where
  abbrev flags : ℕ
  flags = (cloning_of args).flags

  abbrev row : Prog Answer
  row = clone_row (context_of k) args c

  abbrev as_process : Prog Answer
  as_process = process_row (context_of k) c (cloning_of args) k.tasks

  abbrev as_thread : Prog Answer
  as_thread = thread_row c (cloning_of args) k.tasks

  -- what it comes to, by whether the flags are a process's, and whether they are a thread's
  abbrev by_flags : (process thread : Bool) → Answer
  by_flags process thread =
      outcome_in (parts k) (cond process (look OfTasks (process_row (context_of k) c (cloning_of args)))
      (cond thread (look OfTasks (thread_row c (cloning_of args))) (done (refuses EINVAL))))

  row_by : (process thread : Bool) → is_process flags ≡ process → is_thread flags ≡ thread
      → outcome_in (parts k) row ≡ by_flags process thread
  row_by process thread e f = ap (λ p. by_flags p (is_thread flags)) e ∙ ap (by_flags process) f

  -- it is refused where they are neither's,
  pub row_invalid : is_shape flags ≡ false → outcome_in (parts k) row ≡ refuses EINVAL
  row_invalid other = by (is_process flags) (is_thread flags) refl refl other
    where
      by : (process thread : Bool) → is_process flags ≡ process → is_thread flags ≡ thread
          → (process || thread) ≡ false → outcome_in (parts k) row ≡ refuses EINVAL
      by false false e f other = row_by false false e f
      by false true e f other = absurd (cc other)
      by true thread e f other = absurd (cc other)

  -- or where no task more may be made,
  pub row_full : is_shape flags ≡ true → is_full k.tasks ≡ true → outcome_in (parts k) row ≡ refuses EAGAIN
  row_full shape full = by (is_process flags) (is_thread flags) refl refl shape
    where
      by : (process thread : Bool) → is_process flags ≡ process → is_thread flags ≡ thread
          → (process || thread) ≡ true → outcome_in (parts k) row ≡ refuses EAGAIN
      by false false e f shape = absurd (cc shape)
      by false true e f shape =
          row_by false true e f
          ∙ ap (λ b. outcome_in (parts k) (cond b (done (refuses EAGAIN))
          (caller_word c (cloning_of args) k.tasks >>= thread_by c (cloning_of args) k.tasks))) full
      by true thread e f shape =
          row_by true thread e f
          ∙ ap (λ b. outcome_in (parts k) (cond b (done (refuses EAGAIN))
          (caller_word c (cloning_of args) k.tasks >>= process_by (context_of k) c (cloning_of args) k.tasks))) full

  makes_as : (other : Prog Answer) → outcome_in (parts k) row ≡ outcome_in (parts k) other → (child : Option ClonedTask)
      → MakesIf other child c k → MakesIf row child c k
  makes_as other e None h = e ∙ h
  makes_as other e (Some child) h = record { changes = h.changes; row_is = e ∙ h.row_is; done_is = h.done_is }

  -- and makes what either makes
  pub makes_process : (child : Option ClonedTask) → is_process flags ≡ true → MakesIf as_process child c k
      → MakesIf row child c k
  makes_process child e = makes_as as_process (row_by true (is_thread flags) e refl) child

  pub makes_thread : (child : Option ClonedTask) → is_process flags ≡ false → is_shape flags ≡ true
      → MakesIf as_thread child c k → MakesIf row child c k
  makes_thread child e shape =
      let f : is_thread flags ≡ true = ap (λ b. b || is_thread flags) (sym e) ∙ shape in
      makes_as as_thread (row_by false true e f) child
