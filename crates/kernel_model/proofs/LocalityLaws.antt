-- What a step reads and changes: a decision tree comes to the same where the parts that it looks at are the same, and
-- changes leave every other part as it was.
use Rattle.std.proofs.Common.{◌≡◌, ℕ, ◌+◌, ◌^◌, List, Bool, true, false, Option, Some, None}
use Rattle.std.proofs.Common.{cond, refl, ap, sym, ◌∙◌, inl, option_map}
use Rattle.std.specs.Prelude.{nat_lt, ◌%◌, min, is_some, not}
use Rattle.sn_errno.specs.declared.calls.CallNo.{CallNo}
use Rattle.sn_errno.specs.declared.calls.CallNo.TheVariants.{ClockGettime, Clone, Mmap, Getrandom, Pipe2}
use Rattle.sn_errno.specs.declared.errno.Errno.{Errno}
use Rattle.sn_errno.specs.declared.errno.Errno.TheVariants.{EBADF, EFAULT, EMFILE}
use Rattle.fd_table.specs.Tables.{Table}
use Rattle.mm_space.specs.Accesses.{writable}
use Rattle.mm_space.specs.Handed.{InHand}
use Rattle.mm_space.specs.Spaces.{AddressSpace, Reach, unreserved}
use Rattle.sn_errno.specs.Calls.{call_numbered}
use Rattle.task_table.specs.Table.{TaskTable}
use Rattle.kernel_model.specs.declared.caller.Caller.{Caller}
use Rattle.kernel_model.specs.declared.entry.Args.{Args}
use Rattle.kernel_model.specs.declared.entry.Entry.{Entry}
use Rattle.kernel_model.specs.declared.kernel.Kernel.{Kernel}
use Rattle.kernel_model.specs.declared.kernel.Part.{Part}
use Rattle.kernel_model.specs.declared.kernel.Part.TheVariants.{OfTasks, OfTable, OfSleepers}
use Rattle.kernel_model.specs.declared.traps.Next.{Next}
use Rattle.kernel_model.specs.declared.traps.Next.TheVariants.{Goes, Calls, Traps, Touches}
use Rattle.kernel_model.specs.machine.Random.{random_at}
use Rattle.kernel_model.specs.machine.Registers.{args_of, call_of as number_of}
use Rattle.kernel_model.specs.calls.Answers.{Answer, makes_entry}
use Rattle.kernel_model.specs.calls.Buffers.{filled, fills}
use Rattle.kernel_model.specs.calls.Callers.{Context, context_of, caller_of}
use Rattle.kernel_model.specs.calls.Clone.{Cloning, cloning_of, caller_word, is_full, is_process, is_thread}
use Rattle.kernel_model.specs.calls.Clone.{made_for_child, process_by, process_with, sets_child_word, thread_by}
use Rattle.kernel_model.specs.calls.Clone.{thread_made, word_set}
use Rattle.kernel_model.specs.descriptors.Counts.{table_copied}
use Rattle.kernel_model.specs.calls.Lookups.{or_refuse, with_callers_table}
use Rattle.kernel_model.specs.calls.Pipes.{are_pipe_flags, pipe_made, two_free}
use Rattle.kernel_model.specs.calls.Memory.{file_refusal, map_refusal, maps, unless_refused}
use Rattle.kernel_model.specs.calls.Table.{call_row, row_of_call, row_if_known}
use Rattle.kernel_model.specs.calls.Time.{timespec, time_at}
use Rattle.kernel_model.specs.entries.Areas.{Stands, access_row, next_row, bytes_written}
use Rattle.kernel_model.specs.entries.Parts.{Parts, parts, Prog, done, outcome_in, uses, ◌>>=◌, IsIn, AgreeOn}
use Rattle.kernel_model.specs.entries.Parts.{Change}
use Rattle.kernel_model.specs.entries.Ready.{ready_as, ready_by, ready_if_live, ready_row, is_ready}
use Rattle.kernel_model.specs.entries.Steps.{entry_row, may_enter, step, stepped, used, touched, touches}
use Rattle.kernel_model.specs.entries.Waiting.{Wait, Awake, Asleep, Woken, wait_of}
use Rattle.kernel_model.proofs.PartChanges.{changed_other, changed_alike, parts_of_stepped}
use Rattle.kernel_model.proofs.Trees.{outcome_alike, outcome-bind}

-- ---- what an entry reads

pub same_reads : (a b : Kernel) (e : Entry) → context_of b ≡ context_of a → AgreeOn (used a e) (parts a) (parts b)
    → (used b e ≡ used a e)
    × (outcome_in (parts b) (entry_row (context_of b) e) ≡ outcome_in (parts a) (entry_row (context_of a) e))
same_reads a b e context same =
    let here = outcome_alike (parts a) (parts b) (entry_row (context_of a) e) same in (
      ap (λ (c : Context). uses (parts b) (entry_row c e)) context ∙ here.0,
      ap (λ (c : Context). outcome_in (parts b) (entry_row c e)) context ∙ here.1,
    )

-- ---- what a step leaves

rest_by : (k next : Kernel) (changes : Option (List Change)) → option_map (stepped k) changes ≡ Some next
    → (p : Part) → ¬ IsIn p (touched changes) → parts next p ≡ parts k p
rest_by k next None e p apart = absurd (cc e)
rest_by k next (Some changes) e p apart =
    let is : next ≡ stepped k changes = cc e in
    ap (λ (n : Kernel). parts n p) is ∙ parts_of_stepped k changes p ∙ changed_other changes k p apart

-- a step is of an entry that may be made, and is what its row comes to
pub entered : (k next : Kernel) (e : Entry) → step k e ≡ Some next → (may_enter k.nodes e ≡ true)
    × (option_map (stepped k) (outcome_in (parts k) (entry_row (context_of k) e)) ≡ Some next)
unfolding step
entered k next e stepping = by (may_enter k.nodes e) refl stepping
  where
    by : (b : Bool) → may_enter k.nodes e ≡ b
        → cond b (option_map (stepped k) (outcome_in (parts k) (entry_row (context_of k) e))) None ≡ Some next
        → (may_enter k.nodes e ≡ true)
        × (option_map (stepped k) (outcome_in (parts k) (entry_row (context_of k) e)) ≡ Some next)
    by true may h = (may, h)
    by false may h = absurd (cc h)

pub rest_stays : (k next : Kernel) (e : Entry) → step k e ≡ Some next → (p : Part) → ¬ IsIn p (touches k e)
    → parts next p ≡ parts k p
rest_stays k next e stepping =
    rest_by k next (outcome_in (parts k) (entry_row (context_of k) e)) (entered k next e stepping).1

touched_by : (a b next other : Kernel) (changes : Option (List Change)) → option_map (stepped a) changes ≡ Some next
    → option_map (stepped b) changes ≡ Some other → (p : Part) → IsIn p (touched changes) → parts next p ≡ parts other p
touched_by a b next other None e f p is = absurd (cc e)
touched_by a b next other (Some changes) e f p is =
    let here : next ≡ stepped a changes = cc e in
    let there : other ≡ stepped b changes = cc f in
    ap (λ (n : Kernel). parts n p) here
    ∙ parts_of_stepped a changes p
    ∙ changed_alike changes a b p (inl is)
    ∙ sym (parts_of_stepped b changes p)
    ∙ sym (ap (λ (n : Kernel). parts n p) there)

pub touched_alike : (a b next other : Kernel) (e : Entry) → context_of b ≡ context_of a
    → AgreeOn (used a e) (parts a) (parts b) → step a e ≡ Some next → step b e ≡ Some other
    → (p : Part) → IsIn p (touches a e) → parts next p ≡ parts other p
touched_alike a b next other e context same first second =
    touched_by a b next other (outcome_in (parts a) (entry_row (context_of a) e)) (entered a next e first).1
    (ap (option_map (stepped b)) (sym (same_reads a b e context same).1) ∙ (entered b other e second).1)

fits_by : (a b : Kernel) (changes : Option (List Change))
    → is_some (option_map (stepped b) changes) ≡ is_some (option_map (stepped a) changes)
fits_by a b None = refl
fits_by a b (Some changes) = refl

-- an entry that may be made in both fits both or neither
pub fits_alike : (a b : Kernel) (e : Entry) → context_of b ≡ context_of a
    → AgreeOn (used a e) (parts a) (parts b) → may_enter a.nodes e ≡ true → may_enter b.nodes e ≡ true
    → is_some (step b e) ≡ is_some (step a e)
unfolding step
fits_alike a b e context same may too =
    ap (λ x. is_some (cond x (option_map (stepped b) (outcome_in (parts b) (entry_row (context_of b) e))) None)) too
    ∙ ap (λ changes. is_some (option_map (stepped b) changes)) (same_reads a b e context same).1
    ∙ fits_by a b (outcome_in (parts a) (entry_row (context_of a) e))
    ∙ sym (ap (λ x. is_some (cond x (option_map (stepped a) (outcome_in (parts a) (entry_row (context_of a) e))) None))
    may)

-- ---- when a step is ready

-- each row whose context tells what it comes to replies at once, in any state and context
module _ (s : Parts) (context : Context) (caller : Caller) (args : Args) where
  abbrev Answers : Prog Answer → Type 0
  Answers row = makes_entry (outcome_in s row).reply ≡ true

  either_answers : (b : Bool) (x y : Prog Answer) → Answers x → Answers y → Answers (cond b x y)
  either_answers true x y here there = here
  either_answers false x y here there = there

  behind_answers : {A : Type 0} (first : Prog A) (next : A → Prog Answer) → Answers (next (outcome_in s first))
      → Answers (first >>= next)
  behind_answers first next h = ap (λ (a : Answer). makes_entry a.reply) (outcome-bind s first next) ∙ h

  refused_replies : (refusal : Option Errno) (answer : Answer) → makes_entry answer.reply ≡ true
      → makes_entry (unless_refused refusal answer).reply ≡ true
  refused_replies None answer h = h
  refused_replies (Some errno) answer h = refl

  filled_replies : (reply : ℕ) (reach : Option Reach) → makes_entry (filled caller.memory reply reach).reply ≡ true
  filled_replies reply None = refl
  filled_replies reply (Some reach) = refl

  fill_answers : (at : ℕ) (bytes : List ℕ) (reply : ℕ) → Answers (fills caller at bytes reply)
  fill_answers at bytes reply =
      behind_answers (bytes_written caller.task caller.space at bytes)
      (λ reach. done (filled caller.memory reply reach))
      (filled_replies reply (outcome_in s (bytes_written caller.task caller.space at bytes)))

  clock_answers : Answers (row_of_call context caller args ClockGettime)
  clock_answers =
      either_answers (nat_lt 1 args.a0) _ _ refl (fill_answers args.a1 (timespec (time_at context.place)) 0)

  map_answers : Answers (row_of_call context caller args Mmap)
  map_answers =
      behind_answers (file_refusal args.a3 args.a4 caller)
      (λ file. done (maps context caller args.a0 args.a1 args.a2 args.a3 args.a5 file))
      (refused_replies (map_refusal caller.space args.a0 args.a1 args.a2 args.a3 args.a5
      (outcome_in s (file_refusal args.a3 args.a4 caller))) _ refl)

  random_answers : Answers (row_of_call context caller args Getrandom)
  random_answers =
      either_answers (nat_lt 7 (args.a2 % 2 ^ 32)) _ _ refl
      (fill_answers args.a0 (random_at context.seed context.place (min args.a1 256)) (min args.a1 256))

  module _ (x : Cloning) (list : TaskTable) where
    copied_answers : (space : AddressSpace) (reach : Option Reach)
        → Answers (process_with context caller x list space reach)
    copied_answers space None = refl
    copied_answers space (Some reach) =
        behind_answers (table_copied caller.table (made_for_child context.place)) _ refl

    process_answers : (reach : Option Reach) → Answers (process_by context caller x list reach)
    process_answers None = refl
    process_answers (Some reach) =
        behind_answers
        (word_set caller.task (sets_child_word x.flags) (unreserved caller.space.mapping) reach.hand x.child_word
        (list.last + 1)) _ (copied_answers reach.space _)

    thread_replies : (reach : Option Reach) → makes_entry (thread_made caller x list reach).reply ≡ true
    thread_replies None = refl
    thread_replies (Some reach) = refl

    thread_answers : (reach : Option Reach) → Answers (thread_by caller x list reach)
    thread_answers None = refl
    thread_answers (Some reach) =
        behind_answers
        (word_set caller.task (sets_child_word x.flags) reach.space reach.hand x.child_word (list.last + 1)) _
        (thread_replies _)

  clone_answers : Answers (row_of_call context caller args Clone)
  clone_answers =
      either_answers (is_process (args.a0 % 2 ^ 32)) _ _
      (either_answers (is_full (s OfTasks)) _ _ refl
      (behind_answers (caller_word caller (cloning_of args) (s OfTasks)) _
      (process_answers (cloning_of args) (s OfTasks) _)))
      (either_answers (is_thread (args.a0 % 2 ^ 32)) _ _
      (either_answers (is_full (s OfTasks)) _ _ refl
      (behind_answers (caller_word caller (cloning_of args) (s OfTasks)) _
      (thread_answers (cloning_of args) (s OfTasks) _))) refl)

  module _ (buffer flags : ℕ) where
    ends_answer : (hand : List InHand) (table : Table) (fds : Option (ℕ × ℕ))
        → Answers (or_refuse EMFILE (λ f. done (pipe_made context caller buffer flags hand table f)) fds)
    ends_answer hand table None = refl
    ends_answer hand table (Some fds) = refl

    abbrev in_table : List InHand → Table → Prog Answer
    in_table hand table =
        or_refuse EMFILE (λ fds. done (pipe_made context caller buffer flags hand table fds)) (two_free table)

    table_answers : (hand : List InHand) (table : Option Table) → Answers (or_refuse EBADF (in_table hand) table)
    table_answers hand None = refl
    table_answers hand (Some table) = ends_answer hand table (two_free table)

    hand_answers : (hand : Option (List InHand))
        → Answers (or_refuse EFAULT (λ h. with_callers_table caller (in_table h)) hand)
    hand_answers None = refl
    hand_answers (Some hand) = table_answers hand (s (OfTable caller.table))

  pipe2_answers : Answers (row_of_call context caller args Pipe2)
  pipe2_answers =
      either_answers (not (are_pipe_flags (args.a1 % 2 ^ 32))) _ _ refl
      (behind_answers (access_row writable caller.space args.a0 8) _ (hand_answers args.a0 (args.a1 % 2 ^ 32) _))

-- so what is ready is so in any context
module _ (s : Parts) (c d : Context) (caller : Caller) (args : Args) where
  abbrev AreAlike : Prog Answer → Prog Answer → Type 0
  AreAlike x y = makes_entry (outcome_in s x).reply ≡ makes_entry (outcome_in s y).reply

  row_alike : (call : CallNo) → AreAlike (row_of_call c caller args call) (row_of_call d caller args call)
  row_alike ClockGettime = clock_answers s c caller args ∙ sym (clock_answers s d caller args)
  row_alike Mmap = map_answers s c caller args ∙ sym (map_answers s d caller args)
  row_alike Getrandom = random_answers s c caller args ∙ sym (random_answers s d caller args)
  row_alike Pipe2 = pipe2_answers s c caller args ∙ sym (pipe2_answers s d caller args)
  row_alike Clone = clone_answers s c caller args ∙ sym (clone_answers s d caller args)
  row_alike _ = refl

  known_alike : (call : Option CallNo) → AreAlike (row_if_known c caller args call) (row_if_known d caller args call)
  known_alike None = refl
  known_alike (Some call) = row_alike call

by_next : (s : Parts) (c d : Context) (caller : Caller) (next : Next)
    → outcome_in s (ready_by c caller next) ≡ outcome_in s (ready_by d caller next)
by_next s c d caller Goes = refl
by_next s c d caller (Traps signal) = refl
by_next s c d caller (Touches area) = refl
by_next s c d caller Calls =
    here c ∙ known_alike s c d caller (args_of caller.registers) (call_numbered (number_of caller.registers))
    ∙ sym (here d)
  where
    here : (x : Context) → outcome_in s (ready_by x caller Calls)
        ≡ makes_entry (outcome_in s (call_row x caller (number_of caller.registers) (args_of caller.registers))).reply
    here x =
        outcome-bind s (call_row x caller (number_of caller.registers) (args_of caller.registers))
        (λ answer. done (makes_entry answer.reply))

by_wait : (s : Parts) (c d : Context) (caller : Caller) (wait : Wait)
    → outcome_in s (ready_as c caller wait) ≡ outcome_in s (ready_as d caller wait)
by_wait s c d caller Asleep = refl
by_wait s c d caller Woken = refl
by_wait s c d caller Awake =
    outcome-bind s (next_row caller) (λ (x : Stands). ready_by c caller x.next)
    ∙ by_next s c d caller (outcome_in s (next_row caller)).next
    ∙ sym (outcome-bind s (next_row caller) (λ (x : Stands). ready_by d caller x.next))

if_live_alike : (s : Parts) (c d : Context) (caller : Option Caller)
    → outcome_in s (ready_if_live c caller) ≡ outcome_in s (ready_if_live d caller)
if_live_alike s c d None = refl
if_live_alike s c d (Some caller) = by_wait s c d caller (wait_of (s OfSleepers) caller.task)

any_context : (s : Parts) (c d : Context) (task : ℕ)
    → outcome_in s (ready_row c task) ≡ outcome_in s (ready_row d task)
any_context s c d task =
    outcome-bind s (caller_of task) (ready_if_live c)
    ∙ if_live_alike s c d (outcome_in s (caller_of task))
    ∙ sym (outcome-bind s (caller_of task) (ready_if_live d))

pub ready_alike : (a b : Kernel) (task : ℕ)
    → AgreeOn (uses (parts a) (ready_row (context_of a) task)) (parts a) (parts b) → is_ready b task ≡ is_ready a task
ready_alike a b task same =
    any_context (parts b) (context_of b) (context_of a) task
    ∙ (outcome_alike (parts a) (parts b) (ready_row (context_of a) task) same).1
