-- A task's next step is ready exactly where an entry of it without a rise fits.
use Rattle.std.proofs.Common.{◌≡◌, ℕ, zero, suc, ℤ, pos, Bool, true, false, cond, List, [], ◌∷◌, ◌++◌, Option, Some}
use Rattle.std.proofs.Common.{None, refl, ap, sym, ◌∙◌, inl, inr, option_map}
use Rattle.std.specs.Prelude.{◌⊎◌, ◌==◌, ◌&&◌, is_some, nat_le, option_and_then}
use Rattle.std.specs.List.{list_any}
use Rattle.std.specs.Ordering.{int_eq}
use Rattle.std.proofs.lemmas.Bool.{and_parts, eqb-true, eq-eqb}
use Rattle.std.proofs.lemmas.Bool.Decides.{Decides-int_eq}
use Rattle.rv_table.specs.declared.error.Area.{Area}
use Rattle.rv_table.specs.declared.registers.Regs.{Regs}
use Rattle.rv_exec.specs.Courses as courses
use Rattle.rv_exec.specs.Execution.{Done, exec}
use Rattle.rv_exec.specs.Execution as done_by
use Rattle.quantum.specs.Acting.{Acting, acting_after_write, memory_of}
use Rattle.quantum.specs.Instructions.{GoingTask, ran}
use Rattle.mm_space.specs.Handed.{AreaState, InHand, area_in}
use Rattle.futex_core.specs.Waiters.{after_leave}
use Rattle.task_table.specs.declared.task.Status.TheVariants.{Killed}
use Rattle.kernel_model.specs.declared.caller.Caller.{Caller}
use Rattle.kernel_model.specs.declared.entry.Args.{Args}
use Rattle.kernel_model.specs.declared.entry.Entry.{Entry}
use Rattle.kernel_model.specs.declared.entry.Entry.TheVariants.{Run, Call, Sleep, End}
use Rattle.kernel_model.specs.declared.kernel.Kernel.{Kernel}
use Rattle.kernel_model.specs.declared.kernel.Part.TheVariants.{OfArea, OfSleepers}
use Rattle.kernel_model.specs.declared.opening.Fresh.{Fresh}
use Rattle.kernel_model.specs.declared.opening.Given.{Given}
use Rattle.kernel_model.specs.declared.traps.Next.{Next}
use Rattle.kernel_model.specs.declared.traps.Next.TheVariants.{Goes, Calls, Traps, Touches}
use Rattle.kernel_model.specs.machine.Instructions.{next_by, next_of, touches_area}
use Rattle.kernel_model.specs.machine.Registers.{args_of, call_of as number_of}
use Rattle.kernel_model.specs.machine.Spaces.{acting_with, going_in, going_with}
use Rattle.kernel_model.specs.calls.Answers.{Answer, RowReply, Replies, Sleeps, NotReady, makes_entry}
use Rattle.kernel_model.specs.calls.Callers.{Context, context_of, caller_of}
use Rattle.kernel_model.specs.calls.Ending.{group_end}
use Rattle.kernel_model.specs.calls.Table.{call_row}
use Rattle.kernel_model.specs.entries.Areas.{Stands, asked, comes_to, handed_in, next_row, next_tried, stands_by}
use Rattle.kernel_model.specs.entries.Areas.{stands_lacking, tried_with}
use Rattle.kernel_model.specs.entries.Given.{above_last, has_any, is_in_order}
use Rattle.kernel_model.specs.entries.Parts.{Parts, parts, Prog, done, look, outcome_in, ◌>>=◌, Change}
use Rattle.kernel_model.specs.entries.Ready.{HasStep, has_rises, is_ready, ready_as, ready_by, ready_if_live}
use Rattle.kernel_model.specs.entries.Steps.{by_answer, by_given, call_at, call_entry, end_at, end_row, entry_row}
use Rattle.kernel_model.specs.entries.Steps.{going_on, if_live, killed, may_enter, or_step, row_of}
use Rattle.kernel_model.specs.entries.Steps.{run_alone, run_changes, run_row, same_args, sleep_at, sleep_row, slept_by}
use Rattle.kernel_model.specs.entries.Steps.{stands_at, step, step_row, step_with, stepped, task_of}
use Rattle.kernel_model.specs.entries.Steps.{woken_entry}
use Rattle.kernel_model.specs.entries.Waiting.{Wait, Awake, Asleep, Woken, wait_of}
use Rattle.kernel_model.proofs.CallLemmas.{call_answered, call_disordered}
use Rattle.kernel_model.proofs.NamedChildren.{names_none}
use Rattle.kernel_model.proofs.Trees.{outcome-bind}

-- ---- one instruction

abbrev one_more : GoingTask → Option GoingTask
one_more g = courses.one_instruction_more memory_of acting_after_write g

ran_one : (g : GoingTask) → ran 1 g ≡ one_more g
unfolding courses.after_instructions
ran_one g = refl

ran_behind : (n : ℕ) (g : GoingTask) → ran (suc n) g ≡ option_and_then one_more (ran n g)
unfolding courses.after_instructions
ran_behind n g = refl

-- an instruction runs exactly where it goes on
goes_by : (a : Acting) (work : Done) → next_by work ≡ Goes
    → is_some (courses.went_by acting_after_write a work) ≡ true
goes_by a (done_by.Goes r ws) goes = refl
goes_by a done_by.Calls goes = absurd (cc goes)
goes_by a (done_by.Traps signal) goes = absurd (cc goes)
goes_by a (done_by.Touches area) goes = absurd (cc goes)

went_goes : (a : Acting) (work : Done) → is_some (courses.went_by acting_after_write a work) ≡ true
    → next_by work ≡ Goes
went_goes a (done_by.Goes r ws) some = refl
went_goes a done_by.Calls some = absurd (cc some)
went_goes a (done_by.Traps signal) some = absurd (cc some)
went_goes a (done_by.Touches area) some = absurd (cc some)

one_runs : (g : GoingTask) → next_of g.acting g.registers ≡ Goes → is_some (ran 1 g) ≡ true
one_runs g goes = ap is_some (ran_one g) ∙ goes_by g.acting (exec (memory_of g.acting) g.registers) goes

one_goes : (g : GoingTask) → is_some (ran 1 g) ≡ true → next_of g.acting g.registers ≡ Goes
one_goes g some =
    went_goes g.acting (exec (memory_of g.acting) g.registers) (ap is_some (sym (ran_one g)) ∙ some)

-- of several the first goes on
first_runs : (n : ℕ) (g : GoingTask) → is_some (ran (suc n) g) ≡ true → is_some (ran 1 g) ≡ true
first_runs zero g some = some
first_runs (suc n) g some = by (first_runs n g) (ran (suc n) g) refl
  where
    by : (is_some (ran (suc n) g) ≡ true → is_some (ran 1 g) ≡ true) → (o : Option GoingTask) → ran (suc n) g ≡ o
        → is_some (ran 1 g) ≡ true
    by before None none =
        absurd (cc (sym some ∙ ap is_some (ran_behind (suc n) g ∙ ap (option_and_then one_more) none)))
    by before (Some h) is = before (ap is_some is)

-- ---- what the next instruction does, with the areas that it needs

module _ (s : Parts) (c : Caller) where
  -- it does so with these areas in hand, and touches no other; or an area that it needs is not there
  abbrev pub Means : Stands → Type 0
  Means x =
      (x ≡ stands_lacking)
      ⊎ ((next_of (acting_with c.task c.space x.hand) c.registers ≡ x.next) × (touches_area x.next ≡ false))

  comes_means : (hand : List InHand) (next : Next) → next_of (acting_with c.task c.space hand) c.registers ≡ next
      → Means (comes_to stands_lacking (stands_by hand next))
  comes_means hand Goes is = inr (is, refl)
  comes_means hand Calls is = inr (is, refl)
  comes_means hand (Traps signal) is = inr (is, refl)
  comes_means hand (Touches area) is = inl refl

  handed_means : (rest : List InHand → Prog Stands) → ((hand : List InHand) → Means (outcome_in s (rest hand)))
      → (hand : List InHand) (area : Area) (state : Option AreaState)
      → Means (outcome_in s (handed_in stands_lacking rest hand area state))
  handed_means rest each hand area None = inl refl
  handed_means rest each hand area (Some state) = each (hand ++ record { name = area; state = state } ∷ [])

  asked_means : (rest : List InHand → Prog Stands) → ((hand : List InHand) → Means (outcome_in s (rest hand)))
      → (hand : List InHand) (next : Next) → next_of (acting_with c.task c.space hand) c.registers ≡ next
      → Means (outcome_in s (asked stands_lacking rest hand (stands_by hand next)))
  asked_means rest each hand Goes is = inr (is, refl)
  asked_means rest each hand Calls is = inr (is, refl)
  asked_means rest each hand (Traps signal) is = inr (is, refl)
  asked_means rest each hand (Touches area) is = by (is_some (area_in area hand))
    where
      by : (b : Bool) → Means (outcome_in s (cond b (done stands_lacking)
          (look (OfArea area) (handed_in stands_lacking rest hand area))))
      by true = inl refl
      by false = handed_means rest each hand area (s (OfArea area))

  tried_means : (n : ℕ) (hand : List InHand)
      → Means (outcome_in s (tried_with (next_tried c) stands_lacking n hand))
  unfolding tried_with
  tried_means zero hand = comes_means hand (next_of (acting_with c.task c.space hand) c.registers) refl
  tried_means (suc n) hand =
      asked_means (tried_with (next_tried c) stands_lacking n) (tried_means n) hand
      (next_of (acting_with c.task c.space hand) c.registers) refl

  next_means : Means (outcome_in s (next_row c))
  next_means = tried_means 17 []

  -- one that goes on with no area in hand goes on
  alone_goes : next_of (acting_with c.task c.space []) c.registers ≡ Goes → (outcome_in s (next_row c)).next ≡ Goes
  unfolding tried_with
  alone_goes goes =
      ap (λ next. (outcome_in s (asked stands_lacking (tried_with (next_tried c) stands_lacking 16) []
      (stands_by [] next))).next) goes

-- ---- what a call comes to

-- an answer that names no child, by its reply
answer_by : (a : Answer) (reply : RowReply) → a.reply ≡ reply → a.fresh ≡ []
    → a ≡ record { reply = reply; changes = a.changes; fresh = [] }
answer_by a reply is none =
    ap (λ r. record { reply = r; changes = a.changes; fresh = a.fresh }) is
    ∙ ap (λ f. record { reply = reply; changes = a.changes; fresh = f }) none

-- arguments that are the same are equal
same_means : (a b : Args) → same_args a b ≡ true → b ≡ a
same_means a b e =
    let five = and_parts ((a.a0 == b.a0) && (a.a1 == b.a1) && (a.a2 == b.a2) && (a.a3 == b.a3) && (a.a4 == b.a4))
    (a.a5 == b.a5) e in
    let four = and_parts ((a.a0 == b.a0) && (a.a1 == b.a1) && (a.a2 == b.a2) && (a.a3 == b.a3)) (a.a4 == b.a4) five.0
    in
    let three = and_parts ((a.a0 == b.a0) && (a.a1 == b.a1) && (a.a2 == b.a2)) (a.a3 == b.a3) four.0 in
    let two = and_parts ((a.a0 == b.a0) && (a.a1 == b.a1)) (a.a2 == b.a2) three.0 in
    let one = and_parts (a.a0 == b.a0) (a.a1 == b.a1) two.0 in
    sym (ap (λ x. record a { a0 = x }) (eqb-true a.a0 b.a0 one.0)
    ∙ ap (λ x. record a { a0 = b.a0; a1 = x }) (eqb-true a.a1 b.a1 one.1)
    ∙ ap (λ x. record a { a0 = b.a0; a1 = b.a1; a2 = x }) (eqb-true a.a2 b.a2 two.1)
    ∙ ap (λ x. record a { a0 = b.a0; a1 = b.a1; a2 = b.a2; a3 = x }) (eqb-true a.a3 b.a3 three.1)
    ∙ ap (λ x. record a { a0 = b.a0; a1 = b.a1; a2 = b.a2; a3 = b.a3; a4 = x }) (eqb-true a.a4 b.a4 four.1)
    ∙ ap (λ x. record b { a5 = x }) (eqb-true a.a5 b.a5 five.1))

args_same : (a : Args) → same_args a a ≡ true
args_same a =
    ap (λ x. x && (a.a1 == a.a1) && (a.a2 == a.a2) && (a.a3 == a.a3) && (a.a4 == a.a4) && (a.a5 == a.a5))
    (eq-eqb a.a0 a.a0 refl)
    ∙ ap (λ x. x && (a.a2 == a.a2) && (a.a3 == a.a3) && (a.a4 == a.a4) && (a.a5 == a.a5)) (eq-eqb a.a1 a.a1 refl)
    ∙ ap (λ x. x && (a.a3 == a.a3) && (a.a4 == a.a4) && (a.a5 == a.a5)) (eq-eqb a.a2 a.a2 refl)
    ∙ ap (λ x. x && (a.a4 == a.a4) && (a.a5 == a.a5)) (eq-eqb a.a3 a.a3 refl)
    ∙ ap (λ x. x && (a.a5 == a.a5)) (eq-eqb a.a4 a.a4 refl)
    ∙ eq-eqb a.a5 a.a5 refl

-- a call that drew nothing and met nothing
abbrev quiet : Given
quiet = record { fresh = []; rises = [] }

at_its_call : (r : Regs) → stands_at (number_of r) (args_of r) r Calls ≡ true
at_its_call r =
    ap (λ x. x && same_args (args_of r) (args_of r)) (eq-eqb (number_of r) (number_of r) refl) ∙ args_same (args_of r)

same_reply : (reply : ℤ) → int_eq reply reply ≡ true
same_reply reply = (Decides-int_eq reply reply).1 refl

module _ (s : Parts) (context : Context) (c : Caller) where
  abbrev Fits : Prog (Option (List Change)) → Type 0
  Fits row = is_some (outcome_in s row) ≡ true

  behind_fits : {A : Type 0} (first : Prog A) (next : A → Prog (Option (List Change)))
      → Fits (next (outcome_in s first)) → Fits (first >>= next)
  behind_fits first next h = ap is_some (outcome-bind s first next) ∙ h

  fits_behind : {A : Type 0} (first : Prog A) (next : A → Prog (Option (List Change))) → Fits (first >>= next)
      → Fits (next (outcome_in s first))
  fits_behind first next h = ap is_some (sym (outcome-bind s first next)) ∙ h

  -- what the caller's call comes to
  abbrev own_answer : Answer
  own_answer = outcome_in s (call_row context c (number_of c.registers) (args_of c.registers))

  own_names_none : own_answer.fresh ≡ []
  own_names_none = names_none s context c (number_of c.registers) (args_of c.registers)

  ready_call : outcome_in s (ready_by context c Calls) ≡ makes_entry own_answer.reply
  ready_call =
      outcome-bind s (call_row context c (number_of c.registers) (args_of c.registers))
      (λ (answer : Answer). done (makes_entry answer.reply))

  -- a call that met no fault and fits makes an entry
  answer_makes : (reply : ℤ) (given : Given) (answer : Answer) → answer.fresh ≡ []
      → Fits (by_answer c reply given answer) → makes_entry answer.reply ≡ true
  answer_makes reply given answer none fits =
      by given.fresh answer.reply
      (ap (λ a. is_some (outcome_in s (by_answer c reply given a))) (sym (answer_by answer answer.reply refl none))
      ∙ fits)
    where
      by_number : (b : Bool) (row : RowReply)
          → is_some (outcome_in s (cond {A = Prog (Option (List Change))} b (done None) (done None))) ≡ true
          → makes_entry row ≡ true
      by_number true row h = absurd (cc h)
      by_number false row h = absurd (cc h)

      by : (fresh : List Fresh) (row : RowReply)
          → Fits (by_answer c reply (record { fresh = fresh; rises = given.rises })
          (record { reply = row; changes = answer.changes; fresh = [] })) → makes_entry row ≡ true
      by [] (Replies value) h = refl
      by [] Sleeps h = refl
      by [] NotReady h = absurd (cc h)
      by (f ∷ fresh) row h = by_number (list_any above_last (f ∷ fresh)) row h

  given_makes : (call : ℕ) (args : Args) (reply : ℤ) (given : Given) → has_any given.rises ≡ false
      → Fits (by_given context c call args reply given)
      → makes_entry (outcome_in s (call_row context c call args)).reply ≡ true
  given_makes call args reply given none fits = by (is_in_order given) refl
    where
      by : (b : Bool) → is_in_order given ≡ b
          → makes_entry (outcome_in s (call_row context c call args)).reply ≡ true
      by true ordered =
          answer_makes reply given (outcome_in s (call_row context c call args)) (names_none s context c call args)
          (ap is_some (sym (call_answered s context c call args reply given none ordered)) ∙ fits)
      by false disordered =
          absurd (cc (sym fits ∙ ap is_some (call_disordered s context c call args reply given disordered)))

  -- ---- from a step that is ready to an entry

  abbrev HasRow : Wait → (task : ℕ) → Type 0
  HasRow wait task =
      (e : Entry) × (task_of e ≡ task) × (has_rises e ≡ false) × ((k : Kernel) → may_enter k.nodes e ≡ true)
      × Fits (row_of context e c wait)

  abbrev stands : Stands
  stands = outcome_in s (next_row c)

  run_fits : stands.next ≡ Goes → Fits (run_row 1 c)
  run_fits goes = by (run_alone 1 c) (next_means s c)
    where
      hand_goes : Means s c (outcome_in s (next_row c))
          → next_of (acting_with c.task c.space (outcome_in s (next_row c)).hand) c.registers ≡ Goes
      hand_goes (inl lacking) = absurd (cc (sym goes ∙ ap (λ (x : Stands). x.next) lacking))
      hand_goes (inr is) = is.0 ∙ goes

      changes_fit : (o : Option GoingTask) → is_some o ≡ true → is_some (option_map (run_changes c) o) ≡ true
      changes_fit None h = absurd (cc h)
      changes_fit (Some g) h = refl

      by : (o : Option (List Change)) → Means s c (outcome_in s (next_row c)) → Fits (or_step 1 c o)
      by (Some changes) means = refl
      by None means =
          behind_fits (next_row c) (λ (x : Stands). done (step_with c x.hand))
          (changes_fit (ran 1 (going_with c.task c.space (outcome_in s (next_row c)).hand c.registers))
          (one_runs (going_with c.task c.space (outcome_in s (next_row c)).hand c.registers) (hand_goes means)))

  end_fits : (signal : ℕ) → stands.next ≡ Traps signal → Fits (end_row signal c)
  end_fits signal traps =
      behind_fits (next_row c) (λ (x : Stands). end_at signal c x.next)
      (ap (λ next. is_some (outcome_in s (end_at signal c next))) traps
      ∙ ap (λ b. is_some (outcome_in s (cond b (killed signal c) (done None)))) (eq-eqb signal signal refl)
      ∙ behind_fits (group_end c (Killed signal)) (λ changes. done (Some changes)) refl)

  call_fits : (value : ℤ) → stands.next ≡ Calls → own_answer.reply ≡ Replies value
      → Fits (call_entry context c (number_of c.registers) (args_of c.registers) value quiet)
  call_fits value calls replies =
      behind_fits (next_row c)
      (λ (x : Stands). call_at context c (number_of c.registers) (args_of c.registers) value quiet x.next)
      (ap (λ next. is_some (outcome_in s (call_at context c (number_of c.registers) (args_of c.registers) value quiet
      next))) calls
      ∙ ap (λ b. is_some (outcome_in s (cond b (by_given context c (number_of c.registers) (args_of c.registers) value
      quiet) (done None)))) (at_its_call c.registers)
      ∙ ap is_some (call_answered s context c (number_of c.registers) (args_of c.registers) value quiet refl refl)
      ∙ ap (λ a. is_some (outcome_in s (by_answer c value quiet a)))
      (answer_by own_answer (Replies value) replies own_names_none)
      ∙ ap (λ b. is_some (cond b (Some (own_answer.changes ++ going_on c value)) None)) (same_reply value))

  sleep_fits : stands.next ≡ Calls → own_answer.reply ≡ Sleeps → Fits (sleep_row context c)
  sleep_fits calls sleeps =
      behind_fits (next_row c) (λ (x : Stands). sleep_at context c x.next)
      (ap (λ next. is_some (outcome_in s (sleep_at context c next))) calls
      ∙ behind_fits (call_row context c (number_of c.registers) (args_of c.registers))
      (λ (answer : Answer). done (slept_by answer answer.reply))
      (ap (λ reply. is_some (slept_by own_answer reply)) sleeps))

  call_has : (task : ℕ) (reply : RowReply) → own_answer.reply ≡ reply → makes_entry reply ≡ true
      → stands.next ≡ Calls → HasRow Awake task
  call_has task (Replies value) is makes calls = (
    Call task (number_of c.registers) (args_of c.registers) quiet value,
    refl,
    refl,
    λ k. refl,
    call_fits value calls is,
  )
  call_has task Sleeps is makes calls = (Sleep task, refl, refl, λ k. refl, sleep_fits calls is)
  call_has task NotReady is makes calls = absurd (cc makes)

  not_touching : (area : Area) → stands.next ≡ Touches area → Means s c stands → ⊥
  not_touching area touches (inl lacking) = absurd (cc (sym touches ∙ ap (λ (x : Stands). x.next) lacking))
  not_touching area touches (inr is) = absurd (cc (sym (ap touches_area touches) ∙ is.1))

  next_has : (task : ℕ) (next : Next) → stands.next ≡ next → outcome_in s (ready_by context c next) ≡ true
      → HasRow Awake task
  next_has task Goes is ready = (Run task 1, refl, refl, λ k. refl, run_fits is)
  next_has task (Traps signal) is ready = (End task signal, refl, refl, λ k. refl, end_fits signal is)
  next_has task (Touches area) is ready = absurd (not_touching area is (next_means s c))
  next_has task Calls is ready = call_has task own_answer.reply refl (sym ready_call ∙ ready) is

  woken_fits : Fits (woken_entry c (number_of c.registers) (args_of c.registers) (pos 0) quiet)
  woken_fits = by (stands_at (number_of c.registers) (args_of c.registers) c.registers Calls) (at_its_call c.registers)
    where
      by : (b : Bool) → b ≡ true
          → is_some (outcome_in s (cond (b && true && int_eq (pos 0) (pos 0)) (look OfSleepers (λ list.
          done (Some ((OfSleepers, after_leave list c.task) ∷ going_on c (pos 0))))) (done None))) ≡ true
      by true is = refl
      by false is = absurd (cc is)

  has_row : (wait : Wait) (task : ℕ) → outcome_in s (ready_as context c wait) ≡ true → HasRow wait task
  has_row Asleep task ready = absurd (cc ready)
  has_row Woken task ready = (
    Call task (number_of c.registers) (args_of c.registers) quiet (pos 0),
    refl,
    refl,
    λ k. refl,
    woken_fits,
  )
  has_row Awake task ready =
      next_has task (outcome_in s (next_row c)).next refl
      (sym (outcome-bind s (next_row c) (λ (x : Stands). ready_by context c x.next)) ∙ ready)

  -- ---- from an entry that fits to a step that is ready

  -- where the next instruction is no call the task is ready
  ready_unless : (next : Next) → (next ≡ Calls → makes_entry own_answer.reply ≡ true)
      → outcome_in s (ready_by context c next) ≡ true
  ready_unless Goes h = refl
  ready_unless (Traps signal) h = refl
  ready_unless (Touches area) h = refl
  ready_unless Calls h = ready_call ∙ h refl

  -- a run is of no call
  alone_some : (n : ℕ) (changes : List Change) → run_alone n c ≡ Some changes
      → next_of (acting_with c.task c.space []) c.registers ≡ Goes
  alone_some zero changes is = absurd (cc is)
  alone_some (suc n) changes is =
      one_goes (going_in c.task c.space c.registers)
      (first_runs n (going_in c.task c.space c.registers)
      (by (nat_le 1 (suc n) && nat_le (suc n) 10000) (ran (suc n) (going_in c.task c.space c.registers)) is))
    where
      by : (b : Bool) (o : Option GoingTask) → cond b (option_map (run_changes c) o) None ≡ Some changes
          → is_some o ≡ true
      by true (Some g) h = refl
      by true None h = absurd (cc h)
      by false o h = absurd (cc h)

  run_goes : (n : ℕ) → Fits (run_row n c) → stands.next ≡ Calls → ⊥
  run_goes n fits calls = by (run_alone n c) refl fits
    where
      by_hand : Means s c stands → is_some (ran 1 (going_with c.task c.space stands.hand c.registers)) ≡ true → ⊥
      by_hand (inl lacking) runs = absurd (cc (sym calls ∙ ap (λ (x : Stands). x.next) lacking))
      by_hand (inr is) runs =
          absurd (cc (sym calls ∙ sym is.0
          ∙ one_goes (going_with c.task c.space stands.hand c.registers) runs))

      mapped : (o : Option GoingTask) → is_some (option_map (run_changes c) o) ≡ true → is_some o ≡ true
      mapped None h = absurd (cc h)
      mapped (Some g) h = refl

      by_count : (b : Bool) → Fits (cond b (step_row c) (done None)) → ⊥
      by_count true h =
          by_hand (next_means s c)
          (mapped (ran 1 (going_with c.task c.space stands.hand c.registers))
          (fits_behind (next_row c) (λ (x : Stands). done (step_with c x.hand)) h))
      by_count false h = absurd (cc h)

      by : (o : Option (List Change)) → run_alone n c ≡ o → Fits (or_step n c o) → ⊥
      by (Some changes) alone h = absurd (cc (sym calls ∙ alone_goes s c (alone_some n changes alone)))
      by None alone h = by_count (n == 1) h

  call_makes : (call : ℕ) (args : Args) (reply : ℤ) (given : Given) → has_any given.rises ≡ false
      → Fits (call_entry context c call args reply given) → stands.next ≡ Calls → makes_entry own_answer.reply ≡ true
  call_makes call args reply given none fits calls =
      by (number_of c.registers == call) (same_args (args_of c.registers) args) refl refl
      (ap (λ next. is_some (outcome_in s (call_at context c call args reply given next))) (sym calls)
      ∙ fits_behind (next_row c) (λ (x : Stands). call_at context c call args reply given x.next) fits)
    where
      by : (a b : Bool) → (number_of c.registers == call) ≡ a → same_args (args_of c.registers) args ≡ b
          → Fits (cond (a && b) (by_given context c call args reply given) (done None))
          → makes_entry own_answer.reply ≡ true
      by true true number alike h =
          ap (λ n. makes_entry (outcome_in s (call_row context c n (args_of c.registers))).reply)
          (eqb-true (number_of c.registers) call number)
          ∙ ap (λ a. makes_entry (outcome_in s (call_row context c call a)).reply)
          (sym (same_means (args_of c.registers) args alike))
          ∙ given_makes call args reply given none h
      by true false number alike h = absurd (cc h)
      by false b number alike h = absurd (cc h)

  sleep_makes : Fits (sleep_row context c) → stands.next ≡ Calls → makes_entry own_answer.reply ≡ true
  sleep_makes fits calls =
      by own_answer.reply
      (fits_behind (call_row context c (number_of c.registers) (args_of c.registers))
      (λ (answer : Answer). done (slept_by answer answer.reply))
      (ap (λ next. is_some (outcome_in s (sleep_at context c next))) (sym calls)
      ∙ fits_behind (next_row c) (λ (x : Stands). sleep_at context c x.next) fits))
    where
      by : (reply : RowReply) → is_some (slept_by own_answer reply) ≡ true → makes_entry reply ≡ true
      by Sleeps h = refl
      by (Replies value) h = refl
      by NotReady h = absurd (cc h)

  end_traps : (signal : ℕ) → Fits (end_row signal c) → stands.next ≡ Calls → ⊥
  end_traps signal fits calls =
      absurd (cc (ap (λ next. is_some (outcome_in s (end_at signal c next))) (sym calls)
      ∙ fits_behind (next_row c) (λ (x : Stands). end_at signal c x.next) fits))

  awake_ready : (e : Entry) → has_rises e ≡ false → Fits (row_of context e c Awake)
      → outcome_in s (ready_by context c stands.next) ≡ true
  awake_ready (Run task n) none fits = ready_unless stands.next (λ calls. absurd (run_goes n fits calls))
  awake_ready (Call task call args given reply) none fits =
      ready_unless stands.next (call_makes call args reply given none fits)
  awake_ready (Sleep task) none fits = ready_unless stands.next (sleep_makes fits)
  awake_ready (End task signal) none fits = ready_unless stands.next (λ calls. absurd (end_traps signal fits calls))

  asleep_none : (e : Entry) → Fits (row_of context e c Asleep) → ⊥
  asleep_none (Run task n) fits = absurd (cc fits)
  asleep_none (Call task call args given reply) fits = absurd (cc fits)
  asleep_none (Sleep task) fits = absurd (cc fits)
  asleep_none (End task signal) fits = absurd (cc fits)

  row_ready : (wait : Wait) (e : Entry) → has_rises e ≡ false → Fits (row_of context e c wait)
      → outcome_in s (ready_as context c wait) ≡ true
  row_ready Asleep e none fits = absurd (asleep_none e fits)
  row_ready Woken e none fits = refl
  row_ready Awake e none fits =
      outcome-bind s (next_row c) (λ (x : Stands). ready_by context c x.next) ∙ awake_ready e none fits

-- ---- in a state

step_fits : (k : Kernel) (e : Entry) → may_enter k.nodes e ≡ true
    → is_some (outcome_in (parts k) (entry_row (context_of k) e)) ≡ true → is_some (step k e) ≡ true
unfolding step
step_fits k e may fits =
    ap (λ b. is_some (cond b (option_map (stepped k) (outcome_in (parts k) (entry_row (context_of k) e))) None)) may
    ∙ mapped (outcome_in (parts k) (entry_row (context_of k) e)) fits
  where
    mapped : (o : Option (List Change)) → is_some o ≡ true → is_some (option_map (stepped k) o) ≡ true
    mapped None h = absurd (cc h)
    mapped (Some changes) h = refl

fits_step : (k : Kernel) (e : Entry) → is_some (step k e) ≡ true
    → is_some (outcome_in (parts k) (entry_row (context_of k) e)) ≡ true
unfolding step
fits_step k e some = by (may_enter k.nodes e) (outcome_in (parts k) (entry_row (context_of k) e)) some
  where
    by : (b : Bool) (o : Option (List Change)) → is_some (cond b (option_map (stepped k) o) None) ≡ true
        → is_some o ≡ true
    by true None h = absurd (cc h)
    by true (Some changes) h = refl
    by false o h = absurd (cc h)

module _ (k : Kernel) (task : ℕ) where
  abbrev caller : Option Caller
  caller = outcome_in (parts k) (caller_of task)

  live_step : (c : Option Caller) → caller ≡ c → outcome_in (parts k) (ready_if_live (context_of k) c) ≡ true
      → HasStep k task
  live_step None is ready = absurd (cc ready)
  live_step (Some c) is ready =
      by (has_row (parts k) (context_of k) c (wait_of (parts k OfSleepers) c.task) task ready)
    where
      by : HasRow (parts k) (context_of k) c (wait_of (parts k OfSleepers) c.task) task → HasStep k task
      by (e, own, none, may, fits) = (
        e,
        own,
        none,
        step_fits k e (may k)
            (ap is_some (ap (λ t. outcome_in (parts k) (caller_of t >>= if_live (context_of k) e)) own
            ∙ outcome-bind (parts k) (caller_of task) (if_live (context_of k) e)
            ∙ ap (λ o. outcome_in (parts k) (if_live (context_of k) e o)) is) ∙ fits),
      )

  step_live : (e : Entry) → has_rises e ≡ false → (c : Option Caller)
      → is_some (outcome_in (parts k) (if_live (context_of k) e c)) ≡ true
      → outcome_in (parts k) (ready_if_live (context_of k) c) ≡ true
  step_live e none None fits = absurd (cc fits)
  step_live e none (Some c) fits =
      row_ready (parts k) (context_of k) c (wait_of (parts k OfSleepers) c.task) e none fits

-- a task whose next step is ready has an entry that fits
pub ready_steps : (k : Kernel) (task : ℕ) → is_ready k task ≡ true → HasStep k task
ready_steps k task ready =
    live_step k task (caller k task) refl
    (sym (outcome-bind (parts k) (caller_of task) (ready_if_live (context_of k))) ∙ ready)

-- and one that has such an entry is ready
pub steps_ready : (k : Kernel) (task : ℕ) → HasStep k task → is_ready k task ≡ true
steps_ready k task (e, own, none, some) =
    outcome-bind (parts k) (caller_of task) (ready_if_live (context_of k))
    ∙ step_live k task e none (caller k task)
    (ap is_some (sym (outcome-bind (parts k) (caller_of task) (if_live (context_of k) e))
    ∙ ap (λ t. outcome_in (parts k) (caller_of t >>= if_live (context_of k) e)) (sym own))
    ∙ fits_step k e some)
