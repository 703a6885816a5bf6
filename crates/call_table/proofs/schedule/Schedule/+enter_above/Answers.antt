-- Of those that may have a turn, the first above another whose step is ready makes an entry.
use Rattle.std.proofs.Common.{◌≡◌, ◌≢◌, ℕ, ◌<◌, ◌≤◌, inl, inr, arith, Bool, refl, ap, sym, subst, ◌∙◌, true, false}
use Rattle.std.specs.Prelude.{nat_lt, find, Some}
use Rattle.std.proofs.lemmas.Bool.{ltb-true, ltb-false}
use Rattle.kernel_model.specs.declared.kernel.Kernel.{Kernel}
use Rattle.kernel_model.specs.entries.Ready.{is_ready, ready_numbers}
use Rattle.kernel_model.specs.entries.Steps.{task_of}
use Rattle.kernel_model.proofs.NamedMaps.{same_or_other}
use Rattle.proc_cells.specs.Beside.{Beside}
use Rattle.proc_cells.specs.Cells.{AreKept, kernel_of}
use Rattle.task_table.specs.Table.{is_live}
use Rattle.call_table.specs.Entries.{ReadyIs}
use Rattle.call_table.specs.Schedules.{IsNextAbove}
use Rattle.call_table.proofs.Kept.{kernel_kept}
use Rattle.call_table.proofs.NextTurns.{first_ready, none_ready, ready_behind}
use Rattle.call_table.proofs.Parkings.{not_ready}
use Rattle.call_table.proofs.Results.{entered_behind, is_none, is_some_of, parked_behind}
use Rattle.call_table.proofs.schedule.Schedule.+enter_above.Goals as goal

pub returns-in-None-clause-none : goal.returns-in-None-clause-none
returns-in-None-clause-none t c = λ beside n.
    none_ready (kernel_of c.args.self.now.cells beside n) c.args.after (λ task high.
    not_ready c.args.self.now.cells c.args.self.now.parking c.requires.parked task
    (subst (IsNextAbove c.args.self.now.cells c.args.self.now.parking c.args.after) c.in-None.is c.next_above.ensures
    task high) beside n)

pub enter_above-requires : goal.enter_above-requires
enter_above-requires t c =
    let next = subst (IsNextAbove c.args.self.now.cells c.args.self.now.parking c.args.after) c.in-Some.is
    c.next_above.ensures in
    let low : c.args.after < c.in-Some.candidate.task = next.0 in
    (omega (arith, low, c.ranges.after.fits), (c.requires.later, c.in_ok-entry.ensures.parked))

pub returns-in-Some-2-clause-found : goal.returns-in-Some-2-clause-found
returns-in-Some-2-clause-found t c = λ beside n.
    let cells = c.args.self.now.cells in
    let task = c.in-Some.candidate.task in
    let next = subst (IsNextAbove cells c.args.self.now.parking c.args.after) c.in-Some.is c.next_above.ensures in
    let made = c.in_ok-entry.field-0 in
    first_ready (kernel_of cells beside n) c.args.after task
    (is_some_of made (λ _. is_live cells.tasks.tasks task ≡ true) c.in-Some-2.entry c.in-Some-2.is
    c.in_ok-entry.ensures.lives) next.0
    (is_some_of made (λ _. ReadyIs cells task true) c.in-Some-2.entry c.in-Some-2.is c.in_ok-entry.ensures.ready beside
    n)
    (λ other high low. not_ready cells c.args.self.now.parking c.requires.parked other (next.2 other high low) beside n)
    ∙ ap Some (sym (is_some_of made (λ entry. task_of entry ≡ task) c.in-Some-2.entry c.in-Some-2.is
    c.in_ok-entry.ensures.task))

-- a candidate whose step is not ready is passed over
module _ (t : ℕ) (c : goal.After-enter_above t) (beside : Beside) (n : ℕ) where
  abbrev here : Kernel
  here = kernel_of c.args.self.now.cells beside n

  passed_over : find (nat_lt c.args.after) (ready_numbers here)
      ≡ find (nat_lt c.in-Some.candidate.task) (ready_numbers (kernel_of c.enter.new.self.cells beside n))
  passed_over =
      let cells = c.args.self.now.cells in
      let task = c.in-Some.candidate.task in
      let next = subst (IsNextAbove cells c.args.self.now.parking c.args.after) c.in-Some.is c.next_above.ensures in
      let waits = is_none c.in_ok-entry.field-0 (ReadyIs cells task false) c.in-None-2.is c.in_ok-entry.ensures.waits in
      let kept = is_none c.in_ok-entry.field-0 (AreKept cells c.enter.new.self.cells) c.in-None-2.is
      c.in_ok-entry.ensures.kept in
      ready_behind here c.args.after task next.0 (λ other high within.
      elim (same_or_other task other) [
        | inl same ↦ ap (is_ready here) (sym same) ∙ waits beside n
        | inr apart ↦
            not_ready cells c.args.self.now.parking c.requires.parked other
            (next.2 other high (below other task apart within)) beside n
      ])
      ∙ ap (λ (k : Kernel). find (nat_lt task) (ready_numbers k))
      (sym (kernel_kept cells c.enter.new.self.cells kept beside n))
    where
      below : (other task : ℕ) → task ≢ other → other ≤ task → other < task
      below other task apart within = by (nat_lt other task) refl
        where
          by : (b : Bool) → nat_lt other task ≡ b → other < task
          by true e = ltb-true other task e
          by false e =
              let over : task ≤ other = ltb-false other task e in
              absurd (apart (omega (arith, within, over)))

pub returns-in-None-2-clause-found : goal.returns-in-None-2-clause-found
returns-in-None-2-clause-found t c =
    entered_behind c.enter_above.result
    (λ entry. (beside : Beside) (n : ℕ) → find (nat_lt c.in-Some.candidate.task)
    (ready_numbers (kernel_of c.enter.new.self.cells beside n)) ≡ Some (task_of entry))
    (λ entry. (beside : Beside) (n : ℕ) → find (nat_lt c.args.after)
    (ready_numbers (kernel_of c.args.self.now.cells beside n)) ≡ Some (task_of entry))
    (λ entry found beside n. passed_over t c beside n ∙ found beside n) c.enter_above.ensures.found

pub returns-in-None-2-clause-none : goal.returns-in-None-2-clause-none
returns-in-None-2-clause-none t c =
    parked_behind c.enter_above.result (λ none beside n. passed_over t c beside n ∙ none beside n)
    c.enter_above.ensures.none
