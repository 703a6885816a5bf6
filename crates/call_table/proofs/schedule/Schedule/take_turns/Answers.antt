-- Each round adds an entry at the end of a history, or memory runs out.
use Rattle.std.proofs.Common.{◌≡◌, ℕ, ◌+◌, true, List, [], ◌∷◌, ◌++◌, length, ap, sym, subst, ◌∙◌, length-append}
use Rattle.std.specs.Prelude.{Some}
use Rattle.std.specs.List.{flat_map}
use Rattle.std.proofs.lemmas.Grind.{flat_map-append}
use Rattle.kernel_model.specs.declared.entry.Entry.{Entry}
use Rattle.kernel_model.specs.files.Numbers.{numbers_in}
use Rattle.kernel_model.specs.entries.History.{replay, each_whole, is_whole}
use Rattle.kernel_model.specs.entries.Ready.{ready_numbers}
use Rattle.kernel_model.specs.entries.Steps.{step, task_of}
use Rattle.proc_cells.specs.Beside.{Beside}
use Rattle.proc_cells.specs.Cells.{kernel_of as kernel_of_cells}
use Rattle.call_table.specs.Turns.{AreInTurn, last_turn, next_task_of}
use Rattle.call_table.proofs.Histories.{last_more, replay_more, turns_more, whole_more}
use Rattle.call_table.proofs.Results.{is_some_of}
use Rattle.call_table.proofs.schedule.Schedule.take_turns.Goals as goal

none_more : (xs ys : List ℕ) → xs ≡ [] → ys ≡ [] → xs ++ (ys ++ []) ≡ []
none_more xs ys e h = ap (λ zs. zs ++ (ys ++ [])) e ∙ ap (λ zs. zs ++ []) h

pub loop-place-preserved : goal.loop-place-preserved
loop-place-preserved c =
    let before = c.loop-place.self.cells in
    let after = c.turn.new.self.cells in
    let entry = c.in-Some.entry in
    let grown = c.in_ok-push.ensures.ok in
    let longer : length c.push.new.self ≡ length c.loop-place.trace + 1 =
    ap length grown ∙ length-append c.loop-place.trace (entry ∷ []) in
    let place : length c.loop-place.trace + 1 ≡ c.loop-place.place + 1 =
    ap (λ (n : ℕ). n + 1) c.loop-place.invariant.count in
    let steps = is_some_of c.in_ok-entry.field-0 (λ e. (beside : Beside) (n : ℕ) → beside.seed ≡ c.args.seed.now →
    n + 1 ≡ c.loop-place.place + 1 → step (kernel_of_cells before beside n) e
    ≡ Some (kernel_of_cells after beside (n + 1))) entry
    c.in-Some.is c.in_ok-entry.ensures.step in
    let wholly = is_some_of c.in_ok-entry.field-0 (λ e. (beside : Beside) (n m : ℕ) →
    is_whole e (kernel_of_cells before beside n) (kernel_of_cells after beside m) ≡ true) entry c.in-Some.is
    c.in_ok-entry.ensures.whole in
    let numbers = is_some_of c.in_ok-entry.field-0 (λ e. numbers_in e ≡ []) entry c.in-Some.is
    c.in_ok-entry.ensures.numbers in
    let turned = is_some_of c.in_ok-entry.field-0 (λ e. (beside : Beside) (n : ℕ) →
    next_task_of c.loop-place.last (ready_numbers (kernel_of_cells before beside n))
    ≡ Some (task_of e)) entry c.in-Some.is
    c.in_ok-entry.ensures.turn in
    record {
      count = longer ∙ place;
      state = λ beside seed.
          ap (replay (kernel_of_cells c.args.self.now.cells beside 0)) grown
          ∙ replay_more (kernel_of_cells c.args.self.now.cells beside 0)
          (kernel_of_cells before beside (length c.loop-place.trace)) _ c.loop-place.trace entry
          (c.loop-place.invariant.state beside seed) (steps beside (length c.loop-place.trace) seed place)
          ∙ ap (λ (n : ℕ). Some (kernel_of_cells after beside n)) (sym longer);
      turns = λ beside seed.
          subst (λ (es : List Entry). AreInTurn 0 (kernel_of_cells c.args.self.now.cells beside 0) es) (sym grown)
          (turns_more 0 (kernel_of_cells c.args.self.now.cells beside 0)
          (kernel_of_cells before beside (length c.loop-place.trace))
          (kernel_of_cells after beside (length c.loop-place.trace + 1)) c.loop-place.trace entry
          (c.loop-place.invariant.turns beside seed) (c.loop-place.invariant.state beside seed)
          (steps beside (length c.loop-place.trace) seed place)
          (ap (λ m. next_task_of m (ready_numbers (kernel_of_cells before beside (length c.loop-place.trace))))
          (sym c.loop-place.invariant.last)
          ∙ turned beside (length c.loop-place.trace)));
      last = sym (ap (last_turn 0) grown ∙ last_more 0 c.loop-place.trace entry ∙ sym c.task-last.ensures);
      drawn =
          ap (flat_map numbers_in) grown ∙ flat_map-append numbers_in c.loop-place.trace (entry ∷ [])
          ∙ none_more _ _ c.loop-place.invariant.drawn numbers;
      whole = λ beside seed.
          ap (λ es. each_whole (kernel_of_cells c.args.self.now.cells beside 0) es) grown
          ∙ whole_more (kernel_of_cells c.args.self.now.cells beside 0)
          (kernel_of_cells before beside (length c.loop-place.trace))
          (kernel_of_cells after beside (length c.loop-place.trace + 1)) c.loop-place.trace entry
          (c.loop-place.invariant.state beside seed) (c.loop-place.invariant.whole beside seed)
          (steps beside (length c.loop-place.trace) seed place)
          (wholly beside (length c.loop-place.trace) (length c.loop-place.trace + 1));
      parked = c.in_ok-entry.ensures.parked;
    }
