-- Where no task above 0 has a ready step, none has.
use Rattle.std.proofs.Common.{ap, sym, subst, ◌∙◌}
use Rattle.task_table.specs.Kept.{IsKept}
use Rattle.kernel_model.specs.declared.kernel.Kernel.{Kernel}
use Rattle.kernel_model.specs.entries.Given.{has_any}
use Rattle.kernel_model.specs.entries.Ready.{ready_numbers}
use Rattle.proc_cells.specs.Cells.{AreKept, kernel_of}
use Rattle.call_table.proofs.Kept.{kernel_kept}
use Rattle.call_table.proofs.NextTurns.{none_lives, none_still}
use Rattle.call_table.proofs.Results.{is_none, parked_both}
use Rattle.call_table.proofs.schedule.Schedule.turn.Goals as goal

pub returns-then-live-eq0-clause-still : goal.returns-then-live-eq0-clause-still
returns-then-live-eq0-clause-still c = λ beside n.
    none_lives (kernel_of c.args.self.now.cells beside n) c.live.result c.live.ensures.value c.if-live-eq0.true

pub returns-in-None-clause-still : goal.returns-in-None-clause-still
returns-in-None-clause-still c =
    let first = is_none c.in_ok-entry.field-0 (AreKept c.args.self.now.cells c.enter_above.new.self.cells) c.in-None.is
    c.in_ok-entry.ensures.kept in
    let sound : IsKept c.enter_above.new.self.cells.tasks = subst IsKept (sym first.tasks) c.live.ensures.kept in
    parked_both c.enter_above-in-None.result (λ none kept beside n.
    ap (λ (k : Kernel). has_any (ready_numbers k))
    (kernel_kept c.enter_above.new.self.cells c.enter_above-in-None.new.self.cells kept beside n)
    ∙ none_still (kernel_of c.enter_above.new.self.cells beside n) sound (none beside n))
    c.enter_above-in-None.ensures.none c.enter_above-in-None.ensures.kept
