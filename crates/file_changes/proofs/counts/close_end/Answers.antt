-- A pipe without an end is gone.
use Rattle.std.proofs.Common.{sym, ◌∙◌}
use Rattle.file_changes.proofs.FileCounts.{last_end, no_end}
use Rattle.file_changes.proofs.counts.close_end.Goals as goal

pub returns-in_default : goal.returns-in_default
returns-in_default c = no_end c.args.side c.args.name c.args.pipes.now (sym c.in_default.ensures.value)

pub returns-then-writers-eq0 : goal.returns-then-writers-eq0
returns-then-writers-eq0 c =
    c.remove.ensures.after
    ∙ last_end c.args.side c.args.name c.args.pipes.now c.in-Some.pipe.now c.close_side.new.pipe
    (sym c.in-Some.ensures.value) c.close_side.ensures
    (sym c.readers.ensures ∙ c.if-readers-eq0.true) (sym c.writers.ensures ∙ c.if-writers-eq0.true)
