use Rattle.std.proofs.Common.{ap, sym, ◌∙◌}
use Rattle.std.specs.Prelude.{find}
use Rattle.std.specs.Option.{option_copied}
use Rattle.task_table.specs.Reaps.{none_ended}
use Rattle.task_table.specs.Table.{has_ended}
use Rattle.task_table.proofs.Waiting.{reaped_at, skipped_at, waited_at}
use Rattle.task_table.proofs.reaps.wait_among.Goals as goal
use Rattle.task_table.proofs.reaps.wait_among.Goals.{in-Some+in-None, in_default}

pub returns-in-Some-ended : goal.returns-in-Some-ended
returns-in-Some-ended c =
    reaped_at c.args.groups.now c.args.parent c.args.which c.args.numbers.now c.loop-number.number-index
    c.in-Some.group.now c.in-Some-ended.status c.loop-number-test.true c.loop-number.invariant.0
    (sym c.child.ensures ∙ ap option_copied c.in-Some.is)
    c.in-Some-ended.is

pub loop-number-preserved : goal.loop-number-preserved
loop-number-preserved c =
    let groups = c.args.groups.now in
    let i = c.loop-number.number-index in
    elim c.match-child.branch [
      | in-Some+in-None w ↦
          let past = waited_at groups c.args.parent c.args.which c.args.numbers.now i w.in-Some.group.now
          c.loop-number-test.true c.loop-number.invariant.0 (sym c.child.ensures
          ∙ ap option_copied w.in-Some.is) w.in-None.is in
          (past.0, w.end-is ∙ past.1)
      | in_default w ↦
          let past = skipped_at groups c.args.parent c.args.which c.args.numbers.now i c.loop-number-test.true
          (sym c.child.ensures ∙ ap option_copied w.in_default.is) in (
            ap (find (has_ended groups)) past ∙ c.loop-number.invariant.0,
            w.end-is ∙ c.loop-number.invariant.1
                ∙ sym (ap none_ended past),
          )
    ]
