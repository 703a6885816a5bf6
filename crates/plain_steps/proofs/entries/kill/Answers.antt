-- A group ends as it was prepared.
use Rattle.std.proofs.Common.{length, refl, sym, ◌∙◌}
use Rattle.plain_steps.proofs.RunLemmas.{group_gone}
use Rattle.plain_steps.proofs.entries.kill.Goals as goal

pub returns : goal.returns
returns c =
    group_gone c.args.kernel.now c.settle.new.kernel c.args.draft.now.caller c.args.signal
    ((c.in_ok-ending.ensures.ends c.args.draft.now.caller c.args.kernel.now c.args.kernel.now.sleepers
    (length c.args.kernel.now.console)
    (record {
      task = sym c.context-context.ensures.task;
      group = sym c.context-context.ensures.group;
      memory = sym c.context-context.ensures.memory;
      table = sym c.context-context.ensures.table;
      place = sym c.context-context.ensures.place;
      seed = sym (c.context-context.ensures.seed ∙ c.as_slice.ensures);
      space = refl;
      there = c.requires.space;
      areas = c.requires.areas;
      tasks = refl;
      sleepers = refl;
      console = refl;
    })).done_is ∙ sym c.settle.ensures.does)
