-- A task at a call has ahead of it what the call comes to.
use Rattle.std.proofs.Common.{sym, ◌∙◌}
use Rattle.plain_steps.proofs.AheadLemmas.{at_call}
use Rattle.plain_steps.proofs.ahead.ahead_in.Goals as goal

pub returns : goal.returns
returns c =
    c.told_by.ensures
    ∙ sym
    (at_call c.args.draft.now.caller c.args.kernel.now c.call_of-no.result c.args_of-args.result c.in_ok-called.called
    c.prepare.new.draft.caller.space c.prepare.new.draft.areas c.call_of-no.ensures c.args_of-args.ensures
    c.in_ok-called.ensures.row)
