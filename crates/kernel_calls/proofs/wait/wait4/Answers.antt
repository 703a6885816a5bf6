-- What waiting for a child comes to, as the row has it.
use Rattle.std.proofs.Common.{◌%◌, ◌^◌, ◌==◌, [], pos, refl, ap, sym, ◌∙◌}
use Rattle.std.specs.Prelude.{IsFalse, if◌then◌else◌}
use Rattle.sn_errno.specs.declared.errno.Errno.TheVariants.{ECHILD, EINVAL}
use Rattle.task_table.specs.declared.task.ReapEnd.TheVariants.{NoChild, NotYet, Reaped}
use Rattle.task_table.specs.Reaps.{reap_end}
use Rattle.kernel_model.specs.calls.Answers.{not_ready, replies}
use Rattle.kernel_model.specs.calls.Wait.{asked_child, wait4_row}
use Rattle.kernel_model.specs.entries.Parts.{done, outcome_in, parts}
use Rattle.kernel_calls.specs.Prepared.{WaitsWith}
use Rattle.kernel_calls.specs.declared.prepared.Called.TheVariants.{Replies}
use Rattle.kernel_calls.proofs.Answering.{answers_refused, has_space}
use Rattle.kernel_calls.proofs.ChildRows.{badly_asked, child_looked_for}
use Rattle.kernel_calls.proofs.Coming.{comes_alike, waits_so}
use Rattle.kernel_calls.proofs.wait.wait4.Goals as goal

pub returns-then-not-is_asked-clause-row : goal.returns-then-not-is_asked-clause-row
returns-then-not-is_asked-clause-row c caller k waiting console calling =
    let a = c.args in
    let w = a.args.now in
    answers_refused (wait4_row w.a0 w.a1 w.a2 w.a3 caller) c.refused.result caller k a.space.now a.space.now a.areas.now
    (has_space caller k a.context.now a.space.now a.areas.now a.tasks.now waiting console calling) EINVAL
    (badly_asked (parts k) caller (w.a0 % 2 ^ 32) w.a1 (w.a2 % 2 ^ 32) w.a3
    (sym c.is_asked.ensures ∙ c.if-not-is_asked.true)) c.refused.ensures.reply c.refused.ensures.effect refl
    (sym calling.areas)

pub returns-in-NoChild-clause-row : goal.returns-in-NoChild-clause-row
returns-in-NoChild-clause-row c caller k waiting console calling =
    let a = c.args in
    let w = a.args.now in
    answers_refused (wait4_row w.a0 w.a1 w.a2 w.a3 caller) c.refused-in-NoChild.result caller k a.space.now a.space.now
    a.areas.now (has_space caller k a.context.now a.space.now a.areas.now a.tasks.now waiting console calling) ECHILD
    (child_looked_for (parts k) caller (w.a0 % 2 ^ 32) w.a1 (w.a2 % 2 ^ 32) w.a3
    (sym c.is_asked.ensures ∙ c.if-not-is_asked.false) a.tasks.now calling.tasks NoChild
    (ap (λ g. reap_end a.tasks.now.groups g (asked_child (w.a0 % 2 ^ 32))) calling.group
    ∙ ap (reap_end a.tasks.now.groups a.context.now.group) (sym c.asked_child-which.ensures)
    ∙ sym c.in-NoChild.ensures)) c.refused-in-NoChild.ensures.reply c.refused-in-NoChild.ensures.effect refl
    (sym calling.areas)

pub returns-in-NotYet-clause-row : goal.returns-in-NotYet-clause-row
returns-in-NotYet-clause-row c caller k waiting console calling =
    let a = c.args in
    let w = a.args.now in
    comes_alike c.not_yet.result (wait4_row w.a0 w.a1 w.a2 w.a3 caller) _ caller k a.space.now a.areas.now
    (child_looked_for (parts k) caller (w.a0 % 2 ^ 32) w.a1 (w.a2 % 2 ^ 32) w.a3
    (sym c.is_asked.ensures ∙ c.if-not-is_asked.false) a.tasks.now calling.tasks NotYet
    (ap (λ g. reap_end a.tasks.now.groups g (asked_child (w.a0 % 2 ^ 32))) calling.group
    ∙ ap (reap_end a.tasks.now.groups a.context.now.group) (sym c.asked_child-which.ensures)
    ∙ sym c.in-NotYet.ensures))
    (c.not_yet.ensures.row caller k a.space.now a.areas.now
    (has_space caller k a.context.now a.space.now a.areas.now a.tasks.now waiting console calling) calling.areas)

-- it waits wherever this is the task list
pub returns-in-NotYet-clause-waits : goal.returns-in-NotYet-clause-waits
returns-in-NotYet-clause-waits c caller k waiting console calling =
    let a = c.args in
    let w = a.args.now in
    waits_so c.not_yet.result (λ awaited. IsFalse ((w.a2 % 2 ^ 32) == 1))
    (λ awaited. WaitsWith awaited caller.table (parts k) (λ context. wait4_row w.a0 w.a1 w.a2 w.a3 caller))
    (λ awaited no_option context those agrees.
    child_looked_for those caller (w.a0 % 2 ^ 32) w.a1 (w.a2 % 2 ^ 32) w.a3
    (sym c.is_asked.ensures ∙ c.if-not-is_asked.false) a.tasks.now (agrees.tasks ∙ calling.tasks) NotYet
    (ap (λ g. reap_end a.tasks.now.groups g (asked_child (w.a0 % 2 ^ 32))) calling.group
    ∙ ap (reap_end a.tasks.now.groups a.context.now.group) (sym c.asked_child-which.ensures)
    ∙ sym c.in-NotYet.ensures)
    ∙ ap (λ b. outcome_in those (if b then done (replies (pos 0) []) else done not_ready)) no_option)
    c.not_yet.ensures.waits

pub returns-in_ok-reap-in-Reaped-clause-row : goal.returns-in_ok-reap-in-Reaped-clause-row
returns-in_ok-reap-in-Reaped-clause-row c caller k waiting console calling =
    let a = c.args in
    let w = a.args.now in
    comes_alike (Replies c.in_ok-reap-in-Reaped.field-0) (wait4_row w.a0 w.a1 w.a2 w.a3 caller) _ caller k
    c.reap.new.space c.reap.new.areas
    (child_looked_for (parts k) caller (w.a0 % 2 ^ 32) w.a1 (w.a2 % 2 ^ 32) w.a3
    (sym c.is_asked.ensures ∙ c.if-not-is_asked.false) a.tasks.now calling.tasks
    (Reaped c.in-Reaped.child c.in-Reaped.status)
    (ap (λ g. reap_end a.tasks.now.groups g (asked_child (w.a0 % 2 ^ 32))) calling.group
    ∙ ap (reap_end a.tasks.now.groups a.context.now.group) (sym c.asked_child-which.ensures)
    ∙ sym c.in-Reaped.ensures))
    (c.in_ok-reap-in-Reaped.ensures.row caller k a.tasks.now waiting console calling (sym c.in-Reaped.ensures))
