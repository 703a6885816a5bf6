-- What the calls come to that always reply, by the row of each.
use Rattle.std.proofs.Common.{rules, ◌≡◌, refl, ap, sym}
use Rattle.std.proofs.lemmas.Result.{IfOk-weaker}
use Rattle.sn_errno.specs.declared.errno.Errno.TheVariants.{ENOSYS}
use Rattle.kernel_model.specs.calls.Answers.{refuses}
use Rattle.kernel_model.specs.calls.Callers.{context_of}
use Rattle.kernel_model.specs.calls.Table.{row_of_call}
use Rattle.kernel_model.specs.entries.Parts.{parts, outcome_in}
use Rattle.kernel_calls.proofs.Answering.{answers_kept, answers_lacking, has_space, kept_alike}
use Rattle.kernel_calls.proofs.calls.replying.Goals as goal

pub returns-in-SetTidAddress-clause-row : goal.returns-in-SetTidAddress-clause-row
returns-in-SetTidAddress-clause-row c caller k waiting console calling files =
    let a = c.args in
    answers_kept (row_of_call (context_of k) caller a.args.now a.call) c.set_tid_address.result caller k
    a.space.now a.space.now a.areas.now
    (has_space caller k a.context.now a.space.now a.areas.now a.tasks.now waiting console calling)
    (kept_alike _ _ caller.group k _
    (ap (λ call. outcome_in (parts k) (row_of_call (context_of k) caller a.args.now call)) c.in-SetTidAddress.is)
    (c.set_tid_address.ensures.row caller k caller.group calling.task)) refl (sym calling.areas)

pub returns-in-ClockGettime-clause-row : goal.returns-in-ClockGettime-clause-row
returns-in-ClockGettime-clause-row c =
    IfOk-weaker c.clock_gettime.result _ _ (λ p row caller k waiting console calling files.
    rw c.in-ClockGettime.is (row caller k c.args.tasks.now waiting console calling)) c.clock_gettime.ensures.row

pub returns-in-Getcwd-clause-row : goal.returns-in-Getcwd-clause-row
returns-in-Getcwd-clause-row c caller k waiting console calling files =
    let a = c.args in
    let row = row_of_call (context_of k) caller a.args.now a.call in
    let lacks : outcome_in (parts k) row ≡ refuses ENOSYS = search rules in
    answers_lacking row c.refused.result caller k a.space.now a.areas.now calling.space calling.there calling.areas
    lacks c.refused.ensures.reply c.refused.ensures.effect
