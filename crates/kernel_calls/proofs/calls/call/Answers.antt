-- What the calls come to that may not reply.
use Rattle.std.proofs.Common.{◌≡◌, Some, ap, sym, ◌∙◌}
use Rattle.std.proofs.lemmas.Result.{IfOk-weaker}
use Rattle.sn_errno.specs.Calls.{call_numbered}
use Rattle.sn_errno.specs.declared.calls.CallNo.TheVariants.{Clone, Wait4}
use Rattle.kernel_calls.proofs.calls.call.Goals as goal

pub returns-in-Clone-clause-row : goal.returns-in-Clone-clause-row
returns-in-Clone-clause-row c =
    let a = c.args in
    let known : call_numbered a.number ≡ Some Clone = sym c.of.ensures ∙ c.in-Some.is ∙ ap Some c.in-Clone.is in
    IfOk-weaker c.clone.result _ _ (λ d row caller k console calling files registers.
    rw known (row caller k a.sleepers.now console calling registers)) c.clone.ensures.row

pub returns-in-Wait4-clause-row : goal.returns-in-Wait4-clause-row
returns-in-Wait4-clause-row c =
    let a = c.args in
    let known : call_numbered a.number ≡ Some Wait4 = sym c.of.ensures ∙ c.in-Some.is ∙ ap Some c.in-Wait4.is in
    IfOk-weaker c.wait4.result _ _ (λ d row caller k console calling files registers.
    rw known (row caller k a.sleepers.now console calling)) c.wait4.ensures.row

pub returns-in-Wait4-clause-waits : goal.returns-in-Wait4-clause-waits
returns-in-Wait4-clause-waits c =
    let a = c.args in
    let known : call_numbered a.number ≡ Some Wait4 = sym c.of.ensures ∙ c.in-Some.is ∙ ap Some c.in-Wait4.is in
    IfOk-weaker c.wait4.result _ _ (λ d waits caller k console calling.
    rw known (waits caller k a.sleepers.now console calling)) c.wait4.ensures.waits
