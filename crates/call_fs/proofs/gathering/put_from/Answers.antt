-- One buffer.
use Rattle.std.proofs.Common.{sym, subst}
use Rattle.std.proofs.lemmas.Result.{IfOk-weaker}
use Rattle.guest_access.specs.Sending.{Sent}
use Rattle.call_fs.proofs.Gathered.{one_gathered}
use Rattle.call_fs.proofs.gathering.put_from.Goals as goal

pub returns-in-One-clause-sent : goal.returns-in-One-clause-sent
returns-in-One-clause-sent c =
    let a = c.args in
    IfOk-weaker c.send.result _ _
    (λ b sent s those.
    subst (λ o. Sent o b a.taken a.pipe.now c.send.new.pipe)
    (sym (one_gathered s a.space.now a.from.now c.in-One.buffer c.in-One.is)) (sent s those)) c.send.ensures.sent
