-- One buffer.
use Rattle.std.proofs.Common.{◌∙◌}
use Rattle.std.proofs.lemmas.Result.{IfOk-weaker}
use Rattle.mm_space.specs.Accesses.{readable}
use Rattle.call_fs.proofs.Gathered.{one_allowed}
use Rattle.call_fs.proofs.vectors.may_be_read.Goals as goal

pub returns-in-One-clause-row : goal.returns-in-One-clause-row
returns-in-One-clause-row c =
    let a = c.args in
    IfOk-weaker c.is_accessible.result _ _
    (λ b goes s those.
    one_allowed s readable a.space.now a.buffers.now c.in-One.buffer c.in-One.is ∙ goes s those)
    c.is_accessible.ensures.row
