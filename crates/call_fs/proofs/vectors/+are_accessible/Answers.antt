-- The first buffer, and then the others.
use Rattle.std.proofs.Common.{true, false, ◌∙◌}
use Rattle.std.proofs.lemmas.Result.{IfOk-weaker}
use Rattle.guest_access.proofs.Tries.{those_same}
use Rattle.call_fs.proofs.Cuts.{accessible_first}
use Rattle.call_fs.proofs.vectors.+are_accessible.Goals as goal

pub returns-then-branch-clause-row : goal.returns-then-branch-clause-row
returns-then-branch-clause-row t c =
    let a = c.args in
    IfOk-weaker c.are_accessible.result _ _
    (λ b goes s those.
    accessible_first s a.right a.space.now a.buffers.now _ true c.in-len1-up.len_at_least
    (c.in_ok-is_accessible-in-len1-up.ensures.row s those ∙ c.if-branch.true)
    ∙ goes s (those_same s a.areas.now c.is_accessible.new.areas c.in_ok-is_accessible-in-len1-up.ensures.kept those))
    c.are_accessible.ensures.row

pub returns-else-branch-clause-row : goal.returns-else-branch-clause-row
returns-else-branch-clause-row t c s those =
    let a = c.args in
    accessible_first s a.right a.space.now a.buffers.now _ false c.in-len1-up.len_at_least
    (c.in_ok-is_accessible-in-len1-up.ensures.row s those ∙ c.if-branch.false)
