-- The first buffer's bytes are asked for, and then those of the others.
use Rattle.std.proofs.Common.{◌-◌, arith}
use Rattle.std.proofs.lemmas.Result.{IfOk-weaker}
use Rattle.mm_space.specs.Handed.{hand_of}
use Rattle.guest_access.specs.Lending.{with_hand}
use Rattle.guest_access.proofs.Scattered.{asked_by, asked_on, asked_refused}
use Rattle.guest_access.proofs.Tries.{those_same}
use Rattle.guest_access.proofs.scattering.+access_each.Goals as goal

pub returns-then-not-branch-clause-comes : goal.returns-then-not-branch-clause-comes
returns-then-not-branch-clause-comes t c = λ s those.
    let a = c.args in
    asked_refused s a.space.now a.buffers.now _ c.in-len1-up.len_at_least a.count (hand_of a.handed.now)
    (hand_of c.access.new.handed) c.in_ok-access-in-len1-up.field-0
    (asked_by s a.space.now _ (hand_of a.handed.now) _ _ c.min-piece.ensures
    (c.in_ok-access-in-len1-up.ensures.comes s those)) c.if-not-branch.true (hand_of c.access.new.handed)

pub returns-else-not-branch-clause-comes : goal.returns-else-not-branch-clause-comes
returns-else-not-branch-clause-comes t c =
    let a = c.args in
    IfOk-weaker c.access_each.result _ _
    (λ b goes s those.
    asked_on s a.space.now a.buffers.now _ c.in-len1-up.len_at_least a.count (hand_of a.handed.now)
    (hand_of c.access.new.handed) c.in_ok-access-in-len1-up.field-0
    (asked_by s a.space.now _ (hand_of a.handed.now) _ _ c.min-piece.ensures
    (c.in_ok-access-in-len1-up.ensures.comes s those)) c.if-not-branch.false (a.count - c.min-piece.result)
    (omega (arith, c.min-piece.ensures)) b (hand_of c.access_each.new.handed)
    (goes s (those_same s (with_hand (hand_of a.handed.now) a.areas.now)
    (with_hand (hand_of c.access.new.handed) c.access.new.areas) c.in_ok-access-in-len1-up.ensures.back those)))
    c.access_each.ensures.comes
