-- An access comes to what its bytes allow, or is tried again with one area more.
use Rattle.std.proofs.Common.{refl, ◌∙◌, ◌-◌, arith}
use Rattle.std.proofs.lemmas.Bool.{OnTrue_at, OnFalse_at}
use Rattle.std.proofs.lemmas.Result.{IfOk-weaker}
use Rattle.mm_space.specs.Handed.{hand_of}
use Rattle.guest_access.specs.Lending.{with_hand}
use Rattle.guest_access.specs.Trying.{Accesses}
use Rattle.guest_access.proofs.AccessLaws.{is_allowed, access_comes, access_bars, access_full, access_lacks}
use Rattle.guest_access.proofs.AccessLaws.{access_more}
use Rattle.guest_access.proofs.Lendings.{lent_more}
use Rattle.guest_access.proofs.Tries.{back_lent}
use Rattle.guest_access.proofs.buffers.+access.Goals as goal

pub returns-in-Ok-clause-allowed : goal.returns-in-Ok-clause-allowed
returns-in-Ok-clause-allowed t c =
    is_allowed c.args.right c.args.space.now _ c.args.at c.args.count (hand_of c.args.handed.now) c.space.view_is
    c.in-Ok.field-0 c.in-Ok.ensures.room

pub returns-in-Ok-clause-comes : goal.returns-in-Ok-clause-comes
returns-in-Ok-clause-comes t c =
    access_comes c.args.right c.args.space.now _ c.args.at c.args.count (hand_of c.args.handed.now) c.space.view_is
    c.args.most (hand_of c.args.handed.now) (with_hand (hand_of c.args.handed.now) c.args.areas.now) c.in-Ok.field-0
    c.in-Ok.ensures.room

pub returns-in-Err-Fault-clause-comes : goal.returns-in-Err-Fault-clause-comes
returns-in-Err-Fault-clause-comes t c =
    access_bars c.args.right c.args.space.now _ c.args.at c.args.count (hand_of c.args.handed.now) c.space.view_is
    c.args.most (hand_of c.args.handed.now) (with_hand (hand_of c.args.handed.now) c.args.areas.now)
    c.in-Err-Fault.field-0-0 (rw c.in-Err-Fault.field-0-is at c.in-Err-Fault.ensures.room)

pub returns-then-most-eq0-clause-comes : goal.returns-then-most-eq0-clause-comes
returns-then-most-eq0-clause-comes t c =
    access_full c.args.right c.args.space.now _ c.args.at c.args.count (hand_of c.args.handed.now) c.space.view_is
    c.args.most (hand_of c.args.handed.now) c.in-Err-Shared.area
    (rw c.in-Err-Shared.field-0-is at c.in-Err-Shared.ensures.room)
    (with_hand (hand_of c.args.handed.now) c.args.areas.now) c.if-most-eq0.true

pub returns-then-not-branch-clause-comes : goal.returns-then-not-branch-clause-comes
returns-then-not-branch-clause-comes t c =
    access_lacks c.args.right c.args.space.now _ c.args.at c.args.count (hand_of c.args.handed.now) c.space.view_is
    c.args.most (hand_of c.args.handed.now) c.in-Err-Shared.area
    (rw c.in-Err-Shared.field-0-is at c.in-Err-Shared.ensures.room) c.args.areas.now c.if-most-eq0.false
    (OnFalse_at c.if-not-branch.true c.in_ok-hand_in-in-Err-Shared.ensures.lacking)

pub access-requires : goal.access-requires
access-requires t c = (
  omega (arith, c.decreases, c.if-most-eq0.false),
  (lent_more c.in-Err-Shared.area (hand_of c.args.handed.now) (hand_of c.hand_in.new.handed) c.args.areas.now
      c.hand_in.new.areas (with_hand (hand_of c.args.handed.now) c.args.areas.now)
      (OnTrue_at c.if-not-branch.false c.in_ok-hand_in-in-Err-Shared.ensures.lent)
      (record { there = c.requires; back = refl })).there,
)

pub returns-else-not-branch-clause-comes : goal.returns-else-not-branch-clause-comes
returns-else-not-branch-clause-comes t c =
    IfOk-weaker c.access.result
    (λ b. Accesses c.args.right c.args.space.now c.args.at c.args.count (c.args.most - 1) (hand_of c.hand_in.new.handed)
    (with_hand (hand_of c.hand_in.new.handed) c.hand_in.new.areas) b (hand_of c.access.new.handed)) _
    (λ b. access_more c.args.right c.args.space.now _ c.args.at c.args.count (hand_of c.args.handed.now) c.space.view_is
    c.args.most (hand_of c.access.new.handed) c.in-Err-Shared.area
    (rw c.in-Err-Shared.field-0-is at c.in-Err-Shared.ensures.room) c.args.areas.now c.hand_in.new.areas
    (hand_of c.hand_in.new.handed) b c.requires
    (OnTrue_at c.if-not-branch.false c.in_ok-hand_in-in-Err-Shared.ensures.lent) c.if-most-eq0.false)
    c.access.ensures.comes

pub returns-else-not-branch-clause-back : goal.returns-else-not-branch-clause-back
returns-else-not-branch-clause-back t c =
    c.access.ensures.back
    ∙ back_lent c.in-Err-Shared.area (hand_of c.args.handed.now) (hand_of c.hand_in.new.handed) c.args.areas.now
    c.hand_in.new.areas c.requires (OnTrue_at c.if-not-branch.false c.in_ok-hand_in-in-Err-Shared.ensures.lent)
