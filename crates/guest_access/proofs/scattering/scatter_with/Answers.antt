-- The bytes are put where each of them may be, or nothing changes.
use Rattle.std.proofs.Common.{◌++◌, ap, ◌∙◌, length-append}
use Rattle.mm_space.specs.Handed.{hand_of}
use Rattle.mm_space.specs.Spaces.{space_of}
use Rattle.kernel_model.specs.calls.Vectors.{filled}
use Rattle.guest_access.proofs.Scattered.{all_scattered, asked_all, none_scattered, there_filled}
use Rattle.guest_access.proofs.scattering.scatter_with.Goals as goal

pub returns-then-not-branch-clause-wrote : goal.returns-then-not-branch-clause-wrote
returns-then-not-branch-clause-wrote c =
    let a = c.args in
    none_scattered a.task a.space.now (a.first.now ++ a.second.now) a.buffers.now (hand_of a.handed.now)
    (hand_of c.access_each.new.handed) c.requires.none a.areas.now c.access_each.new.areas c.in_ok-access_each.field-0
    (asked_all a.space.now a.buffers.now (hand_of a.handed.now) (hand_of c.access_each.new.handed) a.areas.now
    c.in_ok-access_each.field-0 _ _ (length-append a.first.now a.second.now) c.in_ok-access_each.ensures.comes)
    c.in_ok-access_each.ensures.back c.if-not-branch.true

pub returns-clause-there : goal.returns-clause-there
returns-clause-there c =
    let a = c.args in
    there_filled a.task a.space.now (a.first.now ++ a.second.now) a.buffers.now (hand_of a.handed.now)
    (hand_of c.access_each.new.handed) c.requires.none a.areas.now c.access_each.new.areas c.in_ok-access_each.field-0
    (asked_all a.space.now a.buffers.now (hand_of a.handed.now) (hand_of c.access_each.new.handed) a.areas.now
    c.in_ok-access_each.field-0 _ _ (length-append a.first.now a.second.now) c.in_ok-access_each.ensures.comes)
    c.in_ok-access_each.ensures.back _ (space_of c.put_each.new.space) (hand_of c.put_each.new.handed)
    (c.put_each.ensures
    ∙ ap (filled a.task (a.first.now ++ a.second.now) a.buffers.now) c.in_ok-own_each.ensures.same)
    c.access_each.ensures.there

pub returns-clause-wrote : goal.returns-clause-wrote
returns-clause-wrote c =
    let a = c.args in
    all_scattered a.task a.space.now (a.first.now ++ a.second.now) a.buffers.now (hand_of a.handed.now)
    (hand_of c.access_each.new.handed) c.requires.none a.areas.now c.access_each.new.areas c.in_ok-access_each.field-0
    (asked_all a.space.now a.buffers.now (hand_of a.handed.now) (hand_of c.access_each.new.handed) a.areas.now
    c.in_ok-access_each.field-0 _ _ (length-append a.first.now a.second.now) c.in_ok-access_each.ensures.comes)
    c.in_ok-access_each.ensures.back _ (space_of c.put_each.new.space) (hand_of c.put_each.new.handed)
    (c.put_each.ensures
    ∙ ap (filled a.task (a.first.now ++ a.second.now) a.buffers.now) c.in_ok-own_each.ensures.same)
    c.if-not-branch.false c.access_each.ensures.there c.space.view_is
