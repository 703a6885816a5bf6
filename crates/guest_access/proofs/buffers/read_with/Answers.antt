-- What is read are the bytes that may be accessed, or none.
use Rattle.std.proofs.Common.{◌≡◌, ◌∙◌, length, arith}
use Rattle.std.proofs.lemmas.Grind.{common_steps}
use Rattle.mm_space.specs.Handed.{hand_of}
use Rattle.guest_access.proofs.AccessLaws.{none_read, all_read}
use Rattle.guest_access.proofs.buffers.read_with.Goals as goal

pub returns-then-not-branch-clause-bytes : goal.returns-then-not-branch-clause-bytes
returns-then-not-branch-clause-bytes c =
    none_read c.args.space.now c.args.at c.args.count (hand_of c.args.handed.now)
    (hand_of c.access.new.handed) c.requires c.args.areas.now c.in_ok-access.field-0 c.in_ok-access.ensures.comes
    c.if-not-branch.true

pub returns-clause-bytes : goal.returns-clause-bytes
returns-clause-bytes c =
    let whole : c.from_vec.result ≡ c.read.new.buffer = grind (arith, common_steps) in
    all_read c.args.space.now c.args.at c.args.count (hand_of c.args.handed.now) (hand_of c.access.new.handed)
    c.requires c.args.areas.now c.in_ok-access.field-0 c.in_ok-access.ensures.comes c.if-not-branch.false _
    c.space.view_is (length c.as_mut_slice.result.now) (grind (arith, common_steps)) c.from_vec.result
    (whole ∙ c.in-Ok.ensures.ok)
