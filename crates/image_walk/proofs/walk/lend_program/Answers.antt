-- A child that was lent is behind the others, and tells what it was loaded to.
use Rattle.std.proofs.Common.{◌+◌, arith}
use Rattle.std.proofs.lemmas.List.{length-map}
use Rattle.image_walk.specs.Granted.{LentChild, told_of}
use Rattle.image_walk.proofs.Going.{lends_child, told_more}
use Rattle.image_walk.proofs.walk.lend_program.Goals as goal

pub returns-in-Ok-Some-clause-lends : goal.returns-in-Ok-Some-clause-lends
returns-in-Ok-Some-clause-lends g c =
    let told = g.N.HostNode.told in
    let node = rw c.in-Ok-Some.field-0-is at c.in-Ok-Some.ensures.node in
    let tells = rw c.in-Ok-Some.field-0-is at c.in-Ok-Some.ensures.tells in
    lends_child c.args.granted.now.numbers (told c.args.granted.now.root) (told c.lend.new.self)
    (told c.in-Ok-Some.child)
    (told c.load-loaded.new.node) c.args.name.now (g.N.HostNode.count c.in-Ok-Some.child)
    (g.N.HostNode.what c.in-Ok-Some.child) (c.args.granted.now.numbers.first + c.len.result) c.load-loaded.result
    (told_of told c.args.granted.now.lent.items) (told_of told c.push_reserved.new.self.items) node tells
    c.load-loaded.ensures.loads
    (told_more told c.args.granted.now.lent.items c.reserve.new.self.items c.push_reserved.new.self.items
    c.args.name.now c.in_ok-kept.kept c.load-loaded.new.node c.reserve.ensures.items c.in_ok-kept.ensures
    c.push_reserved.ensures.items)
    (omega (
      arith,
      length-map {B = LentChild} c.args.granted.now.lent.items (λ l. (l.name, told l.node)),
      c.len.ensures,
      c.reserve.ensures.len,
      c.args.granted.now.lent.ok.0,
    ))
