-- A tree that is put below a child is put where the names lead, once the child is given back.
use Rattle.std.proofs.Common.{◌<◌, length, arith}
use Rattle.std.proofs.lemmas.Bool.Decides.{nat_tests}
use Rattle.host_memory.proofs.PlaceLemmas.{child_of-taken, put_under-ok, put_under-err}
use Rattle.host_memory.proofs.places.+put_at.Goals as goal

pub give-requires : goal.give-requires
give-requires t c =
    rw c.take.ensures.after
    (child_of-taken c.in-Some.name.now c.args.tree.now c.in-Some-take.child c.in-Some-take.ensures.tree)

pub returns-in-Some-take-clause-ok : goal.returns-in-Some-take-clause-ok
returns-in-Some-take-clause-ok t c =
    let some : 0 < length c.in-Some.rest.now = grind (arith, nat_tests, c.if-is_empty.ensures) in
    rw (c.give.ensures, c.take.ensures.after, c.in-Some.ensures.cases.0)
    (put_under-ok c.put_at-put.result c.in-Some.name.now c.in-Some.rest.now c.args.new c.args.tree.now
    c.in-Some-take.child c.put_at-put.new.tree some c.in-Some-take.ensures.tree c.put_at-put.ensures.ok)

pub returns-in-Some-take-clause-err : goal.returns-in-Some-take-clause-err
returns-in-Some-take-clause-err t c =
    rw (c.give.ensures, c.take.ensures.after)
    (put_under-err c.put_at-put.result c.in-Some.name.now c.args.tree.now c.in-Some-take.child c.put_at-put.new.tree
    c.in-Some-take.ensures.tree c.put_at-put.ensures.err)
