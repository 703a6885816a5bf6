-- A walk goes on from a root that its owner may search: to a child that was lent before, or to one that is lent now.
use Rattle.std.proofs.Common.{refl, ap, sym, ◌∙◌, arith}
use Rattle.image_walk.specs.Granted.{place_of_child, told_of}
use Rattle.image_walk.proofs.Going.{known_here, walks_known, can_lend_then, walks_ok, searched_none}
use Rattle.image_walk.proofs.walk.walk.Goals as goal

pub load_known-requires-clause-here : goal.load_known-requires-clause-here
load_known-requires-clause-here g c κs within =
    let told = g.N.HostNode.told in
    known_here c.args.granted.now.numbers c.args.name.now (told c.args.granted.now.root)
    (told_of told c.args.granted.now.lent.items)
    c.in-Some-place_of_child.place c.requires.grant
    (sym (c.in-Some-place_of_child.ensures.place
    ∙ ap (λ l. place_of_child c.args.name.now (told_of told l)) c.as_slice.ensures.value))

pub returns-in-Some-place_of_child-clause-walks : goal.returns-in-Some-place_of_child-clause-walks
returns-in-Some-place_of_child-clause-walks g c =
    let told = g.N.HostNode.told in
    walks_known c.args.granted.now.numbers c.args.name.now (told c.args.granted.now.root) (told c.search.new.root)
    (told_of told c.args.granted.now.lent.items) (told_of told c.load_known.new.lent.items)
    c.in-Some-place_of_child.place
    _ (searched_none (told c.args.granted.now.root) (told c.search.new.root) c.search.result c.search.ensures
    c.in_default.not-Some)
    (sym (c.in-Some-place_of_child.ensures.place
    ∙ ap (λ l. place_of_child c.args.name.now (told_of told l)) c.as_slice.ensures.value)) refl (omega arith)
    c.load_known.ensures.loads

pub lend_program-requires-clause-lend : goal.lend_program-requires-clause-lend
lend_program-requires-clause-lend g c κs within =
    let told = g.N.HostNode.told in
    can_lend_then c.args.granted.now.numbers c.args.name.now (told c.args.granted.now.root) (told c.search.new.root)
    (told_of told c.args.granted.now.lent.items) c.requires.grant
    (searched_none (told c.args.granted.now.root) (told c.search.new.root) c.search.result c.search.ensures
    c.in_default.not-Some)
    (sym (c.in-None.ensures.place
    ∙ ap (λ l. place_of_child c.args.name.now (told_of told l)) c.as_slice.ensures.value))

pub returns-clause-walks : goal.returns-clause-walks
returns-clause-walks g c =
    let told = g.N.HostNode.told in
    walks_ok c.args.granted.now.numbers c.args.name.now (told c.args.granted.now.root) (told c.search.new.root)
    (told c.lend_program.new.granted.root) (told_of told c.args.granted.now.lent.items)
    (told_of told c.lend_program.new.granted.lent.items) c.lend_program.result
    (searched_none (told c.args.granted.now.root) (told c.search.new.root) c.search.result c.search.ensures
    c.in_default.not-Some)
    (sym (c.in-None.ensures.place
    ∙ ap (λ l. place_of_child c.args.name.now (told_of told l)) c.as_slice.ensures.value))
    c.lend_program.ensures.lends
