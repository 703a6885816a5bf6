use Rattle.std.proofs.Common.{◌≡◌, ◌++◌, ◌∷◌, [], map}
use Rattle.std.proofs.lemmas.Result.{err_from_is_err_and}
use Rattle.std.proofs.lemmas.List.{map_push}
use Rattle.lisafs_wire.specs.Grammar.{attr, fd}
use Rattle.lisafs_wire.specs.Messages.{node_group}
use Rattle.lisafs_wire.specs.Reading.{groups_at}
use Rattle.lisafs_wire.proofs.Loop.{goes_on, ends_by, is_done}
use Rattle.lisafs_wire.proofs.answers.nodes_of.Goals as goal

pub returns-in_err-node : goal.returns-in_err-node
returns-in_err-node c =
    let p = err_from_is_err_and c.from_residual.result c.from_residual.ensures.1 in
    rw (p.1, p.2) (ends_by c.in_err-node.field-0.0 (fd ∷ attr)
    (map node_group c.loop.nodes) c.args.count c.loop.counter c.loop.rest.now
    (groups_at (fd ∷ attr) c.args.count c.args.bytes.now) c.loop-test.true c.in_err-node.ensures c.loop.invariant)

pub loop-preserved : goal.loop-preserved
loop-preserved c =
    let e : map node_group c.push.new.self ≡ map node_group c.loop.nodes ++ node_group c.in_ok-node.node ∷ []
    = rw c.in_ok-push.ensures.ok (map_push node_group c.loop.nodes c.in_ok-node.node) in
    rw e (goes_on (fd ∷ attr) (map node_group c.loop.nodes) c.args.count c.loop.counter c.loop.rest.now
    (node_group c.in_ok-node.node) c.in_ok-node.after.now
    (groups_at (fd ∷ attr) c.args.count c.args.bytes.now) c.loop-test.true c.in_ok-node.ensures c.loop.invariant)

pub returns : goal.returns
returns c = is_done (fd ∷ attr) (map node_group c.loop.nodes) c.args.count c.loop.counter c.loop.rest.now
    (groups_at (fd ∷ attr) c.args.count c.args.bytes.now) c.loop-test.false c.loop.invariant
