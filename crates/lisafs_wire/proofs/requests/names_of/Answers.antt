use Rattle.std.proofs.Common.{◌≡◌, ◌++◌, ◌∷◌, [], map}
use Rattle.std.proofs.lemmas.Result.{err_from_is_err_and}
use Rattle.std.proofs.lemmas.List.{map_push}
use Rattle.lisafs_wire.specs.Fields.{Name as NameField, Bytes}
use Rattle.lisafs_wire.specs.Messages.{name_group}
use Rattle.lisafs_wire.specs.Reading.{groups_at}
use Rattle.lisafs_wire.proofs.Loop.{goes_on, ends, is_done, one_ends, one_value}
use Rattle.lisafs_wire.proofs.requests.names_of.Goals as goal

pub returns-in_err-name : goal.returns-in_err-name
returns-in_err-name c =
    let p = err_from_is_err_and c.from_residual.result c.from_residual.ensures.1 in
    rw (p.1, p.2) (ends c.in_err-name.field-0.0 (NameField ∷ [])
    (map name_group c.loop.names) c.args.count c.loop.counter c.loop.rest.now
    (groups_at (NameField ∷ []) c.args.count c.args.bytes.now) c.loop-test.true
    (one_ends c.in_err-name.field-0.0 NameField c.loop.rest.now c.in_err-name.ensures) c.loop.invariant)

pub loop-preserved : goal.loop-preserved
loop-preserved c =
    let e : map name_group c.push.new.self ≡ map name_group c.loop.names ++ name_group c.in_ok-name.name ∷ []
    = rw c.in_ok-push.ensures.ok (map_push name_group c.loop.names c.in_ok-name.name) in
    rw e (goes_on (NameField ∷ []) (map name_group c.loop.names) c.args.count c.loop.counter c.loop.rest.now
    (name_group c.in_ok-name.name) c.in_ok-name.after.now
    (groups_at (NameField ∷ []) c.args.count c.args.bytes.now) c.loop-test.true
    (one_value NameField c.loop.rest.now
    (Bytes c.in_ok-name.name) c.in_ok-name.after.now c.in_ok-name.ensures) c.loop.invariant)

pub returns : goal.returns
returns c = is_done (NameField ∷ []) (map name_group c.loop.names) c.args.count c.loop.counter c.loop.rest.now
    (groups_at (NameField ∷ []) c.args.count c.args.bytes.now) c.loop-test.false c.loop.invariant
