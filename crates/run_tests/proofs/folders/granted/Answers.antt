-- A folder of a host with nothing lent can be granted, and leaves its place.
use Rattle.host_node.specs.Tree.{faults_of, kind_of}
use Rattle.host_memory.proofs.Worlds.{can_grant, granted_place, none_lent_granted}
use Rattle.run_tests.proofs.folders.granted.Goals as goal

pub grant-requires : goal.grant-requires
grant-requires c = can_grant c.args.folder.now.names c.args.world.now.tree c.requires

pub returns-in-Ok-Some-clause-whole : goal.returns-in-Ok-Some-clause-whole
returns-in-Ok-Some-clause-whole c =
    let node = c.in-Ok-Some.node.tree in
    let told = rw c.in-Ok-Some.field-0-is at c.in-Ok-Some.ensures.node in
    none_lent_granted c.args.folder.now.names c.args.world.now.tree node (faults_of node) (kind_of node) c.requires told

pub returns-in-Ok-Some-clause-place : goal.returns-in-Ok-Some-clause-place
returns-in-Ok-Some-clause-place c =
    let node = c.in-Ok-Some.node.tree in
    let told = rw c.in-Ok-Some.field-0-is at c.in-Ok-Some.ensures.node in
    let tells = rw c.in-Ok-Some.field-0-is at c.in-Ok-Some.ensures.tells in
    granted_place c.args.folder.now.names c.args.world.now.tree c.grant.new.self.tree node (faults_of node)
    (kind_of node) told tells
