-- A host in memory and its nodes, as contracts see them.
use Rattle.std.specs.Prelude.{ℕ, List, [], ◌++◌, Bool, true, false, Option, Some, None, Result, Ok, Err, if◌then◌else◌}
use Rattle.host_node.specs.declared.error.HostErr.{HostErr}
use Rattle.host_node.specs.Tree.{Shape, with_child, lend_child}
use Rattle.host_memory.specs.declared.node.NodeAccess.{NodeAccess}
use Rattle.host_memory.specs.declared.node.NodeAccess.TheVariants.{Closed, Reading, Writing}
use Rattle.host_memory.specs.declared.plan.Line.{Line}
use Rattle.host_memory.specs.declared.plan.Op.{Op}
use Rattle.host_memory.specs.declared.plan.Op.TheVariants.{Lend, Open}
use Rattle.host_memory.specs.Plans.{fails, after_call, lines_below, lines_beside, place_below, failed_once}

-- a host: its tree of files, how many of its own calls failed, the counts of the nodes buried, in order, and the calls
-- that are to fail
-- profile
pub record HostInMemory : Type 0 where
  pub tree : Shape
  pub failed : ℕ
  pub dead : List ℕ
  pub plan : List Line

-- a node: its tree of files, how it stands to its file, the names that lead to it from the host's tree, and the calls
-- of it and of what is below it that are to fail
-- profile
pub record NodeInMemory : Type 0 where
  pub tree : Shape
  pub access : NodeAccess
  pub place : List (List ℕ)
  pub plan : List Line

-- the next call of this method of the node is to fail
-- profile
abbrev pub is_to_fail : Op → NodeInMemory → Bool
is_to_fail op node = fails node.place op node.plan

-- a node after a call of this method, which is counted against the plan, and where it was to fail also as a failed one
-- profile
abbrev pub after_call_of : Op → NodeInMemory → NodeInMemory
after_call_of op node = record node {
  tree = if is_to_fail op node then failed_once node.tree else node.tree;
  plan = after_call node.place op node.plan;
}

-- how a node stands to its file that was opened so
-- open(2), O_RDONLY and O_RDWR
abbrev pub access_for : Bool → NodeAccess
access_for true = Writing
access_for false = Reading

-- a node after an open
-- open(2)
abbrev pub after_open_of : Bool → NodeInMemory → NodeInMemory
after_open_of write node = record (after_call_of Open node) {
  access = if is_to_fail Open node then node.access else access_for write;
}

-- a node that is lent from under a name of another, with what stands there
-- profile
abbrev pub lent_below : NodeInMemory → List ℕ → Shape → NodeInMemory
lent_below node name shape = record {
  tree = shape;
  access = Closed;
  place = place_below node.place name;
  plan = lines_below (place_below node.place name) (after_call node.place Lend node.plan);
}

-- a node after it was asked to lend what stands under a name: where it lent it, its child stands as lent, and the lines
-- of that place and below are gone
-- profile
abbrev pub after_lend_of : {N : Type 0} → Result (Option N) HostErr → List ℕ → NodeInMemory → NodeInMemory
after_lend_of (Ok None) name node = after_call_of Lend node
after_lend_of (Ok (Some _)) name node = record node {
  tree = lend_child name node.tree;
  plan = lines_beside (place_below node.place name) (after_call node.place Lend node.plan);
}
after_lend_of (Err _) name node = after_call_of Lend node

-- a node after another came back to it under a name
-- profile
abbrev pub with_back : List ℕ → NodeInMemory → NodeInMemory → NodeInMemory
with_back name given node = record node {
  tree = with_child name given.tree node.tree;
  plan = node.plan ++ given.plan;
}

-- a node that is granted of a host, with what stands where the names lead
-- profile
abbrev pub granted_from : HostInMemory → List (List ℕ) → Shape → NodeInMemory
granted_from host names shape = record {
  tree = shape;
  access = Closed;
  place = names;
  plan = lines_below names (after_call [] Lend host.plan);
}
