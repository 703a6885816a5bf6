-- A walk as questions about nodes, what a tree of files answers, and what the walk comes to there.
use Rattle.std.specs.Prelude.{ℕ, List, Bool, Option}
use Rattle.sn_errno.specs.declared.errno.Errno.{Errno}
use Rattle.host_node.specs.declared.kind.Kind.{Kind}
use Rattle.path_walk.specs.declared.node.NodeId.{NodeId}
use Rattle.path_walk.specs.declared.node.Found.{Found}

-- what a walk comes to: what it finds, or why it finds nothing
-- path_resolution(7); errno(3)
pub data Came : Type 0 where
  Finds : Found → Came
  Refuses : Errno → Came

-- a walk: it is at its end, or it asks about a node and goes on by the answer
-- path_resolution(7)
pub data Walk : Type 0 where
  Ends : Came → Walk
  AsksKind : (node : NodeId) → (Kind → Walk) → Walk
  AsksSearch : (dir : NodeId) → (Bool → Walk) → Walk
  AsksChild : (dir : NodeId) → (name : List ℕ) → (Option NodeId → Walk) → Walk
  AsksParent : (dir : NodeId) → (NodeId → Walk) → Walk
  AsksText : (link : NodeId) → (List ℕ → Walk) → Walk

-- what a tree of files answers: what a node is, whether its owner may search a directory, what is under a name there,
-- and the parent of a directory that is no root; and the text of a link
-- inode(7), path_resolution(7), symlink(7)
pub record TreeAnswers : Type 0 where
  pub kind : NodeId → Kind
  pub searchable : NodeId → Bool
  pub child : NodeId → List ℕ → Option NodeId
  pub parent : NodeId → NodeId
  pub text : NodeId → List ℕ

-- what a walk comes to in a tree of files
-- path_resolution(7)
abbrev pub come_to : TreeAnswers → Walk → Came
come_to t (Ends came) = came
come_to t (AsksKind node next) = come_to t (next (t.kind node))
come_to t (AsksSearch dir next) = come_to t (next (t.searchable dir))
come_to t (AsksChild dir name next) = come_to t (next (t.child dir name))
come_to t (AsksParent dir next) = come_to t (next (t.parent dir))
come_to t (AsksText link next) = come_to t (next (t.text link))
