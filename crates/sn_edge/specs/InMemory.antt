-- A source and a sink in memory, as contracts see them.
use Rattle.std.specs.Prelude.{ℕ, List, [], ◌∷◌, ◌++◌}
use Rattle.sn_edge.specs.declared.plan.EdgePlan.{EdgePlan}
use Rattle.sn_edge.specs.Shelf.{Shelf}

-- The files of a source, and which of its calls are to fail.
-- profile: what a program is proved and tried on
pub record SourceInMemory : Type 0 where
  pub shelf : Shelf
  pub plan : EdgePlan

-- The bytes that a sink took, and which of its calls are to fail.
-- profile: what a program is proved and tried on
pub record SinkInMemory : Type 0 where
  pub taken : List ℕ
  pub plan : EdgePlan

-- No file, and none is open.
-- profile: what a program is proved and tried on
abbrev pub empty_shelf : Shelf
empty_shelf = record { files = []; rest = []; reads = 0; taken = 0 }

-- One more file, behind the others.
-- profile: the first of a name counts
abbrev pub with_file_added : Shelf → List ℕ → List ℕ → Shelf
with_file_added shelf name content = record shelf { files = shelf.files ++ (name, content) ∷ [] }
