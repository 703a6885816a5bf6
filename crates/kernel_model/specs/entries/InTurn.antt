-- Pieces of a step one after another, each in the state that those before it left.
use Rattle.std.specs.Prelude.{List, [], ◌∷◌, ◌++◌}
use Rattle.std.specs.FinMap as map
use Rattle.task_table.specs.Table.{no_tasks}
use Rattle.kernel_model.specs.declared.kernel.Kernel.{Kernel}
use Rattle.kernel_model.specs.declared.kernel.Part.{Part}
use Rattle.kernel_model.specs.descriptors.OpenFiles.{nothing_open}
use Rattle.kernel_model.specs.entries.Parts.{Holds, parts, put, changed, Change, Prog, done, look, ◌>>=◌}

-- a kernel with nothing in it
-- profile
abbrev pub nothing : Kernel
nothing = record {
  tasks = no_tasks;
  registers = map.empty;
  spaces = map.empty;
  areas = map.empty;
  files = nothing_open;
  nodes = map.empty;
  sleepers = record { sleepers = []; woken = [] };
  console = [];
  failed = map.empty;
  mounts = [];
  seed = [];
  entries = 0;
}

-- what a part that held this holds after changes
-- profile
unfoldable pub content_after : List Change → (part : Part) → Holds part → Holds part
content_after changes part content = parts (changed changes (put part content nothing)) part

-- what is done where these changes have been made
-- profile
unfoldable pub over_changes : {A : Type 0} → List Change → Prog A → Prog A
over_changes changes (done a) = done a
over_changes changes (look part next) =
    look part (λ content. over_changes changes (next (content_after changes part content)))

-- the changes of two pieces, the second behind the first
-- profile
abbrev pub followed : Prog (List Change) → Prog (List Change) → Prog (List Change)
followed first second = first >>= λ before. over_changes before second >>= λ after. done (before ++ after)

-- the changes of a piece for each of these in turn
-- profile
unfoldable pub in_turn : {A : Type 0} → (A → Prog (List Change)) → List A → Prog (List Change)
in_turn piece [] = done []
in_turn piece (x ∷ xs) = followed (piece x) (in_turn piece xs)
