-- The folder that is mounted at `/` during an opening, and what comes of an execve's answer.
use Rattle.std.specs.Prelude.{◌≡◌, ℕ, ◌+◌, List, [], length, Option, Result, Ok, Err}
use Rattle.std.specs.Prelude.{◌⊎◌}
use Rattle.std.specs.FinMap as map
use Rattle.host_node.specs.Tree.{Shape}
use Rattle.elf_image.specs.declared.image.Image.{Image as Executable}
use Rattle.mount_file.specs.declared.mounts.Mount.{Mount}
use Rattle.mount_file.specs.declared.mounts.Mounts.{Mounts}
use Rattle.mount_file.specs.declared.mounts.Program.{Program}
use Rattle.task_table.specs.Clones.{opened}
use Rattle.kernel_model.specs.declared.opening.Rise.{Rise}
use Rattle.kernel_model.specs.files.FileTree.{Nodes}
use Rattle.kernel_model.specs.opening.Opening.{made_by, root_of, with_task}
use Rattle.image_walk.specs.declared.granted.Numbering.{Numbering}
use Rattle.image_walk.specs.declared.loading.ImageAnswer.{ImageAnswer}
use Rattle.image_walk.specs.declared.loading.ImageAnswer.TheVariants as answers
use Rattle.image_walk.specs.Granted.{LentChild}
use Rattle.image_walk.specs.Standing.{StandsLent}
use Rattle.call_table.specs.declared.processes.Processes.{Processes}
use Rattle.proc_cells.specs.Beside.{Beside}
use Rattle.call_table.specs.Processes.{kernel_of_processes}
use Rattle.run_opening.specs.declared.opening.OpenErr.{OpenErr}
use Rattle.run_opening.specs.declared.opening.OpenErr.TheVariants.{Image, Memory}

-- the inode numbers of the folder that is mounted at `/`: its root's, and the first for a child, behind those of roots
-- inode(7), st_ino; profile
abbrev pub numbering_of : List Mount → Numbering
numbering_of mounts = record { root = root_of mounts; first = length mounts + 1 }

-- what stands beside the processes of a run, with these nodes and no rise of a count
-- profile
abbrev pub beside_of : Mounts → Nodes → Beside
beside_of m nodes = record { nodes = nodes; failed = map.empty; mounts = m.mounts; seed = m.seed }

-- the folder's tree, of which children may be lent
-- profile
pub record StandsStill (num : Numbering) (t : Shape) (root : Option Shape) (children : List LentChild) : Type 0 where
  pub names : List (List ℕ)
  pub stands : StandsLent num t names [] root children

-- the folder's tree, of which children may be lent, and counts may have risen
-- profile
pub record IsStanding (num : Numbering) (t : Shape) (root : Option Shape) (children : List LentChild) : Type 0 where
  pub names : List (List ℕ)
  pub rises : List Rise
  pub stands : StandsLent num t names rises root children

-- the folder's tree as an opening leaves it that ended before all tasks had begun: where memory ran out, no count has
-- risen
-- profile
abbrev pub StandsAfter : OpenErr → Numbering → (t : Shape) → (root : Option Shape) → List LentChild → Type 0
StandsAfter (Image task errno) num t root children = IsStanding num t root children
StandsAfter Memory num t root children = StandsStill num t root children

-- an answer that is no error: an image that may lack memory to begin, or want of memory
-- execve(2)
abbrev pub MayLackMemory : ImageAnswer → Type 0
MayLackMemory answer = ((image : Executable) × (answer ≡ answers.Starts image)) ⊎ (answer ≡ answers.Memory)

-- what comes of an opening execve's answer: the task of the next number begins its image, or why not
-- execve(2)
abbrev pub Begins : (seed : List ℕ) → (root : ℕ) → Program → ImageAnswer → Processes
    → Result Processes OpenErr → Type 0
Begins seed root program answer p (Ok next) =
    (image : Executable) × (answer ≡ answers.Starts image)
    × (next.cells.tasks
    ≡ opened p.cells.tasks (made_by (p.cells.tasks.last + 1)) (made_by (p.cells.tasks.last + 1)) root)
    × ((beside : Beside) (n : ℕ) → beside.seed ≡ seed → root_of beside.mounts ≡ root
    → kernel_of_processes next beside n ≡ with_task (p.cells.tasks.last + 1) program image
    (kernel_of_processes p beside n))
Begins seed root program answer p (Err (Image task errno)) =
    (task ≡ p.cells.tasks.last + 1) × (answer ≡ answers.Refuses errno)
Begins seed root program answer p (Err Memory) = MayLackMemory answer
