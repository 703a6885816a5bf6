-- The opening: the state after the opening execves, from the mount file, the granted trees and the record of both.
use Rattle.std.specs.Prelude.{ℕ, ◌+◌, ◌*◌, ◌==◌, nat_lt, nat_le, List, [], ◌∷◌, length, Bool, true, false}
use Rattle.std.specs.Prelude.{◌&&◌, not, Option, Some, None, is_some, Result, Ok, Err, if◌then◌else◌}
use Rattle.std.specs.List.{list_any}
use Rattle.std.specs.Str.{bytes_eq}
use Rattle.std.specs.FinMap as map
use Rattle.fd_table.specs.Tables.{Table}
use Rattle.fd_table.specs.declared.description.Object.TheVariants.{Console, EmptyInput}
use Rattle.fd_table.specs.declared.flags.AccessMode.TheVariants.{Read, Write}
use Rattle.host_node.specs.Tree.{Shape, directory, file, link, lent}
use Rattle.sn_errno.specs.declared.errno.Errno.{Errno}
use Rattle.sn_errno.specs.declared.errno.Errno.TheVariants.{EIO, ENOENT, E2BIG, EACCES, ENOEXEC, ENOMEM, ENFILE, ELOOP}
use Rattle.elf_image.specs.declared.image.Image.{Image}
use Rattle.kernel_model.specs.declared.kernel.Kernel.{Kernel}
use Rattle.kernel_model.specs.declared.kernel.Node.{Node}
use Rattle.rv_table.specs.declared.registers.Regs.{Regs}
use Rattle.kernel_model.specs.Names.{NamedMap, with_named}
use Rattle.kernel_model.specs.declared.open_files.OpenFile.{OpenFile}
use Rattle.kernel_model.specs.declared.open_files.OpenFiles.{OpenFiles}
use Rattle.kernel_model.specs.descriptors.OpenFiles.{descriptor_of, new_file, nothing_open}
use Rattle.sn_base.specs.declared.made.Made.{Made}
use Rattle.task_table.specs.Clones.{opened}
use Rattle.task_table.specs.Table.{no_tasks}
use Rattle.mm_areas.specs.declared.places.TheConstants.{MOST_PAGES}
use Rattle.mm_space.specs.Spaces.{AddressSpace}
use Rattle.kernel_model.specs.declared.kernel.Part.TheVariants.{OfNode}
use Rattle.mount_file.specs.declared.mounts.Mounts.{Mounts}
use Rattle.mount_file.specs.declared.mounts.Mount.{Mount}
use Rattle.mount_file.specs.declared.mounts.Program.{Program}
use Rattle.kernel_model.specs.declared.limits.TheConstants.{LONGEST_IMAGE}
use Rattle.kernel_model.specs.declared.opening.Opening.{Opening}
use Rattle.kernel_model.specs.declared.opening.OpenedTask.{OpenedTask}
use Rattle.kernel_model.specs.declared.opening.Given.{Given}
use Rattle.kernel_model.specs.declared.opening.Fresh.{Fresh}
use Rattle.kernel_model.specs.opening.Arguments.{is_too_long}
use Rattle.kernel_model.specs.opening.Records.{is_of}
use Rattle.image_load.specs.Loading.{opening_space, opening_registers}
use Rattle.image_load.specs.Pages.{pages_mapped}
use Rattle.kernel_model.specs.machine.Image.{image_of}
use Rattle.kernel_model.specs.machine.Random.{opening_random}
use Rattle.kernel_model.specs.files.FileTree.{Nodes, Child, Missing, Known, Unnumbered, child_at, root_node}
use Rattle.kernel_model.specs.files.FileTree.{owner_executes}
use Rattle.kernel_model.specs.entries.Given.{has_any, is_in_order, above_last, Nodes_so_far, number_all, node_changes}
use Rattle.kernel_model.specs.entries.Given.{faulted, may_meet}
use Rattle.kernel_model.specs.entries.Parts.{parts, Prog, done, look, outcome_in, ◌>>=◌, Change, changed}

-- whether an image has no more pages than may be mapped
-- execve(2), ERRORS, ENOMEM; the number: profile
abbrev pub has_room : Image → Bool
has_room image = nat_le (pages_mapped image) MOST_PAGES

-- an image as execve takes it: of an executable regular file that is no longer than one may be, with room for its pages
-- execve(2), ERRORS: EACCES, ENOEXEC, ENOMEM; a link answers ELOOP so far; the numbers and the order: profile
abbrev pub image_within : Option Image → Result Image Errno
image_within None = Err ENOEXEC
image_within (Some image) = if has_room image then Ok image else Err ENOMEM

abbrev pub image_or_errno : List ℕ → Result Image Errno
image_or_errno bytes = if nat_lt LONGEST_IMAGE (length bytes) then Err ENOEXEC else image_within (image_of bytes)

abbrev pub executed : Shape → Result Image Errno
executed (file bytes mode faults) = if owner_executes (file bytes mode faults) then image_or_errno bytes else Err EACCES
executed (link text faults) = Err ELOOP
executed (directory mode faults entries) = Err EACCES
executed (lent kind) = Err EACCES

-- what an opening execve comes to: whether it walks to a child without a number, and its image or error
-- profile
pub record Walked : Type 0 where
  pub draws : Bool
  pub image : Result Image Errno

abbrev pub numbered_image : Option Node → Result Image Errno
numbered_image None = Err ENOENT
numbered_image (Some node) = executed node.tree

abbrev pub walked_to_child : Child → Prog Walked
walked_to_child Missing = done (record { draws = false; image = Err ENOENT })
walked_to_child (Unnumbered shape) = done (record { draws = true; image = executed shape })
walked_to_child (Known ino) = look (OfNode ino) (λ node. done (record { draws = false; image = numbered_image node }))

abbrev pub walked_from : List ℕ → Option Node → Prog Walked
walked_from name None = done (record { draws = false; image = Err ENOENT })
walked_from name (Some root) =
    if owner_executes root.tree
    then walked_to_child (child_at name root)
    else done (record { draws = false; image = Err EACCES })

-- the number of the root of the mount at `/`: roots are numbered 1 up, in order of the mounts
-- profile
abbrev pub root_among : (first : ℕ) → List Mount → ℕ
root_among first [] = first
root_among first (mount ∷ mounts) = if is_some mount.at then root_among (first + 1) mounts else first

abbrev pub root_of : List Mount → ℕ
root_of mounts = root_among 1 mounts

-- the walk of an opening execve: one name, from the root of the mount at `/`, of that number
-- path_resolution(7); execve(2), ERRORS: EACCES, ENOENT
abbrev pub walk_of : (root : ℕ) → List ℕ → Prog Walked
walk_of root name = look (OfNode root) (walked_from name)

-- the fresh numbers are exactly those that the walk names: that of the child, if it draws one
-- profile
abbrev pub draws_just : (root : ℕ) → Bool → List ℕ → List Fresh → Bool
draws_just root false name [] = true
draws_just root true name (f ∷ []) = (f.dir == root) && bytes_eq f.name name && nat_lt 0 f.ino
draws_just root _ name fresh = false

-- what an opening execve does: it starts an image, or fails, with changes; or what was drawn and met does not fit it
-- profile
pub data Executed : Type 0 where
  Starts : Image → List Change → Executed
  Fails : Errno → List Change → Executed
  Unfit : Executed

abbrev pub failed_by : Option (List Change) → Executed
failed_by None = Unfit
failed_by (Some changes) = Fails EIO changes

abbrev pub by_image : Result Image Errno → List Change → Executed
by_image (Ok image) changes = Starts image changes
by_image (Err errno) changes = Fails errno changes

abbrev pub by_numbers : Result Image Errno → Option Nodes_so_far → Executed
by_numbers image None = Unfit
by_numbers image (Some nodes) = by_image image (node_changes nodes)

abbrev pub by_walk : (root : ℕ) → List ℕ → Given → Walked → Prog Executed
by_walk root name given walked =
    if has_any given.rises
    then (if is_in_order given then (faulted given >>= λ changes. done (failed_by changes)) else done Unfit)
    else if not (draws_just root walked.draws name given.fresh) then done Unfit
    else if list_any above_last given.fresh then done (Fails ENFILE [])
    else (number_all given.fresh [] >>= λ nodes. done (by_numbers walked.image nodes))

-- an execve of a name, with what it drew and met: with a rise it answers EIO, with a number above the greatest ENFILE,
-- else what the image is
-- execve(2)
abbrev pub execve : (root : ℕ) → List ℕ → Given → Prog Executed
execve root name given = walk_of root name >>= by_walk root name given

-- what comes of it where its strings are too long: nothing is walked to
-- execve(2), E2BIG
abbrev pub unwalked : Walked
unwalked = record { draws = false; image = Err E2BIG }

-- an opening execve of a program, where `/` has that number
-- execve(2); that E2BIG goes before the errors of the walk: profile
abbrev pub execve_of : (root : ℕ) → Program → Given → Prog Executed
execve_of root program given =
    if is_too_long program.args program.env
    then by_walk root program.name given unwalked
    else execve root program.name given

-- the nodes of the roots, numbered in order of the mounts
-- profile
abbrev pub rooted : ℕ → List Shape → Nodes
rooted first [] = map.empty
rooted first (tree ∷ trees) = map.insert (rooted (first + 1) trees) first (root_node first tree)

-- the kernel before its first task
-- profile
abbrev pub bare : Mounts → List Shape → Kernel
bare mounts trees = record {
  tasks = no_tasks;
  registers = map.empty;
  spaces = map.empty;
  areas = map.empty;
  files = nothing_open;
  nodes = rooted 1 trees;
  sleepers = record { sleepers = []; woken = [] };
  console = [];
  failed = map.empty;
  mounts = mounts.mounts;
  seed = mounts.seed;
  entries = 0;
}

-- the name of an opening task's memory, and of its descriptor table
-- profile
abbrev pub made_by : (number : ℕ) → Made
made_by number = record { place = 0; index = number }

-- what the opening task of that number begins with, of this image and with its strings
-- execve(2)
abbrev pub registers_opened : (seed : List ℕ) → (number : ℕ) → Program → Image → Regs
registers_opened seed number program image =
    opening_registers image program.args program.env (opening_random seed number)

abbrev pub space_opened : (seed : List ℕ) → (number : ℕ) → Program → Image → AddressSpace
space_opened seed number program image =
    opening_space image program.args program.env (opening_random seed number)

-- its descriptors, each with a description of its own: 0 is of an empty input, 1 and 2 are of the console
-- stdin(3); the names: profile
abbrev pub stream_made : (number fd : ℕ) → Made
stream_made number fd = record { place = 0; index = 3 * number + fd }

abbrev pub table_opened : (number : ℕ) → Table
table_opened number =
    map.insert (map.insert (map.insert map.empty 0 (descriptor_of (stream_made number 0) false)) 1
    (descriptor_of (stream_made number 1) false)) 2 (descriptor_of (stream_made number 2) false)

abbrev pub with_stream : (number fd : ℕ) → OpenFile → NamedMap OpenFile → NamedMap OpenFile
with_stream number fd stream descriptions = with_named descriptions 0 (3 * number + fd) stream

abbrev pub with_streams : (number : ℕ) → NamedMap OpenFile → NamedMap OpenFile
with_streams number descriptions =
    with_stream number 2 (new_file Console Write false) (with_stream number 1 (new_file Console Write false)
    (with_stream number 0 (new_file EmptyInput Read false) descriptions))

abbrev pub files_opened : (number : ℕ) → OpenFiles → OpenFiles
files_opened number files = record files {
  tables = with_named files.tables 0 number (table_opened number);
  descriptions = with_streams number files.descriptions;
}

-- the kernel with an opening task, which is a group of its own, without a parent, and whose working directory is `/`
-- execve(2); profile
abbrev pub with_task : (number : ℕ) → Program → Image → Kernel → Kernel
with_task number program image k = record k {
  tasks = opened k.tasks (made_by number) (made_by number) (root_of k.mounts);
  registers = map.insert k.registers number (registers_opened k.seed number program image);
  spaces = with_named k.spaces 0 number (space_opened k.seed number program image);
  files = files_opened number k.files;
}

-- what an opening comes to: a kernel, or the errno of the first execve that fails, with the kernel that it leaves, or
-- the first task whose record does not fit
-- profile
pub data Begun : Type 0 where
  Opens : Kernel → Begun
  Refuses : Kernel → (task : ℕ) → Errno → Begun
  Misfits : (task : ℕ) → Begun

-- the opening tasks in order, the first of them with that number; each draws numbers that are unused, and meets faults
-- of nodes that have numbers
-- profile
abbrev pub task_begun : (Kernel → Begun) → (Image → Kernel → Kernel) → (number : ℕ) → Kernel
    → Executed → Begun
task_begun rest begin number k (Starts image changes) = rest (begin image (changed changes k))
task_begun rest begin number k (Fails errno changes) = Refuses (changed changes k) number errno
task_begun rest begin number k Unfit = Misfits number

abbrev pub tasks_begun : (number : ℕ) → List Program → List OpenedTask → Kernel → Begun
tasks_begun number [] records k = Opens k
tasks_begun number (p ∷ ps) [] k = Misfits number
tasks_begun number (p ∷ ps) (o ∷ os) k =
    if may_meet k.nodes o.given
    then task_begun (tasks_begun (number + 1) ps os) (with_task number p) number k
    (outcome_in (parts k) (execve_of (root_of k.mounts) p o.given))
    else Misfits number

-- the opening of a mount file over the granted trees, a directory for each mount in order
-- profile
unfoldable pub opening_of : Mounts → List Shape → Opening → Begun
opening_of mounts trees opening =
    if is_of mounts opening then tasks_begun 1 mounts.tasks opening.tasks (bare mounts trees) else Misfits 0
