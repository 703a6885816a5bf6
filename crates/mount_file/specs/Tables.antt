-- What the tables of a mount file say, where each key is there with its type: None where a value is outside its form.
use Rattle.std.specs.Prelude.{ℕ, List, [], ◌∷◌, Bool, false, Option, Some, None, option_and_then, option_map, codes}
use Rattle.std.specs.Option.{option_map_or}
use Rattle.toml.specs.Data.{Items, no_items, item, Members, get_member, as_integer, as_str, as_bool, as_array, as_table}
use Rattle.mount_file.specs.Values.{entries_in, seed_in, place_in, folder_in, image_name_in, texts_in}
use Rattle.mount_file.specs.declared.mounts.Mounts.{Mounts}
use Rattle.mount_file.specs.declared.mounts.Mount.{Mount}
use Rattle.mount_file.specs.declared.mounts.Program.{Program}

-- what an array says, item by item
-- TOML 1.1, Array
abbrev pub each_in : {A : Type 0} → (Members → Option A) → Items → Option (List A)
each_in read no_items = Some []
each_in read (item value rest) =
    option_and_then (λ a. option_map (λ more. a ∷ more) (each_in read rest)) (option_and_then read (as_table value))

-- the texts at a key, or these where it is left out
-- TOML 1.1, Array
abbrev pub texts_at : List ℕ → List (List ℕ) → Members → Option (List (List ℕ))
texts_at key missing members =
    option_map_or (λ value. option_and_then texts_in (as_array value)) (get_member key members) (Some missing)

-- whether a mount may be written: not where the key is left out
-- mount(8), ro and rw; what is left out: profile
abbrev pub write_at : Members → Option Bool
write_at members = option_map_or as_bool (get_member (codes "write") members) (Some false)

-- a mount
-- profile
abbrev pub mount_in : Members → Option Mount
mount_in members =
    option_and_then (λ at. option_and_then (λ folder. option_map (λ write.
    record { at = at; folder = folder; write = write })
    (write_at members))
    (option_and_then folder_in (option_and_then as_str (get_member (codes "folder") members))))
    (option_and_then place_in (option_and_then as_str (get_member (codes "at") members)))

-- a task: where `args` is left out its path is its one argument, and where `env` is it has no environment
-- execve(2), argv[0]; what is left out: profile
abbrev pub task_in : Members → Option Program
task_in members =
    option_and_then (λ name. option_and_then (λ args. option_map (λ env. record { name = name; args = args; env = env })
    (texts_at (codes "env") [] members))
    (texts_at (codes "args") ((47 ∷ name) ∷ []) members))
    (option_and_then image_name_in (option_and_then as_str (get_member (codes "path") members)))

-- the tasks: one or more
-- profile
abbrev pub some_tasks : List Program → Option (List Program)
some_tasks [] = None
some_tasks (task ∷ tasks) = Some (task ∷ tasks)

-- the mount file
-- profile
abbrev pub mounts_in : Members → Option Mounts
mounts_in document =
    option_and_then (λ entries. option_and_then (λ seed. option_and_then (λ mounts. option_map (λ tasks.
    record { entries = entries; seed = seed; mounts = mounts; tasks = tasks })
    (option_and_then some_tasks
    (option_and_then (each_in task_in) (option_and_then as_array (get_member (codes "task") document)))))
    (option_and_then (each_in mount_in) (option_and_then as_array (get_member (codes "mount") document))))
    (option_and_then seed_in (option_and_then as_str (get_member (codes "seed") document))))
    (option_and_then entries_in (option_and_then as_integer (get_member (codes "entries") document)))
