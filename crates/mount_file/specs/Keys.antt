-- Which keys the tables of a mount file have, and of which types. TOML 1.1 says how it is written; its keys: profile.
use Rattle.std.specs.Prelude.{List, [], ◌∷◌, ℕ, Bool, true, false, ◌&&◌, codes}
use Rattle.std.specs.List.{list_any}
use Rattle.std.specs.Option.{option_map_or}
use Rattle.std.specs.Str.{bytes_eq}
use Rattle.toml.specs.Data.{Data, string, integer, boolean, array, table, Items, no_items, item, Members, no_members}
use Rattle.toml.specs.Data.{member, get_member}

-- a key is one of these
-- TOML 1.1, Keys
abbrev pub is_one_of : List (List ℕ) → List ℕ → Bool
is_one_of keys key = list_any (λ k. bytes_eq k key) keys

-- a table has no keys but these
-- TOML 1.1, Table
abbrev pub has_only : List (List ℕ) → Members → Bool
has_only keys no_members = true
has_only keys (member key value rest) = is_one_of keys key && has_only keys rest

-- the key is there, with a value of this type
-- TOML 1.1, Key/Value Pair
abbrev pub has_key : (Data → Bool) → List ℕ → Members → Bool
has_key is_of_type key members = option_map_or is_of_type (get_member key members) false

-- the key is left out, or has a value of this type
-- TOML 1.1, Key/Value Pair
abbrev pub may_have : (Data → Bool) → List ℕ → Members → Bool
may_have is_of_type key members = option_map_or is_of_type (get_member key members) true

-- the types
-- TOML 1.1, Integer, String, Boolean, Array, Table
abbrev pub is_integer : Data → Bool
is_integer (integer z) = true
is_integer _ = false

abbrev pub is_string : Data → Bool
is_string (string s) = true
is_string _ = false

abbrev pub is_boolean : Data → Bool
is_boolean (boolean b) = true
is_boolean _ = false

abbrev pub are_all : (Data → Bool) → Items → Bool
are_all is_of_type no_items = true
are_all is_of_type (item value rest) = is_of_type value && are_all is_of_type rest

abbrev pub is_array_of : (Data → Bool) → Data → Bool
is_array_of is_of_type (array items) = are_all is_of_type items
is_array_of is_of_type _ = false

abbrev pub is_table_of : (Members → Bool) → Data → Bool
is_table_of fits (table members) = fits members
is_table_of fits _ = false

-- the table of a mount: `at`, `folder`, and perhaps `write`
-- profile
abbrev pub has_mount_keys : Members → Bool
has_mount_keys members =
    has_only (codes "at" ∷ codes "folder" ∷ codes "write" ∷ []) members
    && has_key is_string (codes "at") members
    && has_key is_string (codes "folder") members
    && may_have is_boolean (codes "write") members

-- the table of a task: `path`, and perhaps `args` and `env`
-- profile
abbrev pub has_task_keys : Members → Bool
has_task_keys members =
    has_only (codes "path" ∷ codes "args" ∷ codes "env" ∷ []) members
    && has_key is_string (codes "path") members
    && may_have (is_array_of is_string) (codes "args") members
    && may_have (is_array_of is_string) (codes "env") members

-- the document: `entries`, `seed`, the mounts and the tasks
-- profile
abbrev pub has_keys : Members → Bool
has_keys document =
    has_only (codes "entries" ∷ codes "seed" ∷ codes "mount" ∷ codes "task" ∷ []) document
    && has_key is_integer (codes "entries") document
    && has_key is_string (codes "seed") document
    && has_key (is_array_of (is_table_of has_mount_keys)) (codes "mount") document
    && has_key (is_array_of (is_table_of has_task_keys)) (codes "task") document
