-- What the values of a mount file mean, and which are outside their form. Where no source is named: profile.
use Rattle.std.specs.Prelude.{ℕ, pos, negsuc, ℤ, ◌+◌, ◌*◌, ◌-◌, nat_eq, nat_le, List, [], ◌∷◌, length, Bool, true}
use Rattle.std.specs.Prelude.{false, ◌&&◌, ◌==◌, Option, Some, None, if◌then◌else◌, option_and_then, option_map}
use Rattle.std.specs.Prelude.{is_none}
use Rattle.std.specs.List.{list_all, slice_split}
use Rattle.toml.specs.Data.{Data, string, Items, no_items, item}
use Rattle.sn_text.specs.Names.{name_fault_of, has_byte}
use Rattle.sn_text.specs.Folders.{FolderPath}
use Rattle.mount_file.specs.declared.values.TheConstants.{MOST_ENTRIES}

-- how many entries a run may have: from 1 on
-- profile
abbrev pub entries_in : ℤ → Option ℕ
entries_in (pos n) = if nat_le 1 n && nat_le n MOST_ENTRIES then Some n else None
entries_in (negsuc n) = None

-- the value of a hexadecimal digit
-- isxdigit(3)
abbrev pub hex_value : ℕ → Option ℕ
hex_value d =
    if nat_le 48 d && nat_le d 57 then Some (d - 48)
    else if nat_le 65 d && nat_le d 70 then Some (d - 55)
    else if nat_le 97 d && nat_le d 102 then Some (d - 87)
    else None

-- the bytes that pairs of hexadecimal digits spell
-- xxd(1), plain style
abbrev pub hex_bytes : List ℕ → Option (List ℕ)
hex_bytes [] = Some []
hex_bytes (d ∷ []) = None
hex_bytes (d ∷ e ∷ ds) =
    option_and_then (λ high. option_and_then (λ low. option_map (λ bytes. (16 * high + low) ∷ bytes)
    (hex_bytes ds)) (hex_value e)) (hex_value d)

-- a seed: 64 hexadecimal digits
-- profile
abbrev pub seed_in : List ℕ → Option (List ℕ)
seed_in digits = if length digits == 64 then hex_bytes digits else None

-- the bytes are a name
-- POSIX.1-2017, Base Definitions, Filename
abbrev pub is_name : List ℕ → Bool
is_name bytes = is_none (name_fault_of bytes)

-- a place to mount at: `/`, or `/` and a name. None is `/`
-- mount(8), the mount point; how deep one may lie: profile
abbrev pub place_in : List ℕ → Option (Option (List ℕ))
place_in [] = None
place_in (slash ∷ []) = if slash == 47 then Some None else None
place_in (slash ∷ name) = if (slash == 47) && is_name name then Some (Some name) else None

-- a folder's names, divided by slashes
-- POSIX.1-2017, Base Definitions, Pathname; that each piece is a name: profile
abbrev pub names_in : List ℕ → Option (List (List ℕ))
names_in bytes =
    if list_all is_name (slice_split (λ byte. nat_eq byte 47) bytes)
    then Some (slice_split (λ byte. nat_eq byte 47) bytes) else None

-- a folder: one or more names divided by slashes, with a slash before them where it lies from the root
-- POSIX.1-2017, Base Definitions, Absolute Pathname and Relative Pathname
abbrev pub folder_from : Bool → List ℕ → Option FolderPath
folder_from rooted bytes = option_map (λ names. record { rooted = rooted; names = names }) (names_in bytes)

abbrev pub folder_in : List ℕ → Option FolderPath
folder_in [] = None
folder_in (byte ∷ bytes) = if byte == 47 then folder_from true bytes else folder_from false (byte ∷ bytes)

-- the name of a task's image, by its path: so far `/` and a name
-- execve(2); that it is absolute: profile
abbrev pub image_name_in : List ℕ → Option (List ℕ)
image_name_in [] = None
image_name_in (slash ∷ name) = if (slash == 47) && is_name name then Some name else None

-- a text that a task may be given: one without a NUL, which ends it
-- execve(2), argv and envp
abbrev pub text_in : Data → Option (List ℕ)
text_in (string bytes) = if has_byte 0 bytes then None else Some bytes
text_in _ = None

abbrev pub texts_in : Items → Option (List (List ℕ))
texts_in no_items = Some []
texts_in (item value rest) =
    option_and_then (λ text. option_map (λ texts. text ∷ texts) (texts_in rest)) (text_in value)
