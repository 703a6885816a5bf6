-- What a directory lists, from what the system told of its entries.
use Rattle.std.specs.Prelude.{◌≡◌, List, Option, Result, Ok, Err, filter_map, option_map, string_bytes}
use Rattle.std.specs.List.{AllZip}
use Rattle.std.specs.Fs.{dir_entry_name}
use Rattle.std.specs.declared.fs.dir.DirEntry.{DirEntry}
use Rattle.std.specs.declared.io.Error.{Error}
use Rattle.host_node.specs.declared.listing.Listed.{Listed}
use Rattle.host_folder.specs.declared.seen.SeenEntry.{SeenEntry}

-- the system told an entry and no error, and the entry is seen under its own name
-- readdir(3), RETURN VALUE; d_name
abbrev pub IsSeen : {R A F D : Type 0} → Result (DirEntry R A F D) Error → SeenEntry → Type 0
IsSeen (Ok entry) seen = string_bytes seen.text ≡ dir_entry_name entry
IsSeen (Err error) seen = ⊥

-- each entry that the system told is seen, once, in the system's order
-- readdir(3)
abbrev pub AreSeen : {R A F D : Type 0} → List (Result (DirEntry R A F D) Error) → List SeenEntry → Type 0
AreSeen told seen = AllZip IsSeen told seen

-- how an entry is listed: under its name, with what stands there, or not at all where that is hidden
-- readdir(3), d_name and d_type; what is hidden: profile
abbrev pub listed_as : SeenEntry → Option Listed
listed_as s = option_map (λ kind. record { name = string_bytes s.text; kind = kind }) s.kind

-- the entries that are listed, each once, in the order in which they were seen
-- readdir(3)
abbrev pub entries_of : List SeenEntry → List Listed
entries_of seen = filter_map listed_as seen
