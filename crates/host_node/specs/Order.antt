-- The order of a directory's entries: by their names' bytes, each name once.
use Rattle.std.specs.Prelude.{◌≡◌, ℕ, List, [], ◌∷◌, ⊤}
use Rattle.std.specs.declared.cmp.Ordering.TheVariants.{Less}
use Rattle.std.specs.Ordering.{nat_cmp}
use Rattle.std.specs.Cmp.Lexicographic.{slice_cmp}
use Rattle.host_node.specs.declared.listing.Listed.{Listed}

-- a name is less than each of these, by its bytes
-- the order of strcmp(3), over unsigned bytes
abbrev pub IsBelowAll : List ℕ → List (List ℕ) → Type 0
IsBelowAll name [] = ⊤
IsBelowAll name (other ∷ names) = (slice_cmp nat_cmp name other ≡ Less) × IsBelowAll name names

-- each name is less than those behind it, by its bytes
-- the order of strcmp(3), over unsigned bytes
abbrev pub IsAscending : List (List ℕ) → Type 0
IsAscending [] = ⊤
IsAscending (name ∷ names) = IsBelowAll name names × IsAscending names

-- the names of a listing
-- readdir(3), d_name
abbrev pub names_of : List Listed → List (List ℕ)
names_of [] = []
names_of (entry ∷ entries) = entry.name ∷ names_of entries
