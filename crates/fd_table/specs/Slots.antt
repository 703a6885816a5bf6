-- A row of slots as the table that it stands for: the number of a descriptor is the place of its slot.
use Rattle.std.specs.Prelude.{ℕ, ◌+◌, List, [], ◌∷◌, Option, Some, None}
use Rattle.std.specs.FinMap as map
use Rattle.fd_table.specs.declared.descriptor.Descriptor.{Descriptor}
use Rattle.fd_table.specs.Tables.{Table}

-- the numbers and descriptors of slots that are taken, where the first slot has a number and the others go up from it
-- profile
abbrev pub entries_from : (number : ℕ) → List (Option Descriptor) → List (ℕ × Descriptor)
entries_from number [] = []
entries_from number (None ∷ slots) = entries_from (number + 1) slots
entries_from number (Some d ∷ slots) = (number, d) ∷ entries_from (number + 1) slots

-- the table of slots, of which the first has the number 0
-- profile
unfoldable pub table_of : List (Option Descriptor) → Table
table_of slots = map.from_entries (entries_from 0 slots)
