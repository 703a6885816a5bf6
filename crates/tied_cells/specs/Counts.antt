-- The counts that the book keeps by key: how many of its entries touch each part.
use Rattle.std.specs.Prelude.{◌≡◌, ◌<◌, ◌^◌, ⊤, ℕ, List, [], ◌∷◌, Option, Some, None, IsTrue}
use Rattle.std.specs.FinMap as map
use Rattle.std.specs.Ordering.{nat_cmp}
use Rattle.tied_cells.specs.declared.held.HeldPart.{HeldPart}

-- counts by key
-- profile
abbrev pub Counts : Type 0
Counts = map.FinMap nat_cmp ℕ

-- nothing is 0
-- profile
abbrev pub or_zero : Option ℕ → ℕ
or_zero None = 0
or_zero (Some count) = count

-- the count of a key, which is 0 where none is noted
-- profile
abbrev pub count_in : Counts → ℕ → ℕ
count_in counts key = or_zero (map.get counts key)

-- each of these keys has a count, so that noting another takes no memory
-- profile
abbrev pub HaveRoom : Counts → List ℕ → Type 0
HaveRoom counts [] = ⊤
HaveRoom counts (key ∷ keys) = IsTrue (map.contains_key counts key) × HaveRoom counts keys

-- the keys of parts
-- profile
abbrev pub keys_of : {P : Type 0} → List (HeldPart P) → List ℕ
keys_of [] = []
keys_of (part ∷ parts) = part.key ∷ keys_of parts

-- what the counts say of a page's key
-- profile
abbrev pub in_counts : Counts → ℕ → ℕ → Type 0
in_counts counts key count = (key < 2 ^ 63) × (count ≡ count_in counts key)
