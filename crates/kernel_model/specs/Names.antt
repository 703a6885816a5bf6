-- What a map has by name: a place in the commit log, and which of the things that the entry there made.
use Rattle.std.specs.Prelude.{ℕ, Bool, Option, is_some, unwrap_or}
use Rattle.std.specs.Option.{option_map, option_and_then}
use Rattle.std.specs.FinMap.{FinMap, get, insert, remove, empty}
use Rattle.std.specs.Ordering.{nat_cmp}

-- a map of values by place and index: at each place a map by index
-- profile: a made thing is named by the place of its log entry, and by which of that entry's it is
abbrev pub NamedMap : Type 0 → Type 0
NamedMap V = FinMap nat_cmp (FinMap nat_cmp V)

-- what the name has
-- profile: a made thing is named by the place of its log entry, and by which of that entry's it is
abbrev pub get_named : {V : Type 0} → NamedMap V → (place index : ℕ) → Option V
get_named names place index = option_and_then (λ m. get m index) (get names place)

-- whether the name has anything
-- profile: a made thing is named by the place of its log entry, and by which of that entry's it is
abbrev pub has_named : {V : Type 0} → NamedMap V → (place index : ℕ) → Bool
has_named names place index = is_some (get_named names place index)

-- the map where the name has v, and each other name what it had
-- profile: what else an entry made keeps its name
abbrev pub with_named : {V : Type 0} → NamedMap V → (place index : ℕ) → V → NamedMap V
with_named names place index v = insert names place (insert (unwrap_or (get names place) empty) index v)

-- the map where the name has nothing, and each other name what it had
-- profile: a name is not given twice, so what is left of its place stays, be it empty
abbrev pub without_named : {V : Type 0} → NamedMap V → (place index : ℕ) → NamedMap V
without_named names place index =
    unwrap_or (option_map (λ m. insert names place (remove m index)) (get names place)) names
