-- Numbered entries: which of them pass a test, and maps of which one entry or every entry is changed.
use Rattle.std.specs.Prelude.{ℕ, Bool, false, List, map, filter}
use Rattle.std.specs.Option.{option_map_or}
use Rattle.std.specs.Ordering.{nat_cmp}
use Rattle.std.specs.FinMap.{FinMap, get, insert, entries, keys, from_entries}

-- whether there is an entry of a number, and its value passes the test
-- profile
abbrev pub passes : {V : Type 0} → (V → Bool) → FinMap nat_cmp V → ℕ → Bool
passes test m n = option_map_or test (get m n) false

-- the numbers of the entries whose values pass the test, ascending
-- profile
abbrev pub numbers_where : {V : Type 0} → (V → Bool) → FinMap nat_cmp V → List ℕ
numbers_where test m = filter (passes test m) (keys m)

-- one entry's value changed; where there is no such entry nothing is
-- profile
abbrev pub changed_at : {V : Type 0} → (V → V) → FinMap nat_cmp V → ℕ → FinMap nat_cmp V
changed_at f m n = option_map_or (λ v. insert m n (f v)) (get m n) m

-- every entry's value changed, by a function of its number and value
-- profile
unfoldable pub each_changed : {V : Type 0} → (ℕ → V → V) → FinMap nat_cmp V → FinMap nat_cmp V
each_changed f m = from_entries (map (λ e. (e.0, f e.0 e.1)) (entries m))
