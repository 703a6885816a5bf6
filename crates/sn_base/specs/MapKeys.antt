-- The keys of a finite map in their order.
use Rattle.std.specs.Prelude.{◌≡◌, ℕ, ◌<◌, Option, Some, None, IsTrue}
use Rattle.std.specs.Ordering.{nat_cmp}
use Rattle.std.specs.FinMap as map

-- the least key above a number, or none where no key is above it
-- Rust's BTreeMap::range, from an excluded bound on
abbrev pub IsLeastAbove : {V : Type 0} → map.FinMap nat_cmp V → (after : ℕ) → Option ℕ → Type 0
IsLeastAbove m after None = (key : ℕ) → after < key → map.get m key ≡ None
IsLeastAbove m after (Some least) =
    (after < least) × IsTrue (map.contains_key m least)
    × ((key : ℕ) → after < key → key < least → map.get m key ≡ None)
