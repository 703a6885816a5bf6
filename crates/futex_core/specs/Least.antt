-- The least of some task numbers that is above another.
use Rattle.std.specs.Prelude.{◌≡◌, ℕ, ◌<◌, ◌==◌, nat_lt, Bool, true, false, List, Option, Some, None}
use Rattle.std.specs.List.{list_any}

-- whether a number is among others
-- profile
abbrev pub is_one_of_numbers : (number : ℕ) → List ℕ → Bool
is_one_of_numbers number numbers = list_any (λ n. n == number) numbers

-- whether a number is below another, or there is no other
-- profile
abbrev pub is_below_other : (number : ℕ) → (other : Option ℕ) → Bool
is_below_other number (Some other) = nat_lt number other
is_below_other number None = true

-- the least of some numbers that is above another, or none where none is above it
-- profile
abbrev pub IsNextAmong : List ℕ → (after : ℕ) → Option ℕ → Type 0
IsNextAmong numbers after None = (n : ℕ) → after < n → is_one_of_numbers n numbers ≡ false
IsNextAmong numbers after (Some least) =
    (after < least) × (is_one_of_numbers least numbers ≡ true)
    × ((n : ℕ) → after < n → n < least → is_one_of_numbers n numbers ≡ false)
