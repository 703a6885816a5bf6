-- Places in a list that a test finds.
use Rattle.std.proofs.Common.{◌≡◌, ℕ, ◌≤◌, Bool, true, false, cond, ltb, List, length, position, Some, None, unwrap_or}
use Rattle.std.proofs.Common.{refl, arith}
use Rattle.std.specs.List.{position_or_len}
use Rattle.std.proofs.lemmas.List.Sums.{prefix_len-le-length}
use Rattle.std.proofs.lemmas.Bool.Decides.{nat_tests}

below_or_end : (n l : ℕ) (b : Bool) → ltb n l ≡ b → n ≤ l → unwrap_or (cond b (Some n) None) l ≡ n
below_or_end n l true e h = refl
below_or_end n l false e h = grind (arith, nat_tests)

-- the first place at which a test passes, or the length
pub position_or_end : {X : Type 0} (p : X → Bool) (xs : List X)
    → unwrap_or (position p xs) (length xs) ≡ position_or_len p xs
position_or_end p xs = below_or_end (position_or_len p xs) (length xs) _ refl (prefix_len-le-length _ xs)

-- that place is within the list, or its end
pub place_within : {X : Type 0} (p : X → Bool) (xs : List X) → position_or_len p xs ≤ length xs
place_within p xs = prefix_len-le-length _ xs
