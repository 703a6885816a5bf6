-- How a list begins.
use Rattle.std.specs.Prelude.{◌≡◌, List, ◌++◌}

-- ys begins with xs
-- Rust standard library, slice::starts_with
abbrev pub IsPrefixOf : {A : Type 0} → List A → List A → Type 0
IsPrefixOf {A} xs ys = (rest : List A) × (xs ++ rest ≡ ys)
