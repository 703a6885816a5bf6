-- Fields of messages: what may stand in each, and how it is spelled.
use Rattle.std.specs.Prelude.{◌≡◌, ℕ, ◌≤◌, ◌<◌, ◌^◌, Bool, true, List, [], ◌++◌, length}
use Rattle.sn_bytes.specs.Fields.{little_bytes}
use Rattle.sn_text.specs.Names.{IsName}

-- a kind of field: a number in so many bytes, which has to pass a test; a name; data of at most so many bytes
-- gVisor package lisafs; limits: profile
pub data Field : Type 0 where
  Number : (width : ℕ) → (is_allowed : ℕ → Bool) → Field
  Name : Field
  Data : (most : ℕ) → Field

-- what stands in a field: a number, or bytes
-- profile
pub data Value : Type 0 where
  Num : ℕ → Value
  Bytes : List ℕ → Value

-- a value may stand in a field of that kind
-- gVisor package lisafs; which numbers, and how long data may be: profile
abbrev pub IsValueOf : Field → Value → Type 0
IsValueOf (Number width is_allowed) (Num n) = (n < 256 ^ width) × (is_allowed n ≡ true)
IsValueOf Name (Bytes bytes) = IsName bytes
IsValueOf (Data most) (Bytes bytes) = (length bytes ≤ most) × (length bytes < 256 ^ 4)
IsValueOf _ _ = ⊥

-- how a value is spelled in a field: a number from its lowest byte on; bytes behind their length, which takes two bytes
-- before a name and four before data
-- gVisor package lisafs; widths: profile
abbrev pub spelled : Field → Value → List ℕ
spelled (Number width is_allowed) (Num n) = little_bytes width n
spelled Name (Bytes bytes) = little_bytes 2 (length bytes) ++ bytes
spelled (Data most) (Bytes bytes) = little_bytes 4 (length bytes) ++ bytes
spelled _ _ = []
