-- The operations of a client: the number of each, and what its answer has to be beside that number.
use Rattle.std.specs.Prelude.{◌≡◌, ◌⊎◌, ℕ, ◌+◌, ◌==◌, ◌&&◌, nat_le, nat_lt, Bool, true, false, List, [], ◌∷◌, length}
use Rattle.std.specs.Prelude.{if◌then◌else◌}
use Rattle.lisafs_wire.specs.Fields.{Value, Num, Bytes}
use Rattle.lisafs_wire.specs.Spelling.{Message}

-- an operation: the number of its request, and a test of its answer beside what was asked
-- gVisor package lisafs
pub record Operation : Type 0 where
  pub number : ℕ
  pub fits : Message → Bool

-- a message answers an operation: it is an error, or has the operation's number and 32,768, and fits what was asked
-- gVisor package lisafs; numbers: profile
abbrev pub IsReplyTo : Operation → Message → Type 0
IsReplyTo operation answer =
    (answer.number ≡ 32768) ⊎ ((answer.number ≡ 32768 + operation.number) × (operation.fits answer ≡ true))

-- an operation whose answer is tested by its number alone
-- profile
abbrev pub plainly : ℕ → Operation
plainly number = record { number = number; fits = λ answer. true }

-- the operations, by the numbers of their requests
-- gVisor package lisafs; numbers: profile
abbrev pub mount : Operation
mount = plainly 1

abbrev pub stat : Operation
stat = plainly 2

abbrev pub set_size : Operation
set_size = plainly 3

-- a walk of all names ends at the last, one with a name missing before that, and one at a link at any of them
-- gVisor package lisafs, Walk
abbrev pub does_end : (asked end count : ℕ) → Bool
does_end asked end count =
    if end == 0 then count == asked
    else if end == 1 then nat_lt count asked
    else nat_lt 0 count && nat_le count asked

abbrev pub is_walk_of : ℕ → List Value → ℕ → Bool
is_walk_of asked (Num end ∷ []) count = does_end asked end count
is_walk_of asked values count = false

abbrev pub walk : ℕ → Operation
walk asked = record { number = 4; fits = λ answer. is_walk_of asked answer.values (length answer.groups) }

abbrev pub opening : Operation
opening = plainly 5

abbrev pub create : Operation
create = plainly 6

abbrev pub close : Operation
close = plainly 7

-- no more is read than was asked for
-- read(2), RETURN VALUE
abbrev pub is_read_of : ℕ → List Value → Bool
is_read_of count (Bytes bytes ∷ []) = nat_le (length bytes) count
is_read_of count values = false

abbrev pub pread : ℕ → Operation
pread count = record { number = 9; fits = λ answer. is_read_of count answer.values }

-- no more is written than was handed over
-- write(2), RETURN VALUE
abbrev pub is_write_of : ℕ → List Value → Bool
is_write_of size (Num count ∷ []) = nat_le count size
is_write_of size values = false

abbrev pub pwrite : ℕ → Operation
pwrite size = record { number = 10; fits = λ answer. is_write_of size answer.values }

abbrev pub make_dir : Operation
make_dir = plainly 11

abbrev pub make_link : Operation
make_link = plainly 12

abbrev pub link_text : Operation
link_text = plainly 13

abbrev pub unlink : Operation
unlink = plainly 14

abbrev pub rename : Operation
rename = plainly 15

abbrev pub list : Operation
list = plainly 16
