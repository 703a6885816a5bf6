-- The machine that is measured: numbers, to which entries add 1.
use Rattle.std.specs.Prelude.{◌==◌, ◌+◌, ◌%◌, ◌^◌, ◌||◌, ℕ, Bool, true, if◌then◌else◌}
use Rattle.std.proofs.Common.{ap}
use Rattle.tied_cells.specs.Machines.{Rules, Stays}
use Rattle.tied_cells.specs.declared.held.HeldPart.{HeldPart}
use Rattle.book_times.specs.declared.machine.Mark.{Mark}
use Rattle.book_times.specs.declared.machine.Mark.TheVariants.{One, Two}

-- 1 more, in 64 bits
-- profile
abbrev pub next : ℕ → ℕ
next n = (n + 1) % 2 ^ 64

-- the pages that an entry is of
-- profile
abbrev pub touches : (ℕ → ℕ) → Mark → ℕ → Bool
touches s (One t page) key = page == key
touches s (Two t low high) key = (low == key) || (high == key)

-- 1 is added to the parts of these, and the others stay
-- profile
abbrev pub after : ℕ → (ℕ → ℕ) → Mark → ℕ → ℕ
after n s e key = if touches s e key then next (s key) else s key

-- whose an entry is
-- profile
abbrev pub task : Mark → ℕ
task (One t page) = t
task (Two t low high) = t

-- each entry adds 1 to the parts of one page or of two
-- profile
abbrev pub marks : Rules ℕ Mark
marks = record { opening = λ key. 0; fits = λ n s e. true; after = after; touches = touches; task = task }

-- a part that isn't touched stays
-- profile
pub marks_stay : Stays marks
marks_stay n s e key none = ap (λ (b : Bool). if b then next (s key) else s key) none

-- a part to which 1 was added
-- profile
abbrev pub next_part : ℕ → ℕ → HeldPart ℕ
next_part key n = record { key = key; content = next n; changed = true }
