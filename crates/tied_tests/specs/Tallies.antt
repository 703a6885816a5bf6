-- The machine of counters and pairs.
use Rattle.std.specs.Prelude.{◌==◌, ◌+◌, ◌%◌, ◌^◌, ◌||◌, ℕ, Bool, true, false, if◌then◌else◌}
use Rattle.std.proofs.Common.{ap}
use Rattle.tied_cells.specs.Machines.{Rules, Stays}
use Rattle.tied_tests.specs.declared.machine.Part.{Part}
use Rattle.tied_tests.specs.declared.machine.Part.TheVariants.{Counter, Pair}
use Rattle.tied_tests.specs.declared.machine.Entry.{Entry}
use Rattle.tied_tests.specs.declared.machine.Entry.TheVariants.{Add, Put, Move}

-- page 0 has a pair, page 1 all that is moved, and the others nothing
-- profile
abbrev pub opening : ℕ → Part
opening key = if key == 0 then Pair 1 10 else (if key == 1 then Counter 1000 else Counter 0)

-- a pair, and no counter
-- profile
abbrev pub is_pair : Part → Bool
is_pair (Counter n) = false
is_pair (Pair a b) = true

-- a counter to which a pair's first was added is this
-- profile
abbrev pub is_sum : Part → Part → ℕ → Bool
is_sum (Counter m) c reply = false
is_sum (Pair a b) (Counter n) reply = reply == (n + a) % 2 ^ 64
is_sum (Pair a b) (Pair m n) reply = false

-- two counters have this together
-- profile
abbrev pub have : Part → Part → ℕ → Bool
have (Counter m) (Counter n) sum = m + n == sum
have (Counter m) (Pair a b) sum = false
have (Pair a b) c sum = false

-- a sum is that of the pair's first and the counter; what is written is a pair; and a move leaves as much as there was
-- profile
abbrev pub fits : ℕ → (ℕ → Part) → Entry → Bool
fits n s (Add t p c reply) = is_sum (s p) (s c) reply
fits n s (Put t p a b) = is_pair (s p)
fits n s (Move t l h a b) = if l == h then false else have (s l) (s h) (a + b)

-- a counter, a pair, or two counters
-- profile
abbrev pub touches : (ℕ → Part) → Entry → ℕ → Bool
touches s (Add t p c reply) key = c == key
touches s (Put t p a b) key = p == key
touches s (Move t l h a b) key = (l == key) || (h == key)

-- what an entry leaves in a part that it touches
-- profile
abbrev pub written : Entry → ℕ → Part
written (Add t p c reply) key = Counter reply
written (Put t p a b) key = Pair a b
written (Move t l h a b) key = if l == key then Counter a else Counter b

-- the other parts stay
-- profile
abbrev pub after : ℕ → (ℕ → Part) → Entry → ℕ → Part
after n s e key = if touches s e key then written e key else s key

-- whose an entry is
-- profile
abbrev pub task : Entry → ℕ
task (Add t p c reply) = t
task (Put t p a b) = t
task (Move t l h a b) = t

-- counters and pairs
-- profile
abbrev pub tally : Rules Part Entry
tally = record { opening = opening; fits = fits; after = after; touches = touches; task = task }

-- a part that isn't touched stays
-- profile
pub tally_stays : Stays tally
tally_stays n s e key none = ap (λ (b : Bool). if b then written e key else s key) none
