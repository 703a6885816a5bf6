use Rattle.std.proofs.Common.{ℕ, ◌<◌, ◌≤◌, IsSome}
use Rattle.std.specs.FinMap as map
use Rattle.fd_table.specs.Slots.{table_of}
use Rattle.fd_table.proofs.slots.first_free.Given as goal

-- each number from the first on and below this one is taken
abbrev pub invariant-loop-fd : goal.invariant-loop-fd
invariant-loop-fd l = (n : ℕ) → l.from ≤ n → n < l.fd → IsSome (map.get (table_of l.slots) n)
