use Rattle.std.proofs.Common.{map}
use Rattle.std.specs.Prelude.{flat_map}
use Rattle.worker_pool.proofs.pool.Pool.run.Given as goal

-- the table that was just made
abbrev pub ghosts-run_named-J-OfTies : goal.ghosts-run_named-J-OfTies
ghosts-run_named-J-OfTies g a = record { ties = a.opened.table.shared.table_id }

-- what was handed in
abbrev pub ghosts-run_named-J-Handed : goal.ghosts-run_named-J-Handed
ghosts-run_named-J-Handed g a = record {
  handed = map g.T.Turn.number a.handed.items;
  before = flat_map g.T.Turn.forked a.handed.items;
}
