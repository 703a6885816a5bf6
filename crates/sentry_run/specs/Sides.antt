-- The three sides of a run, as they are at one moment: the source of the mount file, the host and the sink of the text.
use Rattle.std.specs.Prelude.{ℕ, List, Option}
use Rattle.host_node.specs.Tree.{Shape}
use Rattle.sn_edge.specs.Shelf.{Shelf}

-- what a side tells at a moment, where it tells, and how many of its calls have failed by then
-- profile
pub record Side (A : Type 0) : Type 0 where
  pub told : Option A
  pub count : ℕ

-- the source and its files, the host and its world, the sink and the bytes that it has taken
-- profile
pub record Sides : Type 0 where
  pub source : Side Shelf
  pub host : Side Shape
  pub sink : Side (List ℕ)

-- a side that tells and counts so, and the three together
-- profile
abbrev pub side : {A : Type 0} → Option A → ℕ → Side A
side told count = record { told = told; count = count }

abbrev pub sides : Side Shelf → Side Shape → Side (List ℕ) → Sides
sides source host sink = record { source = source; host = host; sink = sink }
