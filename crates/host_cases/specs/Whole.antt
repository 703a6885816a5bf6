-- Hosts and nodes of which nothing stands with a borrower.
use Rattle.std.specs.Prelude.{◌≡◌, true, Option, Some, None, ⊤}
use Rattle.host_node.specs.Tree.{Shape, none_lent}

-- what is told, if anything, has nothing that stands with a borrower
-- profile
abbrev pub IsWhole : Option Shape → Type 0
IsWhole None = ⊤
IsWhole (Some t) = none_lent t ≡ true
