-- Trees without the counts of failed calls of their nodes.
use Rattle.std.specs.Prelude.{◌≡◌}
use Rattle.host_node.specs.Tree.{Shape, Children, directory, file, link, lent, no_children, child}

abbrev mutual
  -- a tree with no failed call counted at any node
  -- profile
  pub uncounted : Shape → Shape
  uncounted (directory mode faults entries) = directory mode 0 (all_uncounted entries)
  uncounted (file bytes mode faults) = file bytes mode 0
  uncounted (link text faults) = link text 0
  uncounted (lent kind) = lent kind

  -- entries with no failed call counted at any node
  -- profile
  pub all_uncounted : Children → Children
  all_uncounted no_children = no_children
  all_uncounted (child name shape rest) = child name (uncounted shape) (all_uncounted rest)

-- two trees are one but for the counts of failed calls
-- profile
abbrev pub AreAlikeUncounted : Shape → Shape → Type 0
AreAlikeUncounted t other = uncounted t ≡ uncounted other
