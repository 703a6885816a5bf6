-- Where just one mount lies at `/`, it is found.
use Rattle.std.proofs.Common.{◌≡◌, ◌<◌, ◌∷◌, [], length, filter, Some, None, is_none, arith}
use Rattle.std.specs.List.{position_or_len}
use Rattle.mount_tree.specs.Mounts.{HasOneRoot, Places}

pub has_root : (places : Places) → HasOneRoot places → position_or_len is_none places < length places
has_root [] one = absurd (cc one)
has_root (None ∷ places) one = omega arith
has_root (Some name ∷ places) one = let h = has_root places one in omega (arith, h)
