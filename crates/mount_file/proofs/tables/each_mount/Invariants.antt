use Rattle.std.proofs.Common.{◌≡◌, drop}
use Rattle.toml.specs.View.{items_view}
use Rattle.mount_file.specs.Tables.{each_in, mount_in}
use Rattle.mount_file.proofs.Arrays.{behind}
use Rattle.mount_file.proofs.tables.each_mount.Given as goal

-- the mounts so far go before those of the items that are left
abbrev pub invariant-loop-item : goal.invariant-loop-item
invariant-loop-item l = each_in mount_in (items_view l.items)
    ≡ behind l.mounts (each_in mount_in (items_view (drop l.item-index l.items)))
