use Rattle.std.proofs.Common.{◌≡◌, drop}
use Rattle.toml.specs.View.{items_view}
use Rattle.mount_file.specs.Values.{texts_in}
use Rattle.mount_file.proofs.Arrays.{behind}
use Rattle.mount_file.proofs.values.texts_in.Given as goal

-- the texts so far go before those of the items that are left
abbrev pub invariant-loop-item : goal.invariant-loop-item
invariant-loop-item l = texts_in (items_view l.items)
    ≡ behind l.texts (texts_in (items_view (drop l.item-index l.items)))
