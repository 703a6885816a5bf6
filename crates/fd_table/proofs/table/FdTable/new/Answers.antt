use Rattle.std.proofs.Common.{rules, ap, ◌∙◌}
use Rattle.fd_table.specs.Slots.{table_of}
use Rattle.fd_table.proofs.SlotLaws.{table_of_free}
use Rattle.fd_table.proofs.table.FdTable.new.Goals as goal

pub returns : goal.returns
returns c = ap table_of (c.in_ok-slots.ensures.items_if_clones_equal (λ y h. search rules)) ∙ table_of_free 256
