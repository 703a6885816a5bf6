use Rattle.std.proofs.Common.{subst}
use Rattle.fd_table.specs.Tables.{IsWithinLimit}
use Rattle.fd_table.proofs.SlotLaws.{within_slots}
use Rattle.fd_table.proofs.table.FdTable.get.Goals as goal

pub returns-clause-within : goal.returns-clause-within
returns-clause-within c = subst IsWithinLimit c.self.view_is (within_slots c.self.inside.slots.items c.self.invariant)
