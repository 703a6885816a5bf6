-- Where there is no such table nothing is closed.
use Rattle.std.proofs.Common.{sym}
use Rattle.file_changes.proofs.FileCounts.{no_table}
use Rattle.file_changes.proofs.counts.close_table.Goals as goal

pub returns-in_default : goal.returns-in_default
returns-in_default c =
    no_table c.args.name c.args.files.now c.remove.new.self (sym c.in_default.ensures.value) c.in_default.ensures.after
