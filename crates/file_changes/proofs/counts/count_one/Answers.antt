-- Where there is no such description nothing is counted.
use Rattle.std.proofs.Common.{sym}
use Rattle.file_changes.proofs.FileCounts.{not_counted}
use Rattle.file_changes.proofs.counts.count_one.Goals as goal

pub returns-in_default : goal.returns-in_default
returns-in_default c = not_counted c.args.name c.args.descriptions.now (sym c.in_default.ensures.value)
