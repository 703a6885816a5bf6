-- What the descriptors from this number on do makes it what all do.
use Rattle.std.proofs.Common.{◌≡◌}
use Rattle.fd_table.specs.Tables.{descriptions_of}
use Rattle.kernel_model.specs.laws.Files.{all_counted}
use Rattle.file_changes.proofs.FileCounts.{descriptions_at, numbers_from}
use Rattle.file_changes.proofs.counts.count_each.Given as goal

abbrev pub invariant-loop-fd : goal.invariant-loop-fd
invariant-loop-fd l =
    all_counted (descriptions_at l.table (numbers_from l.fd)) l.descriptions
    ≡ all_counted (descriptions_of l.table) l.initial.descriptions
