-- What the descriptors from this number on do makes it what all do.
use Rattle.std.proofs.Common.{◌≡◌}
use Rattle.fd_table.specs.Tables.{descriptions_of}
use Rattle.kernel_model.specs.laws.Files.{all_dropped}
use Rattle.file_changes.proofs.FileCounts.{descriptions_at, numbers_from}
use Rattle.file_changes.proofs.counts.drop_each.Given as goal

abbrev pub invariant-loop-fd : goal.invariant-loop-fd
invariant-loop-fd l =
    all_dropped (descriptions_at l.table (numbers_from l.fd)) l.files
    ≡ all_dropped (descriptions_of l.table) l.initial.files
