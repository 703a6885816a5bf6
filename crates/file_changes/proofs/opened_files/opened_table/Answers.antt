-- Each number is the lowest free one, since just those below it were opened.
use Rattle.std.proofs.Common.{false, arith}
use Rattle.kernel_model.specs.descriptors.OpenFiles.{descriptor_of}
use Rattle.kernel_model.specs.opening.Opening.{stream_made}
use Rattle.file_changes.proofs.LowestNumbers.{lowest_is, open_more, open_none}
use Rattle.file_changes.proofs.opened_files.opened_table.Goals as goal

pub open_stream-requires-clause-lowest : goal.open_stream-requires-clause-lowest
open_stream-requires-clause-lowest c =
    lowest_is c.in_ok-table.table 0 (omega arith) (open_none c.in_ok-table.table c.in_ok-table.ensures)

pub open_stream-requires-2-clause-lowest : goal.open_stream-requires-2-clause-lowest
open_stream-requires-2-clause-lowest c =
    lowest_is c.open_stream.new.table 1 (omega arith)
    (open_more c.in_ok-table.table 0 (descriptor_of (stream_made c.args.number 0) false)
    (open_none c.in_ok-table.table c.in_ok-table.ensures) c.open_stream.new.table c.open_stream.ensures)

pub open_stream-requires-3-clause-lowest : goal.open_stream-requires-3-clause-lowest
open_stream-requires-3-clause-lowest c =
    lowest_is c.open_stream-2.new.table 2 (omega arith)
    (open_more c.open_stream.new.table 1 (descriptor_of (stream_made c.args.number 1) false)
    (open_more c.in_ok-table.table 0 (descriptor_of (stream_made c.args.number 0) false)
    (open_none c.in_ok-table.table c.in_ok-table.ensures) c.open_stream.new.table c.open_stream.ensures)
    c.open_stream-2.new.table c.open_stream-2.ensures)
