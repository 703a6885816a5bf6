use Rattle.std.proofs.Common.{rules, arith}
use Rattle.toml.specs.View.{table_view}
use Rattle.mount_file.proofs.Faults.{fault_read}
use Rattle.mount_file.proofs.read.read_mounts.Goals as goal

pub returns-in-Ok-table_from_str-clause-fault : goal.returns-in-Ok-table_from_str-clause-fault
returns-in-Ok-table_from_str-clause-fault c =
    fault_read c.args.bytes.now (table_view c.in-Ok-table_from_str.document) c.document_read.result
    (record { short = omega arith; text = search rules; parsed = search rules }) c.document_read.ensures
