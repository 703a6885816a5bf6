-- The copy is found under its name, and what it has is counted.
use Rattle.std.proofs.Common.{sym}
use Rattle.file_changes.proofs.FileCounts.{copied, copy_there}
use Rattle.file_changes.proofs.counts.copy_table.Goals as goal

pub returns-in-Some-get-clause-ok : goal.returns-in-Some-get-clause-ok
returns-in-Some-get-clause-ok c =
    let a = c.args in
    copied a.name a.copy a.files.now c.in-Some.table.now c.in_ok-made.made c.insert.new.self (sym c.in-Some.ensures)
    c.in_ok-made.ensures c.in_ok-insert.ensures.ok c.in-Some-get.table.now c.count_each.new.descriptions
    (sym c.in-Some-get.ensures) c.count_each.ensures

pub returns-in_default-get-clause-ok : goal.returns-in_default-get-clause-ok
returns-in_default-get-clause-ok c =
    let a = c.args in
    absurd (copy_there a.name a.copy a.files.now c.in-Some.table.now c.in_ok-made.made c.insert.new.self
    (sym c.in-Some.ensures) c.in_ok-made.ensures c.in_ok-insert.ensures.ok (sym c.in_default-get.ensures))
