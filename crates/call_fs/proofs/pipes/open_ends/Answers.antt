-- Both numbers are open in the table.
use Rattle.std.proofs.Common.{◌≡◌, ap}
use Rattle.kernel_model.specs.Names.{with_named}
use Rattle.call_fs.proofs.MadePipes.{ends_open}
use Rattle.call_fs.proofs.pipes.open_ends.Goals as goal

pub returns-in-Some : goal.returns-in-Some
returns-in-Some c table there free =
    let a = c.args in
    let same : c.in-Some.numbers.now ≡ table = cc (c.in-Some.ensures.value, there) in
    ap (with_named a.tables.now a.table.place a.table.index)
    (ends_open table a.ends.now.first a.ends.now.second c.in-Some.numbers.now c.open_number.new.numbers
    c.open_number-in-Some.new.numbers _ _ free same c.open_number.ensures c.open_number-in-Some.ensures)
