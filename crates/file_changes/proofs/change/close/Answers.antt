-- A number that isn't open.
use Rattle.std.proofs.Common.{refl, sym}
use Rattle.file_changes.proofs.Unchanged.{not_closed}
use Rattle.file_changes.proofs.change.close.Goals as goal

pub returns-in_default-close : goal.returns-in_default-close
returns-in_default-close c =
    not_closed c.args.table c.args.files.now c.in-Some.numbers.now c.close.new.self (sym c.in-Some.ensures.value)
    c.in_default-close.ensures.err c.args.number c.in_default-close.field-0 _ refl c.in_default-close.ensures.answer
