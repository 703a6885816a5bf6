-- A number that isn't open, or may not be given.
use Rattle.std.proofs.Common.{refl, sym}
use Rattle.file_changes.proofs.Unchanged.{not_given, not_had}
use Rattle.file_changes.proofs.change.give.Goals as goal

pub returns-in_default-get : goal.returns-in_default-get
returns-in_default-get c =
    let a = c.args in
    not_had a.table a.files.now c.in-Some.numbers.now c.in-Some.numbers.now (sym c.in-Some.ensures.value) refl
    a.from a.number a.cloexec (sym c.in_default-get.ensures.value)

pub returns-in_default-dup3 : goal.returns-in_default-dup3
returns-in_default-dup3 c =
    let a = c.args in
    not_given a.table a.files.now c.in-Some.numbers.now c.dup3.new.self (sym c.in-Some.ensures.value)
    c.in_default-dup3.ensures.err a.from a.number a.cloexec c.in_default-dup3.field-0 c.in_default-dup3.ensures.fault
