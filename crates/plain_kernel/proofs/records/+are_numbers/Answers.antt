-- Numbers count up from the first where each is one above the number before.
use Rattle.std.proofs.Common.{◌+◌, ◌-◌, nat_eq, sym, ap, ◌∙◌, arith}
use Rattle.kernel_model.specs.files.Numbers.{count_up}
use lib.Pointwise.{pointwise}
use Rattle.plain_kernel.proofs.CountLemmas.{no_numbers, some_for_none, other_first, then_others, rest_of}
use Rattle.plain_kernel.proofs.records.+are_numbers.Goals as goal

pub returns-in-empty : goal.returns-in-empty
returns-in-empty t c = no_numbers c.args.numbers.now c.args.first c.args.count c.in-empty.len_below

pub returns-then-count-eq0 : goal.returns-then-count-eq0
returns-then-count-eq0 t c =
    sym (some_for_none c.args.numbers.now c.args.first c.args.count c.in-len1-up.len_at_least c.if-count-eq0.true)

pub returns-then-number-first : goal.returns-then-number-first
returns-then-number-first t c =
    sym (other_first c.args.numbers.now c.args.first c.args.count c.in-len1-up.len_at_least (omega arith)
    c.if-number-first.true)

pub returns-else-number-first : goal.returns-else-number-first
returns-else-number-first t c =
    c.are_numbers.ensures
    ∙ ap (λ xs. pointwise nat_eq xs (count_up (c.args.first + 1) (c.args.count - 1))) (rest_of c.args.numbers.now)
    ∙ sym (then_others c.args.numbers.now c.args.first c.args.count c.in-len1-up.len_at_least
    (omega arith) c.if-number-first.false)
