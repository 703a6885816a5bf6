use Rattle.std.proofs.Common.{sym, subst, ◌∙◌}
use Rattle.std.specs.List.Sorted.{IsBinarySearchResult}
use Rattle.std.specs.Ordering.{nat_cmp}
use Rattle.std.proofs.lemmas.Result.{MatchResult-at_err, MatchResult-at_ok}
use Rattle.task_table.proofs.Ascending.{dropped_found}
use Rattle.task_table.proofs.exits.take_out.Goals as goal

pub returns-in-Ok : goal.returns-in-Ok
returns-in-Ok c =
    let r = c.binary_search.result in
    let position =
    subst (λ xs. IsBinarySearchResult (λ y. nat_cmp y c.args.number) xs r) c.deref.ensures.value
    c.binary_search.ensures.position in
    c.remove.ensures.items
    ∙ sym (MatchResult-at_ok _ _ c.in-Ok.place c.in-Ok.is
    (dropped_found c.args.numbers.now.items c.args.number r c.requires position))

pub returns-in_default : goal.returns-in_default
returns-in_default c =
    let r = c.binary_search.result in
    let position =
    subst (λ xs. IsBinarySearchResult (λ y. nat_cmp y c.args.number) xs r) c.deref.ensures.value
    c.binary_search.ensures.position in
    sym (MatchResult-at_err _ _ c.in_default.field-0 c.in_default.is
    (dropped_found c.args.numbers.now.items c.args.number r c.requires position))
