use Rattle.std.proofs.Common.{rules, tests, ◌≡◌, ◌∙◌, length, arith}
use Rattle.std.specs.Prelude.{filter, is_some}
use Rattle.std.proofs.lemmas.Iterator.{YieldsList-from_slice}
use Rattle.std.proofs.lemmas.Iterator.Consumers.{YieldsList-from_filter, count_from_yields_List}
use Rattle.fd_table.proofs.ListLaws.{len_counted, counted_within}
use Rattle.fd_table.proofs.slots.count_open.Goals as goal

pub returns : goal.returns
returns c =
    let slots = c.args.slots.now in
    let counted : c.count.result ≡ length (filter is_some slots) =
    count_from_yields_List c.filter.result _ c.count.ensures.ran
    (YieldsList-from_filter _ _ (YieldsList-from_slice slots cc) c.filter.ensures.closure
    (λ x r q k. search (rules, tests))) in
    record {
      value = counted ∙ len_counted slots;
      few = omega (arith, counted_within slots);
    }
