-- How many sleep on a word.
use Rattle.std.proofs.Common.{rules, tests, ◌≡◌, ◌∙◌, length, sym}
use Rattle.std.specs.Prelude.{filter}
use Rattle.std.proofs.lemmas.Iterator.{YieldsList-from_slice}
use Rattle.std.proofs.lemmas.Iterator.Consumers.{YieldsList-from_filter, count_from_yields_List}
use Rattle.std.proofs.lemmas.List.{length-map}
use Rattle.futex_core.specs.declared.waiters.Sleeper.{Sleeper}
use Rattle.futex_core.specs.Keys.{same_word}
use Rattle.futex_core.proofs.waiters.count_on.Goals as goal

pub returns : goal.returns
returns c =
    let sleepers = c.args.sleepers.now in
    let key = c.args.key.now in
    let counted : c.count.result ≡ length (filter (λ s. same_word s.key key) sleepers) =
    count_from_yields_List c.filter.result _ c.count.ensures.ran
    (YieldsList-from_filter _ _ (YieldsList-from_slice sleepers cc) c.filter.ensures.closure
    (λ x r q k. search (rules, tests))) in
    counted ∙ sym (length-map (filter (λ s. same_word s.key key) sleepers) (λ (s : Sleeper). s.task))
