-- The word of the first, and then those of the rest.
use Rattle.std.proofs.Common.{sym, subst}
use Rattle.kernel_calls.specs.ClearWords.{IsCleared}
use Rattle.kernel_calls.proofs.ClearedWords.{words_comes}
use Rattle.kernel_calls.proofs.clear_words.+clear_each.Goals as goal

pub returns-in_ok-clear_each-clause-cleared : goal.returns-in_ok-clear_each-clause-cleared
returns-in_ok-clear_each-clause-cleared t c caller x all s same own those so_far =
    let new = c.clear_each.new in
    subst (λ y. IsCleared y all new.space new.areas new.keys)
    (sym (words_comes caller c.args.ended.now _ x s c.in-len1-up.len_at_least))
    (c.in_ok-clear_each.ensures.cleared caller _ all s same own those
    (c.in_ok-clear.ensures.cleared caller x all s same own those so_far))
