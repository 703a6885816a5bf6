-- The words are cleared in place, or in copies.
use Rattle.kernel_model.specs.calls.ClearWords.{nothing_cleared}
use Rattle.kernel_calls.proofs.ClearedWords.{cleared_nothing}
use Rattle.kernel_calls.proofs.clear_words.clear_words.Goals.{then-has_few+in_ok-clear_each}
use Rattle.kernel_calls.proofs.clear_words.clear_words.Goals.{else-has_few+in_ok-clear_copies}
use Rattle.kernel_calls.proofs.clear_words.clear_words.Goals as goal

pub returns-clause-cleared : goal.returns-clause-cleared
returns-clause-cleared c caller s same own at those =
    let a = c.args in
    elim c.if-has_few.branch [
      | then-has_few+in_ok-clear_each w ↦
          rw (w.space-is, w.areas-is, w.keys-is) (w.in_ok-clear_each.ensures.cleared caller
          (nothing_cleared caller.space) a.areas.now s same own those
          (cleared_nothing a.space.now a.areas.now caller.space at _ c.new-keys.ensures))
      | else-has_few+in_ok-clear_copies w ↦
          rw (w.space-is, w.areas-is, w.keys-is) (w.in_ok-clear_copies.ensures.cleared caller
          (nothing_cleared caller.space) a.areas.now s same own those
          (cleared_nothing a.space.now a.areas.now caller.space at _ c.new-keys.ensures))
    ]
