use Rattle.std.proofs.Common.{arith, ◌<◌, ◌∙◌, sym, length}
use Rattle.std.proofs.lemmas.List.{get_or_default}
use Rattle.futex_core.proofs.Picks.{picked_wakes, picked_full, picked_other}
use Rattle.futex_core.proofs.waiters.pick.Goals as goal
use Rattle.futex_core.proofs.waiters.pick.Goals.{then-count-n+then-is_same_word, else-count-n}
use Rattle.futex_core.proofs.waiters.pick.Goals.{else-count-n-via-then-count-n+else-is_same_word}
use Rattle.futex_core.proofs.waiters.pick.Goals.{else-count-n-via-else-count-n}

pub loop-at-preserved : goal.loop-at-preserved
loop-at-preserved c =
    let within : c.loop-at.at < length c.loop-at.sleepers = omega arith in
    elim c.if-count-n.branch [
      | then-count-n+then-is_same_word w ↦
          rw (w.sleepers-is, w.woken-is, w.count-is, w.left-is, w.push_reserved.ensures.items) (
            picked_wakes _ _ _ _ _ _ _ _ _ c.requires.once c.loop-at.invariant.0 within
                (get_or_default _ _ _ _ within) w.if-count-n.true (sym w.is_same_word.ensures.word
                ∙ w.if-is_same_word.true),
            omega (arith, w.push_reserved.ensures.len, c.loop-at.invariant.1),
            w.push_reserved.ensures.capacity ∙ c.loop-at.invariant.2,
          )
      | else-count-n w ↦
          rw (w.sleepers-is, w.woken-is, w.count-is, w.left-is) (
            elim w.else-count-n.branch [
              | else-count-n-via-then-count-n+else-is_same_word w' ↦
                  picked_other _ _ _ _ _ _ _ _ _ c.requires.once c.loop-at.invariant.0 within
                  (get_or_default _ _ _ _ within) (sym w'.is_same_word.ensures.word ∙ w'.if-is_same_word.false)
              | else-count-n-via-else-count-n w' ↦
                  picked_full _ _ _ _ _ _ _ _ _ c.requires.once c.loop-at.invariant.0 within
                  (get_or_default _ _ _ _ within) w'.if-count-n.false
            ],
            c.loop-at.invariant.1,
            c.loop-at.invariant.2,
          )
    ]
