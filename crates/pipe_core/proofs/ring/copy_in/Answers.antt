use Rattle.std.proofs.Common.{arith, ◌+◌, ◌-◌, ◌≡◌}
use Rattle.std.proofs.lemmas.List.{take_rest}
use Rattle.pipe_core.proofs.Rounds.{moved_put, moved_others}
use Rattle.pipe_core.proofs.ring.copy_in.Goals as goal

pub returns-clause-put : goal.returns-clause-put
returns-clause-put c i in_range =
    let same : c.args.start + c.min-first.result - c.args.start ≡ c.min-first.result = omega arith in
    rw (
      c.copy_from_slice-2.ensures.after,
      c.copy_from_slice.ensures.after,
      same,
      take_rest c.args.bytes.now c.min-first.result,
    ) (
    moved_put c.args.start c.min-first.result c.args.slots.now c.args.bytes.now c.requires.start c.requires.slots
    c.requires.within c.min-first.ensures i in_range
    )

pub returns-clause-kept : goal.returns-clause-kept
returns-clause-kept c i past in_range =
    let same : c.args.start + c.min-first.result - c.args.start ≡ c.min-first.result = omega arith in
    rw (
      c.copy_from_slice-2.ensures.after,
      c.copy_from_slice.ensures.after,
      same,
      take_rest c.args.bytes.now c.min-first.result,
    ) (
    moved_others c.args.start c.min-first.result c.args.slots.now c.args.bytes.now c.requires.start c.requires.slots
    c.requires.within c.min-first.ensures i past in_range
    )
