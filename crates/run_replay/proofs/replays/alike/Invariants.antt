-- The bytes so far are alike.
use Rattle.std.proofs.Common.{◌≡◌, take}
use Rattle.run_replay.proofs.replays.alike.Given as goal

abbrev pub invariant-loop-index : goal.invariant-loop-index
invariant-loop-index l = take l.index l.one ≡ take l.index l.other
