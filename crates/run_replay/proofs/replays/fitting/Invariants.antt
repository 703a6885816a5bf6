-- The entries so far are steps.
use Rattle.std.proofs.Common.{◌≡◌, ◌+◌, take}
use Rattle.std.specs.Prelude.{Some}
use Rattle.kernel_model.specs.entries.History.{replay}
use Rattle.run_replay.proofs.replays.fitting.Given as goal

-- the entries so far lead to the kernel, which has made so many more
abbrev pub invariant-loop-index : goal.invariant-loop-index
invariant-loop-index l = record {
  leads : replay l.fn.plain.kernel (take l.index l.trace) ≡ Some l.plain.kernel;
  made : l.plain.kernel.entries ≡ l.fn.plain.kernel.entries + l.index;
}
