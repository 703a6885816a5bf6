-- How a run comes out, from how it ended and what the sink took.
use Rattle.std.specs.Prelude.{◌≡◌, ◌⊎◌, ℕ, ◌<◌, List, take, length, Option}
use Rattle.sn_base.specs.Faults.{Rose}
use Rattle.sn_edge.specs.Taken.{with_taken}
use Rattle.kernel_model.specs.declared.kernel.Kernel.{Kernel}
use Rattle.sentry_run.specs.declared.outcome.Fault.{Fault}
use Rattle.sentry_run.specs.declared.outcome.Fault.TheVariants as faults
use Rattle.sentry_run.specs.declared.play.End.{End}
use Rattle.sentry_run.specs.declared.play.End.TheVariants as ends
use Rattle.sentry_run.specs.Sides.{Side}

-- the sink took a front of the text
-- write(2): a write may take a part
abbrev pub Fronts : (before after : Option (List ℕ)) → List ℕ → Type 0
Fronts before after text = (n : ℕ) × (after ≡ with_taken before (take n text))

-- the sink took a front of the text, but not all of it
-- write(2): a write may take a part
abbrev pub StopsShort : (before after : Option (List ℕ)) → List ℕ → Type 0
StopsShort before after text = (n : ℕ) × (n < length text) × (after ≡ with_taken before (take n text))

-- the sink took nothing, or not all of the text
-- write(2): a write may take a part
abbrev pub IsCutOff : (before after : Option (List ℕ)) → List ℕ → Type 0
IsCutOff before after text = (after ≡ before) ⊎ StopsShort before after text

-- the text was taken and the run came out so, or the sink failed before its end, or memory ran out before it
-- profile
abbrev pub Writes : (text : List ℕ) → (whole : Fault) → (before after : Side (List ℕ)) → Fault → Type 0
Writes text whole before after fault =
    ((fault ≡ whole) × (after.told ≡ with_taken before.told text))
    ⊎ ((fault ≡ faults.SinkFault) × Rose before.count after.count × StopsShort before.told after.told text)
    ⊎ ((fault ≡ faults.Memory) × IsCutOff before.told after.told text)

-- how a run comes out that ended so, from the text of each state
-- profile
abbrev pub Concludes : End → (text_of : Kernel → List ℕ) → (before after : Side (List ℕ)) → Fault → Type 0
Concludes (ends.Done kernel) text_of before after fault = Writes (text_of kernel) faults.Done before after fault
Concludes (ends.Full kernel) text_of before after fault = Writes (text_of kernel) faults.Full before after fault
Concludes (ends.Stuck kernel) text_of before after fault = Writes (text_of kernel) faults.Stuck before after fault
Concludes (ends.Image task errno) text_of before after fault =
    (fault ≡ faults.Image task errno) × (after.told ≡ before.told)
Concludes ends.HostFault text_of before after fault = (fault ≡ faults.HostFault) × (after.told ≡ before.told)
Concludes (ends.Grant mount) text_of before after fault =
    (fault ≡ faults.Grant mount) × (after.told ≡ before.told)
Concludes ends.Memory text_of before after fault = (fault ≡ faults.Memory) × (after.told ≡ before.told)
