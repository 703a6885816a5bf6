-- What doing the trace of a run again comes to.
use Rattle.std.specs.Prelude.{◌≡◌, ◌≢◌, ◌⊎◌, ◌<◌, ◌≤◌, ◌+◌, ℕ, List, take, length, Bool, Option, Some, None}
use Rattle.std.specs.Prelude.{IsSomeAnd, option_and_then}
use Rattle.host_node.specs.Tree.{Shape}
use Rattle.kernel_model.specs.declared.entry.Entry.{Entry}
use Rattle.kernel_model.specs.declared.kernel.Kernel.{Kernel}
use Rattle.kernel_model.specs.declared.opening.Opening.{Opening}
use Rattle.kernel_model.specs.entries.History.{replay}
use Rattle.kernel_model.specs.opening.Opening.{opening_of}
use Rattle.kernel_model.specs.printed.Printed.{printed}
use Rattle.mount_file.specs.declared.mounts.Mounts.{Mounts}
use Rattle.mount_file.specs.declared.rules.TheConstants.{MOST_TASKS}
use Rattle.mount_file.specs.declared.values.TheConstants.{MOST_ENTRIES}
use Rattle.run_replay.specs.declared.replays.Replayed.{Replayed}
use Rattle.run_replay.specs.declared.replays.Replayed.TheVariants.{Same, Unopened, Step, Text, Beyond}
use Rattle.sentry_run.specs.Outcome.{started_kernel}
use Rattle.sentry_run.specs.declared.outcome.Outcome.{Outcome}

-- the kernel that an opening starts over the trees that were granted: none without a mount file
-- profile
abbrev pub kernel_started : Option Mounts → List Shape → Opening → Option Kernel
kernel_started None trees opening = None
kernel_started (Some mounts) trees opening = started_kernel (opening_of mounts trees opening)

-- what is done again: from where, which entries, and the text that they are to lead to, with the trace or without it
-- profile
pub record Course : Type 0 where
  pub start : Option Kernel
  pub trace : List Entry
  pub flag : Bool
  pub text : List ℕ

-- the course of a run over these trees, with the text that came of it
-- profile
abbrev pub course_of : Outcome → List Shape → Bool → List ℕ → Course
course_of run trees flag text = record {
  start = kernel_started run.mounts trees run.opening;
  trace = run.trace;
  flag = flag;
  text = text;
}

-- the state that so many of the entries lead to, the first of them first, where each is a step
-- profile
abbrev pub state_behind : Course → (count : ℕ) → Option Kernel
state_behind course count = option_and_then (λ (k : Kernel). replay k (take count course.trace)) course.start

-- the text of that state
-- profile
abbrev pub text_behind : Course → Kernel → List ℕ
text_behind course k = printed k course.trace course.flag

-- two texts begin alike, so far, and are not the same
-- profile
pub record IsApartFrom (same : ℕ) (one other : List ℕ) : Type 0 where
  pub alike : take same one ≡ take same other
  pub apart : one ≢ other

-- there are more tasks than a run has, or a kernel would make more entries than one makes
-- profile
abbrev pub IsBeyond : Option Mounts → Course → Type 0
IsBeyond mounts course =
    IsSomeAnd mounts (λ m. MOST_TASKS < length m.tasks)
    ⊎ IsSomeAnd course.start (λ k. MOST_ENTRIES < k.entries + length course.trace)

-- what an answer says: all entries are steps and lead to the text; or there is no kernel to begin with; or so many are
-- steps and the next is none; or all are, and lead to another text
-- profile
abbrev pub Says : Option Mounts → Course → Replayed → Type 0
Says mounts course (Same entries) =
    (entries ≡ length course.trace)
    × IsSomeAnd (state_behind course entries) (λ k. text_behind course k ≡ course.text)
Says mounts course (Unopened task) = course.start ≡ None
Says mounts course (Step done) =
    (done < length course.trace) × (k : Kernel) × (state_behind course done ≡ Some k)
    × (state_behind course (done + 1) ≡ None)
Says mounts course (Text same) =
    IsSomeAnd (state_behind course (length course.trace)) (λ k. IsApartFrom same (text_behind course k) course.text)
Says mounts course Beyond = IsBeyond mounts course

-- so many of a trace's entries are steps from a kernel, and lead to another; where there is one more, that is none
-- profile
pub record Fits (from : Kernel) (trace : List Entry) (count : ℕ) (to : Kernel) : Type 0 where
  pub within : count ≤ length trace
  pub leads : replay from (take count trace) ≡ Some to
  pub stops : count < length trace → replay from (take (count + 1) trace) ≡ None
