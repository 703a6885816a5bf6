-- What so many steps of a trace let an answer say, of a kernel and of a run.
use Rattle.std.proofs.Common.{◌≡◌, ℕ, ◌<◌, ◌≤◌, List, take, length, ap, sym, subst, ◌∙◌, arith}
use Rattle.std.specs.Prelude.{◌≢◌, Bool, Option, Some, Result, IsSomeAnd, IfOk}
use Rattle.host_node.specs.Tree.{Shape}
use Rattle.kernel_model.specs.declared.entry.Entry.{Entry}
use Rattle.kernel_model.specs.declared.kernel.Kernel.{Kernel}
use Rattle.kernel_model.specs.entries.History.{replay}
use Rattle.kernel_model.specs.opening.Opening.{Opens, opening_of}
use Rattle.kernel_model.specs.printed.Printed.{printed}
use Rattle.mount_file.specs.declared.mounts.Mounts.{Mounts}
use Rattle.sentry_run.specs.Outcome.{started_kernel}
use Rattle.sentry_run.specs.declared.outcome.Outcome.{Outcome}
use Rattle.sn_base.specs.declared.memory.Memory.{Memory}
use Rattle.run_replay.specs.Replays.{Course, Fits, IsApartFrom, Says, course_of, kernel_started}
use Rattle.run_replay.specs.declared.replays.Replayed.{Replayed}
use Rattle.run_replay.specs.declared.replays.Replayed.TheVariants.{Step, Text}

-- what is done again from a kernel
abbrev pub from_kernel : Kernel → List Entry → Bool → List ℕ → Course
from_kernel k trace flag text = record { start = Some k; trace = trace; flag = flag; text = text }

-- an entry that is no step
pub says_step : (m : Option Mounts) (k after : Kernel) (trace : List Entry) (flag : Bool) (text : List ℕ) (done : ℕ)
    → Fits k trace done after → done < length trace → Says m (from_kernel k trace flag text) (Step done)
says_step m k after trace flag text done fits short = (short, after, fits.leads, fits.stops short)

-- all are steps
whole : (k after : Kernel) (trace : List Entry) (done : ℕ) → Fits k trace done after → length trace ≤ done
    → done ≡ length trace
whole k after trace done fits long = omega (arith, fits.within, long)

pub says_text : (m : Option Mounts) (k after : Kernel) (trace : List Entry) (flag : Bool) (text : List ℕ)
    (done same : ℕ) → Fits k trace done after → length trace ≤ done
    → take same (printed after trace flag) ≡ take same text → printed after trace flag ≢ text
    → Says m (from_kernel k trace flag text) (Text same)
says_text m k after trace flag text done same fits long alike apart =
    let all : replay k (take (length trace) trace) ≡ Some after =
    ap (λ n. replay k (take n trace)) (sym (whole k after trace done fits long)) ∙ fits.leads in
    subst (λ o. IsSomeAnd o (λ (x : Kernel). IsApartFrom same (printed x trace flag) text)) (sym all)
    (record { alike = alike; apart = apart })

-- what is said from the kernel that an opening starts is said of the run
pub says_of : (run : Outcome) (trees : List Shape) (flag : Bool) (text : List ℕ) (m : Mounts) → run.mounts ≡ Some m
    → (k : Kernel) (r : Result Replayed Memory) → opening_of m trees run.opening ≡ Opens k
    → IfOk r (Says run.mounts (from_kernel k run.trace flag text))
    → IfOk r (Says run.mounts (course_of run trees flag text))
says_of run trees flag text m is k r opens says =
    let starts : kernel_started run.mounts trees run.opening ≡ Some k =
    ap (λ o. kernel_started o trees run.opening) is ∙ ap started_kernel opens in
    subst (λ o. IfOk r (Says run.mounts (record { start = o; trace = run.trace; flag = flag; text = text })))
    (sym starts) says
