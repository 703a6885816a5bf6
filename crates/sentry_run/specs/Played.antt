-- What the opening and the run of the tasks of a mount file come to.
use Rattle.std.specs.Prelude.{◌≡◌, ◌⊎◌, ℕ, ◌<◌, List, [], length, true, false, Option, Some, IsSomeAnd}
use Rattle.std.specs.Prelude.{option_map}
use Rattle.std.specs.FinMap as map
use Rattle.host_node.specs.Tree.{Shape}
use Rattle.sn_errno.specs.declared.errno.Errno.{Errno}
use Rattle.mount_file.specs.declared.mounts.Mounts.{Mounts}
use Rattle.kernel_model.specs.declared.entry.Entry.{Entry}
use Rattle.kernel_model.specs.declared.kernel.Kernel.{Kernel}
use Rattle.kernel_model.specs.declared.opening.Opening.{Opening}
use Rattle.kernel_model.specs.files.FileTree.{Nodes}
use Rattle.kernel_model.specs.files.Numbers.{count_up}
use Rattle.kernel_model.specs.opening.Opening.{opening_of, Opens, Refuses}
use Rattle.kernel_model.specs.entries.Given.{has_any}
use Rattle.kernel_model.specs.entries.History.{replay, each_whole, any_live}
use Rattle.kernel_model.specs.entries.Ready.{ready_numbers}
use Rattle.image_walk.specs.Granted.{GivesBack}
use Rattle.run_opening.specs.declared.opening.OpenErr.{OpenErr}
use Rattle.run_opening.specs.declared.opening.OpenErr.TheVariants as openings
use Rattle.run_opening.specs.Openings.{numbering_of}
use Rattle.run_opening.specs.Told.{TreesTold, nodes_told}
use Rattle.run_opening.specs.Trees.{HaveTrees, Others, trees_with}
use Rattle.sentry_run.specs.declared.play.End.{End}
use Rattle.sentry_run.specs.declared.play.End.TheVariants as ends
use Rattle.sentry_run.specs.declared.play.Played.{Played}
use Rattle.sentry_run.specs.Uncounted.{AreAlikeUncounted}

-- the record of an opening that did not come to be
-- profile
abbrev pub nothing_opened : Opening
nothing_opened = record { mounts = []; roots = []; tasks = [] }

-- the record of an opening before its first task: the roots are numbered 1 up, in order of the mounts
-- profile
abbrev pub first_of : Mounts → Opening
first_of m = record { mounts = m.mounts; roots = count_up 1 (length m.mounts); tasks = [] }

-- a run from the opening over the trees of all mounts, that of the mount at `/` among them: the trace is a history that
-- leaves this state, each Run in it whole; then the root of `/` has another tree, and the others have theirs
-- profile
pub record Runs (mounts : Mounts) (others : Others) (tree after : Shape) (opening : Opening) (trace : List Entry)
    (state : Kernel) : Type 0 where
  pub start : Kernel
  pub opens : opening_of mounts (trees_with others tree) opening ≡ Opens start
  pub replayed : replay start trace ≡ Some state
  pub whole : each_whole start trace ≡ true
  pub settles : HaveTrees state 1 (trees_with others after)

-- two kernels print alike
-- profile
pub record SameText (state kernel : Kernel) : Type 0 where
  pub tasks : state.tasks ≡ kernel.tasks
  pub console : state.console ≡ kernel.console

-- a task lives, the trace is not full, and no task's next step is ready
-- profile
pub record IsStuck (mounts : Mounts) (trace : List Entry) (state : Kernel) : Type 0 where
  pub lives : any_live state ≡ true
  pub short : length trace < mounts.entries
  pub still : has_any (ready_numbers state) ≡ false

-- an execve that failed, and the trees of the roots then: but for counts of failed calls they are as they were
-- profile
pub record Failed (mounts : Mounts) (others : Others) (tree after : Shape) (opening : Opening) (task : ℕ)
    (errno : Errno) : Type 0 where
  pub left : Kernel
  pub refuses : opening_of mounts (trees_with others tree) opening ≡ Refuses left task errno
  pub settles : HaveTrees left 1 (trees_with others after)
  pub alike : AreAlikeUncounted after tree

-- how a run over the tree of the mount at `/`, beside others, ended, and what it left of that tree
-- profile
abbrev pub RunEnded : Mounts → Others → (tree after : Shape) → Opening → List Entry → End → Type 0
RunEnded mounts others tree after opening trace (ends.Done kernel) =
    (state : Kernel) × Runs mounts others tree after opening trace state × SameText state kernel
    × (any_live state ≡ false)
RunEnded mounts others tree after opening trace (ends.Full kernel) =
    (state : Kernel) × Runs mounts others tree after opening trace state × SameText state kernel
    × (any_live state ≡ true) × (length trace ≡ mounts.entries)
RunEnded mounts others tree after opening trace (ends.Stuck kernel) =
    (state : Kernel) × Runs mounts others tree after opening trace state × SameText state kernel
    × IsStuck mounts trace state
RunEnded mounts others tree after opening trace (ends.Image task errno) =
    Failed mounts others tree after opening task errno × (trace ≡ [])
RunEnded mounts others tree after opening trace ends.Memory =
    ((trace ≡ []) × (after ≡ tree)) ⊎ ((state : Kernel) × Runs mounts others tree after opening trace state)
RunEnded mounts others tree after opening trace ends.HostFault = ⊥
RunEnded mounts others tree after opening trace (ends.Grant mount) = ⊥

-- ---- by the kernel that the run's state tells

-- a kernel with that beside its processes
-- profile
abbrev pub over_nodes : Mounts → Nodes → Kernel → Kernel
over_nodes m nodes k = record k { nodes = nodes; failed = map.empty; mounts = m.mounts; seed = m.seed }

-- the kernel that a run's state tells where its processes are that kernel: none where no nodes are told
-- profile
abbrev pub over_told : Mounts → TreesTold → Kernel → Option Kernel
over_told m f k = option_map (λ nodes. over_nodes m nodes k) (nodes_told (numbering_of m.mounts) f)

-- a trace is a history from a kernel, each Run in it whole, and leaves that state
-- profile
abbrev pub ReplaysTo : Kernel → List Entry → Kernel → Type 0
ReplaysTo start trace state = (replay start trace ≡ Some state) × (each_whole start trace ≡ true)

-- how a run from a kernel ended: its trace leaves the kernel that its state then tells
-- profile
abbrev pub RanFrom : Mounts → TreesTold → Kernel → End → List Entry → Type 0
RanFrom m f start (ends.Done kernel) trace =
    IsSomeAnd (over_told m f kernel) (λ state. ReplaysTo start trace state × (any_live state ≡ false))
RanFrom m f start (ends.Full kernel) trace =
    IsSomeAnd (over_told m f kernel)
    (λ state. ReplaysTo start trace state × (any_live state ≡ true) × (length trace ≡ m.entries))
RanFrom m f start (ends.Stuck kernel) trace =
    IsSomeAnd (over_told m f kernel) (λ state. ReplaysTo start trace state × IsStuck m trace state)
RanFrom m f start ends.Memory trace =
    (state : Kernel) × ReplaysTo start trace state × (over_told m f state ≡ Some state)
RanFrom m f start _ trace = ⊥

-- how a run over the tree of the mount at `/` ended, and what it left of that tree: the state of its trace is the
-- kernel that is told then
-- profile
abbrev pub EndsTold : Mounts → TreesTold → (tree after : Shape) → Opening → List Entry → End → Type 0
EndsTold m f tree after opening trace (ends.Done kernel) =
    IsSomeAnd (over_told m f kernel)
    (λ state. Runs m f.others tree after opening trace state × (any_live state ≡ false))
EndsTold m f tree after opening trace (ends.Full kernel) =
    IsSomeAnd (over_told m f kernel)
    (λ state. Runs m f.others tree after opening trace state × (any_live state ≡ true) × (length trace ≡ m.entries))
EndsTold m f tree after opening trace (ends.Stuck kernel) =
    IsSomeAnd (over_told m f kernel)
    (λ state. Runs m f.others tree after opening trace state × IsStuck m trace state)
EndsTold m f tree after opening trace (ends.Image task errno) =
    Failed m f.others tree after opening task errno × (trace ≡ [])
EndsTold m f tree after opening trace ends.Memory =
    ((trace ≡ []) × (after ≡ tree))
    ⊎ ((state : Kernel) × Runs m f.others tree after opening trace state × (over_told m f state ≡ Some state))
EndsTold m f tree after opening trace _ = ⊥

-- the same, once the children that were lent are back in their places
-- profile
abbrev pub EndsOver : Mounts → TreesTold → Shape → Played → Type 0
EndsOver m f tree played =
    (after : Shape) → GivesBack f.root f.children (Some after)
    → EndsTold m f tree after played.opening played.trace played.end

-- how a run ends whose opening ended so
-- profile
abbrev pub end_of_opening : OpenErr → End
end_of_opening (openings.Image task errno) = ends.Image task errno
end_of_opening openings.Memory = ends.Memory

-- what an end says of the trace, whatever the host tells
-- profile
abbrev pub TraceOf : ℕ → End → List Entry → Type 0
TraceOf entries (ends.Full kernel) trace = length trace ≡ entries
TraceOf entries (ends.Stuck kernel) trace = length trace < entries
TraceOf entries (ends.Done kernel) trace = Unit {0}
TraceOf entries ends.Memory trace = Unit {0}
TraceOf entries _ trace = trace ≡ []
