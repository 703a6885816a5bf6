-- The causes of an outcome: a table, a row a cause, and the words for what its columns say.
use Rattle.std.specs.Prelude.{◌≡◌, ◌≢◌, ◌⊎◌, ℕ, Bool, true, false, Result, Ok, Err}
use Rattle.mount_file.specs.declared.mounts.MountFault.{MountFault}
use Rattle.sn_errno.specs.declared.errno.Errno.{Errno}
use Rattle.sentry_run.specs.declared.outcome.Fault.{Fault}
use Rattle.sentry_run.specs.declared.outcome.Fault.TheVariants.{Done, Usage, Mounts, Image, SourceFault, SinkFault}
use Rattle.sentry_run.specs.declared.outcome.Fault.TheVariants.{Stuck, Full, Memory, HostFault, Grant}
use Rattle.sentry_run.specs.declared.play.End.{End}
use Rattle.sentry_run.specs.declared.play.End.TheVariants as ends

-- ---- the table

-- what a cause says of a step of its run: it was taken, or not, or either may be
-- profile
pub data WasTaken : Type 0 where
  Yes : WasTaken
  No : WasTaken
  Perhaps : WasTaken

-- how much of the text the sink took: all, a front, or nothing
-- write(2): a write may take a part
pub data Extent : Type 0 where
  Whole : Extent
  Front : Extent
  Nothing : Extent

-- a row: the exit status; whether the mount file was accepted, the world opened and a trace left; the text
-- profile
pub record Cause : Type 0 where
  pub status : ℕ
  pub read : WasTaken
  pub begun : WasTaken
  pub trace : WasTaken
  pub text : Extent

-- the row of each cause: memory may run out at any step
-- profile
abbrev pub cause_of : Fault → Cause
cause_of Done = record { status = 0; read = Yes; begun = Yes; trace = Yes; text = Whole }
cause_of Usage = record { status = 2; read = No; begun = No; trace = No; text = Nothing }
cause_of (Mounts fault) = record { status = 3; read = No; begun = No; trace = No; text = Nothing }
cause_of (Image task errno) = record { status = 4; read = Yes; begun = Yes; trace = No; text = Nothing }
cause_of SourceFault = record { status = 5; read = No; begun = No; trace = No; text = Nothing }
cause_of SinkFault = record { status = 6; read = Yes; begun = Yes; trace = Yes; text = Front }
cause_of Stuck = record { status = 7; read = Yes; begun = Yes; trace = Yes; text = Whole }
cause_of Full = record { status = 8; read = Yes; begun = Yes; trace = Yes; text = Whole }
cause_of Memory = record { status = 9; read = Perhaps; begun = Perhaps; trace = Perhaps; text = Front }
cause_of HostFault = record { status = 10; read = Yes; begun = No; trace = No; text = Nothing }
cause_of (Grant mount) = record { status = 11; read = Yes; begun = No; trace = No; text = Nothing }

-- ---- its columns

-- the exit status of a run that came out so
-- profile
abbrev pub status_of : Fault → ℕ
status_of fault = (cause_of fault).status

-- the mount file may not have been accepted
-- profile
abbrev pub IsUnread : Fault → Type 0
IsUnread fault = (cause_of fault).read ≢ Yes

-- nothing of the world was opened
-- profile
abbrev pub HasNotBegun : Fault → Type 0
HasNotBegun fault = (cause_of fault).begun ≡ No

-- the task began and the run is over: it leaves a trace
-- profile
abbrev pub HasRun : Fault → Type 0
HasRun fault = (cause_of fault).trace ≡ Yes

-- the run leaves no trace
-- profile
abbrev pub HasNoTrace : Fault → Type 0
HasNoTrace fault = (cause_of fault).trace ≡ No

-- the text was taken
-- profile
abbrev pub HasText : Fault → Type 0
HasText fault = (cause_of fault).text ≡ Whole

-- a front of the text was taken
-- profile
abbrev pub HasFront : Fault → Type 0
HasFront fault = (cause_of fault).text ≡ Front

-- ---- which causes a fact leaves

-- the answers of a run that came to its end
-- profile
abbrev pub HasEnded : Fault → Type 0
HasEnded fault = (fault ≡ Done) ⊎ (fault ≡ Full) ⊎ (fault ≡ Stuck) ⊎ (fault ≡ Memory)

-- the answers of a run whose mount file isn't there
-- open(2), ENOENT
abbrev pub MayFailToOpen : Fault → Type 0
MayFailToOpen fault = (fault ≡ SourceFault) ⊎ (fault ≡ Memory)

-- the answers of a run whose mount file has that fault
-- profile
abbrev pub MayFailToRead : MountFault → Fault → Type 0
MayFailToRead reason fault = (fault ≡ Mounts reason) ⊎ (fault ≡ SourceFault) ⊎ (fault ≡ Memory)

-- the answers of a run one of whose folders isn't there
-- profile
abbrev pub MayFailToGrant : Fault → Type 0
MayFailToGrant fault = ((mount : ℕ) × (fault ≡ Grant mount)) ⊎ (fault ≡ HostFault) ⊎ (fault ≡ Memory)

-- the answers of a run whose opening execve answers that error
-- profile
abbrev pub MayFailToStart : (task : ℕ) → Errno → Fault → Type 0
MayFailToStart task errno fault = (fault ≡ Image task errno) ⊎ (fault ≡ Memory)

-- ---- which side failed

-- the answer that the source failed
-- open(2) and read(2), ERRORS
abbrev pub is_source_fault : Fault → Bool
is_source_fault SourceFault = true
is_source_fault _ = false

-- a mount file was not read, since the source failed
-- open(2) and read(2), ERRORS
abbrev pub is_unreadable : {A : Type 0} → Result A Fault → Bool
is_unreadable (Ok mounts) = false
is_unreadable (Err fault) = is_source_fault fault

-- the answer that the sink failed
-- write(2), ERRORS
abbrev pub is_sink_fault : Fault → Bool
is_sink_fault SinkFault = true
is_sink_fault _ = false

-- the answer that the host failed in a grant
-- profile
abbrev pub is_host_fault : Fault → Bool
is_host_fault HostFault = true
is_host_fault _ = false

-- the host failed in a grant
-- profile
abbrev pub is_grant_failed : End → Bool
is_grant_failed ends.HostFault = true
is_grant_failed _ = false
