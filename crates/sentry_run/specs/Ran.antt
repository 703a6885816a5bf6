-- How a run went, from the words to the text.
use Rattle.std.specs.Prelude.{◌≡◌, ◌≢◌, ◌⊎◌, [], Bool, Option, Some, None, ⊤}
use Rattle.sn_base.specs.Faults.{Rose, HasCause}
use Rattle.sn_edge.specs.Reading.{ReadsWithin}
use Rattle.sn_edge.specs.Shelf.{Shelf}
use Rattle.mount_file.specs.declared.mounts.Mounts.{Mounts}
use Rattle.mount_file.specs.declared.mounts.MountFault.TheVariants as mount_faults
use Rattle.kernel_model.specs.printed.Printed.{printed}
use Rattle.kernel_model.specs.Words.{Command}
use Rattle.sentry_run.specs.declared.outcome.Fault.{Fault}
use Rattle.sentry_run.specs.declared.outcome.Fault.TheVariants as faults
use Rattle.sentry_run.specs.declared.outcome.Outcome.{Outcome}
use Rattle.sentry_run.specs.declared.play.End.{End}
use Rattle.sentry_run.specs.declared.play.Played.{Played}
use Rattle.mount_file.specs.Form.{HasForm}
use Rattle.sentry_run.specs.Played.{nothing_opened}
use Rattle.image_walk.specs.Standing.{no_left}
use Rattle.sentry_run.specs.Granted.{IsPlayed, PlaysIn}
use Rattle.sentry_run.specs.Concluded.{Concludes}
use Rattle.sentry_run.specs.Causes.{status_of, is_source_fault, is_sink_fault}
use Rattle.sentry_run.specs.Outcome.{WhereTold, NamesMountFile, NamesFaulty, most_read}
use Rattle.sentry_run.specs.Sides.{Side, Sides}

-- a run that did not begin
-- profile
pub record IsRefused (cause : Fault) (r : Outcome) : Type 0 where
  pub fault : r.fault ≡ cause
  pub status : r.status ≡ status_of r.fault
  pub opening : r.opening ≡ nothing_opened
  pub trace : r.trace ≡ []
  pub left : r.left ≡ no_left
  pub mounts : r.mounts ≡ None

-- what was read is what the file of the command says
-- profile
abbrev pub ReadsAs : Command → Option Shelf → Mounts → Type 0
ReadsAs command shelf mounts = WhereTold shelf (λ s. NamesMountFile command s mounts)

-- why a mount file was not read
-- profile
abbrev pub FailsToRead : Command → (before after : Side Shelf) → Fault → Type 0
FailsToRead command before after faults.SourceFault = Rose before.count after.count
FailsToRead command before after (faults.Mounts fault) = WhereTold before.told (λ s. NamesFaulty command s fault)
FailsToRead command before after faults.Memory = ⊤
FailsToRead command before after _ = ⊥

-- what was opened and run, as an outcome has it, and how it ended
-- profile
abbrev pub played_by : Outcome → End → Played
played_by r end = record { end = end; opening = r.opening; trace = r.trace }

-- a run over an accepted mount file
-- profile
pub record RanOver (mounts : Mounts) (flag : Bool) (before after : Sides) (r : Outcome) : Type 0 where
  pub status : r.status ≡ status_of r.fault
  pub read : r.mounts ≡ Some mounts
  pub left : r.left ≡ no_left
  pub form : HasForm mounts
  pub end : End
  pub played : IsPlayed mounts before.host.count after.host.count (played_by r end)
  pub plays : PlaysIn mounts before.host.told after.host.told (played_by r end)
  pub concludes : Concludes end (λ k. printed k r.trace flag) before.sink after.sink r.fault
  pub sink_cause : HasCause (is_sink_fault r.fault) before.sink.count after.sink.count

-- a run of a command whose mount file was not read: host and sink are as they were
-- profile
pub record NotRead (command : Command) (before after : Sides) (r : Outcome) : Type 0 where
  pub fails : FailsToRead command before.source after.source r.fault
  pub source_cause : HasCause (is_source_fault r.fault) before.source.count after.source.count
  pub never_memory : r.fault ≢ faults.Mounts mount_faults.Memory
  pub refused : IsRefused r.fault r
  pub same_host : after.host ≡ before.host
  pub same_sink : after.sink ≡ before.sink

-- a run of a command whose mount file was read
-- profile
pub record Read (command : Command) (before after : Sides) (r : Outcome) : Type 0 where
  pub mounts : Mounts
  pub reads : ReadsAs command before.source.told mounts
  pub same_count : after.source.count ≡ before.source.count
  pub ran : RanOver mounts command.trace before after r

-- a run of a command
-- profile
abbrev pub RanBy : Command → (before after : Sides) → Outcome → Type 0
RanBy command before after r =
    ReadsWithin before.source.told after.source.told most_read
    × (NotRead command before after r ⊎ Read command before after r)

-- words that are no command: all three sides are as they were
-- profile
pub record NoCommand (before after : Sides) (r : Outcome) : Type 0 where
  pub refused : IsRefused faults.Usage r
  pub same : after ≡ before

-- a run of the words, where they are a command and where not
-- profile
abbrev pub RanCommand : Option Command → (before after : Sides) → Outcome → Type 0
RanCommand None before after r = NoCommand before after r
RanCommand (Some command) before after r = RanBy command before after r

-- a run of the words
-- profile
pub record RanWords (words : Option Command) (before after : Sides) (r : Outcome) : Type 0 where
  pub ran : RanCommand words before after r
