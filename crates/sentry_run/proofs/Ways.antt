-- The three ways of a run: no command, no mount file, or a run over an accepted one.
use Rattle.std.proofs.Common.{◌≡◌, ◌⊎◌, inl, inr, ℕ, ◌≤◌, Bool, List, [], length, refl, ap, sym, subst}
use Rattle.std.specs.Prelude.{Option, Some, None}
use Rattle.std.specs.List.{flat_map}
use Rattle.host_node.specs.Tree.{Shape}
use Rattle.sn_base.specs.Faults.{HasCause}
use Rattle.sn_edge.specs.Reading.{ReadsWithin}
use Rattle.mount_file.specs.Form.{HasForm}
use Rattle.mount_file.specs.declared.mounts.Mounts.{Mounts}
use Rattle.kernel_model.specs.declared.kernel.Kernel.{Kernel}
use Rattle.kernel_model.specs.files.Numbers.{IsGapless, numbers_opened, numbers_in}
use Rattle.kernel_model.specs.printed.Printed.{printed}
use Rattle.kernel_model.specs.Words.{Command}
use Rattle.sentry_run.specs.declared.outcome.Outcome.{Outcome}
use Rattle.image_walk.specs.Standing.{no_left}
use Rattle.sentry_run.specs.Granted.{PlaysIn}
use Rattle.sentry_run.specs.Causes.{status_of, is_host_fault, is_sink_fault}
use Rattle.sentry_run.specs.Ran.{ReadsAs, NoCommand, NotRead, Read, RanOver, RanCommand, RanWords, played_by}
use Rattle.sentry_run.specs.Outcome.{asks_trace, most_read}
use Rattle.sentry_run.specs.Sides.{Sides}
use Rattle.sentry_run.proofs.Courses.{Session, Output, course}
use Rattle.sentry_run.proofs.RunFacts.{AnyFacts, any_facts, grant_told, ToldFacts, told_facts}

-- what stands beside a run: its words, and the three sides before and after it
pub record Call : Type 0 where
  pub words : Option Command
  pub before : Sides
  pub after : Sides

-- a call over an accepted mount file, in the words of a course: where the host tells this world, and of its text
abbrev pub session : Call → Mounts → Outcome → Shape → Session
session s m r world = record { mounts = m; world = world; after = s.after.host.told; outcome = r }

abbrev pub output : Call → Output
output s = record { flag = asks_trace s.words; before = s.before.sink; after = s.after.sink }

-- a run over an accepted mount file
pub record Over (s : Call) (m : Mounts) (r : Outcome) : Type 0 where
  pub status : r.status ≡ status_of r.fault
  pub read : r.mounts ≡ Some m
  pub left : r.left ≡ no_left
  pub form : HasForm m
  pub drawn : flat_map numbers_in r.trace ≡ []
  pub numbers : IsGapless (numbers_opened r.opening)
  pub bound : length r.trace ≤ m.entries
  pub same_count : s.after.source.count ≡ s.before.source.count
  pub host_cause : HasCause (is_host_fault r.fault) s.before.host.count s.after.host.count
  pub sink_cause : HasCause (is_sink_fault r.fault) s.before.sink.count s.after.sink.count
  pub any : AnyFacts m r.trace s.before s.after r.fault
  pub told : (w : Shape) → s.before.host.told ≡ Some w → ToldFacts (session s m r w) (output s) r.fault
  pub untold : s.before.host.told ≡ None → s.after.host.told ≡ None

pub data Way (s : Call) (r : Outcome) : Type 0 where
  Misused : s.words ≡ None → NoCommand s.before s.after r → Way s r
  Unread : (command : Command) → s.words ≡ Some command
      → ReadsWithin s.before.source.told s.after.source.told most_read → NotRead command s.before s.after r → Way s r
  Over_file : (command : Command) → s.words ≡ Some command
      → ReadsWithin s.before.source.told s.after.source.told most_read → (m : Mounts)
      → ReadsAs command s.before.source.told m → Over s m r → Way s r

over_of : (s : Call) (m : Mounts) (r : Outcome) → s.after.source.count ≡ s.before.source.count
    → RanOver m (asks_trace s.words) s.before s.after r → Over s m r
over_of s m r same ran =
    let text : Kernel → List ℕ = λ k. printed k r.trace (asks_trace s.words) in
    record {
      status = ran.status;
      read = ran.read;
      left = ran.left;
      form = ran.form;
      drawn = ran.played.drawn;
      numbers = ran.played.numbers;
      bound = ran.played.bound;
      same_count = same;
      host_cause =
          subst (λ (b : Bool). HasCause b s.before.host.count s.after.host.count)
          (grant_told text s.before.sink s.after.sink r.fault ran.end ran.concludes) ran.played.cause;
      sink_cause = ran.sink_cause;
      any =
          any_facts m r.trace text s.before s.after r.fault ran.end ran.played.trace ran.played.cause
          ran.played.number ran.concludes;
      told =
          λ w e. told_facts (session s m r w) (output s) r.fault ran.form
          (course (session s m r w) (output s) r.fault ran.end ran.form (plays_at (Some w) e) ran.concludes);
      untold = λ e. plays_at None e;
    }
  where
    plays_at : (world : Option Shape) → s.before.host.told ≡ world
        → PlaysIn m world s.after.host.told (played_by r ran.end)
    plays_at world e =
        subst (λ (o : Option Shape). PlaysIn m o s.after.host.told (played_by r ran.end)) e ran.plays

way_by : (s : Call) (r : Outcome) (words : Option Command) → s.words ≡ words → RanCommand words s.before s.after r
    → Way s r
way_by s r None e ran = Misused e ran
way_by s r (Some command) e ran = by ran.1
  where
    by : (NotRead command s.before s.after r ⊎ Read command s.before s.after r) → Way s r
    by (inl u) = Unread command e ran.0 u
    by (inr d) =
        Over_file command e ran.0 d.mounts d.reads
        (over_of s d.mounts r d.same_count
        (subst (λ (b : Bool). RanOver d.mounts b s.before s.after r) (ap asks_trace (sym e)) d.ran))

-- what stands beside a run, and its way, from what is known of it
abbrev pub call_of : {words : Option Command} {before after : Sides} {r : Outcome} → RanWords words before after r
    → Call
call_of {words} {before} {after} {r} ran = record { words = words; before = before; after = after }

pub way_of : (s : Call) (r : Outcome) → RanWords s.words s.before s.after r → Way s r
way_of s r ran = way_by s r s.words refl ran.ran
