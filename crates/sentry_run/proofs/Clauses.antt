-- The clauses of a run, each from the way that it went.
use Rattle.std.proofs.Common.{◌≡◌, ◌≢◌, ℕ, ◌≤◌, List, [], length, refl, ap, sym, ◌∙◌, subst}
use Rattle.std.specs.Prelude.{Option, Some, None, IfSome, IsSomeAnd}
use Rattle.std.proofs.lemmas.Option.{same_Some}
use Rattle.std.proofs.Common.{arith}
use Rattle.host_node.specs.Tree.{Shape}
use Rattle.sn_base.specs.Faults.{Rose}
use Rattle.sn_edge.specs.Shelf.{Shelf}
use Rattle.sn_edge.specs.Reading.{ReadsWithin}
use Rattle.sn_errno.specs.declared.errno.Errno.{Errno}
use Rattle.kernel_model.specs.declared.kernel.Kernel.{Kernel}
use Rattle.mount_file.specs.Form.{HasForm}
use Rattle.mount_file.specs.declared.mounts.Mounts.{Mounts}
use Rattle.mount_file.specs.declared.mounts.MountFault.{MountFault}
use Rattle.mount_file.specs.declared.mounts.MountFault.TheVariants as mount_faults
use Rattle.kernel_model.specs.Words.{Command}
use Rattle.sentry_run.specs.declared.outcome.Fault.{Fault}
use Rattle.sentry_run.specs.declared.outcome.Fault.TheVariants as faults
use Rattle.sentry_run.specs.declared.outcome.Outcome.{Outcome}
use Rattle.sentry_run.specs.Ran.{ReadsAs, FailsToRead}
use Rattle.sentry_run.specs.Causes.{status_of, IsUnread}
use Rattle.sentry_run.specs.Outcome.{ReadsMounts, HasMountFault, first_lacking, granted, begun, state_after, most_read}
use Rattle.sentry_run.specs.Outcome.{world_after, WhereRead}
use Rattle.sentry_run.specs.Outcome.{WhereState, RefusesOpening, refused_kernel}
use Rattle.sentry_run.specs.Sides.{Side, Sides}
use Rattle.sentry_run.specs.Uncounted.{AreAlikeUncounted}
use Rattle.sentry_run.proofs.Courses.{Session, Began, state_left, state_of}
use Rattle.sentry_run.proofs.Folders.{lacking_none}
use Rattle.sentry_run.proofs.RunFacts.{AnyFacts, ToldFacts}
use Rattle.sentry_run.proofs.Ways.{Call, session, output, Over, Way, Misused, Unread, Over_file}

-- ---- what each way says of a fault

pub usage_is : (f : Fault) (r : Outcome) → r.fault ≡ faults.Usage → r.fault ≡ f → f ≡ faults.Usage
usage_is f r e h = sym h ∙ e

pub fails_as : (s : Call) (command : Command) (r : Outcome) (f : Fault)
    → FailsToRead command s.before.source s.after.source r.fault → r.fault ≡ f
    → FailsToRead command s.before.source s.after.source f
fails_as s command r f h e = subst (FailsToRead command s.before.source s.after.source) e h

pub any_as : (s : Call) (m : Mounts) (r : Outcome) (f : Fault) → Over s m r → r.fault ≡ f
    → AnyFacts m r.trace s.before s.after f
any_as s m r f o e = subst (AnyFacts m r.trace s.before s.after) e o.any

pub told_as : (s : Call) (m : Mounts) (r : Outcome) (f : Fault) → Over s m r → r.fault ≡ f → (w : Shape)
    → s.before.host.told ≡ Some w → ToldFacts (session s m r w) (output s) f
told_as s m r f o e w told = subst (ToldFacts (session s m r w) (output s)) e (o.told w told)

-- ---- facts where a mount file was read

where_none : (mounts : Option Mounts) (world : Option Shape) (F : Mounts → Shape → Type 0) → mounts ≡ None
    → WhereRead mounts world F
where_none None world F e = tt
where_none (Some m) world F e = cc

where_some : (mounts : Option Mounts) (world : Option Shape) (F : Mounts → Shape → Type 0) (m : Mounts)
    → mounts ≡ Some m → ((w : Shape) → world ≡ Some w → F m w) → WhereRead mounts world F
where_some None world F m e f = tt
where_some (Some n) None F m e f = tt
where_some (Some n) (Some w) F m e f = subst (λ (x : Mounts). F x w) (sym (same_Some n m e)) (f w refl)

-- a fact of the mount file that is shown of each run over an accepted one
pub if_read : (s : Call) (r : Outcome) (F : Mounts → Type 0) → Way s r → ((m : Mounts) → Over s m r → F m)
    → IfSome r.mounts F
if_read s r F (Misused e n) f = subst (λ (o : Option Mounts). IfSome o F) (sym n.refused.mounts) tt
if_read s r F (Unread command e w u) f = subst (λ (o : Option Mounts). IfSome o F) (sym u.refused.mounts) tt
if_read s r F (Over_file command e w m d o) f = subst (λ (o : Option Mounts). IfSome o F) (sym o.read) (f m o)

-- the mount file has the form of those that are read
pub form : (s : Call) (r : Outcome) → Way s r → IfSome r.mounts HasForm
form s r way = if_read s r HasForm way (λ m o. o.form)

-- a fact of the mount file and the world that is shown of each run over an accepted one
pub where_read : (s : Call) (r : Outcome) (F : Mounts → Shape → Type 0) → Way s r
    → ((m : Mounts) → Over s m r → (w : Shape) → s.before.host.told ≡ Some w → F m w)
    → WhereRead r.mounts s.before.host.told F
where_read s r F (Misused e n) f = where_none r.mounts s.before.host.told F n.refused.mounts
where_read s r F (Unread command e w u) f = where_none r.mounts s.before.host.told F u.refused.mounts
where_read s r F (Over_file command e w m d o) f = where_some r.mounts s.before.host.told F m o.read (f m o)

pub if_state : (x : Session) (state : Kernel) (F : Kernel → Type 0) → Began x state → F state → IfSome (state_left x) F
if_state x state F b f = subst (λ (k : Option Kernel). IfSome k F) (sym (state_of x state b)) f

-- a fact of the state that the trace leaves, which is shown of the state that began
pub where_state : (s : Call) (r : Outcome) (F : Mounts → Shape → Kernel → Type 0) → Way s r
    → ((m : Mounts) → Over s m r → (w : Shape) → s.before.host.told ≡ Some w
    → (state : Kernel) × Began (session s m r w) state × F m w state)
    → WhereState r.mounts s.before.host.told r.opening r.trace F
where_state s r F way f =
    where_read s r (λ m w. IfSome (state_after m w r.opening r.trace) (F m w)) way
    (λ m o w told. let b = f m o w told in if_state (session s m r w) b.0 (F m w) b.1 b.2)

-- ---- status and causes

pub status : (s : Call) (r : Outcome) → Way s r → r.status ≡ status_of r.fault
status s r (Misused e n) = n.refused.status
status s r (Unread command e w u) = u.refused.status
status s r (Over_file command e w m d o) = o.status

pub usage : (s : Call) (r : Outcome) → Way s r → r.fault ≡ faults.Usage → s.words ≡ None
usage s r (Misused e n) h = e
usage s r (Unread command e w u) h = absurd (fails_as s command r faults.Usage u.fails h)
usage s r (Over_file command e w m d o) h = absurd (any_as s m r faults.Usage o h)

pub usage_exact : (s : Call) (r : Outcome) → Way s r → s.words ≡ None → r.fault ≡ faults.Usage
usage_exact s r (Misused e n) h = n.refused.fault
usage_exact s r (Unread command e w u) h = let f : None ≡ Some command = sym h ∙ e in cc
usage_exact s r (Over_file command e w m d o) h = let f : None ≡ Some command = sym h ∙ e in cc

no_reads : (shelf : Option Shelf) → ReadsWithin shelf shelf most_read
no_reads shelf =
    record { files = refl; taken = omega arith; within = omega arith; read = omega arith; reads = omega arith }

pub source_read : (s : Call) (r : Outcome) → Way s r → ReadsWithin s.before.source.told s.after.source.told most_read
source_read s r (Misused e n) =
    subst (λ (x : Sides). ReadsWithin s.before.source.told x.source.told most_read) (sym n.same)
    (no_reads s.before.source.told)
source_read s r (Unread command e w u) = w
source_read s r (Over_file command e w m d o) = w

pub source_fault : (s : Call) (r : Outcome) → Way s r → r.fault ≡ faults.SourceFault
    → Rose s.before.source.count s.after.source.count
source_fault s r (Misused e n) h = let f = usage_is faults.SourceFault r n.refused.fault h in cc
source_fault s r (Unread command e w u) h = fails_as s command r faults.SourceFault u.fails h
source_fault s r (Over_file command e w m d o) h = absurd (any_as s m r faults.SourceFault o h)

pub sink_fault : (s : Call) (r : Outcome) → Way s r → r.fault ≡ faults.SinkFault
    → Rose s.before.sink.count s.after.sink.count
sink_fault s r (Misused e n) h = let f = usage_is faults.SinkFault r n.refused.fault h in cc
sink_fault s r (Unread command e w u) h = absurd (fails_as s command r faults.SinkFault u.fails h)
sink_fault s r (Over_file command e w m d o) h = any_as s m r faults.SinkFault o h

pub host_fault : (s : Call) (r : Outcome) → Way s r → r.fault ≡ faults.HostFault
    → Rose s.before.host.count s.after.host.count
host_fault s r (Misused e n) h = let f = usage_is faults.HostFault r n.refused.fault h in cc
host_fault s r (Unread command e w u) h = absurd (fails_as s command r faults.HostFault u.fails h)
host_fault s r (Over_file command e w m d o) h = (any_as s m r faults.HostFault o h).0

pub never_mounts_memory : (s : Call) (r : Outcome) → Way s r → r.fault ≢ faults.Mounts mount_faults.Memory
never_mounts_memory s r (Misused e n) = λ h.
    let f = usage_is (faults.Mounts mount_faults.Memory) r n.refused.fault h in
    cc
never_mounts_memory s r (Unread command e w u) = u.never_memory
never_mounts_memory s r (Over_file command e w m d o) = λ h.
    absurd (any_as s m r (faults.Mounts mount_faults.Memory) o h)

-- ---- the mount file

reads_some : (s : Call) (command : Command) (mounts : Option Mounts) (m : Mounts) → s.words ≡ Some command
    → mounts ≡ Some m → ReadsMounts (Some command) s.before.source.told (Some m)
    → ReadsMounts s.words s.before.source.told mounts
reads_some s command mounts m e f h =
    subst (λ (c : Option Command). ReadsMounts c s.before.source.told mounts) (sym e)
    (subst (λ (o : Option Mounts). ReadsMounts (Some command) s.before.source.told o) (sym f) h)

reads_nothing : (words : Option Command) (shelf : Option Shelf) → ReadsMounts words shelf None
reads_nothing None shelf = refl
reads_nothing (Some command) None = tt
reads_nothing (Some command) (Some files) = tt

unread_mounts : (s : Call) (mounts : Option Mounts) → mounts ≡ None → ReadsMounts s.words s.before.source.told mounts
unread_mounts s mounts e =
    subst (λ (o : Option Mounts). ReadsMounts s.words s.before.source.told o) (sym e)
    (reads_nothing s.words s.before.source.told)

pub read : (s : Call) (r : Outcome) → Way s r → ReadsMounts s.words s.before.source.told r.mounts
read s r (Misused e n) = unread_mounts s r.mounts n.refused.mounts
read s r (Unread command e w u) = unread_mounts s r.mounts u.refused.mounts
read s r (Over_file command e w m d o) = reads_some s command r.mounts m e o.read (reads_file s.before.source.told d)
  where
    reads_file : (shelf : Option Shelf) → ReadsAs command shelf m → ReadsMounts (Some command) shelf (Some m)
    reads_file None h = tt
    reads_file (Some files) h = h

-- where a mount file was read, there is one
none_read : {s : Call} {m : Mounts} {r : Outcome} {P : Type 0} → Over s m r → r.mounts ≡ None → P
none_read {s} {m} {r} o h = let f : None ≡ Some m = sym h ∙ o.read in cc

unread_fault : (command : Command) (before after : Side Shelf) (f : Fault) → FailsToRead command before after f
    → IsUnread f
unread_fault command before after faults.SourceFault h = λ e. cc
unread_fault command before after (faults.Mounts f) h = λ e. cc
unread_fault command before after faults.Memory h = λ e. cc
unread_fault command before after faults.Done h = absurd h
unread_fault command before after faults.Usage h = absurd h
unread_fault command before after (faults.Image task errno) h = absurd h
unread_fault command before after faults.SinkFault h = absurd h
unread_fault command before after faults.Stuck h = absurd h
unread_fault command before after faults.Full h = absurd h
unread_fault command before after faults.HostFault h = absurd h
unread_fault command before after (faults.Grant n) h = absurd h

pub unread : (s : Call) (r : Outcome) → Way s r → r.mounts ≡ None → IsUnread r.fault
unread s r (Misused e n) h = subst IsUnread (sym n.refused.fault) (λ f. cc)
unread s r (Unread command e w u) h = unread_fault command s.before.source s.after.source r.fault u.fails
unread s r (Over_file command e w m d o) h = none_read o h

pub unread_empty : (s : Call) (r : Outcome) → Way s r → r.mounts ≡ None → r.trace ≡ []
unread_empty s r (Misused e n) h = n.refused.trace
unread_empty s r (Unread command e w u) h = u.refused.trace
unread_empty s r (Over_file command e w m d o) h = none_read o h

pub unread_text : (s : Call) (r : Outcome) → Way s r → r.mounts ≡ None → s.after.sink.told ≡ s.before.sink.told
unread_text s r (Misused e n) h = ap (λ (x : Sides). x.sink.told) n.same
unread_text s r (Unread command e w u) h = ap (λ (x : Side (List ℕ)). x.told) u.same_sink
unread_text s r (Over_file command e w m d o) h = none_read o h

pub unread_world : (s : Call) (r : Outcome) → Way s r → r.mounts ≡ None → s.after.host.told ≡ s.before.host.told
unread_world s r (Misused e n) h = ap (λ (x : Sides). x.host.told) n.same
unread_world s r (Unread command e w u) h = ap (λ (x : Side Shape). x.told) u.same_host
unread_world s r (Over_file command e w m d o) h = none_read o h

pub mounts : (s : Call) (r : Outcome) → Way s r → (f : MountFault) → r.fault ≡ faults.Mounts f
    → HasMountFault s.words s.before.source.told f
mounts s r (Misused e n) f h = let g = usage_is (faults.Mounts f) r n.refused.fault h in cc
mounts s r (Unread command e w u) f h =
    subst (λ (c : Option Command). HasMountFault c s.before.source.told f) (sym e)
    (fails_as s command r (faults.Mounts f) u.fails h)
mounts s r (Over_file command e w m d o) f h = absurd (any_as s m r (faults.Mounts f) o h)

-- ---- grant and image

-- the mount is one of the mount file's
pub grant_number : (s : Call) (r : Outcome) → Way s r → (n : ℕ) → r.fault ≡ faults.Grant n
    → IfSome r.mounts (λ m. (1 ≤ n) × (n ≤ length m.mounts))
grant_number s r way k h =
    if_read s r (λ m. (1 ≤ k) × (k ≤ length m.mounts)) way
    (λ m o. let a = any_as s m r (faults.Grant k) o h in (a.0, a.1))

-- it is the first whose folder isn't there,
pub grant_first : (s : Call) (r : Outcome) → Way s r → (n : ℕ) → r.fault ≡ faults.Grant n
    → WhereRead r.mounts s.before.host.told (λ m w. first_lacking 1 m.mounts w ≡ Some n)
grant_first s r way k h =
    where_read s r (λ m w. first_lacking 1 m.mounts w ≡ Some k) way
    (λ m o w told. (told_as s m r (faults.Grant k) o h w told).1)

-- so that not all are granted
pub grant : (s : Call) (r : Outcome) → Way s r → (n : ℕ) → r.fault ≡ faults.Grant n
    → WhereRead r.mounts s.before.host.told (λ m w. granted m.mounts w ≡ None)
grant s r way k h =
    where_read s r (λ m w. granted m.mounts w ≡ None) way
    (λ m o w told. lacking_none 1 m.mounts w k (told_as s m r (faults.Grant k) o h w told).1)

pub image : (s : Call) (r : Outcome) → Way s r → (task : ℕ) (errno : Errno) → r.fault ≡ faults.Image task errno
    → WhereRead r.mounts s.before.host.told (λ m w. RefusesOpening (begun m w r.opening) task errno)
image s r way task errno h =
    where_read s r (λ m w. RefusesOpening (begun m w r.opening) task errno) way
    (λ m o w told. let t = told_as s m r (faults.Image task errno) o h w told in (t.left, t.refuses))

pub image_world : (s : Call) (r : Outcome) → Way s r → (task : ℕ) (errno : Errno) → r.fault ≡ faults.Image task errno
    → WhereRead r.mounts s.before.host.told (λ m w. IfSome (refused_kernel (begun m w r.opening))
    (λ k. s.after.host.told ≡ Some (world_after m r.opening r.left k w)))
image_world s r way task errno h =
    where_read s r (λ m w. IfSome (refused_kernel (begun m w r.opening))
    (λ k. s.after.host.told ≡ Some (world_after m r.opening r.left k w))) way
    (λ m o w told. let t = told_as s m r (faults.Image task errno) o h w told in
    subst (λ b. IfSome (refused_kernel b) (λ k. s.after.host.told ≡ Some (world_after m r.opening r.left k w)))
    (sym t.refuses) (t.settles ∙ ap (λ l. Some (world_after m r.opening l t.left w)) (sym o.left)))

pub image_alike : (s : Call) (r : Outcome) → Way s r → (task : ℕ) (errno : Errno) → r.fault ≡ faults.Image task errno
    → WhereRead r.mounts s.before.host.told (λ m w. IsSomeAnd s.after.host.told (λ after. AreAlikeUncounted after w))
image_alike s r way task errno h =
    where_read s r (λ m w. IsSomeAnd s.after.host.told (λ after. AreAlikeUncounted after w)) way
    (λ m o w told. (told_as s m r (faults.Image task errno) o h w told).alike)
