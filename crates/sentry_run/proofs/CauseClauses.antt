-- The clauses of a run on what failed: where a count rose, the answer says so, and nothing else.
use Rattle.std.proofs.Common.{◌≡◌, inl, inr, ℕ, ◌<◌, Bool, true, false, List, take, refl, ap, sym, ◌∙◌, subst}
use Rattle.std.proofs.Common.{length, arith}
use Rattle.std.specs.Prelude.{Option, Some, None, IsSomeAnd, IfSome, option_map, option_and_then}
use Rattle.std.proofs.lemmas.Option.{same_Some}
use Rattle.host_node.specs.Tree.{Shape}
use Rattle.sn_base.specs.Faults.{HasCause}
use Rattle.sn_edge.specs.Shelf.{Shelf, content_at}
use Rattle.mount_file.specs.Form.{HasForm}
use Rattle.mount_file.specs.declared.mounts.Mounts.{Mounts}
use Rattle.kernel_model.specs.declared.entry.Entry.{Entry}
use Rattle.kernel_model.specs.declared.kernel.Kernel.{Kernel}
use Rattle.kernel_model.specs.opening.Opening.{Begun, Refuses, Misfits}
use Rattle.kernel_model.specs.entries.History.{any_live, replay}
use Rattle.kernel_model.specs.printed.Printed.{printed}
use Rattle.kernel_model.specs.Words.{Command}
use Rattle.mount_file.specs.MountFile.{IsMountFile, IsFaultOf}
use Rattle.sentry_run.specs.declared.outcome.Fault.{Fault}
use Rattle.sentry_run.specs.declared.outcome.Fault.TheVariants as faults
use Rattle.sentry_run.specs.declared.outcome.Outcome.{Outcome}
use Rattle.sentry_run.specs.Causes.{is_source_fault, is_sink_fault, is_host_fault, MayFailToOpen}
use Rattle.sentry_run.specs.Concluded.{IsCutOff, StopsShort}
use Rattle.sentry_run.specs.Ran.{FailsToRead}
use Rattle.sentry_run.specs.Outcome.{NamesMountFile, NamesFaulty, LacksFile, ComesOut, WhereRead, WhereState, begun, most_read}
use Rattle.sentry_run.specs.Outcome.{started_kernel, state_after, text_of, asks_trace}
use Rattle.sentry_run.specs.Sides.{Side, Sides}
use Rattle.sentry_run.proofs.Courses.{Session, Output, text_with, state_left, Began, state_of}
use Rattle.sentry_run.proofs.RunFacts.{ToldFacts}
use Rattle.sentry_run.proofs.Ways.{Call, session, output, Over, Way, Misused, Unread, Over_file}
use Rattle.sentry_run.proofs.Clauses.{told_as, where_read}
use Rattle.sentry_run.proofs.ExactClauses.{told_file, unopened}

-- ---- counts

-- a count that rose is that of a call that failed
rose_is : (b : Bool) (before now : ℕ) → HasCause b before now → before < now → b ≡ true
rose_is true before now h l = refl
rose_is false before now h l = absurd (omega (arith, l, h.still refl))

not_risen : {before now : ℕ} {P : Type 0} → now ≡ before → before < now → P
not_risen e l = absurd (omega (arith, l, e))

source_is : (f : Fault) → is_source_fault f ≡ true → f ≡ faults.SourceFault
source_is faults.SourceFault e = refl
source_is _ e = cc

sink_is : (f : Fault) → is_sink_fault f ≡ true → f ≡ faults.SinkFault
sink_is faults.SinkFault e = refl
sink_is _ e = cc

host_is : (f : Fault) → is_host_fault f ≡ true → f ≡ faults.HostFault
host_is faults.HostFault e = refl
host_is _ e = cc

pub source_exact : (s : Call) (r : Outcome) → Way s r → s.before.source.count < s.after.source.count
    → r.fault ≡ faults.SourceFault
source_exact s r (Misused e n) l = not_risen (ap (λ (x : Sides). x.source.count) n.same) l
source_exact s r (Unread command e w u) l = source_is r.fault (rose_is _ _ _ u.source_cause l)
source_exact s r (Over_file command e w m d o) l = not_risen o.same_count l

pub sink_exact : (s : Call) (r : Outcome) → Way s r → s.before.sink.count < s.after.sink.count
    → r.fault ≡ faults.SinkFault
sink_exact s r (Misused e n) l = not_risen (ap (λ (x : Sides). x.sink.count) n.same) l
sink_exact s r (Unread command e w u) l = not_risen (ap (λ (x : Side (List ℕ)). x.count) u.same_sink) l
sink_exact s r (Over_file command e w m d o) l = sink_is r.fault (rose_is _ _ _ o.sink_cause l)

pub host_exact : (s : Call) (r : Outcome) → Way s r → s.before.host.count < s.after.host.count
    → r.fault ≡ faults.HostFault
host_exact s r (Misused e n) l = not_risen (ap (λ (x : Sides). x.host.count) n.same) l
host_exact s r (Unread command e w u) l = not_risen (ap (λ (x : Side Shape). x.count) u.same_host) l
host_exact s r (Over_file command e w m d o) l = host_is r.fault (rose_is _ _ _ o.host_cause l)

-- ---- a file that isn't there

-- the command and the shelf without its file
record Lacks (s : Call) : Type 0 where
  pub command : Command
  pub shelf : Shelf
  pub words_are : s.words ≡ Some command
  pub shelf_is : s.before.source.told ≡ Some shelf
  pub none : content_at shelf.files command.mounts ≡ None

lacks_by : (s : Call) (words : Option Command) (shelf : Option Shelf) → s.words ≡ words
    → s.before.source.told ≡ shelf → LacksFile words shelf → Lacks s
lacks_by s None shelf e f lacks = absurd lacks
lacks_by s (Some command) None e f lacks = absurd lacks
lacks_by s (Some command) (Some shelf) e f lacks =
    record { command = command; shelf = shelf; words_are = e; shelf_is = f; none = lacks }

none_there : (o : Option (List ℕ)) (P : List ℕ → Type 0) → o ≡ None → IsSomeAnd (option_map (take most_read) o) P → ⊥
none_there None P e h = h
none_there (Some content) P e h = cc

lacking_by : (command : Command) (before after : Side Shelf) (shelf : Shelf) (f : Fault) → before.told ≡ Some shelf
    → content_at shelf.files command.mounts ≡ None → FailsToRead command before after f → MayFailToOpen f
lacking_by command before after shelf faults.SourceFault e none h = inl refl
lacking_by command before after shelf faults.Memory e none h = inr refl
lacking_by command before after shelf (faults.Mounts f) e none h =
    absurd (none_there (content_at shelf.files command.mounts) (λ b. IsFaultOf b f) none
    (told_file before.told shelf (λ x. NamesFaulty command x f) e h))
lacking_by command before after shelf _ e none h = absurd h

pub source_lacking : (s : Call) (r : Outcome) → Way s r → LacksFile s.words s.before.source.told
    → MayFailToOpen r.fault
source_lacking s r way lacks = by way (lacks_by s s.words s.before.source.told refl refl lacks)
  where
    none_of : (l : Lacks s) (command : Command) → s.words ≡ Some command
        → content_at l.shelf.files command.mounts ≡ None
    none_of l command e =
        let same : l.command ≡ command = same_Some _ _ (sym l.words_are ∙ e) in
        subst (λ (c : Command). content_at l.shelf.files c.mounts ≡ None) same l.none

    by : Way s r → Lacks s → MayFailToOpen r.fault
    by (Misused e n) l = let f : None ≡ Some l.command = sym e ∙ l.words_are in cc
    by (Unread command e w u) l =
        lacking_by command s.before.source s.after.source l.shelf r.fault l.shelf_is (none_of l command e) u.fails
    by (Over_file command e w m d o) l =
        absurd (none_there (content_at l.shelf.files command.mounts) (λ b. IsMountFile b m) (none_of l command e)
        (told_file s.before.source.told l.shelf (λ x. NamesMountFile command x m) l.shelf_is d))

-- ---- a sink that failed

-- the sink took a front of a session's text, but not all of it
abbrev ShortOf : Session → Output → Type 0
ShortOf x p = StopsShort p.before.told p.after.told (text_of (state_left x) x.outcome.trace p.flag)

pub sink_short : (s : Call) (r : Outcome) → Way s r → r.fault ≡ faults.SinkFault
    → WhereRead r.mounts s.before.host.told (λ m w. ShortOf (session s m r w) (output s))
sink_short s r way h =
    where_read s r (λ m w. ShortOf (session s m r w) (output s)) way
    (λ m o w told. let t = told_as s m r faults.SinkFault o h w told in
    subst (λ (k : Option Kernel). StopsShort s.before.sink.told s.after.sink.told
    (text_of k r.trace (asks_trace s.words))) (sym (state_of (session s m r w) t.0 t.1)) t.3)

-- ---- a run that is over

if_some : {A : Type 0} (o : Option A) (F : A → Type 0) → ((x : A) → o ≡ Some x → F x) → IfSome o F
if_some None F f = tt
if_some (Some x) F f = f x refl

-- an opening that starts nothing has no state behind it
stateless : (x : Session) (begins : Begun) (k : Kernel) {P : Type 0}
    → begun x.mounts x.world x.outcome.opening ≡ begins → started_kernel begins ≡ None → state_left x ≡ Some k → P
stateless x begins k b none e =
    let f : None ≡ Some k =
    sym (ap (λ (y : Begun). option_and_then (λ (j : Kernel). replay j x.outcome.trace) (started_kernel y)) b
    ∙ ap (option_and_then (λ (j : Kernel). replay j x.outcome.trace)) none) ∙ e in
    cc

-- the state in which a run is over with that answer: no task lives; or one does, and the trace is full, or it is not
abbrev EndsIn : Mounts → List Entry → Kernel → Fault → Type 0
EndsIn m trace k faults.Done = any_live k ≡ false
EndsIn m trace k faults.Full = (any_live k ≡ true) × (length trace ≡ m.entries)
EndsIn m trace k faults.Stuck = (any_live k ≡ true) × (length trace < m.entries)
EndsIn m trace k _ = ⊥

-- there is one such answer
one_end : (m : Mounts) (trace : List Entry) (k : Kernel) (f g : Fault) → EndsIn m trace k f → EndsIn m trace k g
    → f ≡ g
one_end m trace k faults.Done faults.Done a b = refl
one_end m trace k faults.Done faults.Full a b = absurd (cc (a, b.0))
one_end m trace k faults.Done faults.Stuck a b = absurd (cc (a, b.0))
one_end m trace k faults.Done _ a b = absurd b
one_end m trace k faults.Full faults.Done a b = absurd (cc (a.0, b))
one_end m trace k faults.Full faults.Full a b = refl
one_end m trace k faults.Full faults.Stuck a b = absurd (omega (arith, a.1, b.1))
one_end m trace k faults.Full _ a b = absurd b
one_end m trace k faults.Stuck faults.Done a b = absurd (cc (a.0, b))
one_end m trace k faults.Stuck faults.Full a b = absurd (omega (arith, a.1, b.1))
one_end m trace k faults.Stuck faults.Stuck a b = refl
one_end m trace k faults.Stuck _ a b = absurd b
one_end m trace k _ g a b = absurd a

-- the state that began is the one that the trace leaves
same_state : (x : Session) (state k : Kernel) → Began x state → state_left x ≡ Some k → state ≡ k
same_state x state k b e = same_Some _ _ (sym (state_of x state b) ∙ e)

-- so a run that is over in the one is over in the other
same_end : (x : Session) (state k : Kernel) (f whole : Fault) → Began x state → state_left x ≡ Some k
    → EndsIn x.mounts x.outcome.trace state f → EndsIn x.mounts x.outcome.trace k whole → f ≡ whole
same_end x state k f whole b e is h =
    one_end x.mounts x.outcome.trace k f whole
    (subst (λ (y : Kernel). EndsIn x.mounts x.outcome.trace y f) (same_state x state k b e) is) h

over_by : (x : Session) (p : Output) (whole f : Fault) → HasForm x.mounts → ToldFacts x p f
    → (k : Kernel) → state_left x ≡ Some k → EndsIn x.mounts x.outcome.trace k whole
    → ComesOut whole p.before.told p.after.told (text_with x p k) f
over_by x p whole faults.Done form t k e h = same_end x t.0 k faults.Done whole t.1 e t.2 h
over_by x p whole faults.Full form t k e h = same_end x t.0 k faults.Full whole t.1 e t.2 h
over_by x p whole faults.Stuck form t k e h =
    same_end x t.0 k faults.Stuck whole t.1 e (t.2.lives, t.2.short) h
over_by x p whole faults.SinkFault form t k e h =
    subst (λ (state : Kernel). StopsShort p.before.told p.after.told (text_with x p state))
    (same_state x t.0 k t.1 e) t.3
over_by x p whole faults.Memory form t k e h =
    subst (λ (o : Option Kernel). IsCutOff p.before.told p.after.told (text_of o x.outcome.trace p.flag)) e t.cut
over_by x p whole (faults.Image task errno) form t k e h =
    stateless x (Refuses t.left task errno) k t.refuses refl e
over_by x p whole faults.HostFault form t k e h = stateless x (Misfits 0) k (unopened x form t.opened) refl e
over_by x p whole (faults.Grant n) form t k e h = stateless x (Misfits 0) k (unopened x form t.0.opened) refl e
over_by x p whole _ form t k e h = absurd t

-- what a call comes to that is over with that answer, by the state that its trace leaves
abbrev OverAs : Call → Outcome → Fault → Kernel → Type 0
OverAs s r whole k =
    ComesOut whole s.before.sink.told s.after.sink.told (printed k r.trace (asks_trace s.words)) r.fault

over_as : (s : Call) (m : Mounts) (r : Outcome) (whole : Fault) → Over s m r → (w : Shape)
    → s.before.host.told ≡ Some w → (k : Kernel) → state_left (session s m r w) ≡ Some k
    → EndsIn m r.trace k whole → OverAs s r whole k
over_as s m r whole o w told = over_by (session s m r w) (output s) whole r.fault o.form (o.told w told)

where_left : (s : Call) (r : Outcome) (F : Mounts → Kernel → Type 0) → Way s r
    → ((m : Mounts) → Over s m r → (w : Shape) → s.before.host.told ≡ Some w → (k : Kernel)
    → state_left (session s m r w) ≡ Some k → F m k)
    → WhereState r.mounts s.before.host.told r.opening r.trace (λ m w k. F m k)
where_left s r F way f =
    where_read s r (λ m w. IfSome (state_after m w r.opening r.trace) (F m)) way
    (λ m o w told. if_some (state_after m w r.opening r.trace) (F m) (f m o w told))

pub done_exact : (s : Call) (r : Outcome) → Way s r
    → WhereState r.mounts s.before.host.told r.opening r.trace (λ m w k. any_live k ≡ false
    → OverAs s r faults.Done k)
done_exact s r way =
    where_left s r (λ m k. any_live k ≡ false → OverAs s r faults.Done k) way
    (λ m o w told k e dead. over_as s m r faults.Done o w told k e dead)

pub full_exact : (s : Call) (r : Outcome) → Way s r
    → WhereState r.mounts s.before.host.told r.opening r.trace (λ m w k. any_live k ≡ true
    → length r.trace ≡ m.entries → OverAs s r faults.Full k)
full_exact s r way =
    where_left s r (λ m k. any_live k ≡ true → length r.trace ≡ m.entries → OverAs s r faults.Full k) way
    (λ m o w told k e live full. over_as s m r faults.Full o w told k e (live, full))

pub stuck_exact : (s : Call) (r : Outcome) → Way s r
    → WhereState r.mounts s.before.host.told r.opening r.trace (λ m w k. any_live k ≡ true
    → length r.trace < m.entries → OverAs s r faults.Stuck k)
stuck_exact s r way =
    where_left s r (λ m k. any_live k ≡ true → length r.trace < m.entries → OverAs s r faults.Stuck k) way
    (λ m o w told k e live short. over_as s m r faults.Stuck o w told k e (live, short))
