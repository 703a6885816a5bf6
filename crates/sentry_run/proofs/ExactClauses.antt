-- The clauses of a run that go from a cause to the answer, each from the way that it went.
use Rattle.std.proofs.Common.{true, ◌≡◌, inl, inr, ℕ, false, List, [], ◌∷◌, length, refl, ap, sym, ◌∙◌, subst}
use Rattle.std.specs.Prelude.{Option, Some, None, IsSome, IsSomeAnd, if◌then◌else◌, ◌&&◌, nat_eq, map}
use Rattle.std.specs.Str.{bytes_eq}
use Rattle.std.proofs.lemmas.Option.{same_Some}
use Rattle.host_node.specs.Tree.{Shape}
use Rattle.sn_base.specs.Faults.{Rose}
use Rattle.sn_edge.specs.Shelf.{Shelf}
use Rattle.sn_errno.specs.declared.errno.Errno.{Errno}
use Rattle.kernel_model.specs.declared.kernel.Kernel.{Kernel}
use Rattle.mount_file.specs.declared.mounts.Mounts.{Mounts}
use Rattle.mount_file.specs.declared.mounts.Mount.{Mount}
use Rattle.kernel_model.specs.declared.opening.Opening.{Opening}
use Rattle.mount_file.specs.Form.{HasForm}
use Rattle.mount_file.specs.MountFile.{IsMountFile, IsFaultOf}
use Rattle.mount_file.specs.Rules.{has_root}
use Rattle.mount_file.specs.declared.mounts.MountFault.{MountFault}
use Rattle.mount_file.proofs.Faults.{mounts_same, fault_same, no_fault}
use Rattle.kernel_model.specs.opening.Opening.{Opens, Refuses, Misfits, opening_of, tasks_begun, bare}
use Rattle.kernel_model.specs.opening.Records.{is_of}
use lib.Pointwise.{pointwise}
use Rattle.kernel_model.specs.opening.Records.{same_mount, begins}
use Rattle.kernel_model.specs.files.Numbers.{count_up}
use Rattle.mount_file.specs.declared.mounts.Program.{Program}
use Rattle.kernel_model.specs.Words.{Command}
use Rattle.sentry_run.specs.declared.outcome.Fault.{Fault}
use Rattle.sentry_run.specs.declared.outcome.Fault.TheVariants as faults
use Rattle.sentry_run.specs.declared.outcome.Outcome.{Outcome}
use Rattle.sentry_run.specs.Played.{nothing_opened}
use Rattle.sentry_run.specs.Ran.{ReadsAs, FailsToRead}
use Rattle.sentry_run.specs.Outcome.{NamesMountFile, NamesFaulty}
use Rattle.sentry_run.specs.Outcome.{WhereTold, command_bytes, MeetsFault, granted, begun, begun_over, WhereRead}
use Rattle.sentry_run.specs.Outcome.{IsAccepted}
use Rattle.sentry_run.specs.Causes.{MayFailToRead, MayFailToGrant, MayFailToStart, HasEnded}
use Rattle.sentry_run.specs.Sides.{Side}
use Rattle.sentry_run.proofs.Courses.{Session, Output}
use Rattle.sentry_run.proofs.Folders.{lacking_none}
use Rattle.sentry_run.proofs.RunFacts.{ToldFacts}
use Rattle.sentry_run.proofs.Ways.{Call, session, output, Over, Way, Misused, Unread, Over_file}
use Rattle.sentry_run.proofs.Clauses.{any_as, told_as, where_read}

-- ---- what an opening can't be

starts_not_granted : (x : Session) (k : Kernel) → granted x.mounts.mounts x.world ≡ None
    → begun x.mounts x.world x.outcome.opening ≡ Opens k → ⊥
starts_not_granted x k e b =
    let f : Misfits 0 ≡ Opens k = sym (ap (begun_over x.mounts x.outcome.opening) e) ∙ b in
    cc

refuses_not_granted : (x : Session) (k : Kernel) (task : ℕ) (errno : Errno) → granted x.mounts.mounts x.world ≡ None
    → begun x.mounts x.world x.outcome.opening ≡ Refuses k task errno → ⊥
refuses_not_granted x k task errno e b =
    let f : Misfits 0 ≡ Refuses k task errno = sym (ap (begun_over x.mounts x.outcome.opening) e) ∙ b in
    cc

starts_not_refused : (x : Session) (k j : Kernel) (task : ℕ) (errno : Errno)
    → begun x.mounts x.world x.outcome.opening ≡ Opens k
    → begun x.mounts x.world x.outcome.opening ≡ Refuses j task errno → ⊥
starts_not_refused x k j task errno e b = let f : Opens k ≡ Refuses j task errno = sym e ∙ b in cc

no_mounts : (mounts : List Mount) → has_root mounts ≡ true → pointwise same_mount [] mounts ≡ false
no_mounts [] e = cc
no_mounts (m ∷ ms) e = refl

-- a record of nothing is of no mount file with a mount
nothing_unlike : (m : Mounts) → HasForm m → is_of m nothing_opened ≡ false
nothing_unlike m e =
    ap (λ b. b && pointwise nat_eq [] (count_up 1 (length m.mounts)) && begins (pointwise bytes_eq) []
    (map (λ (p : Program). p.args) m.tasks)) (no_mounts m.mounts e.rooted)

nothing_begun : (m : Mounts) (trees : Option (List Shape)) → HasForm m
    → begun_over m nothing_opened trees ≡ Misfits 0
unfolding opening_of
nothing_begun m None e = refl
nothing_begun m (Some trees) e =
    ap (λ b. if b then tasks_begun 1 m.tasks [] (bare m trees) else Misfits 0) (nothing_unlike m e)

-- an opening of nothing is a misfit
pub unopened : (x : Session) → HasForm x.mounts → x.outcome.opening ≡ nothing_opened
    → begun x.mounts x.world x.outcome.opening ≡ Misfits 0
unopened x one e = ap (begun x.mounts x.world) e ∙ nothing_begun x.mounts (granted x.mounts.mounts x.world) one

nothing_refused : (x : Session) (k : Kernel) (task : ℕ) (errno : Errno) → HasForm x.mounts
    → x.outcome.opening ≡ nothing_opened → begun x.mounts x.world x.outcome.opening ≡ Refuses k task errno → ⊥
nothing_refused x k task errno e f b =
    let g : Misfits 0 ≡ Refuses k task errno = sym (unopened x e f) ∙ b in
    cc

-- ---- from the folder and the image to the answer

grant_by : (x : Session) (p : Output) (f : Fault) → ToldFacts x p f → granted x.mounts.mounts x.world ≡ None
    → MayFailToGrant f
grant_by x p faults.Done t e = absurd (starts_not_granted x t.1.start e t.1.opens)
grant_by x p faults.Full t e = absurd (starts_not_granted x t.1.start e t.1.opens)
grant_by x p faults.Stuck t e = absurd (starts_not_granted x t.1.start e t.1.opens)
grant_by x p faults.SinkFault t e = absurd (starts_not_granted x t.1.start e t.1.opens)
grant_by x p (faults.Image task errno) t e = absurd (refuses_not_granted x t.left task errno e t.refuses)
grant_by x p faults.Memory t e = inr (inr refl)
grant_by x p faults.HostFault t e = inr (inl refl)
grant_by x p (faults.Grant n) t e = inl (n, refl)
grant_by x p _ t e = absurd t

pub grant_exact : (s : Call) (r : Outcome) → Way s r
    → WhereRead r.mounts s.before.host.told (λ m w. granted m.mounts w ≡ None → MayFailToGrant r.fault)
grant_exact s r way =
    where_read s r (λ m w. granted m.mounts w ≡ None → MayFailToGrant r.fault) way
    (λ m o w told. grant_by (session s m r w) (output s) r.fault (o.told w told))

image_by : (x : Session) (p : Output) (f : Fault) → HasForm x.mounts → ToldFacts x p f
    → (k : Kernel) (task : ℕ) (errno : Errno) → begun x.mounts x.world x.outcome.opening ≡ Refuses k task errno
    → MayFailToStart task errno f
image_by x p faults.Done e t k task errno b = absurd (starts_not_refused x t.1.start k task errno t.1.opens b)
image_by x p faults.Full e t k task errno b = absurd (starts_not_refused x t.1.start k task errno t.1.opens b)
image_by x p faults.Stuck e t k task errno b = absurd (starts_not_refused x t.1.start k task errno t.1.opens b)
image_by x p faults.SinkFault e t k task errno b = absurd (starts_not_refused x t.1.start k task errno t.1.opens b)
image_by x p (faults.Image n err) e t k task errno b =
    let f : Refuses t.left n err ≡ Refuses k task errno = sym t.refuses ∙ b in
    let g : n ≡ task = cc f in
    let h : err ≡ errno = cc f in
    inl cc
image_by x p faults.Memory e t k task errno b = inr refl
image_by x p faults.HostFault e t k task errno b = absurd (nothing_refused x k task errno e t.opened b)
image_by x p (faults.Grant n) e t k task errno b = absurd (nothing_refused x k task errno e t.0.opened b)
image_by x p _ e t k task errno b = absurd t

pub image_exact : (s : Call) (r : Outcome) → Way s r
    → WhereRead r.mounts s.before.host.told (λ m w. (k : Kernel) (task : ℕ) (errno : Errno)
    → begun m w r.opening ≡ Refuses k task errno → MayFailToStart task errno r.fault)
image_exact s r way =
    where_read s r (λ m w. (k : Kernel) (task : ℕ) (errno : Errno)
    → begun m w r.opening ≡ Refuses k task errno → MayFailToStart task errno r.fault) way
    (λ m o w told. image_by (session s m r w) (output s) r.fault o.form (o.told w told))

-- ---- from the bytes of a mount file to the answer

pub told_file : (shelf : Option Shelf) (files : Shelf) (F : Shelf → Type 0) → shelf ≡ Some files → WhereTold shelf F
    → F files
told_file shelf files F e h = of (subst (λ (o : Option Shelf). WhereTold o F) e h)
  where
    of : WhereTold (Some files) F → F files
    of h = h

both_there : {A R : Type 0} (o : Option A) (P Q : A → Type 0) → ((x : A) → P x → Q x → R) → IsSomeAnd o P
    → IsSomeAnd o Q → R
both_there None P Q f p q = absurd p
both_there (Some x) P Q f p q = f x p q

faulty_same : (command : Command) (shelf : Shelf) (f g : MountFault) → NamesFaulty command shelf f
    → NamesFaulty command shelf g → f ≡ g
faulty_same command shelf f g p q =
    both_there (command_bytes command shelf) (λ b. IsFaultOf b f) (λ b. IsFaultOf b g) (λ b. fault_same b f g) p q

named_same : (command : Command) (shelf : Shelf) (m n : Mounts) → NamesMountFile command shelf m
    → NamesMountFile command shelf n → m ≡ n
named_same command shelf m n p q =
    both_there (command_bytes command shelf) (λ b. IsMountFile b m) (λ b. IsMountFile b n) (λ b. mounts_same b m n) p q

never_both : (command : Command) (shelf : Shelf) (m : Mounts) (f : MountFault) → NamesMountFile command shelf m
    → NamesFaulty command shelf f → ⊥
never_both command shelf m f p q =
    both_there (command_bytes command shelf) (λ b. IsMountFile b m) (λ b. IsFaultOf b f) (λ b. no_fault b m f) p q

read_by : (command : Command) (before after : Side Shelf) (shelf : Shelf) (reason : MountFault) (f : Fault)
    → before.told ≡ Some shelf → NamesFaulty command shelf reason → FailsToRead command before after f
    → MayFailToRead reason f
read_by command before after shelf reason faults.SourceFault e is h = inr (inl refl)
read_by command before after shelf reason (faults.Mounts f) e is h =
    inl (ap (λ (x : MountFault). faults.Mounts x)
    (faulty_same command shelf f reason (told_file before.told shelf (λ x. NamesFaulty command x f) e h) is))
read_by command before after shelf reason faults.Memory e is h = inr (inr refl)
read_by command before after shelf reason _ e is h = absurd h

-- the command and the shelf of a fault that is met
pub record Met (s : Call) (fault : MountFault) : Type 0 where
  pub command : Command
  pub shelf : Shelf
  pub words_are : s.words ≡ Some command
  pub shelf_is : s.before.source.told ≡ Some shelf
  pub fault_is : NamesFaulty command shelf fault

met_by : (s : Call) (fault : MountFault) (words : Option Command) (shelf : Option Shelf) → s.words ≡ words
    → s.before.source.told ≡ shelf → MeetsFault words shelf fault → Met s fault
met_by s fault None shelf e f meets = absurd meets
met_by s fault (Some command) None e f meets = absurd meets
met_by s fault (Some command) (Some shelf) e f meets =
    record { command = command; shelf = shelf; words_are = e; shelf_is = f; fault_is = meets }

pub mounts_exact : (s : Call) (r : Outcome) → Way s r → (fault : MountFault)
    → MeetsFault s.words s.before.source.told fault → MayFailToRead fault r.fault
mounts_exact s r way fault meets = by way (met_by s fault s.words s.before.source.told refl refl meets)
  where
    by : Way s r → Met s fault → MayFailToRead fault r.fault
    by (Misused e n) m = let f : None ≡ Some m.command = sym e ∙ m.words_are in cc
    by (Unread command e w u) m =
        let same : m.command ≡ command = same_Some _ _ (sym m.words_are ∙ e) in
        read_by command s.before.source s.after.source m.shelf fault r.fault m.shelf_is
        (subst (λ (c : Command). NamesFaulty c m.shelf fault) same m.fault_is) u.fails
    by (Over_file command e w mounts d o) m =
        let same : m.command ≡ command = same_Some _ _ (sym m.words_are ∙ e) in
        absurd (never_both command m.shelf mounts fault
        (told_file s.before.source.told m.shelf (λ x. NamesMountFile command x mounts) m.shelf_is d)
        (subst (λ (c : Command). NamesFaulty c m.shelf fault) same m.fault_is))

-- ---- a run of what is accepted comes to its end

unread_end : (s : Call) (command : Command) (o : Opening) (f : Fault) → s.words ≡ Some command
    → IsAccepted s.words s.before.source.told s.before.host.told o
    → (Rose s.before.source.count s.after.source.count → ⊥)
    → FailsToRead command s.before.source s.after.source f → HasEnded f
unread_end s command o faults.SourceFault e a no_rise h = absurd (no_rise h)
unread_end s command o (faults.Mounts f) e a no_rise h =
    let same : a.command ≡ command = same_Some _ _ (sym a.words_are ∙ e) in
    absurd (never_both command a.files a.mounts f
    (subst (λ (c : Command). NamesMountFile c a.files a.mounts) same a.file)
    (told_file s.before.source.told a.files (λ x. NamesFaulty command x f) a.files_are h))
unread_end s command o faults.Memory e a no_rise h = inr (inr (inr refl))
unread_end s command o _ e a no_rise h = absurd h

not_none : {A : Type 0} (o : Option A) → IsSome o → o ≡ None → ⊥
not_none None h e = cc
not_none (Some x) h e = cc

-- the accepted mount file is the one that was read
file_is : (s : Call) (command : Command) (m : Mounts) (r : Outcome) → s.words ≡ Some command
    → ReadsAs command s.before.source.told m
    → (a : IsAccepted s.words s.before.source.told s.before.host.told r.opening) → a.mounts ≡ m
file_is s command m r e d a =
    let same : a.command ≡ command = same_Some _ _ (sym a.words_are ∙ e) in
    named_same command a.files a.mounts m
    (subst (λ (c : Command). NamesMountFile c a.files a.mounts) same a.file)
    (told_file s.before.source.told a.files (λ x. NamesMountFile command x m) a.files_are d)

over_end : (s : Call) (command : Command) (m : Mounts) (r : Outcome) (f : Fault) → s.words ≡ Some command
    → ReadsAs command s.before.source.told m → Over s m r → r.fault ≡ f
    → IsAccepted s.words s.before.source.told s.before.host.told r.opening
    → (Rose s.before.host.count s.after.host.count → ⊥) → (Rose s.before.sink.count s.after.sink.count → ⊥)
    → HasEnded f
over_end s command m r faults.Done e d o h a no_host no_sink = inl refl
over_end s command m r faults.Full e d o h a no_host no_sink = inr (inl refl)
over_end s command m r faults.Stuck e d o h a no_host no_sink = inr (inr (inl refl))
over_end s command m r faults.Memory e d o h a no_host no_sink = inr (inr (inr refl))
over_end s command m r faults.SinkFault e d o h a no_host no_sink =
    absurd (no_sink (any_as s m r faults.SinkFault o h))
over_end s command m r faults.HostFault e d o h a no_host no_sink =
    absurd (no_host (any_as s m r faults.HostFault o h).0)
over_end s command m r (faults.Image task errno) e d o h a no_host no_sink =
    let t = told_as s m r (faults.Image task errno) o h a.tree a.tree_is in
    absurd (a.starts t.left task errno (ap (λ x. begun x a.tree r.opening) (file_is s command m r e d a) ∙ t.refuses))
over_end s command m r (faults.Grant n) e d o h a no_host no_sink =
    let t = told_as s m r (faults.Grant n) o h a.tree a.tree_is in
    absurd (not_none (granted a.mounts.mounts a.tree) a.folders
    (ap (λ (x : Mounts). granted x.mounts a.tree) (file_is s command m r e d a)
    ∙ lacking_none 1 m.mounts a.tree n t.1))
over_end s command m r faults.Usage e d o h a no_host no_sink = absurd (any_as s m r faults.Usage o h)
over_end s command m r (faults.Mounts f) e d o h a no_host no_sink = absurd (any_as s m r (faults.Mounts f) o h)
over_end s command m r faults.SourceFault e d o h a no_host no_sink = absurd (any_as s m r faults.SourceFault o h)

pub complete : (s : Call) (r : Outcome) → Way s r
    → IsAccepted s.words s.before.source.told s.before.host.told r.opening
    → (Rose s.before.source.count s.after.source.count → ⊥) → (Rose s.before.host.count s.after.host.count → ⊥)
    → (Rose s.before.sink.count s.after.sink.count → ⊥) → HasEnded r.fault
complete s r (Misused e n) a no_source no_host no_sink = let f : None ≡ Some a.command = sym e ∙ a.words_are in cc
complete s r (Unread command e w u) a no_source no_host no_sink =
    unread_end s command r.opening r.fault e a no_source u.fails
complete s r (Over_file command e w m d o) a no_source no_host no_sink =
    over_end s command m r r.fault e d o refl a no_host no_sink
