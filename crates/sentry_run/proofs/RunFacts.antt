-- What each answer of a run says, fault by fault.
use Rattle.std.proofs.Common.{◌≡◌, ◌⊎◌, inl, inr, ℕ, ◌<◌, ◌≤◌, true, false, List, [], length, refl, ap, sym, ◌∙◌}
use Rattle.std.proofs.Common.{subst}
use Rattle.std.proofs.lemmas.List.{append-nil}
use Rattle.std.specs.Prelude.{Option, Some, None, IsSome, ⊤}
use Rattle.host_node.specs.Tree.{Shape}
use Rattle.sn_base.specs.Faults.{HasCause, Rose}
use Rattle.sn_edge.specs.Taken.{with_taken}
use Rattle.mount_file.specs.Form.{HasForm}
use Rattle.mount_file.specs.declared.mounts.Mounts.{Mounts}
use Rattle.kernel_model.specs.declared.entry.Entry.{Entry}
use Rattle.kernel_model.specs.declared.kernel.Kernel.{Kernel}
use Rattle.kernel_model.specs.entries.History.{any_live}
use Rattle.sentry_run.specs.declared.outcome.Fault.{Fault}
use Rattle.sentry_run.specs.declared.outcome.Fault.TheVariants as faults
use Rattle.sentry_run.specs.declared.play.End.{End}
use Rattle.sentry_run.specs.declared.play.End.TheVariants as ends
use Rattle.sentry_run.specs.Played.{IsStuck, nothing_opened, TraceOf}
use Rattle.image_walk.specs.Standing.{no_left}
use Rattle.sentry_run.specs.Causes.{is_host_fault, is_grant_failed}
use Rattle.sentry_run.specs.Concluded.{Writes, Fronts, IsCutOff, StopsShort, Concludes}
use Rattle.sentry_run.specs.Outcome.{first_lacking, IsHistory, IsOver, text_of, KeepsOutside, LeavesInside}
use Rattle.sentry_run.specs.Granted.{IsOfMounts}
use Rattle.sentry_run.specs.Sides.{Side, Sides}
use Rattle.sentry_run.proofs.Courses.{Session, Output, text_with, state_left, world_with, Began, Refused, Course}
use Rattle.sentry_run.proofs.Courses.{Finished, Filled, Halted, Stopped, Starved, Untaken, Failing, Missing}
use Rattle.sentry_run.proofs.Courses.{state_of}
use Rattle.sentry_run.proofs.Folders.{outside_root}

-- ---- whatever the host tells

pub record Silent (trace : List Entry) (before after : Side (List ℕ)) : Type 0 where
  pub empty : trace ≡ []
  pub same_sink : after.told ≡ before.told

abbrev pub AnyFacts : Mounts → List Entry → (before after : Sides) → Fault → Type 0
AnyFacts m trace before after faults.Done = ⊤
AnyFacts m trace before after faults.Full = length trace ≡ m.entries
AnyFacts m trace before after faults.Stuck = length trace < m.entries
AnyFacts m trace before after faults.SinkFault = Rose before.sink.count after.sink.count
AnyFacts m trace before after faults.Memory = ⊤
AnyFacts m trace before after (faults.Image task errno) = Silent trace before.sink after.sink
AnyFacts m trace before after faults.HostFault =
    Rose before.host.count after.host.count × Silent trace before.sink after.sink
AnyFacts m trace before after (faults.Grant n) =
    (1 ≤ n) × (n ≤ length m.mounts) × Silent trace before.sink after.sink
AnyFacts m trace before after _ = ⊥

any_written : (text : List ℕ) (m : Mounts) (trace : List Entry) (before after : Sides) (whole fault : Fault)
    → AnyFacts m trace before after whole → Writes text whole before.sink after.sink fault
    → AnyFacts m trace before after fault
any_written text m trace before after whole fault facts (inl w) =
    subst (AnyFacts m trace before after) (sym w.0) facts
any_written text m trace before after whole fault facts (inr (inl w)) =
    subst (AnyFacts m trace before after) (sym w.0) w.1
any_written text m trace before after whole fault facts (inr (inr w)) =
    subst (AnyFacts m trace before after) (sym w.0) tt

pub any_facts : (m : Mounts) (trace : List Entry) (text : Kernel → List ℕ) (before after : Sides) (fault : Fault)
    (end : End) → TraceOf m.entries end trace → HasCause (is_grant_failed end) before.host.count after.host.count
    → IsOfMounts (length m.mounts) end → Concludes end text before.sink after.sink fault
    → AnyFacts m trace before after fault
any_facts m trace text before after fault (ends.Done kernel) t h n c =
    any_written (text kernel) m trace before after faults.Done fault tt c
any_facts m trace text before after fault (ends.Full kernel) t h n c =
    any_written (text kernel) m trace before after faults.Full fault t c
any_facts m trace text before after fault (ends.Stuck kernel) t h n c =
    any_written (text kernel) m trace before after faults.Stuck fault t c
any_facts m trace text before after fault (ends.Image task errno) t h n c =
    subst (AnyFacts m trace before after) (sym c.0) (record { empty = t; same_sink = c.1 })
any_facts m trace text before after fault ends.HostFault t h n c =
    subst (AnyFacts m trace before after) (sym c.0) (h.failed refl, record { empty = t; same_sink = c.1 })
any_facts m trace text before after fault (ends.Grant mount) t h n c =
    subst (AnyFacts m trace before after) (sym c.0) (n.0, n.1, record { empty = t; same_sink = c.1 })
any_facts m trace text before after fault ends.Memory t h n c =
    subst (AnyFacts m trace before after) (sym c.0) tt

-- an answer tells of a host fault exactly where the grant failed
written_host : (text : List ℕ) (whole : Fault) (before after : Side (List ℕ)) (fault : Fault)
    → is_host_fault whole ≡ false → Writes text whole before after fault → false ≡ is_host_fault fault
written_host text whole before after fault e (inl w) = sym (ap is_host_fault w.0 ∙ e)
written_host text whole before after fault e (inr (inl w)) = sym (ap is_host_fault w.0)
written_host text whole before after fault e (inr (inr w)) = sym (ap is_host_fault w.0)

pub grant_told : (text : Kernel → List ℕ) (before after : Side (List ℕ)) (fault : Fault) (end : End)
    → Concludes end text before after fault → is_grant_failed end ≡ is_host_fault fault
grant_told text before after fault (ends.Done kernel) c =
    written_host (text kernel) faults.Done before after fault refl c
grant_told text before after fault (ends.Full kernel) c =
    written_host (text kernel) faults.Full before after fault refl c
grant_told text before after fault (ends.Stuck kernel) c =
    written_host (text kernel) faults.Stuck before after fault refl c
grant_told text before after fault (ends.Image task errno) c = sym (ap is_host_fault c.0)
grant_told text before after fault ends.HostFault c = sym (ap is_host_fault c.0)
grant_told text before after fault (ends.Grant mount) c = sym (ap is_host_fault c.0)
grant_told text before after fault ends.Memory c = sym (ap is_host_fault c.0)

-- ---- where the host tells

-- the sink took nothing of the text, or not all of it
abbrev pub CutOf : Session → Output → Type 0
CutOf x p = IsCutOff p.before.told p.after.told (text_of (state_left x) x.outcome.trace p.flag)

-- the front of the text that the sink took
abbrev pub FrontOf : Session → Output → Type 0
FrontOf x p = Fronts p.before.told p.after.told (text_of (state_left x) x.outcome.trace p.flag)

-- want of memory came: what is outside the grants stands, and what there is of the trace is a history
pub record Short (x : Session) (p : Output) : Type 0 where
  pub kept : KeepsOutside x.mounts x.world x.after
  pub inside : LeavesInside x.mounts x.world (record x.outcome { left = no_left }) x.after
  pub history : (x.outcome.trace ≡ []) ⊎ IsHistory x.mounts x.world x.outcome.opening x.outcome.trace
  pub cut : CutOf x p

pub record Unopened (x : Session) : Type 0 where
  pub same : x.after ≡ Some x.world
  pub opened : x.outcome.opening ≡ nothing_opened

abbrev pub ToldFacts : Session → Output → Fault → Type 0
ToldFacts x p faults.Done =
    (state : Kernel) × Began x state × (any_live state ≡ false)
    × (p.after.told ≡ with_taken p.before.told (text_with x p state))
ToldFacts x p faults.Full =
    (state : Kernel) × Began x state × ((any_live state ≡ true) × (length x.outcome.trace ≡ x.mounts.entries))
    × (p.after.told ≡ with_taken p.before.told (text_with x p state))
ToldFacts x p faults.Stuck =
    (state : Kernel) × Began x state × IsStuck x.mounts x.outcome.trace state
    × (p.after.told ≡ with_taken p.before.told (text_with x p state))
ToldFacts x p faults.SinkFault =
    (state : Kernel) × Began x state × IsOver x.mounts x.outcome.trace state
    × StopsShort p.before.told p.after.told (text_with x p state)
ToldFacts x p faults.Memory = Short x p
ToldFacts x p (faults.Image task errno) = Refused x task errno
ToldFacts x p faults.HostFault = Unopened x
ToldFacts x p (faults.Grant n) = Unopened x × (first_lacking 1 x.mounts.mounts x.world ≡ Some n)
ToldFacts x p _ = ⊥

-- nothing taken is a front of any text
nothing_taken : (sink : Option (List ℕ)) → with_taken sink [] ≡ sink
nothing_taken None = refl
nothing_taken (Some taken) = ap Some (append-nil taken)

-- what is cut off is a front
pub front_of_cut : (before after : Option (List ℕ)) (text : List ℕ) → IsCutOff before after text
    → Fronts before after text
front_of_cut before after text (inl same) = (0, same ∙ sym (nothing_taken before))
front_of_cut before after text (inr short) = (short.0, short.2)

is_some : (k : Option Kernel) (state : Kernel) → k ≡ Some state → IsSome k
is_some k state e = subst (λ (o : Option Kernel). IsSome o) (sym e) refl

pub history_of : (x : Session) (state : Kernel) → Began x state
    → IsHistory x.mounts x.world x.outcome.opening x.outcome.trace
history_of x state b =
    record { start = b.start; opens = b.opens; defined = is_some _ state b.replayed; whole = b.whole }

pub front_of : (x : Session) (p : Output) (state : Kernel) → Began x state
    → Fronts p.before.told p.after.told (text_with x p state) → FrontOf x p
front_of x p state b f =
    subst (λ (k : Option Kernel). Fronts p.before.told p.after.told (text_of k x.outcome.trace p.flag))
    (sym (state_of x state b)) f

cut_of : (x : Session) (p : Output) (state : Kernel) → Began x state
    → IsCutOff p.before.told p.after.told (text_with x p state) → CutOf x p
cut_of x p state b f =
    subst (λ (k : Option Kernel). IsCutOff p.before.told p.after.told (text_of k x.outcome.trace p.flag))
    (sym (state_of x state b)) f

kept_of : (x : Session) (tree : Shape) → HasForm x.mounts → x.after ≡ Some (world_with x tree)
    → KeepsOutside x.mounts x.world x.after
kept_of x tree form put =
    (world_with x tree, put, outside_root x.mounts.mounts tree x.world form.rooted form.apart)

short_began : (x : Session) (p : Output) (state : Kernel) → HasForm x.mounts → Began x state
    → IsCutOff p.before.told p.after.told (text_with x p state) → Short x p
short_began x p state e b f = record {
  kept = kept_of x b.tree e b.put;
  inside = inr (state, state_of x state b, b.settles);
  history = inr (history_of x state b);
  cut = cut_of x p state b f;
}

-- a run that is over: its text was taken, or the sink failed before its end, or memory ran out
told_written : (x : Session) (p : Output) (whole fault : Fault) (state : Kernel) → HasForm x.mounts
    → Began x state → IsOver x.mounts x.outcome.trace state
    → (p.after.told ≡ with_taken p.before.told (text_with x p state) → ToldFacts x p whole)
    → Writes (text_with x p state) whole p.before p.after fault → ToldFacts x p fault
told_written x p whole fault state e b over facts (inl w) = subst (ToldFacts x p) (sym w.0) (facts w.1)
told_written x p whole fault state e b over facts (inr (inl w)) =
    subst (ToldFacts x p) (sym w.0) (state, b, over, w.2)
told_written x p whole fault state e b over facts (inr (inr w)) =
    subst (ToldFacts x p) (sym w.0) (short_began x p state e b w.1)

pub told_facts : (x : Session) (p : Output) (fault : Fault) → HasForm x.mounts → Course x p fault
    → ToldFacts x p fault
told_facts x p fault e (Finished state b dead w) =
    told_written x p faults.Done fault state e b (inl dead) (λ taken. (state, b, dead, taken)) w
told_facts x p fault e (Filled state b live full w) =
    told_written x p faults.Full fault state e b (inr (inl (live, full))) (λ taken. (state, b, (live, full), taken)) w
told_facts x p fault e (Halted state b stuck w) =
    told_written x p faults.Stuck fault state e b (inr (inr stuck)) (λ taken. (state, b, stuck, taken)) w
told_facts x p fault e (Stopped task errno r empty f same) = subst (ToldFacts x p) (sym f) r
told_facts x p fault e (Starved state b f same) =
    subst (ToldFacts x p) (sym f) (short_began x p state e b (inl same))
told_facts x p fault e (Untaken stands empty f same) =
    subst (ToldFacts x p) (sym f)
    (record {
      kept = (x.world, stands, refl);
      inside = inl (empty, stands);
      history = inl empty;
      cut = inl same;
    })
told_facts x p fault e (Failing stands opened empty f same) =
    subst (ToldFacts x p) (sym f) (record { same = stands; opened = opened })
told_facts x p fault e (Missing stands opened empty mount no_folder f same) =
    subst (ToldFacts x p) (sym f) (record { same = stands; opened = opened }, no_folder)
