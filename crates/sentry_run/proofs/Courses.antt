-- How a run over granted folders goes, in the words of the clauses of a run.
use Rattle.std.proofs.Common.{◌≡◌, ◌⊎◌, inl, inr, ℕ, ◌+◌, Bool, true, false, List, [], ◌∷◌, ◌++◌, length, refl, ap, sym}
use Rattle.std.proofs.Common.{◌∙◌, subst, arith}
use Rattle.std.specs.Prelude.{Option, Some, IsSomeAnd, if◌then◌else◌, nat_eq, option_and_then}
use Rattle.std.proofs.lemmas.Bool.{eqb-true, and_parts}
use Rattle.std.specs.FinMap as map
use Rattle.host_node.specs.Tree.{Shape}
use Rattle.host_node.specs.Routes.{put_subtree, subtree}
use Rattle.host_node.proofs.RouteLemmas.{put_subtree_found, subtree-directory_at}
use Rattle.sn_errno.specs.declared.errno.Errno.{Errno}
use Rattle.task_table.specs.Table.{TaskTable}
use Rattle.kernel_model.specs.declared.entry.Entry.{Entry}
use Rattle.kernel_model.specs.declared.kernel.Kernel.{Kernel}
use Rattle.mount_file.specs.declared.mounts.Mounts.{Mounts}
use Rattle.mount_file.specs.Form.{HasForm}
use Rattle.kernel_model.specs.declared.opening.Opening.{Opening}
use Rattle.kernel_model.specs.files.Numbers.{count_up}
use Rattle.kernel_model.specs.opening.Opening.{Opens, Refuses, Misfits, opening_of, root_among, tasks_begun, bare}
use Rattle.kernel_model.specs.opening.Records.{is_of}
use lib.Pointwise.{pointwise}
use Rattle.kernel_model.specs.entries.History.{replay, each_whole, any_live}
use Rattle.kernel_model.specs.printed.Printed.{printed, console_text, groups_text, trace_text}
use Rattle.kernel_model.specs.files.Settled.{tree_now, settled}
use Rattle.sentry_run.specs.declared.outcome.Fault.{Fault}
use Rattle.sentry_run.specs.declared.outcome.Fault.TheVariants as faults
use Rattle.sentry_run.specs.declared.outcome.Outcome.{Outcome}
use Rattle.sentry_run.specs.declared.play.End.{End}
use Rattle.sentry_run.specs.declared.play.End.TheVariants as ends
use Rattle.run_opening.specs.Trees.{HaveTrees, trees_with}
use Rattle.sentry_run.specs.Played.{SameText, Runs, Failed, IsStuck, nothing_opened}
use Rattle.image_walk.specs.Standing.{no_left}
use Rattle.sentry_run.specs.Granted.{PlaysFrom, PlaysOver, root_names}
use Rattle.sentry_run.specs.Concluded.{Writes, Concludes}
use Rattle.sentry_run.specs.Ran.{played_by}
use Rattle.sentry_run.specs.Sides.{Side}
use Rattle.sentry_run.specs.Outcome.{begun, begun_over, first_lacking, granted, started_kernel, state_after}
use Rattle.sentry_run.specs.Outcome.{world_after}
use Rattle.sentry_run.specs.Uncounted.{AreAlikeUncounted}
use Rattle.sentry_run.proofs.Folders.{root_found, settled_root}
use Rattle.sentry_run.proofs.Uncounting.{world_alike}

-- ---- the roots' numbers

-- numbers that are one by one those of a list are that list
same_numbers : (ns ms : List ℕ) → pointwise nat_eq ns ms ≡ true → ns ≡ ms
same_numbers [] [] e = refl
same_numbers [] (m ∷ ms) e = cc
same_numbers (n ∷ ns) [] e = cc
same_numbers (n ∷ ns) (m ∷ ms) e =
    let (first, rest) = and_parts (nat_eq n m) (pointwise nat_eq ns ms) e in
    ap (λ x. x ∷ ns) (eqb-true n m first) ∙ ap (λ xs. m ∷ xs) (same_numbers ns ms rest)

root_numbers : (m : Mounts) (o : Opening) → is_of m o ≡ true → o.roots ≡ count_up 1 (length m.mounts)
root_numbers m o h =
    same_numbers o.roots (count_up 1 (length m.mounts)) (and_parts _ _ (and_parts _ _ h).0).1

-- an opening that came to something else than a misfit is of its mount file
fits_file : (m : Mounts) (ts : List Shape) (o : Opening) → ((opening_of m ts o ≡ Misfits 0) → ⊥) → is_of m o ≡ true
unfolding opening_of
fits_file m ts o no_misfit = by (is_of m o) refl
  where
    by : (b : Bool) → is_of m o ≡ b → is_of m o ≡ true
    by true e = e
    by false e =
        absurd (no_misfit (ap (λ b. if b then tasks_begun 1 m.tasks o.tasks (bare m ts) else Misfits 0) e))

opens_fits : (m : Mounts) (ts : List Shape) (o : Opening) (k : Kernel) → opening_of m ts o ≡ Opens k → is_of m o ≡ true
opens_fits m ts o k e = fits_file m ts o (λ f. let g : Opens k ≡ Misfits 0 = sym e ∙ f in cc)

refuses_fits : (m : Mounts) (ts : List Shape) (o : Opening) (k : Kernel) (task : ℕ) (errno : Errno)
    → opening_of m ts o ≡ Refuses k task errno → is_of m o ≡ true
refuses_fits m ts o k task errno e = fits_file m ts o (λ f. let g : Refuses k task errno ≡ Misfits 0 = sym e ∙ f in cc)

-- ---- what a run left

-- a run over an accepted mount file, where the host tells its world: that before it and what is told then
pub record Session : Type 0 where
  pub mounts : Mounts
  pub world : Shape
  pub after : Option Shape
  pub outcome : Outcome

-- the text of a run: whether the trace is asked for, and the sink before and after it
pub record Output : Type 0 where
  pub flag : Bool
  pub before : Side (List ℕ)
  pub after : Side (List ℕ)

-- the text of a state behind a run's trace, and the state that this trace leaves
abbrev pub text_with : Session → Output → Kernel → List ℕ
text_with x p state = printed state x.outcome.trace p.flag

abbrev pub state_left : Session → Option Kernel
state_left x = state_after x.mounts x.world x.outcome.opening x.outcome.trace

-- the world that a state leaves with nothing left over, and the world with a tree in the place of the folder of the
-- mount at `/`
abbrev pub world_left : Session → Kernel → Shape
world_left x state = world_after x.mounts x.outcome.opening no_left state x.world

abbrev pub world_with : Session → Shape → Shape
world_with x tree = put_subtree (root_names x.mounts.mounts) tree x.world

-- a task began: the trace is a history that leaves this state, and the world has the state's tree
pub record Began (x : Session) (state : Kernel) : Type 0 where
  pub start : Kernel
  pub opens : begun x.mounts x.world x.outcome.opening ≡ Opens start
  pub replayed : replay start x.outcome.trace ≡ Some state
  pub whole : each_whole start x.outcome.trace ≡ true
  pub tree : Shape
  pub put : x.after ≡ Some (world_with x tree)
  pub settles : x.after ≡ Some (world_left x state)

-- the opening execve of that task answered that error
pub record Refused (x : Session) (task : ℕ) (errno : Errno) : Type 0 where
  pub left : Kernel
  pub refuses : begun x.mounts x.world x.outcome.opening ≡ Refuses left task errno
  pub settles : x.after ≡ Some (world_left x left)
  pub alike : IsSomeAnd x.after (λ after. AreAlikeUncounted after x.world)

-- all that was granted, and run over
abbrev pub WentOver : Session → End → Type 0
WentOver x end = PlaysOver x.mounts [] x.mounts.mounts x.world x.after (played_by x.outcome end)

module _ (x : Session) (end : End) (form : HasForm x.mounts) (q : WentOver x end) where
  granted_all : granted x.mounts.mounts x.world ≡ Some (trees_with q.others q.tree)
  granted_all = q.are ∙ ap Some q.all

  place : root_among 1 x.mounts.mounts ≡ 1 + length q.others.before
  place = q.beside.place ∙ omega arith

  begun_all : begun x.mounts x.world x.outcome.opening
      ≡ opening_of x.mounts (trees_with q.others q.tree) x.outcome.opening
  begun_all = ap (begun_over x.mounts x.outcome.opening) granted_all

  -- the world with the tree of the mount at `/` as a state has it is the world that this state leaves
  settles_as : (state : Kernel) → is_of x.mounts x.outcome.opening ≡ true
      → HaveTrees state 1 (trees_with q.others q.tree_then) → x.after ≡ Some (world_left x state)
  settles_as state fits have =
      q.put
      ∙ ap Some (sym (ap (λ rs. settled x.mounts.mounts rs (tree_now state no_left) x.world)
      (root_numbers x.mounts x.outcome.opening fits)
      ∙ settled_root x.mounts.mounts 1 q.others.before q.others.behind q.tree q.tree_then state x.world granted_all
      place form.rooted form.apart have))

  -- its tree stood where its folder is
  there : subtree (root_names x.mounts.mounts) x.world ≡ Some q.tree
  there =
      subtree-directory_at (root_names x.mounts.mounts) q.tree x.world
      (root_found x.mounts.mounts 1 q.others.before q.others.behind q.tree x.world granted_all place form.rooted)

  pub began : (state : Kernel) → Runs x.mounts q.others q.tree q.tree_then x.outcome.opening x.outcome.trace state
      → Began x state
  began state runs = record {
    start = runs.start;
    opens = begun_all ∙ runs.opens;
    replayed = runs.replayed;
    whole = runs.whole;
    tree = q.tree_then;
    put = q.put;
    settles =
        settles_as state
        (opens_fits x.mounts (trees_with q.others q.tree) x.outcome.opening runs.start runs.opens) runs.settles;
  }

  pub refused : (task : ℕ) (errno : Errno)
      → Failed x.mounts q.others q.tree q.tree_then x.outcome.opening task errno → Refused x task errno
  refused task errno failed = record {
    left = failed.left;
    refuses = begun_all ∙ failed.refuses;
    settles =
        settles_as failed.left
        (refuses_fits x.mounts (trees_with q.others q.tree) x.outcome.opening failed.left task errno failed.refuses)
        failed.settles;
    alike =
        subst (λ (o : Option Shape). IsSomeAnd o (λ after. AreAlikeUncounted after x.world)) (sym q.put)
        (world_alike (root_names x.mounts.mounts) q.tree q.tree_then x.world there failed.alike);
  }

  pub as_before : q.tree_then ≡ q.tree → x.after ≡ Some x.world
  as_before same =
      q.put
      ∙ ap Some (ap (world_with x) same ∙ put_subtree_found (root_names x.mounts.mounts) q.tree x.world there)

pub state_of : (x : Session) (state : Kernel) → Began x state → state_left x ≡ Some state
state_of x state b =
    ap (λ s. option_and_then (λ (k : Kernel). replay k x.outcome.trace) (started_kernel s)) b.opens ∙ b.replayed

-- ---- the text

printed_same : (state kernel : Kernel) (trace : List Entry) (flag : Bool) → SameText state kernel
    → printed kernel trace flag ≡ printed state trace flag
printed_same state kernel trace flag same =
    ap (λ c. console_text c ++ groups_text (map.entries kernel.tasks.groups)
    ++ (if flag then trace_text 1 trace else []))
    (sym same.console)
    ∙ ap (λ (ts : TaskTable). console_text state.console ++ groups_text (map.entries ts.groups)
    ++ (if flag then trace_text 1 trace else []))
    (sym same.tasks)

writes_same : (x : Session) (p : Output) (state kernel : Kernel) (whole fault : Fault) → SameText state kernel
    → Writes (text_with x p kernel) whole p.before p.after fault
    → Writes (text_with x p state) whole p.before p.after fault
writes_same x p state kernel whole fault same =
    subst (λ (text : List ℕ). Writes text whole p.before p.after fault)
    (printed_same state kernel x.outcome.trace p.flag same)

-- ---- the course of a run

pub data Course (x : Session) (p : Output) (fault : Fault) : Type 0 where
  Finished : (state : Kernel) → Began x state → any_live state ≡ false
      → Writes (text_with x p state) faults.Done p.before p.after fault → Course x p fault
  Filled : (state : Kernel) → Began x state → any_live state ≡ true → length x.outcome.trace ≡ x.mounts.entries
      → Writes (text_with x p state) faults.Full p.before p.after fault → Course x p fault
  Halted : (state : Kernel) → Began x state → IsStuck x.mounts x.outcome.trace state
      → Writes (text_with x p state) faults.Stuck p.before p.after fault → Course x p fault
  Stopped : (task : ℕ) (errno : Errno) → Refused x task errno → x.outcome.trace ≡ []
      → fault ≡ faults.Image task errno → p.after.told ≡ p.before.told → Course x p fault
  Starved : (state : Kernel) → Began x state → fault ≡ faults.Memory → p.after.told ≡ p.before.told
      → Course x p fault
  Untaken : x.after ≡ Some x.world → x.outcome.trace ≡ [] → fault ≡ faults.Memory
      → p.after.told ≡ p.before.told → Course x p fault
  Failing : x.after ≡ Some x.world → x.outcome.opening ≡ nothing_opened → x.outcome.trace ≡ []
      → fault ≡ faults.HostFault → p.after.told ≡ p.before.told → Course x p fault
  Missing : x.after ≡ Some x.world → x.outcome.opening ≡ nothing_opened → x.outcome.trace ≡ []
      → (mount : ℕ) → first_lacking 1 x.mounts.mounts x.world ≡ Some mount → fault ≡ faults.Grant mount
      → p.after.told ≡ p.before.told → Course x p fault

pub course : (x : Session) (p : Output) (fault : Fault) (end : End) → HasForm x.mounts
    → PlaysFrom x.mounts [] 1 x.mounts.mounts x.world x.after (played_by x.outcome end)
    → Concludes end (text_with x p) p.before p.after fault → Course x p fault
course x p fault (ends.Done kernel) form q c =
    let e = q.ended in
    Finished e.0 (began x (ends.Done kernel) form q e.0 e.1) e.3 (writes_same x p e.0 kernel faults.Done fault e.2 c)
course x p fault (ends.Full kernel) form q c =
    let e = q.ended in
    Filled e.0 (began x (ends.Full kernel) form q e.0 e.1) e.3 e.4 (writes_same x p e.0 kernel faults.Full fault e.2 c)
course x p fault (ends.Stuck kernel) form q c =
    let e = q.ended in
    Halted e.0 (began x (ends.Stuck kernel) form q e.0 e.1) e.3 (writes_same x p e.0 kernel faults.Stuck fault e.2 c)
course x p fault (ends.Image task errno) form q c =
    let e = q.ended in
    Stopped task errno (refused x (ends.Image task errno) form q task errno e.0) e.1 c.0 c.1
course x p fault ends.HostFault form q c = Failing q.0 q.1.0 q.1.1 c.0 c.1
course x p fault (ends.Grant mount) form q c = Missing q.0.0 q.0.1.0 q.0.1.1 mount q.1 c.0 c.1
course x p fault ends.Memory form (inl q) c = Untaken q.0 q.1.1 c.0 c.1
course x p fault ends.Memory form (inr q) c = by q.ended
  where
    by : (((x.outcome.trace ≡ []) × (q.tree_then ≡ q.tree))
        ⊎ ((state : Kernel) × Runs x.mounts q.others q.tree q.tree_then x.outcome.opening x.outcome.trace state))
        → Course x p fault
    by (inl h) = Untaken (as_before x ends.Memory form q h.1) h.0 c.0 c.1
    by (inr h) = Starved h.0 (began x ends.Memory form q h.0 h.1) c.0 c.1
