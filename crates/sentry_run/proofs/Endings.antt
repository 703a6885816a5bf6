-- How the opening and the run of the tasks end, from what the opening came to.
use Rattle.std.proofs.Common.{◌≡◌, inl, inr, ℕ, ◌+◌, List, [], length, refl, ap, sym, ◌∙◌, subst}
use Rattle.std.proofs.Common.{arith}
use Rattle.std.specs.Prelude.{Option, Some, None, IfSome, IsSome, IsSomeAnd, is_some, option_map}
use Rattle.std.specs.FinMap as map
use Rattle.std.specs.Ordering.{nat_cmp}
use Rattle.std.proofs.lemmas.List.{append-nil, drop_all}
use Rattle.std.proofs.lemmas.Option.{same_Some}
use Rattle.sn_base.proofs.Maps.{get_of_empty}
use Rattle.host_node.specs.Tree.{Shape}
use Rattle.mount_file.specs.declared.mounts.Mounts.{Mounts}
use Rattle.kernel_model.specs.declared.entry.Entry.{Entry}
use Rattle.kernel_model.specs.declared.kernel.Kernel.{Kernel}
use Rattle.kernel_model.specs.declared.opening.Opening.{Opening}
use Rattle.kernel_model.specs.declared.opening.OpenedTask.{OpenedTask}
use Rattle.kernel_model.specs.files.FileTree.{Nodes}
use Rattle.kernel_model.specs.files.Settled.{tree_now}
use Rattle.kernel_model.specs.opening.Opening.{bare, opening_of, root_of, rooted, tasks_begun, Opens}
use Rattle.image_walk.specs.declared.granted.Numbering.{Numbering}
use Rattle.image_walk.specs.Granted.{LentChild, CanGiveBack, GivesBack}
use Rattle.image_walk.specs.Standing.{AreNodes, KeepsRoots, no_left}
use Rattle.image_walk.proofs.OutAgain.{can_give_back}
use Rattle.image_walk.proofs.Back.{back_same}
use Rattle.image_walk.proofs.Settling.{settles}
use Rattle.call_table.specs.declared.processes.Processes.{Processes}
use Rattle.call_table.specs.Processes.{kernel_of_processes}
use Rattle.run_opening.specs.declared.opening.OpenErr.{OpenErr}
use Rattle.run_opening.specs.declared.opening.OpenErr.TheVariants as openings
use Rattle.run_opening.specs.Begun.{HasBegun, Stops}
use Rattle.run_opening.specs.Openings.{IsStanding, StandsAfter, StandsStill, beside_of, numbering_of}
use Rattle.run_opening.specs.Records.{IsRecorded}
use Rattle.run_opening.specs.Told.{TreesTold, kernel_told, nodes_told, trees_told}
use Rattle.run_opening.specs.Trees.{AreOthers, Others, trees_with}
use Rattle.run_opening.proofs.Roots.{have_trees}
use Rattle.run_opening.proofs.Telling.{Tells, tells}
use Rattle.sentry_run.specs.declared.play.End.{End}
use Rattle.sentry_run.specs.declared.play.End.TheVariants as ends
use Rattle.sentry_run.specs.Played.{RunEnded, EndsTold, RanFrom, ReplaysTo, Runs, SameText, end_of_opening, over_nodes, over_told}
use Rattle.sentry_run.proofs.Uncounting.{back_alike}
use Rattle.sentry_run.proofs.Records.{opened_by, record_with}

-- ---- what is given back

-- it is one tree
gives_same : (root : Option Shape) (children : List LentChild) (r : Shape) (told : Option Shape) (after : Shape)
    → root ≡ Some r → GivesBack root children told → GivesBack root children (Some after) → told ≡ Some after
gives_same root children r told after e a b =
    subst (λ (o : Option Shape). GivesBack o children told) e a
    ∙ sym (subst (λ (o : Option Shape). GivesBack o children (Some after)) e b)

-- what an opening leaves of a folder stands, whatever it ended with,
pub standing_after : (num : Numbering) (t : Shape) (root : Option Shape) (children : List LentChild) (why : OpenErr)
    → StandsAfter why num t root children → IsStanding num t root children
standing_after num t root children (openings.Image task errno) s = s
standing_after num t root children openings.Memory s = record { names = s.names; rises = []; stands = s.stands }

-- and can be put together again,
pub can_back : (num : Numbering) (t : Shape) (root : Option Shape) (children : List LentChild)
    → IsStanding num t root children
    → CanGiveBack root children
can_back num t root children s = can_give_back num t s.names s.rises root children s.stands

-- and where no count has risen it is as it was
pub ended_lacking : (m : Mounts) (others : Others) (t : Shape) (root : Option Shape) (children : List LentChild)
    (opening : Opening) (trace : List Entry) (after : Shape)
    → StandsStill (numbering_of m.mounts) t root children → trace ≡ []
    → GivesBack root children (Some after)
    → EndsTold m (trees_told others root children) t after opening trace ends.Memory
ended_lacking m others t root children opening trace after s none gives =
    let back = back_same (numbering_of m.mounts) t s.names root children s.stands in
    inl (none, sym (same_Some t after (gives_same root children _ (Some t) after s.stands.root_tells back gives)))

-- ---- an opening that did not begin all tasks

pub ended_stopped : (m : Mounts) (others : Others) (t : Shape) (why : OpenErr) (tasks : List OpenedTask)
    (root : Option Shape) (children : List LentChild) (opening : Opening) (trace : List Entry) → IsRecorded m tasks
    → opening ≡ record_with m tasks → trace ≡ []
    → Stops m 0 [] tasks why (trees_told others root children) (bare m (trees_with others t))
    → StandsAfter why (numbering_of m.mounts) t root children → (after : Shape)
    → GivesBack root children (Some after)
    → EndsTold m (trees_told others root children) t after opening trace (end_of_opening why)
ended_stopped m others t openings.Memory tasks root children opening trace r o none stops stands after gives =
    ended_lacking m others t root children opening trace after stands none gives
ended_stopped m others t (openings.Image task errno) tasks root children opening trace r o none stops stands after
    gives = (
      record {
        left = stops.left;
        refuses =
            ap (opening_of m (trees_with others t)) o ∙ opened_by m (trees_with others t) tasks r
            ∙ ap (λ os. tasks_begun 1 m.tasks os (bare m (trees_with others t))) stops.added ∙ stops.refuses;
        settles =
            stops.others_keep after
            (gives_same root children _ (tree_now stops.left no_left (root_of m.mounts)) after
            stands.stands.root_tells stops.settles gives);
        alike = back_alike (numbering_of m.mounts) t root children stands after gives;
      },
      none,
    )

-- ---- one that began all

module _ (m : Mounts) (others : Others) (is : AreOthers m.mounts others) (t : Shape) (tasks : List OpenedTask)
    (p : Processes) (root : Option Shape) (children : List LentChild) (opening : Opening) (r : IsRecorded m tasks)
    (o : opening ≡ record_with m tasks) (s : StandsStill (numbering_of m.mounts) t root children)
    (b : IsSomeAnd (kernel_told m (trees_told others root children) p 0)
    (HasBegun m 0 (length m.tasks) [] tasks (bare m (trees_with others t)))) where
  abbrev f : TreesTold
  f = trees_told others root children

  h : Tells (numbering_of m.mounts) others t s.names root children
  h = tells m.mounts others is t s.names root children s.stands

  abbrev start : Kernel
  start = kernel_of_processes p (beside_of m h.nodes) 0

  tells_start : kernel_told m f p 0 ≡ Some start
  tells_start = ap (option_map (λ nodes. kernel_of_processes p (beside_of m nodes) 0)) h.told

  begun : HasBegun m 0 (length m.tasks) [] tasks (bare m (trees_with others t)) start
  begun =
      subst (λ (x : Option Kernel). IsSomeAnd x (HasBegun m 0 (length m.tasks) [] tasks (bare m (trees_with others t))))
      tells_start b

  opens : opening_of m (trees_with others t) opening ≡ Opens start
  opens =
      ap (opening_of m (trees_with others t)) o ∙ opened_by m (trees_with others t) tasks r
      ∙ ap (λ os. tasks_begun 1 m.tasks os (bare m (trees_with others t)))
      (begun.added ∙ sym (append-nil begun.opened)) ∙ begun.begun []
      ∙ ap (λ ps. tasks_begun (length m.tasks + 1) ps [] start) (drop_all (length m.tasks) m.tasks (omega arith))

  runs : (state : Kernel) (trace : List Entry) (after : Shape) → ReplaysTo start trace state → state.nodes ≡ h.nodes
      → state.failed ≡ map.empty → GivesBack root children (Some after) → Runs m others t after opening trace state
  runs state trace after replays nodes failed gives = record {
    start = start;
    opens = opens;
    replayed = replays.0;
    whole = replays.1;
    settles =
        have_trees m.mounts others t after state is
        (subst (λ (n : Nodes). KeepsRoots (numbering_of m.mounts) (rooted 1 (trees_with others t)) n) (sym nodes)
        h.kept)
        (λ ino differs low. ap (λ (f : map.FinMap nat_cmp ℕ). map.get f ino) failed ∙ get_of_empty ino)
        (gives_same root children _ (tree_now state no_left (root_of m.mounts)) after s.stands.root_tells
        (settles (numbering_of m.mounts) state t s.names root children
        (subst (λ (n : Nodes). AreNodes (numbering_of m.mounts) n t s.names) (sym nodes) h.are) failed s.stands) gives);
  }

  tells_over : (k : Kernel) → over_told m f k ≡ Some (over_nodes m h.nodes k)
  tells_over k = ap (option_map (λ nodes. over_nodes m nodes k)) h.told

  -- what holds of the kernel that is told holds of it with its nodes
  over_is : (k : Kernel) (fact : Kernel → Type 0) → IsSomeAnd (over_told m f k) fact → fact (over_nodes m h.nodes k)
  over_is k fact e = subst (λ (x : Option Kernel). IsSomeAnd x fact) (tells_over k) e

  is_over : (k : Kernel) (fact : Kernel → Type 0) → fact (over_nodes m h.nodes k) → IsSomeAnd (over_told m f k) fact
  is_over k fact e = subst (λ (x : Option Kernel). IsSomeAnd x fact) (sym (tells_over k)) e

  ended_from : (trace : List Entry) (end : End) → RanFrom m f start end trace → (after : Shape)
      → GivesBack root children (Some after) → EndsTold m f t after opening trace end
  ended_from trace (ends.Done k) ran after gives =
      let e = over_is k _ ran in is_over k _ (runs (over_nodes m h.nodes k) trace after e.0 refl refl gives, e.1)
  ended_from trace (ends.Full k) ran after gives =
      let e = over_is k _ ran in is_over k _ (runs (over_nodes m h.nodes k) trace after e.0 refl refl gives, e.1, e.2)
  ended_from trace (ends.Stuck k) ran after gives =
      let e = over_is k _ ran in is_over k _ (runs (over_nodes m h.nodes k) trace after e.0 refl refl gives, e.1)
  ended_from trace ends.Memory ran after gives =
      let same : over_nodes m h.nodes ran.0 ≡ ran.0 = same_Some _ _ (sym (tells_over ran.0) ∙ ran.2) in
      inr (
        ran.0,
        runs ran.0 trace after ran.1 (ap (λ (k : Kernel). k.nodes) (sym same))
            (ap (λ (k : Kernel). k.failed) (sym same)) gives,
        ran.2,
      )
  ended_from trace (ends.Image task errno) ran after gives = absurd ran
  ended_from trace ends.HostFault ran after gives = absurd ran
  ended_from trace (ends.Grant mount) ran after gives = absurd ran

  pub ended_begun : (trace : List Entry) (end : End) → IfSome (kernel_told m f p 0) (λ k. RanFrom m f k end trace)
      → (after : Shape) → GivesBack root children (Some after) → EndsTold m f t after opening trace end
  ended_begun trace end ran after gives =
      ended_from trace end
      (subst (λ (x : Option Kernel). IfSome x (λ k. RanFrom m f k end trace)) tells_start ran) after gives

-- ---- whoever tells it

-- the kernel that is told prints as its processes do
told_then : (m : Mounts) (f : TreesTold) (k : Kernel) (fact : Kernel → Type 0) → IsSomeAnd (over_told m f k) fact
    → (state : Kernel) × fact state × SameText state k
told_then m f k fact h = by (nodes_told (numbering_of m.mounts) f) h
  where
    by : (ns : Option Nodes) → IsSomeAnd (option_map (λ nodes. over_nodes m nodes k) ns) fact
        → (state : Kernel) × fact state × SameText state k
    by None e = absurd e
    by (Some nodes) e = (over_nodes m nodes k, e, record { tasks = refl; console = refl })

-- how a run ended, whatever told it
pub ended_told : (m : Mounts) (f : TreesTold) (t after : Shape) (opening : Opening) (trace : List Entry) (end : End)
    → EndsTold m f t after opening trace end → RunEnded m f.others t after opening trace end
ended_told m f t after opening trace (ends.Done k) h = let e = told_then m f k _ h in (e.0, e.1.0, e.2, e.1.1)
ended_told m f t after opening trace (ends.Full k) h = let e = told_then m f k _ h in (e.0, e.1.0, e.2, e.1.1, e.1.2)
ended_told m f t after opening trace (ends.Stuck k) h = let e = told_then m f k _ h in (e.0, e.1.0, e.2, e.1.1)
ended_told m f t after opening trace (ends.Image task errno) h = h
ended_told m f t after opening trace ends.Memory h =
    elim h [ inl lacking ↦ inl lacking | inr e ↦ inr (e.0, e.1) ]
ended_told m f t after opening trace ends.HostFault h = absurd h
ended_told m f t after opening trace (ends.Grant mount) h = absurd h

-- ---- whatever is told

pub can_where : (told root : Option Shape) (children : List LentChild) → (told ≡ None → root ≡ None)
    → ((t : Shape) → told ≡ Some t → CanGiveBack root children) → CanGiveBack root children
can_where None root children silent tells =
    subst (λ (o : Option Shape). CanGiveBack o children) (sym (silent refl)) tt
can_where (Some t) root children silent tells = tells t refl

pub tells_where : (told root : Option Shape) → ((t : Shape) → told ≡ Some t → IsSome root) → IsSome told → IsSome root
tells_where None root tells h = cc h
tells_where (Some t) root tells h = tells t refl

pub some_told : (num : Numbering) (t : Shape) (root : Option Shape) (children : List LentChild)
    → IsStanding num t root children → IsSome root
some_told num t root children s = ap is_some s.stands.root_tells
