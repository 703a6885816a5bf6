-- One grant more behind the mount at `/`: what it adds to what those behind it, the opening and the run leave.
use Rattle.std.proofs.Common.{◌≡◌, ℕ, ◌+◌, ◌<◌, ◌^◌, List, [], ◌∷◌}
use Rattle.std.proofs.Common.{◌++◌}
use Rattle.std.proofs.Common.{length, drop, ap, sym, ◌∙◌, subst, arith, length-append}
use Rattle.std.specs.Prelude.{Option, Some, IsSome, option_map, slice_get}
use Rattle.std.proofs.lemmas.List.{append_assoc, append-nil, drop_all}
use Rattle.host_node.specs.declared.kind.Kind.{Kind}
use Rattle.host_node.specs.declared.kind.Kind.TheVariants.{Dir}
use Rattle.host_node.specs.Tree.{Shape, lent}
use Rattle.host_node.specs.Routes.{put_subtree}
use Rattle.host_node.specs.Told.{TellsGranted}
use Rattle.mount_file.specs.Form.{HasForm}
use Rattle.mount_file.specs.declared.mounts.Mount.{Mount}
use Rattle.mount_file.specs.declared.mounts.Mounts.{Mounts}
use Rattle.image_walk.specs.Granted.{LentChild, GivesBack}
use Rattle.run_opening.specs.Told.{trees_told}
use Rattle.run_opening.specs.Trees.{AreAmong, AreOthers, Others}
use Rattle.sentry_run.specs.declared.play.End.{End}
use Rattle.sentry_run.specs.declared.play.Played.{Played}
use Rattle.sentry_run.specs.Granted.{EndsBehind, NotGranted, NothingRan}
use Rattle.sentry_run.specs.Granted.{PlaysRoot, RunsBehind}
use Rattle.sentry_run.specs.Granted.{with_behind}
use Rattle.sentry_run.specs.Outcome.{granted}
use Rattle.sentry_run.specs.Played.{RunEnded, EndsOver}
use Rattle.sentry_run.specs.Stopped.{IsInner}
use Rattle.sentry_run.proofs.Folders.{AreApartFrom, granted_apart, granted_first}
use Rattle.sentry_run.proofs.GivenBack.{Came, came, gives_same, gives_tree, small_more}
use Rattle.sentry_run.proofs.MountsFrom.{mounts_at, apart_behind}
use Rattle.sentry_run.proofs.Endings.{ended_told}
use Rattle.sentry_run.proofs.Ends.{plays_as, inner_plays, stopped_plays, lacks_first, lacks_next}

-- ---- the folders behind the mount at `/`

-- all are granted, and the run goes over them
pub runs_inner : (m : Mounts) (i : ℕ) (world told root : Option Shape) (children : List LentChild) (played : Played)
    → i ≡ length m.mounts → IsInner played.end
    → ((others : Others) (t : Shape) → AreOthers m.mounts others → told ≡ Some t
    → EndsOver m (trees_told others root children) t played)
    → RunsBehind m i world told root children played
runs_inner m i world told root children played all inner ended = λ w e others among t tells after gives.
    let none : drop i m.mounts ≡ [] = drop_all i m.mounts (omega (arith, all)) in
    let same : with_behind others [] ≡ others =
    ap (λ ts. record { before = others.before; behind = ts }) (append-nil others.behind) in
    let are : AreOthers m.mounts others = subst (λ (n : ℕ). AreAmong m.mounts n others) all among in
    inner_plays played.end _ _ _ inner (
      [],
      ap (λ ms. granted ms w) none,
      subst (λ (x : Others). AreOthers m.mounts x) (sym same) are,
      subst (λ (x : Others). RunEnded m x t after played.opening played.trace played.end) (sym same)
          (ended_told m (trees_told others root children) t after played.opening played.trace played.end
          (ended others t are tells after gives)),
    )

-- one more is granted
pub runs_more : (m : Mounts) (i : ℕ) (mount : Mount) (world between told node root : Option Shape)
    (children : List LentChild) (count : ℕ) (what : Kind) (played : Played) → HasForm m
    → slice_get m.mounts i ≡ Some mount → TellsGranted mount.folder.names world node count what → count < 2 ^ 64
    → between ≡ option_map (put_subtree mount.folder.names (lent Dir)) world
    → RunsBehind m (i + 1) between told root children played → RunsBehind m i world told root children played
runs_more m i mount world between told node root children count what played form e grant small lends inner =
    λ w is others among t tells after gives.
    let names : List (List ℕ) = mount.folder.names in
    let ms : List Mount = drop (i + 1) m.mounts in
    let apart : AreApartFrom names ms = apart_behind m i mount form e in
    let c : Came names w node =
    came names w node count what (subst (λ (o : Option Shape). TellsGranted names o node count what) is grant) small in
    let more : Others = with_behind others (c.tree ∷ []) in
    let long : length (others.behind ++ c.tree ∷ []) ≡ length others.behind + 1 =
    length-append others.behind (c.tree ∷ []) in
    let next : AreAmong m.mounts (i + 1) more = record {
      place = among.place;
      long = omega (arith, among.long, long);
      small_before = among.small_before;
      small_behind = small_more others.behind c.tree among.small_behind c.small;
    } in
    let between_is : between ≡ Some (put_subtree names (lent Dir) w) =
    lends ∙ ap (option_map (put_subtree names (lent Dir))) is in
    subst (λ (l : List Mount). EndsBehind m others t (i + 1) l w after played) (sym (mounts_at m.mounts i mount e))
    (plays_as played.end _ _ _ _ _ _ (λ u. u)
    (λ n h. lacks_next (i + 1) mount ms w c.tree n c.there apart h)
    (λ o. let same : with_behind more o.0 ≡ with_behind others (c.tree ∷ o.0) =
    ap (λ ts. record { before = others.before; behind = ts }) (append_assoc others.behind (c.tree ∷ []) o.0) in (
      c.tree ∷ o.0,
      granted_first mount ms w c.tree o.0 c.there (sym (granted_apart names (lent Dir) ms w apart) ∙ o.1),
      subst (λ (x : Others). AreOthers m.mounts x) same o.2,
      subst (λ (x : Others). RunEnded m x t after played.opening played.trace played.end) same o.3,
    ))
    (inner (put_subtree names (lent Dir) w) between_is more next t tells after gives))

-- one is not
pub runs_stopped : (m : Mounts) (i : ℕ) (mount : Mount) (world told root : Option Shape) (children : List LentChild)
    (end : End) (played : Played) → slice_get m.mounts i ≡ Some mount
    → NotGranted (i + 1) mount.folder.names world end → root ≡ told → children ≡ [] → played.end ≡ end
    → NothingRan played → RunsBehind m i world told root children played
runs_stopped m i mount world told root children end played e why same empty is ran =
    λ w tells_world others among t tells after gives.
    subst (λ (l : List Mount). EndsBehind m others t (i + 1) l w after played) (sym (mounts_at m.mounts i mount e))
    (stopped_plays played.end _ _ _ (i + 1) mount.folder.names w
    (subst (λ (x : End). NotGranted (i + 1) mount.folder.names (Some w) x) (sym is)
    (subst (λ (o : Option Shape). NotGranted (i + 1) mount.folder.names o end) tells_world why))
    (gives_same told root children t after same empty tells gives, ran)
    (lacks_first (i + 1) mount (drop (i + 1) m.mounts) w))

-- the root then has its nodes back
pub plays_root : (m : Mounts) (i : ℕ) (world told first root back : Option Shape) (children : List LentChild)
    (played : Played) → first ≡ told → (IsSome first → IsSome root) → GivesBack root children back
    → RunsBehind m i world first root children played → PlaysRoot m i world told back played
plays_root m i world told first root back children played same tells gives runs = λ w is others among t e.
    let g = gives_tree first root back children t tells gives (same ∙ e) in
    (g.0, g.1, runs w is others among t (same ∙ e) g.0 g.2)
