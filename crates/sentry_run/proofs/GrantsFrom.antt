-- One grant more, of the mount at `/` or before it: what it adds to what those behind it leave.
use Rattle.std.proofs.Common.{◌≡◌, ◌⊎◌, inl, inr, ℕ, ◌+◌, ◌<◌, ◌^◌, true, false, List, [], ◌∷◌}
use Rattle.std.proofs.Common.{◌++◌}
use Rattle.std.proofs.Common.{length, drop, refl, ap, sym, ◌∙◌, subst, arith, length-append}
use Rattle.std.specs.Prelude.{Option, Some, None, if◌then◌else◌, is_some, option_map, slice_get}
use Rattle.std.proofs.lemmas.List.{append_assoc}
use Rattle.host_node.specs.declared.kind.Kind.{Kind}
use Rattle.host_node.specs.declared.kind.Kind.TheVariants.{Dir}
use Rattle.host_node.specs.Tree.{Shape, lent}
use Rattle.host_node.specs.Routes.{put_subtree, subtree}
use Rattle.host_node.specs.Told.{CanSettle, Settles, TellsGranted}
use Rattle.host_node.proofs.RouteLemmas.{put_subtree_found, put_subtree-back, subtree-directory_at, subtree-granted}
use Rattle.mount_file.specs.Form.{HasForm}
use Rattle.mount_file.specs.Rules.{has_root}
use Rattle.mount_file.specs.declared.mounts.Mount.{Mount}
use Rattle.mount_file.specs.declared.mounts.Mounts.{Mounts}
use Rattle.kernel_model.specs.opening.Opening.{root_among, root_of}
use Rattle.run_opening.specs.Trees.{AreAmong, AreSmall, Others}
use Rattle.sentry_run.specs.declared.play.End.{End}
use Rattle.sentry_run.specs.declared.play.End.TheVariants as ends
use Rattle.sentry_run.specs.declared.play.Played.{Played}
use Rattle.sentry_run.specs.Granted.{NotGranted, NothingRan, PlaysAs, PlaysBehind}
use Rattle.sentry_run.specs.Granted.{PlaysFrom, PlaysIn, PlaysRoot, PlaysWhere}
use Rattle.sentry_run.specs.Granted.{root_names}
use Rattle.sentry_run.proofs.Folders.{AreApartFrom, granted_apart, granted_first}
use Rattle.sentry_run.proofs.Folders.{root_back, root_leaves}
use Rattle.sentry_run.proofs.GivenBack.{Came, came, settled_there, small_more}
use Rattle.sentry_run.proofs.GivenBack.{some_long, some_small, some_trees}
use Rattle.sentry_run.proofs.MountsFrom.{mounts_at, apart_behind, place_here}
use Rattle.sentry_run.proofs.Ends.{plays_as, stopped_plays, lacks_first, lacks_next}

-- ---- the folder of the mount at `/`

-- it is granted, and settled with the tree that it has then
pub plays_here : (m : Mounts) (i : ℕ) (mount : Mount) (world between last told back after : Option Shape) (count : ℕ)
    (what : Kind) (played : Played) → HasForm m → slice_get m.mounts i ≡ Some mount → is_some mount.at ≡ false
    → root_of m.mounts ≡ root_among (i + 1) (drop i m.mounts)
    → TellsGranted mount.folder.names world told count what → count < 2 ^ 64
    → between ≡ option_map (put_subtree mount.folder.names (lent Dir)) world → last ≡ between
    → PlaysRoot m (i + 1) between told back played → Settles mount.folder.names last back after
    → PlaysBehind m i world after played
plays_here m i mount world between last told back after count what played form e at place grant small lends kept root
    settles =
    λ before long small_before. by world refl before long small_before
  where
    names : List (List ℕ)
    names = mount.folder.names

    ms : List Mount
    ms = drop (i + 1) m.mounts

    apart : AreApartFrom names ms
    apart = apart_behind m i mount form e

    root_is : (w tree : Shape) → put_subtree names tree w ≡ put_subtree (root_names (mount ∷ ms)) tree w
    root_is w tree =
        ap (λ b. put_subtree (if b then root_names ms else names) tree w) (sym at)

    -- what is told where the host tells its world
    from_world : (w : Shape) (before : List Shape) → length before ≡ i → AreSmall before → world ≡ Some w
        → PlaysFrom m before (i + 1) (mount ∷ ms) w after played
    from_world w before long small_before is =
        let c : Came names w told =
        came names w told count what (subst (λ (o : Option Shape). TellsGranted names o told count what) is grant)
        small in
        let between_is : between ≡ Some (put_subtree names (lent Dir) w) =
        lends ∙ ap (option_map (put_subtree names (lent Dir))) is in
        let others : Others = record { before = before; behind = [] } in
        let place_is : root_of m.mounts ≡ i + 1 = place_here m i mount e at place in
        let among : AreAmong m.mounts (i + 1) others = record {
          place = omega (arith, place_is, long);
          long = omega (arith, long);
          small_before = small_before;
          small_behind = tt;
        } in
        let r = root (put_subtree names (lent Dir) w) between_is others among c.tree c.told_is in
        let put : after ≡ Some (put_subtree names r.0 w) =
        settled_there names w r.0 last back after (kept ∙ between_is) r.1 settles in
        plays_as played.end _ _ _ _ _ _
        (λ u. (
          put ∙ ap Some (ap (λ x. put_subtree names x w) u.0
              ∙ put_subtree_found names c.tree w (subtree-directory_at names c.tree w c.there)),
          u.1,
        ))
        (λ n h. lacks_next (i + 1) mount ms w c.tree n c.there apart h)
        (λ o. record {
          others = record { before = before; behind = o.0 };
          beside = o.2;
          trees = c.tree ∷ o.0;
          are = granted_first mount ms w c.tree o.0 c.there (sym (granted_apart names (lent Dir) ms w apart) ∙ o.1);
          tree = c.tree;
          all = refl;
          tree_then = r.0;
          put = put ∙ ap Some (root_is w r.0);
          ended = o.3;
        })
        r.2

    by : (o : Option Shape) → world ≡ o → (before : List Shape) → length before ≡ i → AreSmall before
        → PlaysWhere m before i o after played
    by None is before long small_before =
        let untold : last ≡ None = kept ∙ lends ∙ ap (option_map (put_subtree names (lent Dir))) is in
        subst (λ (o : Option Shape). Settles names o back after) untold settles
    by (Some w) is before long small_before =
        subst (λ (l : List Mount). PlaysFrom m before (i + 1) l w after played) (sym (mounts_at m.mounts i mount e))
        (from_world w before long small_before is)

-- ---- a folder before that of the mount at `/`

-- what the grants behind it left of the world: it, or it with another tree in the place of the folder of that mount
pub record Left (mounts : List Mount) (world : Shape) (after : Option Shape) : Type 0 where
  pub tree : Shape
  pub is : (after ≡ Some world) ⊎ (after ≡ Some (put_subtree (root_names mounts) tree world))

left_by : (end : End) (world : Shape) (after : Option Shape) (mounts : List Mount) (U O : Type 0) (M : ℕ → Type 0)
    → (U → after ≡ Some world) → (O → Left mounts world after) → PlaysAs end U M O → Left mounts world after
left_by ends.HostFault world after mounts U O M u o p = record { tree = world; is = inl (u p) }
left_by (ends.Grant n) world after mounts U O M u o p = record { tree = world; is = inl (u p.0) }
left_by ends.Memory world after mounts U O M u o (inl p) = record { tree = world; is = inl (u p) }
left_by ends.Memory world after mounts U O M u o (inr p) = o p
left_by (ends.Done k) world after mounts U O M u o p = o p
left_by (ends.Full k) world after mounts U O M u o p = o p
left_by (ends.Stuck k) world after mounts U O M u o p = o p
left_by (ends.Image task errno) world after mounts U O M u o p = o p

left : (m : Mounts) (i : ℕ) (world : Shape) (between after : Option Shape) (played : Played) → between ≡ Some world
    → PlaysBehind m i between after played → Left (drop i m.mounts) world after
left m i world between after played is plays =
    left_by played.end world after (drop i m.mounts) _ _ _ (λ u. u.0)
    (λ o. record { tree = o.tree_then; is = inr o.put })
    (subst (λ (o : Option Shape). PlaysWhere m (some_trees i) i o after played) is
    (plays (some_trees i) (some_long i) (some_small i)))

untold : (m : Mounts) (i : ℕ) (between after : Option Shape) (played : Played) → between ≡ None
    → PlaysBehind m i between after played → after ≡ None
untold m i between after played is plays =
    subst (λ (o : Option Shape). PlaysWhere m (some_trees i) i o after played) is
    (plays (some_trees i) (some_long i) (some_small i))

-- it can be settled whatever they left
pub can_settle_behind : (m : Mounts) (i : ℕ) (mount : Mount) (world between last told : Option Shape) (count : ℕ)
    (what : Kind) (played : Played) → HasForm m → slice_get m.mounts i ≡ Some mount
    → has_root (drop (i + 1) m.mounts) ≡ true
    → TellsGranted mount.folder.names world told count what → count < 2 ^ 64
    → between ≡ option_map (put_subtree mount.folder.names (lent Dir)) world
    → PlaysBehind m (i + 1) between last played → CanSettle mount.folder.names last
can_settle_behind m i mount world between last told count what played form e rooted grant small lends plays =
    by world refl
  where
    names : List (List ℕ)
    names = mount.folder.names

    by : (o : Option Shape) → world ≡ o → CanSettle names last
    by None is =
        subst (λ (o : Option Shape). CanSettle names o)
        (sym (untold m (i + 1) between last played (lends ∙ ap (option_map (put_subtree names (lent Dir))) is) plays))
        tt
    by (Some w) is =
        let c : Came names w told =
        came names w told count what (subst (λ (o : Option Shape). TellsGranted names o told count what) is grant)
        small in
        let there : subtree names (put_subtree names (lent Dir) w) ≡ Some (lent Dir) =
        subtree-granted names c.tree w c.there in
        let l = left m (i + 1) (put_subtree names (lent Dir) w) between last played
        (lends ∙ ap (option_map (put_subtree names (lent Dir))) is) plays in
        either l.tree there l.is
      where
        either : (tree : Shape) → subtree names (put_subtree names (lent Dir) w) ≡ Some (lent Dir)
            → ((last ≡ Some (put_subtree names (lent Dir) w))
            ⊎ (last ≡ Some (put_subtree (root_names (drop (i + 1) m.mounts)) tree (put_subtree names (lent Dir) w))))
            → CanSettle names last
        either tree there (inl h) = subst (λ (o : Option Shape). CanSettle names o) (sym h) there
        either tree there (inr h) =
            subst (λ (o : Option Shape). CanSettle names o) (sym h)
            (root_leaves names (drop (i + 1) m.mounts) tree (put_subtree names (lent Dir) w) rooted
            (apart_behind m i mount form e) ∙ there)

-- it comes back as it was
pub plays_more : (m : Mounts) (i : ℕ) (mount : Mount) (world between last told after : Option Shape) (count : ℕ)
    (what : Kind) (played : Played) → HasForm m → slice_get m.mounts i ≡ Some mount → is_some mount.at ≡ true
    → has_root (drop (i + 1) m.mounts) ≡ true
    → TellsGranted mount.folder.names world told count what → count < 2 ^ 64
    → between ≡ option_map (put_subtree mount.folder.names (lent Dir)) world
    → PlaysBehind m (i + 1) between last played → Settles mount.folder.names last told after
    → PlaysBehind m i world after played
plays_more m i mount world between last told after count what played form e at rooted grant small lends plays settles =
    λ before long small_before. by world refl before long small_before
  where
    names : List (List ℕ)
    names = mount.folder.names

    ms : List Mount
    ms = drop (i + 1) m.mounts

    apart : AreApartFrom names ms
    apart = apart_behind m i mount form e

    root_is : (w tree : Shape) → put_subtree (root_names ms) tree w ≡ put_subtree (root_names (mount ∷ ms)) tree w
    root_is w tree =
        ap (λ b. put_subtree (if b then root_names ms else names) tree w) (sym at)

    -- what is told after the settle
    settled : (tree x : Shape) → last ≡ Some x → told ≡ Some tree → after ≡ Some (put_subtree names tree x)
    settled tree x l t =
        subst (λ (o : Option Shape). Settles names o (Some tree) after) l
        (subst (λ (o : Option Shape). Settles names last o after) t settles)

    from_world : (w : Shape) (before : List Shape) → length before ≡ i → AreSmall before → world ≡ Some w
        → PlaysFrom m before (i + 1) (mount ∷ ms) w after played
    from_world w before long small_before is =
        let c : Came names w told =
        came names w told count what (subst (λ (o : Option Shape). TellsGranted names o told count what) is grant)
        small in
        let between_is : between ≡ Some (put_subtree names (lent Dir) w) =
        lends ∙ ap (option_map (put_subtree names (lent Dir))) is in
        let there : subtree names w ≡ Some c.tree = subtree-directory_at names c.tree w c.there in
        let longer : length (before ++ c.tree ∷ []) ≡ i + 1 = omega (arith, length-append before (c.tree ∷ []), long) in
        let inner : PlaysFrom m (before ++ c.tree ∷ []) (i + 1 + 1) ms (put_subtree names (lent Dir) w) last played =
        subst (λ (o : Option Shape). PlaysWhere m (before ++ c.tree ∷ []) (i + 1) o last played) between_is
        (plays (before ++ c.tree ∷ []) longer (small_more before c.tree small_before c.small)) in
        plays_as played.end _ _ _ _ _ _
        (λ u. (
          settled c.tree (put_subtree names (lent Dir) w) u.0 c.told_is
              ∙ ap Some (put_subtree-back names c.tree (lent Dir) w there),
          u.1,
        ))
        (λ n h. lacks_next (i + 1) mount ms w c.tree n c.there apart h)
        (λ o. record {
          others = o.others;
          beside = o.beside;
          trees = c.tree ∷ o.trees;
          are =
              granted_first mount ms w c.tree o.trees c.there
              (sym (granted_apart names (lent Dir) ms w apart) ∙ o.are);
          tree = o.tree;
          all = sym (append_assoc before (c.tree ∷ []) o.trees) ∙ o.all;
          tree_then = o.tree_then;
          put =
              settled c.tree _ o.put c.told_is
              ∙ ap Some (root_back names ms c.tree o.tree_then w rooted apart there ∙ root_is w o.tree_then);
          ended = o.ended;
        })
        inner

    by : (o : Option Shape) → world ≡ o → (before : List Shape) → length before ≡ i → AreSmall before
        → PlaysWhere m before i o after played
    by None is before long small_before =
        let none : last ≡ None =
        untold m (i + 1) between last played (lends ∙ ap (option_map (put_subtree names (lent Dir))) is) plays in
        subst (λ (o : Option Shape). Settles names o told after) none settles
    by (Some w) is before long small_before =
        subst (λ (l : List Mount). PlaysFrom m before (i + 1) l w after played) (sym (mounts_at m.mounts i mount e))
        (from_world w before long small_before is)

-- it is not granted
pub plays_stopped : (m : Mounts) (i : ℕ) (mount : Mount) (world after : Option Shape) (end : End) (played : Played)
    → slice_get m.mounts i ≡ Some mount → NotGranted (i + 1) mount.folder.names world end → after ≡ world
    → played.end ≡ end → NothingRan played → PlaysBehind m i world after played
plays_stopped m i mount world after end played e why same is ran = λ before long small. by world refl before
  where
    by : (o : Option Shape) → world ≡ o → (before : List Shape) → PlaysWhere m before i o after played
    by None told before = same ∙ told
    by (Some w) told before =
        subst (λ (l : List Mount). PlaysFrom m before (i + 1) l w after played) (sym (mounts_at m.mounts i mount e))
        (stopped_plays played.end _ _ _ (i + 1) mount.folder.names w
        (subst (λ (x : End). NotGranted (i + 1) mount.folder.names (Some w) x) (sym is)
        (subst (λ (o : Option Shape). NotGranted (i + 1) mount.folder.names o end) told why))
        (same ∙ told, ran)
        (lacks_first (i + 1) mount (drop (i + 1) m.mounts) w))

-- ---- all of them

pub plays_all : (m : Mounts) (world after : Option Shape) (played : Played) → PlaysBehind m 0 world after played
    → PlaysIn m world after played
plays_all m None after played plays = plays [] refl tt
plays_all m (Some w) after played plays = plays [] refl tt
