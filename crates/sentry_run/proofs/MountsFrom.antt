-- The mounts from an index on: which is at `/`, and what is granted of them.
use Rattle.std.proofs.Common.{◌≡◌, ℕ, zero, suc, ◌+◌, ◌<◌, true, false, List, [], ◌∷◌}
use Rattle.std.proofs.Common.{length, drop, refl, ap, sym, ◌∙◌, ◌||◌, subst, arith}
use Rattle.std.specs.Prelude.{Option, Some, None, if◌then◌else◌, is_none, is_some, option_map, slice_get}
use Rattle.std.proofs.lemmas.List.{drop_more}
use Rattle.std.proofs.lemmas.Option.{get_or_from_slice_get, slice_get_within}
use Rattle.host_node.specs.declared.kind.Kind.TheVariants.{Dir}
use Rattle.host_node.specs.Tree.{Shape, lent}
use Rattle.host_node.specs.Routes.{put_subtree}
use Rattle.mount_file.specs.Form.{HasForm}
use Rattle.mount_file.specs.Rules.{has_clash, has_root}
use Rattle.mount_file.specs.declared.mounts.Mount.{Mount}
use Rattle.mount_file.specs.declared.mounts.Mounts.{Mounts}
use Rattle.kernel_model.specs.opening.Opening.{root_among, root_of}
use Rattle.sentry_run.specs.Granted.{CanGrantAll}
use Rattle.sentry_run.proofs.Folders.{AreApartFrom, can_lent, clash_none}

-- ---- mounts from an index on

pub mounts_at : (mounts : List Mount) (i : ℕ) (m : Mount) → slice_get mounts i ≡ Some m
    → drop i mounts ≡ m ∷ drop (i + 1) mounts
mounts_at mounts i m e =
    drop_more mounts i m (slice_get_within mounts i m e)
    ∙ ap (λ x. x ∷ drop (i + 1) mounts) (get_or_from_slice_get mounts i m m e)

-- no two of those from an index on clash
clash_dropped : (i : ℕ) (mounts : List Mount) → has_clash mounts ≡ false → has_clash (drop i mounts) ≡ false
clash_dropped zero mounts h = h
clash_dropped (suc i) [] h = refl
clash_dropped (suc i) (m ∷ mounts) h = clash_dropped i mounts (clash_none m mounts h).1

-- the folder of an index is apart from those behind it
pub apart_behind : (m : Mounts) (i : ℕ) (mount : Mount) → HasForm m → slice_get m.mounts i ≡ Some mount
    → AreApartFrom mount.folder.names (drop (i + 1) m.mounts)
apart_behind m i mount form e =
    (clash_none mount (drop (i + 1) m.mounts)
    (subst (λ (ms : List Mount). has_clash ms ≡ false) (mounts_at m.mounts i mount e)
    (clash_dropped i m.mounts form.apart))).0

-- it can be granted, and then the others
pub can_here : (m : Mounts) (i : ℕ) (mount : Mount) (world : Option Shape) → slice_get m.mounts i ≡ Some mount
    → CanGrantAll (drop i m.mounts) world → CanGrantAll (mount ∷ drop (i + 1) m.mounts) world
can_here m i mount world e can =
    subst (λ (ms : List Mount). CanGrantAll ms world) (mounts_at m.mounts i mount e) can

pub can_behind : (m : Mounts) (i : ℕ) (mount : Mount) (world between : Option Shape) → HasForm m
    → slice_get m.mounts i ≡ Some mount → CanGrantAll (drop i m.mounts) world
    → between ≡ option_map (put_subtree mount.folder.names (lent Dir)) world
    → CanGrantAll (drop (i + 1) m.mounts) between
can_behind m i mount world between form e can b =
    can_lent mount.folder.names (drop (i + 1) m.mounts) world between (apart_behind m i mount form e)
    (can_here m i mount world e can).1 b

is_none_not : (at : Option (List ℕ)) → is_some at ≡ true → is_none at ≡ false
is_none_not None h = cc
is_none_not (Some name) h = refl

-- where it is not at `/`, one of those behind it is
pub rooted_behind : (m : Mounts) (i : ℕ) (mount : Mount) → slice_get m.mounts i ≡ Some mount
    → is_some mount.at ≡ true → has_root (drop i m.mounts) ≡ true → has_root (drop (i + 1) m.mounts) ≡ true
rooted_behind m i mount e at root =
    let here : (is_none mount.at || has_root (drop (i + 1) m.mounts)) ≡ true =
    subst (λ (ms : List Mount). has_root ms ≡ true) (mounts_at m.mounts i mount e) root in
    sym (ap (λ b. b || has_root (drop (i + 1) m.mounts)) (is_none_not mount.at at)) ∙ here

pub place_behind : (m : Mounts) (i : ℕ) (mount : Mount) → slice_get m.mounts i ≡ Some mount
    → is_some mount.at ≡ true → root_of m.mounts ≡ root_among (i + 1) (drop i m.mounts)
    → root_of m.mounts ≡ root_among (i + 1 + 1) (drop (i + 1) m.mounts)
place_behind m i mount e at place =
    place ∙ ap (root_among (i + 1)) (mounts_at m.mounts i mount e)
    ∙ ap (λ b. if b then root_among (i + 1 + 1) (drop (i + 1) m.mounts) else i + 1) at

-- where it is, its number is that of the mount at `/`
pub place_here : (m : Mounts) (i : ℕ) (mount : Mount) → slice_get m.mounts i ≡ Some mount → is_some mount.at ≡ false
    → root_of m.mounts ≡ root_among (i + 1) (drop i m.mounts) → root_of m.mounts ≡ i + 1
place_here m i mount e at place =
    place ∙ ap (root_among (i + 1)) (mounts_at m.mounts i mount e)
    ∙ ap (λ b. if b then root_among (i + 1 + 1) (drop (i + 1) m.mounts) else i + 1) at

-- an index behind which one is at `/` is within the mounts
pub within_behind : (mounts : List Mount) (i : ℕ) → has_root (drop i mounts) ≡ true → i < length mounts
within_behind [] zero root = cc
within_behind [] (suc i) root = cc
within_behind (m ∷ mounts) zero root = omega arith
within_behind (m ∷ mounts) (suc i) root = omega (arith, within_behind mounts i root)
