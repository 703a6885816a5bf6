-- What the grants, the opening and the run leave of the world.
use Rattle.std.specs.Prelude.{◌≡◌, ◌⊎◌, ℕ, ◌+◌, ◌≤◌, List, [], ◌∷◌, ◌++◌, length, drop, Bool, true, false, Option, Some}
use Rattle.std.specs.Prelude.{None, Result, Ok, Err, ⊤, is_some, if◌then◌else◌}
use Rattle.std.specs.List.{flat_map}
use Rattle.host_node.specs.Tree.{Shape, none_lent}
use Rattle.host_node.specs.Routes.{put_subtree}
use Rattle.host_node.specs.Told.{CanGrant, LacksFolder}
use Rattle.sn_base.specs.Faults.{HasCause}
use Rattle.mount_file.specs.declared.mounts.Mounts.{Mounts}
use Rattle.mount_file.specs.declared.mounts.Mount.{Mount}
use Rattle.kernel_model.specs.files.Numbers.{IsGapless, numbers_opened, numbers_in}
use Rattle.image_walk.specs.Granted.{LentChild, GivesBack}
use Rattle.run_opening.specs.Trees.{AreAmong, AreOthers, AreSmall, Others, trees_with}
use Rattle.sentry_run.specs.declared.play.End.{End}
use Rattle.sentry_run.specs.declared.play.End.TheVariants as ends
use Rattle.sentry_run.specs.declared.play.Played.{Played}
use Rattle.sentry_run.specs.Causes.{is_grant_failed}
use Rattle.sentry_run.specs.Outcome.{first_lacking, granted}
use Rattle.sentry_run.specs.Played.{RunEnded, TraceOf, nothing_opened}

-- ---- the folders

-- no folder of the world is granted
-- profile
abbrev pub IsUngranted : Option Shape → Type 0
IsUngranted None = Unit {0}
IsUngranted (Some world) = none_lent world ≡ true

-- the folder of each of these mounts can be granted
-- profile
abbrev pub CanGrantAll : List Mount → (world : Option Shape) → Type 0
CanGrantAll [] world = ⊤
CanGrantAll (mount ∷ mounts) world = CanGrant mount.folder.names world × CanGrantAll mounts world

-- the names of the folder that is mounted at `/`
-- mount(8)
abbrev pub root_names : List Mount → List (List ℕ)
root_names [] = []
root_names (mount ∷ mounts) = if is_some mount.at then root_names mounts else mount.folder.names

-- why the folder of the mount of that number was not granted: the host failed or lacks it, or memory ran out
-- profile
abbrev pub NotGranted : (mount : ℕ) → List (List ℕ) → (world : Option Shape) → End → Type 0
NotGranted mount names world ends.HostFault = ⊤
NotGranted mount names world (ends.Grant n) = (n ≡ mount) × LacksFolder names world
NotGranted mount names world ends.Memory = ⊤
NotGranted mount names world _ = ⊥

-- a folder was not granted, since the host failed
-- profile
abbrev pub is_ungrantable : {A : Type 0} → Result A End → Bool
is_ungrantable (Ok root) = false
is_ungrantable (Err end) = is_grant_failed end

-- ---- whatever the host tells

-- a folder that is missing is that of one of the mounts
-- profile
abbrev pub IsOfMounts : (count : ℕ) → End → Type 0
IsOfMounts count (ends.Grant mount) = (1 ≤ mount) × (mount ≤ count)
IsOfMounts count _ = ⊤

-- what is so of a run over a mount file, with the host's count before it and after
-- profile
pub record IsPlayed (mounts : Mounts) (before after : ℕ) (played : Played) : Type 0 where
  pub cause : HasCause (is_grant_failed played.end) before after
  pub number : IsOfMounts (length mounts.mounts) played.end
  pub drawn : flat_map numbers_in played.trace ≡ []
  pub trace : TraceOf mounts.entries played.end played.trace
  pub numbers : IsGapless (numbers_opened played.opening)
  pub bound : length played.trace ≤ mounts.entries

-- ---- where the host tells its world

-- nothing was opened and run
-- profile
abbrev pub NothingRan : Played → Type 0
NothingRan played = (played.opening ≡ nothing_opened) × (played.trace ≡ [])

-- which of these an end leaves: nothing ran where the host failed or a folder is missing, the run went over the granted
-- trees where the end is the run's own, and either where memory ran out
-- profile
abbrev pub PlaysAs : End → (untouched : Type 0) → (missing : (mount : ℕ) → Type 0) → (over : Type 0) → Type 0
PlaysAs ends.HostFault untouched missing over = untouched
PlaysAs (ends.Grant mount) untouched missing over = untouched × missing mount
PlaysAs ends.Memory untouched missing over = untouched ⊎ over
PlaysAs (ends.Done kernel) untouched missing over = over
PlaysAs (ends.Full kernel) untouched missing over = over
PlaysAs (ends.Stuck kernel) untouched missing over = over
PlaysAs (ends.Image task errno) untouched missing over = over

-- the other trees with more behind them
-- profile
abbrev pub with_behind : Others → List Shape → Others
with_behind others behind = record { before = others.before; behind = others.behind ++ behind }

-- the folders of these mounts, the first of that number, were granted behind the others, and the run went over all; the
-- tree of the mount at `/` was the first one, and is the second then
-- profile
abbrev pub EndsBehind : Mounts → Others → (tree : Shape) → (number : ℕ) → List Mount → (world : Shape)
    → (after : Shape) → Played → Type 0
EndsBehind mounts others tree number rest world after played =
    PlaysAs played.end ((after ≡ tree) × NothingRan played) (λ mount. first_lacking number rest world ≡ Some mount)
    ((behind : List Shape) × (granted rest world ≡ Some behind) × AreOthers mounts.mounts (with_behind others behind)
    × RunEnded mounts (with_behind others behind) tree after played.opening played.trace played.end)

-- the same from an index on, of a granted root that told itself so before, and with its children then tells this
-- profile
abbrev pub RunsBehind : Mounts → (index : ℕ) → (world told root : Option Shape) → List LentChild → Played → Type 0
RunsBehind mounts index world told root children played =
    (w : Shape) → world ≡ Some w → (others : Others) → AreAmong mounts.mounts index others → (t : Shape)
    → told ≡ Some t → (after : Shape) → GivesBack root children (Some after)
    → EndsBehind mounts others t (index + 1) (drop index mounts.mounts) w after played

-- the same of the root with all its nodes back
-- profile
abbrev pub PlaysRoot : Mounts → (index : ℕ) → (world told back : Option Shape) → Played → Type 0
PlaysRoot mounts index world told back played =
    (w : Shape) → world ≡ Some w → (others : Others) → AreAmong mounts.mounts index others → (t : Shape)
    → told ≡ Some t → (after : Shape) × (back ≡ Some after)
    × EndsBehind mounts others t (index + 1) (drop index mounts.mounts) w after played

-- nothing ran, and the world is as it was
-- profile
abbrev pub Untouched : Shape → Option Shape → Played → Type 0
Untouched world after played = (after ≡ Some world) × NothingRan played

-- the folders of these mounts, that at `/` among them, were granted behind others whose trees these are, and the run
-- went over all; the world has the tree of the mount at `/` as it is then in its place
-- profile
pub record PlaysOver (mounts : Mounts) (before : List Shape) (rest : List Mount) (world : Shape) (after : Option Shape)
    (played : Played) : Type 0 where
  pub others : Others
  pub beside : AreOthers mounts.mounts others
  pub trees : List Shape
  pub are : granted rest world ≡ Some trees
  pub tree : Shape
  pub all : before ++ trees ≡ trees_with others tree
  pub tree_then : Shape
  pub put : after ≡ Some (put_subtree (root_names rest) tree_then world)
  pub ended : RunEnded mounts others tree tree_then played.opening played.trace played.end

-- what grants from the mount of that number on, the opening and the run leave of the world
-- profile
abbrev pub PlaysFrom : Mounts → List Shape → (number : ℕ) → List Mount → Shape → Option Shape → Played
    → Type 0
PlaysFrom mounts before number rest world after played =
    PlaysAs played.end (Untouched world after played) (λ mount. first_lacking number rest world ≡ Some mount)
    (PlaysOver mounts before rest world after played)

-- the same from an index on, where the host tells its world
-- profile
abbrev pub PlaysWhere : Mounts → List Shape → (index : ℕ) → (world after : Option Shape) → Played → Type 0
PlaysWhere mounts before index None after played = after ≡ None
PlaysWhere mounts before index (Some world) after played =
    PlaysFrom mounts before (index + 1) (drop index mounts.mounts) world after played

abbrev pub PlaysBehind : Mounts → (index : ℕ) → (world after : Option Shape) → Played → Type 0
PlaysBehind mounts index world after played =
    (before : List Shape) → length before ≡ index → AreSmall before
    → PlaysWhere mounts before index world after played

-- what all of it leaves, where the host tells its world
-- profile
abbrev pub PlaysIn : Mounts → (world after : Option Shape) → Played → Type 0
PlaysIn mounts None after played = after ≡ None
PlaysIn mounts (Some world) after played = PlaysFrom mounts [] 1 mounts.mounts world after played
