-- What an end leaves, of grants that were made and of one that was not.
use Rattle.std.proofs.Common.{◌≡◌, inl, inr, ℕ, ◌+◌, ◌≤◌, false, List, [], ◌∷◌}
use Rattle.std.proofs.Common.{length, refl, ap, sym, ◌∙◌, subst, arith}
use Rattle.std.specs.Prelude.{Option, Some, None, if◌then◌else◌, is_some}
use Rattle.std.specs.List.{flat_map}
use Rattle.host_node.specs.declared.kind.Kind.TheVariants.{Dir}
use Rattle.host_node.specs.Tree.{Shape, lent}
use Rattle.host_node.specs.Routes.{directory_at, put_subtree}
use Rattle.sn_base.specs.Faults.{HasCause}
use Rattle.mount_file.specs.declared.mounts.Mount.{Mount}
use Rattle.mount_file.specs.declared.mounts.Mounts.{Mounts}
use Rattle.kernel_model.specs.files.Numbers.{IsGapless, numbers_opened, numbers_in}
use Rattle.sentry_run.specs.declared.play.End.{End}
use Rattle.sentry_run.specs.declared.play.End.TheVariants as ends
use Rattle.sentry_run.specs.declared.play.Played.{Played}
use Rattle.sentry_run.specs.Causes.{is_grant_failed}
use Rattle.sentry_run.specs.Granted.{IsPlayed, NotGranted, PlaysAs}
use Rattle.sentry_run.specs.Granted.{IsOfMounts}
use Rattle.sentry_run.specs.Outcome.{first_lacking}
use Rattle.sentry_run.specs.Played.{TraceOf}
use Rattle.sentry_run.specs.Stopped.{IsInner}
use Rattle.sentry_run.proofs.Folders.{AreApartFrom, lacking_apart}

-- ---- what an end leaves

-- where each of the three things is another
pub plays_as : (end : End) (U V O P : Type 0) (M N : ℕ → Type 0) → (U → V) → ((n : ℕ) → M n → N n) → (O → P)
    → PlaysAs end U M O → PlaysAs end V N P
plays_as ends.HostFault U V O P M N u m o p = u p
plays_as (ends.Grant n) U V O P M N u m o p = (u p.0, m n p.1)
plays_as ends.Memory U V O P M N u m o (inl p) = inl (u p)
plays_as ends.Memory U V O P M N u m o (inr p) = inr (o p)
plays_as (ends.Done k) U V O P M N u m o p = o p
plays_as (ends.Full k) U V O P M N u m o p = o p
plays_as (ends.Stuck k) U V O P M N u m o p = o p
plays_as (ends.Image task errno) U V O P M N u m o p = o p

-- an end after all grants, over the granted trees
pub inner_plays : (end : End) (U O : Type 0) (M : ℕ → Type 0) → IsInner end → O → PlaysAs end U M O
inner_plays (ends.Done k) U O M i p = p
inner_plays (ends.Full k) U O M i p = p
inner_plays (ends.Stuck k) U O M i p = p
inner_plays (ends.Image task errno) U O M i p = p
inner_plays ends.Memory U O M i p = inr p
inner_plays ends.HostFault U O M i p = absurd i
inner_plays (ends.Grant mount) U O M i p = absurd i

-- an end of a grant that was not made
pub stopped_plays : (end : End) (U O : Type 0) (M : ℕ → Type 0) (mount : ℕ) (names : List (List ℕ)) (world : Shape)
    → NotGranted mount names (Some world) end → U → (directory_at names world ≡ None → M mount) → PlaysAs end U M O
stopped_plays ends.HostFault U O M mount names world why u m = u
stopped_plays (ends.Grant n) U O M mount names world why u m = (u, subst M (sym why.0) (m why.1))
stopped_plays ends.Memory U O M mount names world why u m = inl u
stopped_plays (ends.Done k) U O M mount names world why u m = absurd why
stopped_plays (ends.Full k) U O M mount names world why u m = absurd why
stopped_plays (ends.Stuck k) U O M mount names world why u m = absurd why
stopped_plays (ends.Image task errno) U O M mount names world why u m = absurd why

-- where the folder of the first is missing
pub lacks_first : (number : ℕ) (m : Mount) (mounts : List Mount) (world : Shape)
    → directory_at m.folder.names world ≡ None
    → first_lacking number (m ∷ mounts) world ≡ Some number
lacks_first number m mounts world e =
    ap (λ o. if is_some o then first_lacking (number + 1) mounts world else Some number) e

-- where it is there
pub lacks_next : (number : ℕ) (m : Mount) (mounts : List Mount) (world t : Shape) (n : ℕ)
    → directory_at m.folder.names world ≡ Some t → AreApartFrom m.folder.names mounts
    → first_lacking (number + 1) mounts (put_subtree m.folder.names (lent Dir) world) ≡ Some n
    → first_lacking number (m ∷ mounts) world ≡ Some n
lacks_next number m mounts world t n e apart h =
    ap (λ o. if is_some o then first_lacking (number + 1) mounts world else Some number) e
    ∙ sym (lacking_apart m.folder.names (lent Dir) (number + 1) mounts world apart) ∙ h

-- ---- whatever the host tells

pub inner_played : (m : Mounts) (n : ℕ) (played : Played) → IsInner played.end
    → flat_map numbers_in played.trace ≡ [] → TraceOf m.entries played.end played.trace
    → IsGapless (numbers_opened played.opening) → length played.trace ≤ m.entries → IsPlayed m n n played
inner_played m n played inner drawn trace numbers bound = by played.end inner trace
  where
    quiet : HasCause false n n
    quiet = record { later = omega arith; failed = λ e. cc; still = λ e. refl }

    whole : (end : End) → HasCause (is_grant_failed end) n n → IsOfMounts (length m.mounts) end
        → TraceOf m.entries end played.trace
        → IsPlayed m n n (record { end = end; opening = played.opening; trace = played.trace })
    whole end cause number t =
        record { cause = cause; number = number; drawn = drawn; trace = t; numbers = numbers; bound = bound }

    by : (end : End) → IsInner end → TraceOf m.entries end played.trace
        → IsPlayed m n n (record { end = end; opening = played.opening; trace = played.trace })
    by (ends.Done k) i t = whole (ends.Done k) quiet tt t
    by (ends.Full k) i t = whole (ends.Full k) quiet tt t
    by (ends.Stuck k) i t = whole (ends.Stuck k) quiet tt t
    by (ends.Image task errno) i t = whole (ends.Image task errno) quiet tt t
    by ends.Memory i t = whole ends.Memory quiet tt t
    by ends.HostFault i t = absurd i
    by (ends.Grant mount) i t = absurd i

-- a run behind a grant that was made, whose folder was settled
pub played_more : (m : Mounts) (before between after last : ℕ) (played : Played) → HasCause false before between
    → IsPlayed m between after played → last ≡ after → IsPlayed m before last played
played_more m before between after last played grant inner same =
    subst (λ (n : ℕ). IsPlayed m before n played) (sym same)
    (subst (λ (n : ℕ). IsPlayed m n after played) (grant.still refl) inner)

-- a grant that was not made
pub played_stopped : (m : Mounts) (before after : ℕ) (mount : ℕ) (names : List (List ℕ)) (world : Option Shape)
    (end : End) (played : Played) → HasCause (is_grant_failed end) before after → NotGranted mount names world end
    → 1 ≤ mount → mount ≤ length m.mounts → played.end ≡ end → played.trace ≡ []
    → IsGapless (numbers_opened played.opening) → IsPlayed m before after played
played_stopped m before after mount names world end played cause why low high is empty numbers =
    by end is cause why
  where
    drawn : flat_map numbers_in played.trace ≡ []
    drawn = ap (flat_map numbers_in) empty

    bound : length played.trace ≤ m.entries
    bound = omega (arith, ap length empty)

    ended : End → Played
    ended e = record { end = e; opening = played.opening; trace = played.trace }

    by : (e : End) → played.end ≡ e → HasCause (is_grant_failed e) before after → NotGranted mount names world e
        → IsPlayed m before after played
    by ends.HostFault f c w =
        subst (λ (x : End). IsPlayed m before after (ended x)) (sym f)
        (record { cause = c; number = tt; drawn = drawn; trace = empty; numbers = numbers; bound = bound })
    by (ends.Grant n) f c w =
        subst (λ (x : End). IsPlayed m before after (ended x)) (sym f)
        (record {
          cause = c;
          number = (subst (λ (k : ℕ). 1 ≤ k) (sym w.0) low, subst (λ (k : ℕ). k ≤ length m.mounts) (sym w.0) high);
          drawn = drawn;
          trace = empty;
          numbers = numbers;
          bound = bound;
        })
    by ends.Memory f c w =
        subst (λ (x : End). IsPlayed m before after (ended x)) (sym f)
        (record { cause = c; number = tt; drawn = drawn; trace = tt; numbers = numbers; bound = bound })
    by (ends.Done k) f c w = absurd w
    by (ends.Full k) f c w = absurd w
    by (ends.Stuck k) f c w = absurd w
    by (ends.Image task errno) f c w = absurd w
