-- The clauses of a run on its trace, its text, its numbers and the world, each from the way that it went.
use Rattle.std.proofs.Common.{◌≡◌, ◌⊎◌, ℕ, ◌+◌, ◌-◌, zero, suc, ◌<◌, ◌≤◌, true, false, List, [], ◌++◌, length}
use Rattle.std.proofs.Common.{refl, ap, sym, ◌∙◌, subst, arith}
use Rattle.std.specs.Prelude.{Option, Some, None, IfSome, All, slice_index_or}
use Rattle.std.specs.List.{flat_map}
use Rattle.std.proofs.lemmas.List.{append-nil}
use Rattle.host_node.specs.Tree.{Shape}
use Rattle.sn_edge.specs.Taken.{with_taken}
use Rattle.kernel_model.specs.declared.entry.Entry.{Entry}
use Rattle.kernel_model.specs.declared.kernel.Kernel.{Kernel}
use Rattle.mount_file.specs.declared.mounts.Mounts.{Mounts}
use Rattle.kernel_model.specs.declared.opening.Opening.{Opening}
use Rattle.kernel_model.specs.declared.opening.Left.{Left}
use Rattle.kernel_model.specs.entries.Given.{numbers_of}
use Rattle.kernel_model.specs.entries.History.{any_live}
use Rattle.kernel_model.specs.files.Numbers.{count_up}
use Rattle.kernel_model.specs.files.Numbers.{IsGapless, HasAllBelow, numbers_opened, numbers_in, numbers_drawn}
use Rattle.kernel_model.specs.files.Numbers.{left_fresh}
use Rattle.kernel_model.specs.printed.Printed.{printed}
use Rattle.sentry_run.specs.declared.outcome.Fault.{Fault}
use Rattle.sentry_run.specs.declared.outcome.Fault.TheVariants as faults
use Rattle.sentry_run.specs.declared.outcome.Outcome.{Outcome}
use Rattle.sentry_run.specs.Played.{IsStuck, nothing_opened}
use Rattle.image_walk.specs.Standing.{no_left}
use Rattle.sentry_run.specs.Causes.{HasRun, HasNotBegun, HasNoTrace, HasText, HasFront}
use Rattle.sentry_run.specs.Outcome.{state_after, world_after, WhereRead, WhereState, IsHistory, IsOver, asks_trace}
use Rattle.sentry_run.specs.Outcome.{KeepsOutside, IsLeftOver, AreLeft, LeavesInside, begun, started_kernel}
use Rattle.sentry_run.specs.LeftTasks.{MayBeLeft}
use Rattle.sentry_run.specs.Sides.{Side, Sides}
use Rattle.sentry_run.proofs.Courses.{Session, Output, text_with, Began}
use Rattle.sentry_run.proofs.RunFacts.{AnyFacts, Silent, ToldFacts, FrontOf, front_of, front_of_cut, history_of}
use Rattle.sentry_run.proofs.Ways.{Call, session, output, Way, Misused, Unread, Over_file}
use Rattle.sentry_run.proofs.Clauses.{any_as, told_as, if_read, where_read, where_state}

-- ---- the trace

-- where the run is over, its task began
began_of : (x : Session) (p : Output) (f : Fault) → HasRun f → ToldFacts x p f → (state : Kernel) × Began x state
began_of x p faults.Done h t = (t.0, t.1)
began_of x p faults.Full h t = (t.0, t.1)
began_of x p faults.Stuck h t = (t.0, t.1)
began_of x p faults.SinkFault h t = (t.0, t.1)
began_of x p _ h t = cc

pub history : (s : Call) (r : Outcome) → Way s r → HasRun r.fault
    → WhereRead r.mounts s.before.host.told (λ m w. IsHistory m w r.opening r.trace)
history s r way h =
    where_read s r (λ m w. IsHistory m w r.opening r.trace) way
    (λ m o w told. let b = began_of (session s m r w) (output s) r.fault h (o.told w told) in
    history_of (session s m r w) b.0 b.1)

pub history_memory : (s : Call) (r : Outcome) → Way s r → r.fault ≡ faults.Memory
    → WhereRead r.mounts s.before.host.told (λ m w. (r.trace ≡ []) ⊎ IsHistory m w r.opening r.trace)
history_memory s r way h =
    where_read s r (λ m w. (r.trace ≡ []) ⊎ IsHistory m w r.opening r.trace) way
    (λ m o w told. (told_as s m r faults.Memory o h w told).history)

pub bound : (s : Call) (r : Outcome) → Way s r → IfSome r.mounts (λ m. length r.trace ≤ m.entries)
bound s r way = if_read s r (λ m. length r.trace ≤ m.entries) way (λ m o. o.bound)

-- an answer without a trace writes nothing
silent : (m : Mounts) (trace : List Entry) (before after : Sides) (f : Fault) → HasNoTrace f
    → AnyFacts m trace before after f → Silent trace before.sink after.sink
silent m trace before after (faults.Image task errno) h a = a
silent m trace before after faults.HostFault h a = a.1
silent m trace before after (faults.Grant n) h a = a.2
silent m trace before after faults.Usage h a = absurd a
silent m trace before after (faults.Mounts f) h a = absurd a
silent m trace before after faults.SourceFault h a = absurd a
silent m trace before after _ h a = cc

pub empty : (s : Call) (r : Outcome) → Way s r → HasNoTrace r.fault → r.trace ≡ []
empty s r (Misused e n) h = n.refused.trace
empty s r (Unread command e w u) h = u.refused.trace
empty s r (Over_file command e w m d o) h = (silent m r.trace s.before s.after r.fault h o.any).empty

pub text_none : (s : Call) (r : Outcome) → Way s r → HasNoTrace r.fault → s.after.sink.told ≡ s.before.sink.told
text_none s r (Misused e n) h = ap (λ (x : Sides). x.sink.told) n.same
text_none s r (Unread command e w u) h = ap (λ (x : Side (List ℕ)). x.told) u.same_sink
text_none s r (Over_file command e w m d o) h =
    (silent m r.trace s.before s.after r.fault h o.any).same_sink

-- ---- how it ended

pub done : (s : Call) (r : Outcome) → Way s r → r.fault ≡ faults.Done
    → WhereState r.mounts s.before.host.told r.opening r.trace (λ m w k. any_live k ≡ false)
done s r way h =
    where_state s r (λ m w k. any_live k ≡ false) way
    (λ m o w told. let t = told_as s m r faults.Done o h w told in (t.0, t.1, t.2))

pub full : (s : Call) (r : Outcome) → Way s r → r.fault ≡ faults.Full
    → WhereState r.mounts s.before.host.told r.opening r.trace (λ m w k. any_live k ≡ true)
full s r way h =
    where_state s r (λ m w k. any_live k ≡ true) way
    (λ m o w told. let t = told_as s m r faults.Full o h w told in (t.0, t.1, t.2.0))

pub full_length : (s : Call) (r : Outcome) → Way s r → r.fault ≡ faults.Full
    → IfSome r.mounts (λ m. length r.trace ≡ m.entries)
full_length s r way h =
    if_read s r (λ m. length r.trace ≡ m.entries) way (λ m o. any_as s m r faults.Full o h)

pub stuck : (s : Call) (r : Outcome) → Way s r → r.fault ≡ faults.Stuck
    → WhereState r.mounts s.before.host.told r.opening r.trace (λ m w k. IsStuck m r.trace k)
stuck s r way h =
    where_state s r (λ m w k. IsStuck m r.trace k) way
    (λ m o w told. let t = told_as s m r faults.Stuck o h w told in (t.0, t.1, t.2))

pub stuck_length : (s : Call) (r : Outcome) → Way s r → r.fault ≡ faults.Stuck
    → IfSome r.mounts (λ m. length r.trace < m.entries)
stuck_length s r way h =
    if_read s r (λ m. length r.trace < m.entries) way (λ m o. any_as s m r faults.Stuck o h)

pub sink_over : (s : Call) (r : Outcome) → Way s r → r.fault ≡ faults.SinkFault
    → WhereState r.mounts s.before.host.told r.opening r.trace (λ m w k. IsOver m r.trace k)
sink_over s r way h =
    where_state s r (λ m w k. IsOver m r.trace k) way
    (λ m o w told. let t = told_as s m r faults.SinkFault o h w told in (t.0, t.1, t.2))

-- ---- the text

-- what the sink has where the text of a state was taken
abbrev TextOf : Call → Outcome → Kernel → Type 0
TextOf s r k = s.after.sink.told ≡ with_taken s.before.sink.told (printed k r.trace (asks_trace s.words))

text_by : (x : Session) (p : Output) (f : Fault) → HasText f → ToldFacts x p f
    → (state : Kernel) × Began x state × (p.after.told ≡ with_taken p.before.told (text_with x p state))
text_by x p faults.Done h t = (t.0, t.1, t.3)
text_by x p faults.Full h t = (t.0, t.1, t.3)
text_by x p faults.Stuck h t = (t.0, t.1, t.3)
text_by x p _ h t = cc

pub text : (s : Call) (r : Outcome) → Way s r → HasText r.fault
    → WhereState r.mounts s.before.host.told r.opening r.trace (λ m w k. TextOf s r k)
text s r way h =
    where_state s r (λ m w k. TextOf s r k) way
    (λ m o w told. text_by (session s m r w) (output s) r.fault h (o.told w told))

front_by : (x : Session) (p : Output) (f : Fault) → HasFront f → ToldFacts x p f → FrontOf x p
front_by x p faults.SinkFault h t = front_of x p t.0 t.1 (t.3.0, t.3.2)
front_by x p faults.Memory h t = front_of_cut p.before.told p.after.told _ t.cut
front_by x p _ h t = cc

pub text_front : (s : Call) (r : Outcome) → Way s r → HasFront r.fault
    → WhereRead r.mounts s.before.host.told (λ m w. FrontOf (session s m r w) (output s))
text_front s r way h =
    where_read s r (λ m w. FrontOf (session s m r w) (output s)) way
    (λ m o w told. front_by (session s m r w) (output s) r.fault h (o.told w told))

-- ---- the world

pub world : (s : Call) (r : Outcome) → Way s r → HasRun r.fault
    → WhereState r.mounts s.before.host.told r.opening r.trace
    (λ m w k. s.after.host.told ≡ Some (world_after m r.opening r.left k w))
world s r way h =
    where_state s r (λ m w k. s.after.host.told ≡ Some (world_after m r.opening r.left k w)) way
    (λ m o w told. let b = began_of (session s m r w) (output s) r.fault h (o.told w told) in
    (b.0, b.1, b.1.settles ∙ ap (λ l. Some (world_after m r.opening l b.0 w)) (sym o.left)))

unbegun : (x : Session) (p : Output) (f : Fault) → HasNotBegun f → ToldFacts x p f → x.after ≡ Some x.world
unbegun x p faults.HostFault h t = t.same
unbegun x p (faults.Grant n) h t = t.0.same
unbegun x p faults.Usage h t = absurd t
unbegun x p (faults.Mounts f) h t = absurd t
unbegun x p faults.SourceFault h t = absurd t
unbegun x p _ h t = cc

same_world : (world after : Option Shape) → (world ≡ None → after ≡ None)
    → ((w : Shape) → world ≡ Some w → after ≡ Some w) → after ≡ world
same_world None after f g = f refl
same_world (Some w) after f g = g w refl

pub world_same : (s : Call) (r : Outcome) → Way s r → HasNotBegun r.fault → s.after.host.told ≡ s.before.host.told
world_same s r (Misused e n) h = ap (λ (x : Sides). x.host.told) n.same
world_same s r (Unread command e w u) h = ap (λ (x : Side Shape). x.told) u.same_host
world_same s r (Over_file command e v m d o) h =
    same_world s.before.host.told s.after.host.told o.untold
    (λ w told. unbegun (session s m r w) (output s) r.fault h (o.told w told))

pub outside : (s : Call) (r : Outcome) → Way s r → r.fault ≡ faults.Memory
    → WhereRead r.mounts s.before.host.told (λ m w. KeepsOutside m w s.after.host.told)
outside s r way h =
    where_read s r (λ m w. KeepsOutside m w s.after.host.told) way
    (λ m o w told. (told_as s m r faults.Memory o h w told).kept)

pub inside : (s : Call) (r : Outcome) → Way s r → r.fault ≡ faults.Memory
    → WhereRead r.mounts s.before.host.told (λ m w. LeavesInside m w r s.after.host.told)
inside s r way h =
    where_read s r (λ m w. LeavesInside m w r s.after.host.told) way
    (λ m o w told. subst (λ (l : Left). LeavesInside m w (record r { left = l }) s.after.host.told) (sym o.left)
    (told_as s m r faults.Memory o h w told).inside)

-- ---- the numbers

nothing_gapless : IsGapless (numbers_opened nothing_opened)
unfolding count_up
nothing_gapless = refl

pub gapless : (s : Call) (r : Outcome) → Way s r → IsGapless (numbers_opened r.opening)
gapless s r (Misused e n) =
    subst (λ (o : Opening). IsGapless (numbers_opened o)) (sym n.refused.opening) nothing_gapless
gapless s r (Unread command e w u) =
    subst (λ (o : Opening). IsGapless (numbers_opened o)) (sym u.refused.opening) nothing_gapless
gapless s r (Over_file command e w m d o) = o.numbers

nothing_left : (s : Call) (r : Outcome) → Way s r → r.left ≡ no_left
nothing_left s r (Misused e n) = n.refused.left
nothing_left s r (Unread command e w u) = u.refused.left
nothing_left s r (Over_file command e w m d o) = o.left

pub left_over : (s : Call) (r : Outcome) → Way s r
    → WhereState r.mounts s.before.host.told r.opening r.trace (λ m w k. IsLeftOver r.left k)
left_over s r way = each r.mounts s.before.host.told (nothing_left s r way)
  where
    over_nothing : (k : Kernel) (left : Left) → left ≡ no_left → IsLeftOver left k
    over_nothing k left e =
        subst (λ (l : Left). IsLeftOver l k) (sym e)
        (record {
          unnumbered = λ i d below. absurd (omega (arith, below));
          apart = λ i j d below within. absurd
              (omega (arith, within));
        })

    each : (mounts : Option Mounts) (tree : Option Shape) → r.left ≡ no_left
        → WhereState mounts tree r.opening r.trace (λ m w k. IsLeftOver r.left k)
    each None world e = tt
    each (Some m) None e = tt
    each (Some m) (Some w) e = of (state_after m w r.opening r.trace)
      where
        of : (k : Option Kernel) → IfSome k (λ k. IsLeftOver r.left k)
        of None = tt
        of (Some k) = over_nothing k r.left e

pub left_none : (s : Call) (r : Outcome) → Way s r → HasNoTrace r.fault → r.left ≡ no_left
left_none s r way h = nothing_left s r way

pub left_tasks : (s : Call) (r : Outcome) → Way s r
    → WhereState r.mounts s.before.host.told r.opening r.trace (λ m w k. AreLeft m w r k)
left_tasks s r way = each r.mounts s.before.host.told
  where
    none_there : (m : Mounts) (k start : Kernel) (left : Left) → left ≡ no_left
        → All (λ x. MayBeLeft m.entries start r.trace k x.task) left.rises
    none_there m k start left e =
        subst (λ (l : Left). All (λ x. MayBeLeft m.entries start r.trace k x.task) l.rises) (sym e)
        (λ i d below. absurd (omega (arith, below)))

    from : (m : Mounts) (k : Kernel) (o : Option Kernel)
        → IfSome o (λ start. All (λ x. MayBeLeft m.entries start r.trace k x.task) r.left.rises)
    from m k None = tt
    from m k (Some start) = none_there m k start r.left (nothing_left s r way)

    each : (mounts : Option Mounts) (tree : Option Shape)
        → WhereState mounts tree r.opening r.trace (λ m w k. AreLeft m w r k)
    each None world = tt
    each (Some m) None = tt
    each (Some m) (Some w) = of (state_after m w r.opening r.trace)
      where
        of : (k : Option Kernel) → IfSome k (λ k. AreLeft m w r k)
        of None = tt
        of (Some k) = from m k (started_kernel (begun m w r.opening))

-- the k-th number counted up
counted : (first n k : ℕ) (d : ℕ) → k < n → slice_index_or (count_up first n) k d ≡ first + k
unfolding count_up
counted first zero k d below = absurd (omega (arith, below))
counted first (suc n) zero d below = omega arith
counted first (suc n) (suc k) d below = counted (first + 1) n k d (omega (arith, below)) ∙ (omega arith)

-- numbers without a gap have all that is below them
gapless_below : (ns : List ℕ) → IsGapless ns → HasAllBelow ns
gapless_below ns e n m positive small there below =
    let len = length ns in
    let greatest : m ≡ 1 + there.0 =
    sym there.2 ∙ ap (λ xs. slice_index_or xs there.0 m) e ∙ counted 1 (length ns) there.0 m there.1 in (
      n - 1,
      (omega arith),
      ap (λ xs. slice_index_or xs (n - 1) n) e ∙ counted 1 (length ns) (n - 1) n (omega arith)
          ∙ (omega arith),
    )

all_drawn : (o : Opening) (trace : List Entry) (left : Left) → flat_map numbers_in trace ≡ [] → left ≡ no_left
    → numbers_drawn o trace left ≡ numbers_opened o
all_drawn o trace left e f =
    ap (λ xs. numbers_opened o ++ xs ++ numbers_of (left_fresh left)) e
    ∙ ap (λ (l : Left). numbers_opened o ++ [] ++ numbers_of (left_fresh l)) f
    ∙ ap (λ xs. xs ++ []) (append-nil (numbers_opened o)) ∙ append-nil (numbers_opened o)

pub below : (s : Call) (r : Outcome) → Way s r → HasAllBelow (numbers_drawn r.opening r.trace r.left)
below s r (Misused e n) =
    subst HasAllBelow
    (sym (all_drawn r.opening r.trace r.left (ap (flat_map numbers_in) n.refused.trace) n.refused.left))
    (gapless_below _ (gapless s r (Misused e n)))
below s r (Unread command e w u) =
    subst HasAllBelow
    (sym (all_drawn r.opening r.trace r.left (ap (flat_map numbers_in) u.refused.trace) u.refused.left))
    (gapless_below _ (gapless s r (Unread command e w u)))
below s r (Over_file command e w m d o) =
    subst HasAllBelow (sym (all_drawn r.opening r.trace r.left o.drawn o.left))
    (gapless_below (numbers_opened r.opening) o.numbers)
