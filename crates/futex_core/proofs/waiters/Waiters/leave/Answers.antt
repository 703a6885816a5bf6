use Rattle.std.proofs.Common.{rules, arith, refl, ◌≡◌, ◌==◌, ℕ, not, filter}
use Rattle.std.proofs.lemmas.Fn.{filter_same}
use Rattle.futex_core.specs.declared.waiters.Sleeper.{Sleeper}
use Rattle.futex_core.proofs.Once.{once_of_same, once_after_leave}
use Rattle.futex_core.proofs.waiters.Waiters.leave.Goals as goal

sleepers_left : (c : goal.After-retain-2)
    → c.retain.new.self.items ≡ filter (λ s. not (s.task == c.args.task)) c.self.inside.sleepers.items
sleepers_left c =
    filter_same _ (λ (s : Sleeper). not (s.task == c.args.task)) _
    (λ s b f h. search rules) _ _ c.retain.ensures.filtered

woken_left : (c : goal.After-retain-2)
    → c.retain-2.new.self.items ≡ filter (λ t. not (t == c.args.task)) c.self.inside.woken.items
woken_left c =
    filter_same _ (λ (t : ℕ). not (t == c.args.task)) _ (λ t b f h. search rules) _ _ c.retain-2.ensures.filtered

pub invariant_of-self : goal.invariant_of-self
invariant_of-self c = (
  once_of_same _ _ _ _ (once_after_leave _ c.args.task c.self.invariant.0) (sleepers_left c) (woken_left c),
  omega (arith, c.retain.ensures.bound, c.retain-2.ensures.bound, c.retain-2.ensures.capacity, c.self.invariant.1),
)

pub returns : goal.returns
returns c = rw (sleepers_left c, woken_left c, ← c.self.view_is) refl
