use Rattle.std.proofs.Common.{arith, ◌≡◌, ◌∙◌, ap, length, take}
use Rattle.std.proofs.lemmas.List.{take_at}
use Rattle.futex_core.specs.Waiters.{sleepers_without, first_waiters}
use Rattle.futex_core.proofs.Once.{once_of_same, once_after_wake}
use Rattle.futex_core.proofs.waiters.Waiters.wake.Goals as goal

pub invariant_of-self : goal.invariant_of-self
invariant_of-self c =
    let long : length c.pick-left.new.sleepers ≡ c.self.inside.sleepers.len =
    omega (arith, c.pick-left.auto.sleepers, c.deref_mut.ensures.len) in
    let remaining : c.truncate.new.self.items
    ≡ sleepers_without c.self.inside.sleepers.items
    (first_waiters c.self.inside.sleepers.items c.args.key c.args.n) =
    c.truncate.ensures.items
    ∙ ap (take c.pick-left.result) (take_at c.pick-left.new.sleepers _ _ long)
    ∙ c.pick-left.ensures.left
    ∙ ap (λ ss. sleepers_without ss (first_waiters ss c.args.key c.args.n)) c.deref_mut.ensures.value in (
      once_of_same _ _ _ _ (once_after_wake _ c.args.key c.args.n c.self.invariant.0) remaining
          (rw (← c.deref_mut.ensures.value) c.pick-left.ensures.woken),
      omega (
        arith,
        c.truncate.ensures.len,
        c.pick-left.ensures.len,
        c.pick-left.ensures.capacity,
        c.pick-left.ensures.within,
        c.deref_mut.ensures.len,
        c.self.invariant.1,
      ),
    )
