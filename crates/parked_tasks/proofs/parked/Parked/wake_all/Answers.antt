-- Those that are parked are looked at, and none is parked any more.
use Rattle.std.proofs.Common.{true, ap, ◌∙◌}
use Rattle.std.specs.Prelude.{is_some}
use Rattle.parked_tasks.proofs.UserLists.{among_keys}
use Rattle.parked_tasks.proofs.Woken.{have_woken, listed_none, none_left, numbers_left}
use Rattle.parked_tasks.proofs.parked.Parked.wake_all.Goals as goal

pub returns-clause-woken : goal.returns-clause-woken
returns-clause-woken c =
    let before = c.args.self.now in
    have_woken c.as_slice.result.now before.tasks c.look_at.new.parked c.args.awake.now c.look_at.new.awake
    (record { parked = c.in_ok-look_at.ensures.parked; looked_at = c.in_ok-look_at.ensures.looked_at })
    (λ spot. true)
    (λ task spot there passes.
    among_keys before.tasks c.as_slice.result.now (c.as_slice.ensures ∙ c.in_ok-tasks.ensures) task ∙ ap is_some there)

pub invariant_of-self-2 : goal.invariant_of-self-2
invariant_of-self-2 c =
    let before = c.args.self.now in
    record {
      listed = listed_none c.look_at.new.parked c.new.result
          (none_left c.as_slice.result.now before.tasks c.look_at.new.parked c.args.awake.now c.look_at.new.awake
          (record { parked = c.in_ok-look_at.ensures.parked; looked_at = c.in_ok-look_at.ensures.looked_at })
          (among_keys before.tasks c.as_slice.result.now (c.as_slice.ensures ∙ c.in_ok-tasks.ensures)));
      numbers = numbers_left before.tasks c.look_at.new.parked c.look_at.ensures.left before.numbers;
    }
