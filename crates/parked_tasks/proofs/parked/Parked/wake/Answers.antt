-- Those that are listed with one thing are looked at where they are parked, and that thing is forgotten.
use Rattle.std.proofs.Common.{ap, ◌∙◌}
use Rattle.parked_tasks.specs.Used.{has_used}
use Rattle.parked_tasks.specs.Users.{is_among}
use Rattle.parked_tasks.proofs.Woken.{have_woken, listed_but, numbers_left}
use Rattle.parked_tasks.proofs.parked.Parked.wake.Goals as goal

pub returns-clause-woken : goal.returns-clause-woken
returns-clause-woken c =
    let before = c.args.self.now in
    have_woken c.as_slice.result.now before.tasks c.look_at.new.parked c.args.awake.now c.look_at.new.awake
    (record { parked = c.in_ok-look_at.ensures.parked; looked_at = c.in_ok-look_at.ensures.looked_at })
    (λ spot. has_used spot c.args.used)
    (λ task spot there has.
    ap (is_among task) c.as_slice.ensures ∙ c.in_ok-listed.ensures task
    ∙ before.listed task spot there c.args.used has)

pub invariant_of-self-2 : goal.invariant_of-self-2
invariant_of-self-2 c =
    let before = c.args.self.now in
    record {
      listed =
          listed_but c.as_slice.result.now before.tasks c.look_at.new.parked c.args.awake.now c.look_at.new.awake
          (record { parked = c.in_ok-look_at.ensures.parked; looked_at = c.in_ok-look_at.ensures.looked_at })
          before.index c.forget.new.self c.args.used before.listed
          (λ task. ap (is_among task) c.as_slice.ensures ∙ c.in_ok-listed.ensures task) c.forget.ensures.others;
      numbers = numbers_left before.tasks c.look_at.new.parked c.look_at.ensures.left before.numbers;
    }
