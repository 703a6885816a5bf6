-- A task that is parked is listed with all that it used.
use Rattle.std.proofs.Common.{◌≡◌, ◌<◌, ◌^◌, sym, subst, arith}
use Rattle.std.specs.Ordering.{nat_cmp}
use Rattle.std.specs.FinMap as map
use Rattle.parked_tasks.specs.Parked.{AreListed}
use Rattle.parked_tasks.specs.Users.{AreNumbers}
use Rattle.parked_tasks.specs.declared.used.Spot.{Spot}
use Rattle.parked_tasks.proofs.Results.{by_result}
use Rattle.parked_tasks.proofs.UserLists.{numbers_more}
use Rattle.parked_tasks.proofs.Woken.{listed_more_with, listed_one}
use Rattle.parked_tasks.proofs.parked.Parked.park.Goals as goal

pub invariant_of-self-2 : goal.invariant_of-self-2
invariant_of-self-2 c =
    let before = c.args.self.now in
    let number = c.from-number.result in
    let index = c.list.new.self in
    let after = c.insert.new.self in
    let small : number < 2 ^ 32 = omega arith in
    record {
      listed = by_result c.insert.result c.insert.ensures.ok c.insert.ensures.err
          (listed_one before.tasks after before.index index number c.args.spot before.listed c.list.ensures.more
          c.in_ok-list.ensures.listed)
          (λ (same : after ≡ before.tasks). subst (λ (m : map.FinMap nat_cmp Spot). AreListed m index) (sym same)
          (listed_more_with before.tasks before.index index before.listed c.list.ensures.more));
      numbers = by_result c.insert.result c.insert.ensures.ok c.insert.ensures.err
          (λ (more : after ≡ map.insert before.tasks number c.args.spot).
          numbers_more before.tasks after number c.args.spot more small before.numbers)
          (λ (same : after ≡ before.tasks). subst (λ (m : map.FinMap nat_cmp Spot). AreNumbers m) (sym same)
          before.numbers);
    }
