-- One number less.
use Rattle.parked_tasks.proofs.UserLists.{numbers_less}
use Rattle.parked_tasks.proofs.parking.Parking.rest.Goals as goal

pub invariant_of-self : goal.invariant_of-self
invariant_of-self c = record {
  numbers =
      numbers_less c.args.self.now.awake c.remove.new.self c.from.result c.remove.ensures.after
      c.args.self.now.numbers;
}
