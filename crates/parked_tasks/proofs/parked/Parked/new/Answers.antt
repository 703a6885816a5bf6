-- Where none is parked, none is to be listed.
use Rattle.parked_tasks.proofs.UserLists.{numbers_of_none}
use Rattle.parked_tasks.proofs.Woken.{listed_none, none_parked}
use Rattle.parked_tasks.proofs.parked.Parked.new.Goals as goal

pub invariant_of-result : goal.invariant_of-result
invariant_of-result c = record {
  listed = listed_none c.new.result c.new-2.result (none_parked c.new.result c.new.ensures);
  numbers = numbers_of_none c.new.result c.new.ensures;
}
