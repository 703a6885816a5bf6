-- A store-conditional by hints leaves what its writes leave.
use Rattle.mm_space.specs.Handed.{hand_of}
use Rattle.mm_space.specs.Spaces.{space_of}
use Rattle.quantum.proofs.Conditional.{near_done}
use Rattle.quantum.proofs.acting.ActingMem.conditional_near.Goals as goal

pub returns-clause-done : goal.returns-clause-done
returns-clause-done c =
    near_done c.conditional_near.result (space_of c.args.self.now.space) (space_of c.conditional_near.new.self)
    (hand_of c.args.self.now.handed) c.args.self.now.task c.args.at c.args.width c.args.value
    c.conditional_near.ensures.done
