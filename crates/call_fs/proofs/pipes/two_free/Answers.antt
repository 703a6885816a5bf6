-- The first number is one that a table may have.
use Rattle.std.proofs.Common.{arith}
use Rattle.call_fs.proofs.Lowest.{free_there}
use Rattle.call_fs.proofs.pipes.two_free.Goals as goal

pub overflow_add-first : goal.overflow_add-first
overflow_add-first c =
    let there = free_there c.args.numbers.now 0 c.in_ok-first.first c.in_ok-first.ensures in
    omega (arith, there.2)
