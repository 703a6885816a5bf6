-- What is taken back was made.
use Rattle.kernel_calls.proofs.making.make_process.Goals as goal

pub unmake-requires : goal.unmake-requires
unmake-requires c =
    record { before = c.args.tasks.now; kept = c.in-Ok.ensures.kept; made = c.in-Ok.ensures.made }
