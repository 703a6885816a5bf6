use Rattle.std.proofs.Common.{◌∙◌}
use Rattle.mm_space.proofs.Readied.{ready_same}
use Rattle.mm_space.proofs.space.Space.store.Goals as goal

pub returns-in-Err-clause-lean : goal.returns-in-Err-clause-lean
returns-in-Err-clause-lean c = λ ready is.
    c.writable.ensures.lean
    (ready_same c.args.self.now c.store_by.new.self c.args.handed.now c.args.handed.now
    (c.if-store_by.ensures.ready c.args.handed.now) c.args.at c.args.width ∙ ready)
    (c.in-Err.is ∙ is)
