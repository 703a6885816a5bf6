use Rattle.machine_cases.proofs.Stores.{stored_told}
use Rattle.machine_cases.proofs.memory.Small.put.Goals as goal

pub returns : goal.returns
returns c =
    stored_told c.args.at c.args.width c.args.value c.args.self.now.code.right c.args.self.now.readable
    c.args.self.now.writable _ _ _ _ _ c.put.ensures c.put-2.ensures
