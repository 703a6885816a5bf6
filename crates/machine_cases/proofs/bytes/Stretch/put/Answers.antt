use Rattle.std.proofs.Common.{rules, ◌≡◌, length}
use Rattle.machine_cases.proofs.Stores.{stored_stretch}
use Rattle.machine_cases.proofs.bytes.Stretch.put.Goals as goal

pub returns : goal.returns
returns g c =
    let long : length c.args.self.now.bytes ≡ g.row.N = search rules in
    stored_stretch c.args.self.now.from g.row.N c.args.self.now.area c.args.self.now.bytes c.put.new.bytes c.args.at
    c.args.width c.args.value long c.put.ensures
