-- The folder can be put together again.
use Rattle.image_walk.specs.Granted.{told_of}
use Rattle.image_walk.proofs.OutAgain.{can_give_back}
use Rattle.run_tests.proofs.Back.{can_then}
use Rattle.run_tests.proofs.visits.executed.Goals as goal

pub returns : goal.returns
returns g c =
    let told = g.N.HostNode.told in
    let root' = told c.execve.new.granted.root in
    let children' = told_of told c.execve.new.granted.lent.items in
    can_then c.args.granted.now.numbers (told c.args.granted.now.root) root'
    (told_of told c.args.granted.now.lent.items) children' c.requires.grant
    c.execve.ensures.silent
    (λ t names s. let e = c.in_ok-executed.ensures.executes t names s in
    can_give_back c.args.granted.now.numbers t _ _ root' children' e.stands)
