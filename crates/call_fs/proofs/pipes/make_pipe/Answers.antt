-- All that the row changes is done.
use Rattle.call_fs.proofs.MadePipes.{all_made, on_ok_all}
use Rattle.call_fs.proofs.pipes.make_pipe.Goals as goal

pub returns-clause-ok : goal.returns-clause-ok
returns-clause-ok c =
    let a = c.args in
    on_ok_all c.place.result
    (λ placed made opened wrote row caller k console of_row makes at moving.
    all_made row a.new of_row caller k console a.context.now a.space.now c.place.new.space a.areas.now c.place.new.areas
    a.files.now c.place.new.files makes at moving placed made opened wrote)
    c.place.ensures.placed c.place.ensures.made c.place.ensures.opened c.place.ensures.wrote
