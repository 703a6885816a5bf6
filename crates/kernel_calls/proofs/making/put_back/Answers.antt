-- What a map had at a key goes back there, or the key has nothing again.
use Rattle.std.proofs.Common.{ap, sym, ◌∙◌}
use Rattle.std.specs.FinMap.{insert, remove}
use Rattle.sn_base.proofs.Maps.{insert_same, insert-insert, remove_absent, remove-insert}
use Rattle.kernel_calls.proofs.making.put_back.Goals as goal

pub returns-in-Some : goal.returns-in-Some
returns-in-Some c m r was before =
    let key = c.args.number in
    let had = c.in-Some.before in
    c.replace.ensures ∙ ap (λ n. insert n key had) was ∙ insert-insert m key r had
    ∙ insert_same m key had (sym before ∙ c.in-Some.is)

pub returns-in-None : goal.returns-in-None
returns-in-None c m r was before =
    let key = c.args.number in
    c.remove.ensures.after ∙ ap (λ n. remove n key) was ∙ remove-insert m key r
    ∙ remove_absent m key (sym before ∙ c.in-None.is)
