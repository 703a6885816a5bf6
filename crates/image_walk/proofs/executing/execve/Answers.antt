-- What the walk came to is what an opening execve comes to.
use Rattle.std.proofs.Common.{ap, sym, ◌∙◌, subst, Bool}
use Rattle.image_walk.specs.Executing.{Executes, fresh_by}
use Rattle.image_walk.specs.Granted.{told_of}
use Rattle.image_walk.proofs.Deeds.{executes_by}
use Rattle.image_walk.proofs.executing.execve.Goals as goal

pub returns-clause-executes : goal.returns-clause-executes
returns-clause-executes g c = λ t names st.
    let told = g.N.HostNode.told in
    subst (λ (long : Bool). Executes c.args.granted.now.numbers long t names c.args.program.now.name
    c.gathered-given.result c.in_ok-drawn.field-0.loaded.answer (told c.walk.new.granted.root)
    (told_of told c.walk.new.granted.lent.items))
    (sym c.if-is_too_long.false ∙ c.is_too_long.ensures)
    (executes_by c.args.granted.now.numbers c.requires.numbers t names c.args.program.now.name
    (told c.args.granted.now.root) (told_of told c.args.granted.now.lent.items) st
    (told c.walk.new.granted.root) (told_of told c.walk.new.granted.lent.items) c.in_ok-drawn.field-0
    c.gathered-given.result c.in_ok-drawn.ensures.walks
    (c.gathered-given.ensures.fresh
    ∙ ap (fresh_by c.args.granted.now.numbers.root c.in_ok-drawn.field-0.drawn c.in_ok-drawn.field-0.ino)
    c.in_ok-room.ensures.name) c.gathered-given.ensures.rises)
