-- The opening and the run end as the tasks' opening came out, and the folder can be put together again.
use Rattle.std.proofs.Common.{List, [], length, ap, sym, ◌∙◌, subst}
use Rattle.std.specs.Prelude.{IsSomeAnd}
use Rattle.kernel_model.specs.declared.opening.OpenedTask.{OpenedTask}
use Rattle.kernel_model.specs.declared.opening.Opening.{Opening}
use Rattle.kernel_model.specs.opening.Opening.{bare}
use Rattle.image_walk.specs.declared.granted.Numbering.{Numbering}
use Rattle.image_walk.specs.Granted.{told_of}
use Rattle.image_walk.specs.Standing.{StandsLent}
use Rattle.image_walk.proofs.OutAgain.{can_give_back}
use Rattle.run_opening.specs.Begun.{HasBegun, Stops}
use Rattle.run_opening.specs.Openings.{numbering_of}
use Rattle.run_opening.specs.Told.{kernel_told, trees_told}
use Rattle.run_opening.specs.Trees.{trees_with}
use Rattle.sentry_run.specs.declared.play.End.{End}
use Rattle.sentry_run.specs.Played.{EndsTold}
use Rattle.sentry_run.proofs.Endings.{ended_lacking, ended_stopped, can_back, ended_begun, can_where, some_told, standing_after}
use Rattle.sentry_run.proofs.Endings.{tells_where}
use Rattle.sentry_run.proofs.Records.{gapless, record_with}
use Rattle.sentry_run.proofs.play.play_granted.Goals as goal

pub returns-in-Err-clause-ended : goal.returns-in-Err-clause-ended
returns-in-Err-clause-ended g c = λ others t are e after gives.
    let told = g.N.HostNode.told in
    let f = trees_told others (told c.args.granted.now.root) (told_of told c.args.granted.now.lent.items) in
    subst (λ (x : End). EndsTold c.args.mounts.now f t after c.stopped.result.opening c.stopped.result.trace x)
    (sym c.stopped.ensures.end)
    (ended_lacking c.args.mounts.now others t (told c.args.granted.now.root)
    (told_of told c.args.granted.now.lent.items) c.stopped.result.opening c.stopped.result.trace after
    (record {
      names = [];
      stands =
          subst (λ (num : Numbering). StandsLent num t [] [] (told c.args.granted.now.root)
          (told_of told c.args.granted.now.lent.items)) c.requires.numbers
          (c.requires.stands t e);
    }) c.stopped.ensures.trace gives)

pub returns-in-Ok-opened-clause-ended : goal.returns-in-Ok-opened-clause-ended
returns-in-Ok-opened-clause-ended g c = λ others t are e after gives.
    let told = g.N.HostNode.told in
    let m = c.args.mounts.now in
    let root = told c.open_tasks-opened.new.granted.root in
    let children = told_of told c.open_tasks-opened.new.granted.lent.items in
    ended_begun m others are t c.open_tasks-opened.new.tasks.items c.in-Ok-opened.processes root children
    c.run_processes.result.opening c.open_tasks-opened.ensures.recorded
    (c.run_processes.ensures.opening
    ∙ ap (λ (o : Opening). record o { tasks = c.from_vec.result }) c.in-Ok.ensures
    ∙ ap (record_with c.args.mounts.now) c.from_vec.ensures)
    (c.in-Ok-opened.ensures.stands t e)
    (subst (λ (first : List OpenedTask). IsSomeAnd (kernel_told m (trees_told others root children)
    c.in-Ok-opened.processes 0)
    (HasBegun m 0 (length m.tasks) first c.open_tasks-opened.new.tasks.items (bare m (trees_with others t))))
    c.new-tasks.ensures.items (c.in-Ok-opened.ensures.begun others t are e))
    c.run_processes.result.trace c.run_processes.result.end (c.run_processes.ensures.ran others) after gives

pub returns-in-Ok-opened-clause-can : goal.returns-in-Ok-opened-clause-can
returns-in-Ok-opened-clause-can g c =
    let told = g.N.HostNode.told in
    can_where (told c.args.granted.now.root) (told c.open_tasks-opened.new.granted.root)
    (told_of told c.open_tasks-opened.new.granted.lent.items) (λ n. (c.open_tasks-opened.ensures.silent n).0)
    (λ t e. let h = c.in-Ok-opened.ensures.stands t e in
    can_give_back (numbering_of c.args.mounts.now.mounts) t h.names [] (told c.open_tasks-opened.new.granted.root)
    (told_of told c.open_tasks-opened.new.granted.lent.items)
    h.stands)

pub returns-in-Ok-opened-clause-numbers : goal.returns-in-Ok-opened-clause-numbers
returns-in-Ok-opened-clause-numbers g c =
    gapless c.args.mounts.now c.open_tasks-opened.new.tasks.items c.run_processes.result.opening
    (c.run_processes.ensures.opening
    ∙ ap (λ (o : Opening). record o { tasks = c.from_vec.result }) c.in-Ok.ensures
    ∙ ap (record_with c.args.mounts.now) c.from_vec.ensures)
    c.open_tasks-opened.ensures.recorded

pub returns-in-Err-opened-clause-ended : goal.returns-in-Err-opened-clause-ended
returns-in-Err-opened-clause-ended g c = λ others t are e after gives.
    let told = g.N.HostNode.told in
    let m = c.args.mounts.now in
    let root = told c.open_tasks-opened.new.granted.root in
    let children = told_of told c.open_tasks-opened.new.granted.lent.items in
    let f = trees_told others root children in
    subst (λ (x : End). EndsTold m f t after c.unbegun.result.opening c.unbegun.result.trace x)
    (sym c.unbegun.ensures.end)
    (ended_stopped m others t c.in-Err-opened.why c.open_tasks-opened.new.tasks.items root children
    c.unbegun.result.opening c.unbegun.result.trace c.open_tasks-opened.ensures.recorded
    (c.unbegun.ensures.opening
    ∙ ap (λ (o : Opening). record o { tasks = c.from_vec.result }) c.in-Ok.ensures
    ∙ ap (record_with c.args.mounts.now) c.from_vec.ensures) c.unbegun.ensures.trace
    (subst (λ (first : List OpenedTask). Stops m 0 first c.open_tasks-opened.new.tasks.items c.in-Err-opened.why f
    (bare m (trees_with others t))) c.new-tasks.ensures.items
    (c.in-Err-opened.ensures.stopped others t are e))
    (c.in-Err-opened.ensures.standing t e) after gives)

pub returns-in-Err-opened-clause-can : goal.returns-in-Err-opened-clause-can
returns-in-Err-opened-clause-can g c =
    let told = g.N.HostNode.told in
    can_where (told c.args.granted.now.root) (told c.open_tasks-opened.new.granted.root)
    (told_of told c.open_tasks-opened.new.granted.lent.items) (λ n. (c.open_tasks-opened.ensures.silent n).0)
    (λ t e. can_back (numbering_of c.args.mounts.now.mounts) t (told c.open_tasks-opened.new.granted.root)
    (told_of told c.open_tasks-opened.new.granted.lent.items)
    (standing_after (numbering_of c.args.mounts.now.mounts) t (told c.open_tasks-opened.new.granted.root)
    (told_of told c.open_tasks-opened.new.granted.lent.items) c.in-Err-opened.why
    (c.in-Err-opened.ensures.standing t e)))

pub returns-in-Err-opened-clause-numbers : goal.returns-in-Err-opened-clause-numbers
returns-in-Err-opened-clause-numbers g c =
    gapless c.args.mounts.now c.open_tasks-opened.new.tasks.items c.unbegun.result.opening
    (c.unbegun.ensures.opening
    ∙ ap (λ (o : Opening). record o { tasks = c.from_vec.result }) c.in-Ok.ensures
    ∙ ap (record_with c.args.mounts.now) c.from_vec.ensures)
    c.open_tasks-opened.ensures.recorded

pub returns-in-Ok-opened-clause-tells : goal.returns-in-Ok-opened-clause-tells
returns-in-Ok-opened-clause-tells g c =
    let told = g.N.HostNode.told in
    tells_where (told c.args.granted.now.root) (told c.open_tasks-opened.new.granted.root)
    (λ t e. let h = c.in-Ok-opened.ensures.stands t e in
    some_told (numbering_of c.args.mounts.now.mounts) t (told c.open_tasks-opened.new.granted.root)
    (told_of told c.open_tasks-opened.new.granted.lent.items)
    (record { names = h.names; rises = []; stands = h.stands }))

pub returns-in-Err-opened-clause-tells : goal.returns-in-Err-opened-clause-tells
returns-in-Err-opened-clause-tells g c =
    let told = g.N.HostNode.told in
    tells_where (told c.args.granted.now.root) (told c.open_tasks-opened.new.granted.root)
    (λ t e. some_told (numbering_of c.args.mounts.now.mounts) t (told c.open_tasks-opened.new.granted.root)
    (told_of told c.open_tasks-opened.new.granted.lent.items)
    (standing_after (numbering_of c.args.mounts.now.mounts) t (told c.open_tasks-opened.new.granted.root)
    (told_of told c.open_tasks-opened.new.granted.lent.items) c.in-Err-opened.why
    (c.in-Err-opened.ensures.standing t e)))
