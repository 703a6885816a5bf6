-- A task more has begun as its execve answered, and the record has it.
use Rattle.std.proofs.Common.{◌≡◌, ◌+◌, List, [], ◌∷◌, ◌++◌, length, ap, ◌∙◌, subst, arith}
use Rattle.kernel_model.specs.declared.opening.OpenedTask.{OpenedTask}
use Rattle.std.proofs.lemmas.List.{length-map}
use Rattle.image_walk.specs.declared.granted.Numbering.{Numbering}
use Rattle.image_walk.specs.Granted.{told_of}
use Rattle.image_walk.specs.Standing.{IsNumbering}
use Rattle.image_walk.specs.Walking.{IsGrant}
use Rattle.run_opening.specs.Openings.{numbering_of}
use Rattle.run_opening.specs.Records.{IsRecord}
use Rattle.run_opening.proofs.Beginning.{Deed, begins_as, begun_then, executes_as, opened_then}
use Rattle.run_opening.proofs.Beginning.{stands_err, stands_kept, stands_still, stopped_then}
use Rattle.run_opening.proofs.Recording.{any_ok, record_more, recorded}
use Rattle.run_opening.proofs.opening.open_task.Goals as goal
use Rattle.run_opening.proofs.opening.open_task.Goals.{After-begin}

-- ---- what the execve did, and its record

-- the record has what it had, for which there was room, and this execve behind it
pushed : (g : _) (c : After-begin g)
    → c.push_reserved.new.self.items ≡ c.args.tasks.now.items ++ c.in_ok-opened.field-0.opened ∷ []
pushed g c =
    c.push_reserved.ensures.items
    ∙ ap (λ (os : List OpenedTask). os ++ c.in_ok-opened.field-0.opened ∷ []) c.make_room.ensures.same

grown : (g : _) (c : After-begin g)
    → IsRecord c.args.mounts.now c.push_reserved.new.self.items (c.args.index + 1)
    (length c.execute.new.granted.lent.items)
grown g c =
    record_more c.args.mounts.now c.args.granted.now.numbers c.args.tasks.now.items c.push_reserved.new.self.items
    c.args.index
    (length c.args.granted.now.lent.items) (length c.execute.new.granted.lent.items) c.at-program.result.now
    c.in_ok-opened.field-0.opened c.requires.numbers c.requires.record c.at-program.ensures c.in_ok-opened.ensures.words
    c.in_ok-opened.ensures.numbers (pushed g c)

deed : (g : _) (c : After-begin g)
    → Deed c.args.mounts.now c.args.index c.args.tasks.now.items c.push_reserved.new.self.items c.args.processes
    (g.N.HostNode.told c.args.granted.now.root) (g.N.HostNode.told c.execute.new.granted.root)
    (told_of g.N.HostNode.told c.args.granted.now.lent.items)
    (told_of g.N.HostNode.told c.execute.new.granted.lent.items) c.begin.result
deed g c =
    let told = g.N.HostNode.told in
    let m = c.args.mounts.now in
    let program = c.at-program.result.now in
    let root = told c.args.granted.now.root in
    let children = told_of told c.args.granted.now.lent.items in
    record {
      program = program;
      at = c.at-program.ensures;
      opened = c.in_ok-opened.field-0.opened;
      pushed = pushed g c;
      answer = c.in_ok-opened.field-0.answer;
      executes =
          executes_as m c.args.granted.now.numbers program c.in_ok-opened.field-0.opened.given
          c.in_ok-opened.field-0.answer (told c.args.granted.now.root) (told c.execute.new.granted.root)
          (told_of told c.args.granted.now.lent.items) (told_of told c.execute.new.granted.lent.items)
          c.requires.numbers c.in_ok-opened.ensures.executes;
      begins =
          begins_as m c.args.granted.now.numbers c.as_slice.result.now program c.in_ok-opened.field-0.answer
          c.args.processes c.begin.result c.requires.numbers c.as_slice.ensures c.begin.ensures;
      last = c.requires.opened.last;
      few = omega (arith, c.requires.within, c.requires.few);
      drawn =
          let each : length children ≡ length c.args.granted.now.lent.items =
          length-map c.args.granted.now.lent.items (λ l. (l.name, told l.node)) in
          omega (arith, each, c.requires.record.one_each);
      facts = subst IsNumbering c.requires.numbers c.requires.known;
      grant = subst (λ (num : Numbering). IsGrant num root children) c.requires.numbers c.requires.grant;
    }

-- ---- the goals

pub returns-in_err-opened-clause-standing : goal.returns-in_err-opened-clause-standing
returns-in_err-opened-clause-standing g c =
    let told = g.N.HostNode.told in
    stands_kept (numbering_of c.args.mounts.now.mounts) (told c.args.granted.now.root) (told c.execute.new.granted.root)
    (told_of told c.args.granted.now.lent.items) (told_of told c.execute.new.granted.lent.items)
    c.from_residual-in_err-opened.result c.in_err-opened.ensures.err c.in_err-opened.ensures.err_lent
    c.from_residual-in_err-opened.ensures.1

pub returns-clause-opened : goal.returns-clause-opened
returns-clause-opened g c =
    opened_then c.as_slice.result.now c.args.granted.now.numbers.root c.at-program.result.now
    c.in_ok-opened.field-0.answer c.args.index
    c.args.processes
    c.begin.result c.requires.opened (omega (arith, c.requires.within, c.requires.few)) c.begin.ensures

pub returns-clause-record : goal.returns-clause-record
returns-clause-record g c = any_ok c.begin.result (grown g (goal.at.returns-clause-record g c).After-begin)

pub returns-clause-recorded : goal.returns-clause-recorded
returns-clause-recorded g c =
    recorded c.args.mounts.now c.push_reserved.new.self.items (c.args.index + 1)
    (length c.execute.new.granted.lent.items)
    (grown g (goal.at.returns-clause-recorded g c).After-begin)

pub returns-clause-stands : goal.returns-clause-stands
returns-clause-stands g c =
    stands_still _ _ _ _ _ _ _ _ _ c.begin.result (deed g (goal.at.returns-clause-stands g c).After-begin)

pub returns-clause-begun : goal.returns-clause-begun
returns-clause-begun g c =
    begun_then _ _ _ _ _ _ _ _ _ c.begin.result (deed g (goal.at.returns-clause-begun g c).After-begin)

pub returns-clause-stopped : goal.returns-clause-stopped
returns-clause-stopped g c =
    stopped_then _ _ _ _ _ _ _ _ _ c.begin.result (deed g (goal.at.returns-clause-stopped g c).After-begin)

pub returns-clause-standing : goal.returns-clause-standing
returns-clause-standing g c =
    let d = deed g (goal.at.returns-clause-standing g c).After-begin in
    stands_err c.args.mounts.now _ _ d.program d.opened.given d.answer c.args.processes _ _ _ _ d.executes
    c.begin.result d.begins
