-- What a call leaves that replies.
use Rattle.std.proofs.Common.{◌≡◌, ap, sym, refl, ◌∙◌, subst}
use Rattle.kernel_model.specs.declared.kernel.Kernel.{Kernel}
use Rattle.kernel_model.specs.Names.{get_named}
use Rattle.kernel_calls.proofs.Effects.{kept}
use Rattle.proc_cells.specs.Beside.{kernel_with, nothing_beside, nothing_held}
use Rattle.proc_cells.specs.Cells.{kernel_of}
use Rattle.parked_tasks.specs.Untouched.{FilesMove}
use Rattle.call_table.specs.Moves.{puts_to_sleep}
use Rattle.call_table.proofs.Homes.{home_committed}
use Rattle.call_table.proofs.Moves.{lists_of, moves_done, others_go_on}
use Rattle.call_table.proofs.MovedParts.{Lists, files_by, lists_after, lists_are}
use Rattle.call_table.proofs.answers.finish.Goals as goal

pub invariant_of-cells : goal.invariant_of-cells
invariant_of-cells c =
    let p = c.args.cells.now in
    let k : Kernel = kernel_of p nothing_beside 0 in
    record {
      at_home =
          home_committed c.args.prepared.effect c.args.context.now.group k c.commit.new.tasks p.registers p.spaces
          (ap (λ (m : Kernel). m.tasks) (c.commit.ensures k refl refl refl)) p.at_home;
    }

pub returns-clause-does : goal.returns-clause-does
returns-clause-does c = λ k e f g.
    let q = c.go_on.new.cells in
    c.commit.ensures k e f g
    ∙ ap (λ t. kept k t c.commit.new.sleepers c.commit.new.files) (sym c.go_on.ensures.tasks)
    ∙ ap (λ w. kept k q.tasks w c.commit.new.files) (sym c.go_on.ensures.sleepers)
    ∙ ap (kept k q.tasks q.sleepers) (sym c.go_on.ensures.files)

pub returns-clause-moves : goal.returns-clause-moves
returns-clause-moves c =
    let p = c.args.cells.now in
    let q = c.go_on.new.cells in
    let task = c.args.context.now.task in
    let group = c.args.context.now.group in
    let effect = c.args.prepared.effect in
    let k : Kernel =
    kernel_with
    (record nothing_held { tasks = p.tasks; sleepers = p.sleepers; console = p.console; files = p.files })
    nothing_beside 0
    in
    let does = c.commit.ensures k refl refl refl in
    let between : Lists = record { tasks = c.commit.new.tasks; sleepers = c.commit.new.sleepers } in
    let did : between ≡ lists_after effect group (lists_of p) =
    lists_are task group (lists_of p) effect between p.console p.files c.commit.new.files does in
    moves_done task c.args.context.now.memory _ p q effect group
    (ap (λ t. record { tasks = t; sleepers = q.sleepers }) c.go_on.ensures.tasks
    ∙ ap (λ w. record { tasks = c.commit.new.tasks; sleepers = w }) c.go_on.ensures.sleepers ∙ did)
    c.requires.own c.requires.ended c.requires.awake (ap puts_to_sleep c.call_entry-entry.ensures)
    c.changes_list-tasks.ensures (λ e. c.go_on.ensures.areas)
    (λ e. subst (FilesMove c.touched_by-touched.result p.files)
    (files_by effect group k ∙ ap (λ (m : Kernel). m.files) does ∙ sym c.go_on.ensures.files)
    (c.touched_by-touched.ensures e))
    (record {
      registers = λ other apart.
          others_go_on p.registers q.registers task other _ c.go_on.ensures.registers apart;
      spaces = λ name apart. ap (λ m. get_named m name.place name.index) c.go_on.ensures.spaces;
    })
