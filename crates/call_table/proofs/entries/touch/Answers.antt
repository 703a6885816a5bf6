-- An instruction that touches a shared area is an entry of its own, or the task calls or traps by it.
use Rattle.std.proofs.Common.{ap, sym, true, false, ◌∙◌}
use Rattle.kernel_model.specs.machine.Instructions.{goes_on}
use Rattle.parked_tasks.proofs.Results.{on_err, err_by}
use Rattle.call_table.specs.Entries.{ReadyIs}
use Rattle.call_table.specs.Moves.{LeavesRest}
use Rattle.call_table.specs.Parks.{Parks}
use Rattle.call_table.proofs.Kept.{stands_kept, part_kept, part_behind, ready_kept}
use Rattle.call_table.proofs.Moves.{moves_kept}
use Rattle.call_table.proofs.Parks.{parks_kept, touching_kept}
use Rattle.call_table.proofs.Results.{enters_behind, waits_behind}
use Rattle.call_table.proofs.entries.touch.Goals as goal

pub answer-requires-clause-stands : goal.answer-requires-clause-stands
answer-requires-clause-stands c =
    stands_kept c.args.cells.now c.step_standing.new.cells c.args.context.now.task c.args.standing.now
    (c.in_ok-step_standing.ensures.kept (ap goes_on c.in-Calls.is)) c.requires.stands

pub answer-requires-clause-told : goal.answer-requires-clause-told
answer-requires-clause-told c =
    sym (touching_kept c.args.cells.now c.step_standing.new.cells c.args.context.now.task
    (c.in_ok-step_standing.ensures.kept (ap goes_on c.in-Calls.is)) ∙ c.requires.touches)

pub end-requires-clause-stands : goal.end-requires-clause-stands
end-requires-clause-stands c =
    stands_kept c.args.cells.now c.step_standing.new.cells c.args.context.now.task c.args.standing.now
    (c.in_ok-step_standing.ensures.kept (ap goes_on c.in-Traps.is)) c.requires.stands

pub returns-in_err-step_standing-clause-memory : goal.returns-in_err-step_standing-clause-memory
returns-in_err-step_standing-clause-memory c =
    err_by c.from_residual.result (part_kept c.args.cells.now c.step_standing.new.cells c.args.context.now.task
    c.args.standing.now c.in_err-step_standing.ensures.err c.requires.stands)

pub returns-in-Calls-clause-memory : goal.returns-in-Calls-clause-memory
returns-in-Calls-clause-memory c =
    on_err c.answer.result (part_behind c.args.cells.now c.step_standing.new.cells c.answer.new.cells
    c.args.context.now.task (c.in_ok-step_standing.ensures.kept (ap goes_on c.in-Calls.is))) c.answer.ensures.memory

pub returns-in_err-end-in-Traps-clause-memory : goal.returns-in_err-end-in-Traps-clause-memory
returns-in_err-end-in-Traps-clause-memory c =
    err_by c.from_residual-in_err-end-in-Traps.result (part_behind c.args.cells.now c.step_standing.new.cells
    c.end.new.cells c.args.context.now.task (c.in_ok-step_standing.ensures.kept (ap goes_on c.in-Traps.is))
    c.in_err-end-in-Traps.ensures.memory)

-- ---- whether the step was ready

pub returns-in-Goes-clause-ready : goal.returns-in-Goes-clause-ready
returns-in-Goes-clause-ready c = c.in_ok-step_standing.ensures.ready c.in-Goes.is

pub returns-in-Calls-clause-ready : goal.returns-in-Calls-clause-ready
returns-in-Calls-clause-ready c =
    enters_behind c.answer.result (λ entry. ReadyIs c.step_standing.new.cells c.args.context.now.task true)
    (λ entry. ReadyIs c.args.cells.now c.args.context.now.task true)
    (λ entry. ready_kept c.args.cells.now c.step_standing.new.cells c.args.context.now.task true
    (c.in_ok-step_standing.ensures.kept (ap goes_on c.in-Calls.is))) c.answer.ensures.ready

pub returns-in-Calls-clause-waits : goal.returns-in-Calls-clause-waits
returns-in-Calls-clause-waits c =
    waits_behind c.answer.result (λ spot. ReadyIs c.step_standing.new.cells c.args.context.now.task false)
    (λ spot. ReadyIs c.args.cells.now c.args.context.now.task false)
    (λ spot. ready_kept c.args.cells.now c.step_standing.new.cells c.args.context.now.task false
    (c.in_ok-step_standing.ensures.kept (ap goes_on c.in-Calls.is))) c.answer.ensures.waits

pub returns-in_ok-end-in-Traps-clause-ready : goal.returns-in_ok-end-in-Traps-clause-ready
returns-in_ok-end-in-Traps-clause-ready c =
    ready_kept c.args.cells.now c.step_standing.new.cells c.args.context.now.task true
    (c.in_ok-step_standing.ensures.kept (ap goes_on c.in-Traps.is)) c.in_ok-end-in-Traps.ensures.ready

-- ---- what it leaves as it was

pub returns-in-Calls-clause-moves : goal.returns-in-Calls-clause-moves
returns-in-Calls-clause-moves c =
    let p = c.args.cells.now in
    let b = c.step_standing.new.cells in
    let q = c.answer.new.cells in
    let task = c.args.context.now.task in
    let memory = c.args.standing.now.memory in
    enters_behind c.answer.result (λ made. LeavesRest task memory made b q) (λ made. LeavesRest task memory made p q)
    (λ made. moves_kept task memory made p b q (c.in_ok-step_standing.ensures.kept (ap goes_on c.in-Calls.is)))
    c.answer.ensures.moves

-- ---- why it was not

pub returns-in-Calls-clause-parks : goal.returns-in-Calls-clause-parks
returns-in-Calls-clause-parks c =
    let p = c.args.cells.now in
    let b = c.step_standing.new.cells in
    let task = c.args.context.now.task in
    waits_behind c.answer.result (Parks b task) (Parks p task)
    (λ spot. parks_kept p b task spot (c.in_ok-step_standing.ensures.kept (ap goes_on c.in-Calls.is)))
    c.answer.ensures.parks
