-- Where no instruction ran, the entry is that of one that touches a shared area, a call or an end.
use Rattle.std.proofs.Common.{◌≡◌, arith, true, false, ap, sym, ◌∙◌}
use Rattle.kernel_model.specs.machine.Instructions.{touches_area}
use Rattle.parked_tasks.proofs.Results.{err_by, on_err}
use Rattle.call_table.specs.Entries.{ReadyIs}
use Rattle.call_table.specs.Moves.{LeavesRest}
use Rattle.call_table.specs.Parks.{Parks}
use Rattle.call_table.proofs.Kept.{stands_kept, part_behind, ready_kept}
use Rattle.call_table.proofs.Moves.{moves_kept}
use Rattle.call_table.proofs.Parks.{parks_kept, touching_kept}
use Rattle.call_table.proofs.Results.{enters_behind, waits_behind}
use Rattle.call_table.proofs.entries.advance.Goals as goal

pub answer-requires-clause-stands : goal.answer-requires-clause-stands
answer-requires-clause-stands c =
    let none : c.in_ok-ran.ran.count ≡ 0 = omega arith in
    stands_kept c.args.cells.now c.run_standing.new.cells c.args.context.now.task c.args.standing.now
    (c.in_ok-ran.ensures.none none) c.requires.stands

pub end-requires-clause-stands : goal.end-requires-clause-stands
end-requires-clause-stands c =
    let none : c.in_ok-ran.ran.count ≡ 0 = omega arith in
    stands_kept c.args.cells.now c.run_standing.new.cells c.args.context.now.task c.args.standing.now
    (c.in_ok-ran.ensures.none none) c.requires.stands

pub touch-requires-clause-stands : goal.touch-requires-clause-stands
touch-requires-clause-stands c =
    let none : c.in_ok-ran.ran.count ≡ 0 = omega arith in
    stands_kept c.args.cells.now c.run_standing.new.cells c.args.context.now.task c.args.standing.now
    (c.in_ok-ran.ensures.none none) c.requires.stands

pub answer-requires-clause-told : goal.answer-requires-clause-told
answer-requires-clause-told c =
    let none : c.in_ok-ran.ran.count ≡ 0 = omega arith in
    sym (touching_kept c.args.cells.now c.run_standing.new.cells c.args.context.now.task (c.in_ok-ran.ensures.none none)
    ∙ c.in_ok-ran.ensures.touching none ∙ ap touches_area c.in-Calls.is)

pub returns-in_err-end-in-Traps-clause-memory : goal.returns-in_err-end-in-Traps-clause-memory
returns-in_err-end-in-Traps-clause-memory c =
    let none : c.in_ok-ran.ran.count ≡ 0 = omega arith in
    err_by c.from_residual-in_err-end-in-Traps.result (part_behind c.args.cells.now c.run_standing.new.cells
    c.end.new.cells c.args.context.now.task (c.in_ok-ran.ensures.none none) c.in_err-end-in-Traps.ensures.memory)

-- ---- whether the step was ready

pub returns-then-ran-gt0-clause-ready : goal.returns-then-ran-gt0-clause-ready
returns-then-ran-gt0-clause-ready c = c.in_ok-ran.ensures.ready (omega arith)

pub returns-in_ok-end-in-Traps-clause-ready : goal.returns-in_ok-end-in-Traps-clause-ready
returns-in_ok-end-in-Traps-clause-ready c =
    let none : c.in_ok-ran.ran.count ≡ 0 = omega arith in
    ready_kept c.args.cells.now c.run_standing.new.cells c.args.context.now.task true (c.in_ok-ran.ensures.none none)
    c.in_ok-end-in-Traps.ensures.ready

-- ---- a call, and an instruction that touches a shared area

pub returns-in-Calls-clause-memory : goal.returns-in-Calls-clause-memory
returns-in-Calls-clause-memory c =
    let p = c.args.cells.now in
    let b = c.run_standing.new.cells in
    let task = c.args.context.now.task in
    let none : c.in_ok-ran.ran.count ≡ 0 = omega arith in
    let kept = c.in_ok-ran.ensures.none none in
    on_err c.answer.result (part_behind p b c.answer.new.cells task kept) c.answer.ensures.memory

pub returns-in-Calls-clause-ready : goal.returns-in-Calls-clause-ready
returns-in-Calls-clause-ready c =
    let p = c.args.cells.now in
    let b = c.run_standing.new.cells in
    let task = c.args.context.now.task in
    let none : c.in_ok-ran.ran.count ≡ 0 = omega arith in
    let kept = c.in_ok-ran.ensures.none none in
    enters_behind c.answer.result (λ made. ReadyIs b task true) (λ made. ReadyIs p task true)
    (λ made. ready_kept p b task true kept) c.answer.ensures.ready

pub returns-in-Calls-clause-waits : goal.returns-in-Calls-clause-waits
returns-in-Calls-clause-waits c =
    let p = c.args.cells.now in
    let b = c.run_standing.new.cells in
    let task = c.args.context.now.task in
    let none : c.in_ok-ran.ran.count ≡ 0 = omega arith in
    let kept = c.in_ok-ran.ensures.none none in
    waits_behind c.answer.result (λ spot. ReadyIs b task false) (λ spot. ReadyIs p task false)
    (λ spot. ready_kept p b task false kept) c.answer.ensures.waits

pub returns-in-Calls-clause-parks : goal.returns-in-Calls-clause-parks
returns-in-Calls-clause-parks c =
    let p = c.args.cells.now in
    let b = c.run_standing.new.cells in
    let task = c.args.context.now.task in
    let none : c.in_ok-ran.ran.count ≡ 0 = omega arith in
    let kept = c.in_ok-ran.ensures.none none in
    waits_behind c.answer.result (Parks b task) (Parks p task) (λ spot. parks_kept p b task spot kept)
    c.answer.ensures.parks

pub returns-in-Touches-clause-memory : goal.returns-in-Touches-clause-memory
returns-in-Touches-clause-memory c =
    let p = c.args.cells.now in
    let b = c.run_standing.new.cells in
    let task = c.args.context.now.task in
    let none : c.in_ok-ran.ran.count ≡ 0 = omega arith in
    let kept = c.in_ok-ran.ensures.none none in
    on_err c.touch.result (part_behind p b c.touch.new.cells task kept) c.touch.ensures.memory

pub returns-in-Touches-clause-ready : goal.returns-in-Touches-clause-ready
returns-in-Touches-clause-ready c =
    let p = c.args.cells.now in
    let b = c.run_standing.new.cells in
    let task = c.args.context.now.task in
    let none : c.in_ok-ran.ran.count ≡ 0 = omega arith in
    let kept = c.in_ok-ran.ensures.none none in
    enters_behind c.touch.result (λ made. ReadyIs b task true) (λ made. ReadyIs p task true)
    (λ made. ready_kept p b task true kept) c.touch.ensures.ready

pub returns-in-Touches-clause-waits : goal.returns-in-Touches-clause-waits
returns-in-Touches-clause-waits c =
    let p = c.args.cells.now in
    let b = c.run_standing.new.cells in
    let task = c.args.context.now.task in
    let none : c.in_ok-ran.ran.count ≡ 0 = omega arith in
    let kept = c.in_ok-ran.ensures.none none in
    waits_behind c.touch.result (λ spot. ReadyIs b task false) (λ spot. ReadyIs p task false)
    (λ spot. ready_kept p b task false kept) c.touch.ensures.waits

pub returns-in-Touches-clause-parks : goal.returns-in-Touches-clause-parks
returns-in-Touches-clause-parks c =
    let p = c.args.cells.now in
    let b = c.run_standing.new.cells in
    let task = c.args.context.now.task in
    let none : c.in_ok-ran.ran.count ≡ 0 = omega arith in
    let kept = c.in_ok-ran.ensures.none none in
    waits_behind c.touch.result (Parks b task) (Parks p task) (λ spot. parks_kept p b task spot kept)
    c.touch.ensures.parks

pub returns-in-Calls-clause-moves : goal.returns-in-Calls-clause-moves
returns-in-Calls-clause-moves c =
    let p = c.args.cells.now in
    let b = c.run_standing.new.cells in
    let q = c.answer.new.cells in
    let task = c.args.context.now.task in
    let memory = c.args.standing.now.memory in
    let none : c.in_ok-ran.ran.count ≡ 0 = omega arith in
    enters_behind c.answer.result (λ made. LeavesRest task memory made b q) (λ made. LeavesRest task memory made p q)
    (λ made. moves_kept task memory made p b q (c.in_ok-ran.ensures.none none)) c.answer.ensures.moves

pub returns-in-Touches-clause-moves : goal.returns-in-Touches-clause-moves
returns-in-Touches-clause-moves c =
    let p = c.args.cells.now in
    let b = c.run_standing.new.cells in
    let q = c.touch.new.cells in
    let task = c.args.context.now.task in
    let memory = c.args.standing.now.memory in
    let none : c.in_ok-ran.ran.count ≡ 0 = omega arith in
    enters_behind c.touch.result (λ made. LeavesRest task memory made b q) (λ made. LeavesRest task memory made p q)
    (λ made. moves_kept task memory made p b q (c.in_ok-ran.ensures.none none)) c.touch.ensures.moves
