-- A call is a step of the kernel, or waits.
use mir.Val.{SFits, of_z, to_z}
use mir.Syntax.{w64}
use Rattle.std.proofs.Math.Facts.{to_z-of_z}
use Rattle.std.proofs.Common.{rules, ◌≡◌, ◌+◌, ◌-◌, ap, sym, ◌∙◌, refl, subst, pos, [], arith}
use Rattle.std.specs.Prelude.{Some}
use Rattle.mm_space.specs.Handed.{AreaState}
use Rattle.sn_base.specs.declared.made.Made.{Made}
use Rattle.kernel_model.specs.declared.entry.Entry.{Entry}
use Rattle.kernel_model.specs.declared.kernel.Kernel.{Kernel}
use Rattle.kernel_model.specs.Names.{NamedMap, get_named, with_named}
use Rattle.kernel_model.specs.machine.Registers.{args_of, call_of}
use Rattle.kernel_model.specs.calls.Answers.{replies}
use Rattle.kernel_model.specs.calls.Callers.{context_of}
use Rattle.kernel_model.specs.calls.Pipes.{pipe_made}
use Rattle.kernel_model.specs.calls.Table.{call_row}
use Rattle.kernel_model.specs.entries.Steps.{step}
use Rattle.kernel_model.proofs.NamedMaps.{get-with_same}
use Rattle.kernel_calls.specs.Making.{with_new_child}
use Rattle.kernel_calls.specs.Prepared.{with_effect}
use Rattle.kernel_calls.specs.declared.prepared.Called.TheVariants.{Replies, Makes, Sleeps, Waits}
use Rattle.call_fs.specs.CallEnd.{IsApartIn}
use Rattle.call_fs.specs.declared.call_end.CallEnd.TheVariants.{Of, Moves, MakesPipe}
use Rattle.proc_cells.specs.Beside.{Beside, HeldParts, kernel_with, nothing_beside}
use Rattle.proc_cells.specs.Cells.{held_by, kernel_of, caller_with}
use Rattle.proc_cells.proofs.Homes.{home_reached}
use Rattle.parked_tasks.specs.declared.used.Spot.{Spot}
use Rattle.parked_tasks.proofs.Results.{err_by}
use Rattle.call_table.specs.Parks.{Parks}
use Rattle.call_table.proofs.Kept.{part_none}
use Rattle.call_table.proofs.MovedFiles.{only_read}
use Rattle.call_table.proofs.Moves.{moves_behind, others_stay}
use Rattle.call_table.proofs.Parks.{parks_of}
use Rattle.call_table.proofs.Steps.{comes_here, own_same, ready_called, step_call, step_sleep}
use Rattle.call_table.proofs.entries.answer.Goals as goal

pub invariant_of-cells : goal.invariant_of-cells
invariant_of-cells c = record {
  at_home =
      home_reached c.args.cells.now.tasks c.args.cells.now.registers c.args.cells.now.spaces
      c.args.standing.now.memory.place c.args.standing.now.memory.index c.call.new.space c.args.cells.now.at_home;
}

-- ---- want of memory

pub returns-in_err-called-clause-memory : goal.returns-in_err-called-clause-memory
returns-in_err-called-clause-memory c =
    err_by c.from_residual.result (part_none c.args.cells.now _ c.args.context.now.task c.args.standing.now
    c.requires.stands refl refl
    (own_same c.args.cells.now c.args.context.now.task c.args.standing.now c.requires.stands c.in-Some.space.now
    c.call.new.space c.in-Some.ensures.value c.in_err-called.ensures.err) c.in_err-called.ensures.err_areas refl
    refl refl)

pub returns-in_err-make_child-in-Of-Makes-clause-memory : goal.returns-in_err-make_child-in-Of-Makes-clause-memory
returns-in_err-make_child-in-Of-Makes-clause-memory c =
    let is = c.in-Of-Makes.is ∙ ap Of c.in-Of-Makes.field-0-is in
    let kept = c.in_err-make_child-in-Of-Makes.ensures.err in
    let apart = c.in_ok-called.ensures.apart (subst IsApartIn (sym is) tt) in
    err_by c.from_residual-in_err-make_child-in-Of-Makes.result (part_none c.args.cells.now c.make_child.new.cells
    c.args.context.now.task c.args.standing.now c.requires.stands kept.tasks kept.registers
    (kept.spaces
    ∙ own_same c.args.cells.now c.args.context.now.task c.args.standing.now c.requires.stands c.in-Some.space.now
    c.call.new.space c.in-Some.ensures.value apart.0)
    (λ place index. ap (λ (x : NamedMap AreaState). get_named x place index) (kept.areas ∙ apart.1)) kept.files
    kept.sleepers kept.console)

pub returns-in_err-put_to_sleep-in-Of-Sleeps-clause-memory : goal.returns-in_err-put_to_sleep-in-Of-Sleeps-clause-memory
returns-in_err-put_to_sleep-in-Of-Sleeps-clause-memory c =
    let is = c.in-Of-Sleeps.is ∙ ap Of c.in-Of-Sleeps.field-0-is in
    let kept = c.in_err-put_to_sleep-in-Of-Sleeps.ensures.err in
    let apart = c.in_ok-called.ensures.apart (subst IsApartIn (sym is) tt) in
    err_by c.from_residual-in_err-put_to_sleep-in-Of-Sleeps.result (part_none c.args.cells.now c.put_to_sleep.new.cells
    c.args.context.now.task c.args.standing.now c.requires.stands kept.tasks kept.registers
    (kept.spaces
    ∙ own_same c.args.cells.now c.args.context.now.task c.args.standing.now c.requires.stands c.in-Some.space.now
    c.call.new.space c.in-Some.ensures.value apart.0)
    (λ place index. ap (λ (x : NamedMap AreaState). get_named x place index) (kept.areas ∙ apart.1)) kept.files
    kept.sleepers kept.console)

pub returns-in_err-move_bytes-in-Moves-clause-memory : goal.returns-in_err-move_bytes-in-Moves-clause-memory
returns-in_err-move_bytes-in-Moves-clause-memory c =
    let kept = c.in_err-move_bytes-in-Moves.ensures.err in
    let apart = c.in_ok-called.ensures.apart (subst IsApartIn (sym c.in-Moves.is)
    c.in_err-move_bytes-in-Moves.ensures.lacking) in
    err_by c.from_residual-in_err-move_bytes-in-Moves.result (part_none c.args.cells.now c.move_bytes.new.cells
    c.args.context.now.task c.args.standing.now c.requires.stands kept.tasks kept.registers
    (kept.spaces
    ∙ own_same c.args.cells.now c.args.context.now.task c.args.standing.now c.requires.stands c.in-Some.space.now
    c.call.new.space c.in-Some.ensures.value apart.0)
    (λ place index. ap (λ (x : NamedMap AreaState). get_named x place index) (kept.areas ∙ apart.1)) kept.files
    kept.sleepers kept.console)

pub returns-in_err-open_pipe-in-MakesPipe-clause-memory : goal.returns-in_err-open_pipe-in-MakesPipe-clause-memory
returns-in_err-open_pipe-in-MakesPipe-clause-memory c =
    let kept = c.in_err-open_pipe-in-MakesPipe.ensures.err in
    let apart = c.in_ok-called.ensures.apart (subst IsApartIn (sym c.in-MakesPipe.is) tt) in
    err_by c.from_residual-in_err-open_pipe-in-MakesPipe.result (part_none c.args.cells.now c.open_pipe.new.cells
    c.args.context.now.task c.args.standing.now c.requires.stands kept.tasks kept.registers
    (kept.spaces
    ∙ own_same c.args.cells.now c.args.context.now.task c.args.standing.now c.requires.stands c.in-Some.space.now
    c.call.new.space c.in-Some.ensures.value apart.0)
    (λ place index. ap (λ (x : NamedMap AreaState). get_named x place index) (kept.areas ∙ apart.1)) kept.files
    kept.sleepers kept.console)

-- ---- a call that replies

pub returns-in-Of-Replies-clause-step : goal.returns-in-Of-Replies-clause-step
returns-in-Of-Replies-clause-step c = λ beside n seed place.
    let is = c.in-Of-Replies.is ∙ ap Of c.in-Of-Replies.field-0-is in
    let p = c.args.cells.now in
    let r = c.args.standing.now.registers in
    let k : Kernel = kernel_of p beside n in
    let m : Kernel = record k {
      spaces = with_named p.spaces c.args.standing.now.memory.place c.args.standing.now.memory.index c.call.new.space;
      areas = c.call.new.areas;
    } in
    let answers =
    comes_here p c.args.context.now.task c.args.standing.now c.requires.stands c.args.context.now c.in-Some.space.now
    c.len-console.result c.in_ok-called.called _ c.call.new.space c.call.new.areas c.call_of.result c.args_of.result
    refl c.requires.known (sym c.in-Some.ensures.value) c.len-console.ensures c.call_of.ensures c.args_of.ensures
    c.in_ok-called.ensures.row is beside n seed place in
    let effect = c.in-Of-Replies.prepared.effect in
    let h : HeldParts = record (held_by p) {
      tasks = c.finish.new.cells.tasks;
      spaces = m.spaces;
      areas = m.areas;
      files = c.finish.new.cells.files;
      sleepers = c.finish.new.cells.sleepers;
    } in
    ap (λ (e : Entry). step k e) c.finish.ensures.entry
    ∙ step_call p c.args.context.now.task c.args.standing.now c.requires.stands (call_of r) (args_of r)
    (record { fresh = []; rises = [] }) c.in-Of-Replies.prepared.reply answers.changes h p.registers
    c.finish.new.cells.registers beside n c.requires.awake c.requires.calls refl refl refl answers.row_is
    (answers.done_is
    ∙ ap (λ g. with_effect effect g m) (sym c.requires.known.group)
    ∙ c.finish.ensures.does m refl refl refl)
    c.finish.ensures.registers
    ∙ ap (λ (y : HeldParts). Some (kernel_with y beside (n + 1))) (
    ap (λ s. record h { registers = c.finish.new.cells.registers; spaces = s }) (sym c.finish.ensures.spaces)
    ∙ ap (λ a. record (held_by c.finish.new.cells) { areas = a; console = p.console }) (sym c.finish.ensures.areas)
    ∙ ap (λ b. record (held_by c.finish.new.cells) { console = b }) (sym c.finish.ensures.console))

-- ---- one that makes a child

pub returns-in_ok-make_child-in-Of-Makes-clause-step : goal.returns-in_ok-make_child-in-Of-Makes-clause-step
returns-in_ok-make_child-in-Of-Makes-clause-step c = λ beside n seed place.
    let is = c.in-Of-Makes.is ∙ ap Of c.in-Of-Makes.field-0-is in
    let p = c.args.cells.now in
    let r = c.args.standing.now.registers in
    let x = caller_with c.args.context.now.task c.args.standing.now c.requires.stands.space in
    let k : Kernel = kernel_of p beside n in
    let apart = c.in_ok-called.ensures.apart (subst IsApartIn (sym is) tt) in
    let makes =
    comes_here p c.args.context.now.task c.args.standing.now c.requires.stands c.args.context.now c.in-Some.space.now
    c.len-console.result c.in_ok-called.called _ c.call.new.space c.call.new.areas c.call_of.result c.args_of.result
    refl c.requires.known (sym c.in-Some.ensures.value) c.len-console.ensures c.call_of.ensures c.args_of.ensures
    c.in_ok-called.ensures.row is beside n seed place in
    let does = c.in_ok-make_child-in-Of-Makes.ensures.does in
    let h : HeldParts = record (held_by p) {
      tasks = c.make_child.new.cells.tasks;
      spaces = c.make_child.new.cells.spaces;
      areas = c.make_child.new.cells.areas;
      files = c.make_child.new.cells.files;
    } in
    ap (λ (e : Entry). step k e) c.in_ok-make_child-in-Of-Makes.ensures.entry
    ∙ step_call p c.args.context.now.task c.args.standing.now c.requires.stands (call_of r) (args_of r)
    (record { fresh = []; rises = [] }) (pos (p.tasks.last + 1)) makes.changes h does.0
    c.make_child.new.cells.registers beside n c.requires.awake c.requires.calls refl refl refl makes.row_is
    (makes.done_is
    ∙ ap (λ pl. with_new_child c.in-Of-Makes.child pl x k) place
    ∙ does.2 x k refl (sym c.requires.known.memory) (sym c.requires.known.table) refl refl
    (sym (own_same p c.args.context.now.task c.args.standing.now c.requires.stands c.in-Some.space.now c.call.new.space
    c.in-Some.ensures.value apart.0))
    (sym apart.1) refl)
    does.1
    ∙ ap (λ (y : HeldParts). Some (kernel_with y beside (n + 1))) (
    ap (λ w. record h { registers = c.make_child.new.cells.registers; sleepers = w })
    (sym c.make_child.ensures.sleepers)
    ∙ ap (λ b. record (held_by c.make_child.new.cells) { console = b }) (sym c.make_child.ensures.console))

-- ---- one that puts its task to sleep

pub returns-in_ok-put_to_sleep-in-Of-Sleeps-clause-step : goal.returns-in_ok-put_to_sleep-in-Of-Sleeps-clause-step
returns-in_ok-put_to_sleep-in-Of-Sleeps-clause-step c = λ beside n seed place.
    let is = c.in-Of-Sleeps.is ∙ ap Of c.in-Of-Sleeps.field-0-is in
    let p = c.args.cells.now in
    let r = c.args.standing.now.registers in
    let k : Kernel = kernel_of p beside n in
    let apart = c.in_ok-called.ensures.apart (subst IsApartIn (sym is) tt) in
    let sleeps =
    comes_here p c.args.context.now.task c.args.standing.now c.requires.stands c.args.context.now c.in-Some.space.now
    c.len-console.result c.in_ok-called.called _ c.call.new.space c.call.new.areas c.call_of.result c.args_of.result
    refl c.requires.known (sym c.in-Some.ensures.value) c.len-console.ensures c.call_of.ensures c.args_of.ensures
    c.in_ok-called.ensures.row is beside n seed place in
    let q = c.put_to_sleep.new.cells in
    ap (λ (e : Entry). step k e) c.in_ok-put_to_sleep-in-Of-Sleeps.ensures.entry
    ∙ step_sleep p c.args.context.now.task c.args.standing.now c.requires.stands q.sleepers c.in-Of-Sleeps.key beside n
    c.requires.awake c.requires.calls sleeps c.in_ok-put_to_sleep-in-Of-Sleeps.ensures.sleeps
    ∙ ap (λ (y : HeldParts). Some (kernel_with y beside (n + 1))) (
    ap (λ t. record (held_by p) { sleepers = q.sleepers; tasks = t }) (sym c.put_to_sleep.ensures.tasks)
    ∙ ap (λ z. record (held_by p) { sleepers = q.sleepers; tasks = q.tasks; registers = z })
    (sym c.put_to_sleep.ensures.registers)
    ∙ ap (λ s. record (held_by q) { spaces = s; areas = p.areas; files = p.files; console = p.console })
    (sym (c.put_to_sleep.ensures.spaces
    ∙ own_same p c.args.context.now.task c.args.standing.now c.requires.stands c.in-Some.space.now c.call.new.space
    c.in-Some.ensures.value apart.0))
    ∙ ap (λ a. record (held_by q) { areas = a; files = p.files; console = p.console })
    (sym (c.put_to_sleep.ensures.areas ∙ apart.1))
    ∙ ap (λ f. record (held_by q) { files = f; console = p.console }) (sym c.put_to_sleep.ensures.files)
    ∙ ap (λ b. record (held_by q) { console = b }) (sym c.put_to_sleep.ensures.console))

-- ---- one that moves bytes

pub returns-in_ok-move_bytes-in-Moves-clause-step : goal.returns-in_ok-move_bytes-in-Moves-clause-step
returns-in_ok-move_bytes-in-Moves-clause-step c = λ beside n seed place.
    let p = c.args.cells.now in
    let r = c.args.standing.now.registers in
    let memory = c.args.standing.now.memory in
    let k : Kernel = kernel_of p beside n in
    let m : Kernel = record k {
      spaces = with_named p.spaces memory.place memory.index c.call.new.space;
      areas = c.call.new.areas;
    } in
    let answers =
    comes_here p c.args.context.now.task c.args.standing.now c.requires.stands c.args.context.now c.in-Some.space.now
    c.len-console.result c.in_ok-called.called _ c.call.new.space c.call.new.areas c.call_of.result c.args_of.result
    refl c.requires.known (sym c.in-Some.ensures.value) c.len-console.ensures c.call_of.ensures c.args_of.ensures
    c.in_ok-called.ensures.row c.in-Moves.is beside n seed place in
    let q = c.move_bytes.new.cells in
    let fits : SFits w64 c.in-Moves.reply = search rules in
    let told : to_z w64 (of_z w64 c.in-Moves.reply) ≡ c.in-Moves.reply = to_z-of_z fits in
    let h : HeldParts = record (held_by p) {
      spaces = m.spaces;
      areas = m.areas;
      files = q.files;
      console = q.console;
    } in
    ap (λ (e : Entry). step k e) c.in_ok-move_bytes-in-Moves.ensures.entry
    ∙ step_call p c.args.context.now.task c.args.standing.now c.requires.stands (call_of r) (args_of r)
    (record { fresh = []; rises = [] }) (to_z w64 (of_z w64 c.in-Moves.reply)) answers.changes h p.registers
    q.registers beside n
    c.requires.awake c.requires.calls refl refl refl
    (answers.row_is ∙ ap (λ v. replies v answers.changes) (sym told))
    (answers.done_is
    ∙ c.in_ok-move_bytes-in-Moves.ensures.does c.call.new.space m
    (ap (λ (x : Made). get_named m.spaces x.place x.index) c.requires.known.memory
    ∙ get-with_same p.spaces memory.place memory.index c.call.new.space) refl refl refl)
    c.in_ok-move_bytes-in-Moves.ensures.registers
    ∙ ap (λ (y : HeldParts). Some (kernel_with y beside (n + 1))) (
    ap (λ t. record h { registers = q.registers; tasks = t }) (sym c.move_bytes.ensures.tasks)
    ∙ ap (λ s. record h { registers = q.registers; tasks = q.tasks; spaces = s }) (sym c.move_bytes.ensures.spaces)
    ∙ ap (λ a. record (held_by q) { areas = a; sleepers = p.sleepers }) (sym c.move_bytes.ensures.areas)
    ∙ ap (λ w. record (held_by q) { sleepers = w }) (sym c.move_bytes.ensures.sleepers))

-- ---- one that makes a pipe

pub returns-in_ok-open_pipe-in-MakesPipe-clause-step : goal.returns-in_ok-open_pipe-in-MakesPipe-clause-step
returns-in_ok-open_pipe-in-MakesPipe-clause-step c = λ beside n seed place.
    let p = c.args.cells.now in
    let r = c.args.standing.now.registers in
    let x = caller_with c.args.context.now.task c.args.standing.now c.requires.stands.space in
    let k : Kernel = kernel_of p beside n in
    let apart = c.in_ok-called.ensures.apart (subst IsApartIn (sym c.in-MakesPipe.is) tt) in
    let makes =
    comes_here p c.args.context.now.task c.args.standing.now c.requires.stands c.args.context.now c.in-Some.space.now
    c.len-console.result c.in_ok-called.called _ c.call.new.space c.call.new.areas c.call_of.result c.args_of.result
    refl c.requires.known (sym c.in-Some.ensures.value) c.len-console.ensures c.call_of.ensures c.args_of.ensures
    c.in_ok-called.ensures.row c.in-MakesPipe.is beside n seed place in
    let ends = c.in-MakesPipe.pipe.ends in
    let q = c.open_pipe.new.cells in
    let h : HeldParts = record (held_by p) { spaces = q.spaces; areas = q.areas; files = q.files } in
    ap (λ (e : Entry). step k e) c.in_ok-open_pipe-in-MakesPipe.ensures.entry
    ∙ step_call p c.args.context.now.task c.args.standing.now c.requires.stands (call_of r) (args_of r)
    (record { fresh = []; rises = [] }) (pos 0)
    (pipe_made (context_of k) x ends.buffer ends.flags makes.hand makes.table (ends.first, ends.second)).changes h
    p.registers q.registers beside n c.requires.awake c.requires.calls refl refl refl makes.row_is
    (c.in_ok-open_pipe-in-MakesPipe.ensures.does
    (call_row (context_of k) x (call_of r) (args_of r)) (context_of k) x k makes (record {
      place = place;
      task = refl;
      table = sym c.requires.known.table;
      memory = sym c.requires.known.memory;
      there = c.requires.stands.in_memory;
      spaces =
          sym (own_same p c.args.context.now.task c.args.standing.now c.requires.stands c.in-Some.space.now
          c.call.new.space c.in-Some.ensures.value apart.0);
      areas = sym apart.1;
      files = refl;
    }))
    c.in_ok-open_pipe-in-MakesPipe.ensures.registers
    ∙ ap (λ (y : HeldParts). Some (kernel_with y beside (n + 1))) (
    ap (λ t. record h { registers = q.registers; tasks = t }) (sym c.open_pipe.ensures.tasks)
    ∙ ap (λ w. record (held_by q) { sleepers = w; console = p.console }) (sym c.open_pipe.ensures.sleepers)
    ∙ ap (λ b. record (held_by q) { console = b }) (sym c.open_pipe.ensures.console))

-- ---- whether the step was ready

pub returns-in-Of-Replies-clause-ready : goal.returns-in-Of-Replies-clause-ready
returns-in-Of-Replies-clause-ready c =
    let is = c.in-Of-Replies.is ∙ ap Of c.in-Of-Replies.field-0-is in
    ready_called c.args.cells.now c.args.context.now.task c.args.standing.now c.requires.stands c.args.context.now
    (Of (Replies c.in-Of-Replies.prepared)) c.call.new.space c.call.new.areas c.requires.place c.requires.awake
    c.requires.calls
    (comes_here c.args.cells.now c.args.context.now.task c.args.standing.now c.requires.stands c.args.context.now
    c.in-Some.space.now c.len-console.result c.in_ok-called.called _ c.call.new.space c.call.new.areas c.call_of.result
    c.args_of.result refl c.requires.known (sym c.in-Some.ensures.value) c.len-console.ensures c.call_of.ensures
    c.args_of.ensures c.in_ok-called.ensures.row is)

pub returns-in_ok-make_child-in-Of-Makes-clause-ready : goal.returns-in_ok-make_child-in-Of-Makes-clause-ready
returns-in_ok-make_child-in-Of-Makes-clause-ready c =
    let is = c.in-Of-Makes.is ∙ ap Of c.in-Of-Makes.field-0-is in
    ready_called c.args.cells.now c.args.context.now.task c.args.standing.now c.requires.stands c.args.context.now
    (Of (Makes c.in-Of-Makes.child)) c.call.new.space c.call.new.areas c.requires.place c.requires.awake
    c.requires.calls
    (comes_here c.args.cells.now c.args.context.now.task c.args.standing.now c.requires.stands c.args.context.now
    c.in-Some.space.now c.len-console.result c.in_ok-called.called _ c.call.new.space c.call.new.areas c.call_of.result
    c.args_of.result refl c.requires.known (sym c.in-Some.ensures.value) c.len-console.ensures c.call_of.ensures
    c.args_of.ensures c.in_ok-called.ensures.row is)

pub returns-in_ok-put_to_sleep-in-Of-Sleeps-clause-ready : goal.returns-in_ok-put_to_sleep-in-Of-Sleeps-clause-ready
returns-in_ok-put_to_sleep-in-Of-Sleeps-clause-ready c =
    let is = c.in-Of-Sleeps.is ∙ ap Of c.in-Of-Sleeps.field-0-is in
    ready_called c.args.cells.now c.args.context.now.task c.args.standing.now c.requires.stands c.args.context.now
    (Of (Sleeps c.in-Of-Sleeps.key)) c.call.new.space c.call.new.areas c.requires.place c.requires.awake
    c.requires.calls
    (comes_here c.args.cells.now c.args.context.now.task c.args.standing.now c.requires.stands c.args.context.now
    c.in-Some.space.now c.len-console.result c.in_ok-called.called _ c.call.new.space c.call.new.areas c.call_of.result
    c.args_of.result refl c.requires.known (sym c.in-Some.ensures.value) c.len-console.ensures c.call_of.ensures
    c.args_of.ensures c.in_ok-called.ensures.row is)

pub returns-in_ok-move_bytes-in-Moves-clause-ready : goal.returns-in_ok-move_bytes-in-Moves-clause-ready
returns-in_ok-move_bytes-in-Moves-clause-ready c =
    ready_called c.args.cells.now c.args.context.now.task c.args.standing.now c.requires.stands c.args.context.now
    (Moves c.in-Moves.reply c.in-Moves.transfer) c.call.new.space c.call.new.areas c.requires.place c.requires.awake
    c.requires.calls
    (comes_here c.args.cells.now c.args.context.now.task c.args.standing.now c.requires.stands c.args.context.now
    c.in-Some.space.now c.len-console.result c.in_ok-called.called _ c.call.new.space c.call.new.areas c.call_of.result
    c.args_of.result refl c.requires.known (sym c.in-Some.ensures.value) c.len-console.ensures c.call_of.ensures
    c.args_of.ensures c.in_ok-called.ensures.row c.in-Moves.is)

pub returns-in_ok-open_pipe-in-MakesPipe-clause-ready : goal.returns-in_ok-open_pipe-in-MakesPipe-clause-ready
returns-in_ok-open_pipe-in-MakesPipe-clause-ready c =
    ready_called c.args.cells.now c.args.context.now.task c.args.standing.now c.requires.stands c.args.context.now
    (MakesPipe c.in-MakesPipe.pipe) c.call.new.space c.call.new.areas c.requires.place c.requires.awake c.requires.calls
    (comes_here c.args.cells.now c.args.context.now.task c.args.standing.now c.requires.stands c.args.context.now
    c.in-Some.space.now c.len-console.result c.in_ok-called.called _ c.call.new.space c.call.new.areas c.call_of.result
    c.args_of.result refl c.requires.known (sym c.in-Some.ensures.value) c.len-console.ensures c.call_of.ensures
    c.args_of.ensures c.in_ok-called.ensures.row c.in-MakesPipe.is)

pub returns-in-Of-Waits-clause-waits : goal.returns-in-Of-Waits-clause-waits
returns-in-Of-Waits-clause-waits c =
    let is = c.in-Of-Waits.is ∙ ap Of c.in-Of-Waits.field-0-is in
    ready_called c.args.cells.now c.args.context.now.task c.args.standing.now c.requires.stands c.args.context.now
    (Of (Waits c.in-Of-Waits.awaited)) c.call.new.space c.call.new.areas c.requires.place c.requires.awake
    c.requires.calls
    (comes_here c.args.cells.now c.args.context.now.task c.args.standing.now c.requires.stands c.args.context.now
    c.in-Some.space.now c.len-console.result c.in_ok-called.called _ c.call.new.space c.call.new.areas c.call_of.result
    c.args_of.result refl c.requires.known (sym c.in-Some.ensures.value) c.len-console.ensures c.call_of.ensures
    c.args_of.ensures c.in_ok-called.ensures.row is)

pub returns-in-Of-Waits-clause-kept : goal.returns-in-Of-Waits-clause-kept
returns-in-Of-Waits-clause-kept c =
    let is = c.in-Of-Waits.is ∙ ap Of c.in-Of-Waits.field-0-is in
    let apart = c.in_ok-called.ensures.apart (subst IsApartIn (sym is) tt) in
    record {
      tasks = refl;
      registers = refl;
      spaces =
          own_same c.args.cells.now c.args.context.now.task c.args.standing.now c.requires.stands c.in-Some.space.now
          c.call.new.space c.in-Some.ensures.value apart.0;
      areas = apart.1;
      files = refl;
      sleepers = refl;
      console = refl;
    }

-- ---- what it leaves as it was

pub returns-in-Of-Replies-clause-moves : goal.returns-in-Of-Replies-clause-moves
returns-in-Of-Replies-clause-moves c =
    moves_behind c.args.context.now.task c.args.standing.now.memory c.args.context.now.memory _ c.args.cells.now _ _
    c.finish.ensures.moves c.requires.known.memory refl refl (λ e. absurd (cc (c.finish.ensures.told, e))) refl
    (record {
      registers = λ other apart. refl;
      spaces = λ name apart.
          others_stay c.args.cells.now.spaces _ c.args.standing.now.memory name c.call.new.space refl apart;
    })

pub returns-in_ok-make_child-in-Of-Makes-clause-moves : goal.returns-in_ok-make_child-in-Of-Makes-clause-moves
returns-in_ok-make_child-in-Of-Makes-clause-moves c =
    let is = c.in-Of-Makes.is ∙ ap Of c.in-Of-Makes.field-0-is in
    moves_behind c.args.context.now.task c.args.standing.now.memory c.args.context.now.memory _ c.args.cells.now _ _
    c.in_ok-make_child-in-Of-Makes.ensures.moves c.requires.known.memory refl refl
    (λ e. (c.in_ok-called.ensures.apart (subst IsApartIn (sym is) tt)).1) refl (record {
      registers = λ other apart. refl;
      spaces = λ name apart.
          others_stay c.args.cells.now.spaces _ c.args.standing.now.memory name c.call.new.space refl apart;
    })

pub returns-in_ok-put_to_sleep-in-Of-Sleeps-clause-moves : goal.returns-in_ok-put_to_sleep-in-Of-Sleeps-clause-moves
returns-in_ok-put_to_sleep-in-Of-Sleeps-clause-moves c =
    let is = c.in-Of-Sleeps.is ∙ ap Of c.in-Of-Sleeps.field-0-is in
    moves_behind c.args.context.now.task c.args.standing.now.memory c.args.standing.now.memory _ c.args.cells.now _ _
    (c.in_ok-put_to_sleep-in-Of-Sleeps.ensures.moves c.args.standing.now.memory) refl refl refl
    (λ e. (c.in_ok-called.ensures.apart (subst IsApartIn (sym is) tt)).1) refl (record {
      registers = λ other apart. refl;
      spaces = λ name apart.
          others_stay c.args.cells.now.spaces _ c.args.standing.now.memory name c.call.new.space refl apart;
    })

pub returns-in_ok-move_bytes-in-Moves-clause-moves : goal.returns-in_ok-move_bytes-in-Moves-clause-moves
returns-in_ok-move_bytes-in-Moves-clause-moves c =
    moves_behind c.args.context.now.task c.args.standing.now.memory c.args.context.now.memory _ c.args.cells.now _ _
    c.in_ok-move_bytes-in-Moves.ensures.moves c.requires.known.memory refl refl
    (λ e. (c.in_ok-called.ensures.apart (subst IsApartIn (sym c.in-Moves.is) (only_read c.in-Moves.transfer
    (sym c.in_ok-move_bytes-in-Moves.ensures.told ∙ e)))).1) refl (record {
      registers = λ other apart. refl;
      spaces = λ name apart.
          others_stay c.args.cells.now.spaces _ c.args.standing.now.memory name c.call.new.space refl apart;
    })

pub returns-in_ok-open_pipe-in-MakesPipe-clause-moves : goal.returns-in_ok-open_pipe-in-MakesPipe-clause-moves
returns-in_ok-open_pipe-in-MakesPipe-clause-moves c =
    let p = c.args.cells.now in
    let r = c.args.standing.now.registers in
    let x = caller_with c.args.context.now.task c.args.standing.now c.requires.stands.space in
    let beside : Beside = record nothing_beside { seed = c.args.context.now.seed.now } in
    let n = c.args.context.now.place - 1 in
    let k : Kernel = kernel_of p beside n in
    let place : n + 1 ≡ c.args.context.now.place = omega (arith, c.requires.place) in
    let apart = c.in_ok-called.ensures.apart (subst IsApartIn (sym c.in-MakesPipe.is) tt) in
    let makes =
    comes_here p c.args.context.now.task c.args.standing.now c.requires.stands c.args.context.now c.in-Some.space.now
    c.len-console.result c.in_ok-called.called _ c.call.new.space c.call.new.areas c.call_of.result c.args_of.result
    refl c.requires.known (sym c.in-Some.ensures.value) c.len-console.ensures c.call_of.ensures c.args_of.ensures
    c.in_ok-called.ensures.row c.in-MakesPipe.is beside n refl place in
    moves_behind c.args.context.now.task c.args.standing.now.memory c.args.context.now.memory _ p _ _
    (c.in_ok-open_pipe-in-MakesPipe.ensures.moves
    (call_row (context_of k) x (call_of r) (args_of r)) (context_of k) x k makes (record {
      place = place;
      task = refl;
      table = sym c.requires.known.table;
      memory = sym c.requires.known.memory;
      there = c.requires.stands.in_memory;
      spaces =
          sym (own_same p c.args.context.now.task c.args.standing.now c.requires.stands c.in-Some.space.now
          c.call.new.space c.in-Some.ensures.value apart.0);
      areas = sym apart.1;
      files = refl;
    })) c.requires.known.memory refl refl (λ e. apart.1) refl (record {
      registers = λ other apart. refl;
      spaces = λ name apart.
          others_stay p.spaces _ c.args.standing.now.memory name c.call.new.space refl apart;
    })

-- ---- why it waits

pub returns-in-Of-Waits-clause-parks : goal.returns-in-Of-Waits-clause-parks
returns-in-Of-Waits-clause-parks c =
    let is = c.in-Of-Waits.is ∙ ap Of c.in-Of-Waits.field-0-is in
    subst (λ (s : Spot). Parks c.args.cells.now c.args.context.now.task s) (sym c.spot_of.ensures) (
    parks_of c.args.cells.now c.args.context.now.task c.args.standing.now c.call_of.result c.args_of.result
    c.args.context.now c.in-Some.space.now c.len-console.result c.in_ok-called.called c.in-Of-Waits.awaited
    c.args.in_area
    c.requires.stands c.requires.awake c.requires.calls c.requires.told refl c.requires.known c.requires.place
    (sym c.in-Some.ensures.value) c.len-console.ensures c.call_of.ensures c.args_of.ensures
    c.in_ok-called.ensures.waits is)
