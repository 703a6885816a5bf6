-- What a call leaves that makes a pipe.
use Rattle.std.proofs.Common.{◌≡◌, ap, sym, refl, ◌∙◌, subst, length}
use Rattle.std.specs.Prelude.{Some}
use Rattle.sn_base.specs.declared.made.Made.{Made}
use Rattle.kernel_model.specs.declared.kernel.Kernel.{Kernel}
use Rattle.kernel_model.specs.Names.{get_named, with_named}
use Rattle.kernel_model.proofs.NamedMaps.{with_same}
use Rattle.proc_cells.proofs.Homes.{home_reached}
use Rattle.call_fs.specs.declared.pipes.NewPipe.{NewPipe}
use Rattle.parked_tasks.specs.Untouched.{FilesMove}
use Rattle.parked_tasks.proofs.Results.{err_by}
use Rattle.call_table.specs.Moves.{puts_to_sleep}
use Rattle.call_table.proofs.MovedFiles.{PipeDone, pipe_leaves}
use Rattle.call_table.proofs.Moves.{moves_alone, others_go_on, others_stay}
use Rattle.call_table.proofs.moving.open_pipe.Goals as goal

pub invariant_of-cells : goal.invariant_of-cells
invariant_of-cells c = record {
  at_home =
      home_reached c.args.cells.now.tasks c.args.cells.now.registers c.args.cells.now.spaces
      c.args.context.now.memory.place c.args.context.now.memory.index c.make_pipe.new.space c.args.cells.now.at_home;
}

pub returns-in_err-make_pipe-clause-err : goal.returns-in_err-make_pipe-clause-err
returns-in_err-make_pipe-clause-err c =
    let p = c.args.cells.now in
    let memory = c.args.context.now.memory in
    err_by c.from_residual.result (record {
      tasks = refl;
      registers = refl;
      spaces =
          ap (with_named p.spaces memory.place memory.index) c.in_err-make_pipe.ensures.err.0
          ∙ with_same p.spaces memory.place memory.index c.in-Some.space.now (sym c.in-Some.ensures.value);
      areas = c.in_err-make_pipe.ensures.err.1;
      files = c.in_err-make_pipe.ensures.err_files;
      sleepers = refl;
      console = refl;
    })

pub returns-clause-does : goal.returns-clause-does
returns-clause-does c = λ row of_row x k makes making.
    let p = c.args.cells.now in
    let q = c.go_on.new.cells in
    let own = c.in-Some.space.now in
    let left = c.make_pipe.new.space in
    let areas = c.make_pipe.new.areas in
    let files = c.make_pipe.new.files in
    let done : PipeDone c.args.new c.args.context.now own left p.areas areas p.files files =
    subst (λ (n : NewPipe). PipeDone n c.args.context.now own left p.areas areas p.files files) c.into_inner.ensures
    c.in_ok-make_pipe.ensures.ok in
    let found : Some own ≡ Some x.space =
    c.in-Some.ensures.value
    ∙ ap (λ (m : Made). get_named p.spaces m.place m.index) (sym making.memory)
    ∙ ap (λ s. get_named s x.memory.place x.memory.index) (sym making.spaces) ∙ making.there in
    let is : own ≡ x.space = cc found in
    done row x k (length k.console) of_row makes making.place (record {
      task = making.task;
      table = making.table;
      memory = record { space = sym is; there = making.there; areas = making.areas };
      files = making.files;
      console = refl;
    })
    ∙ ap (λ s. record k {
      spaces = with_named s x.memory.place x.memory.index left;
      areas = areas;
      files = files;
    }) making.spaces
    ∙ ap (λ (m : Made). record k {
      spaces = with_named p.spaces m.place m.index left;
      areas = areas;
      files = files;
    }) making.memory
    ∙ ap (λ s. record k { spaces = s; areas = areas; files = files }) (sym c.go_on.ensures.spaces)
    ∙ ap (λ a. record k { spaces = q.spaces; areas = a; files = files }) (sym c.go_on.ensures.areas)
    ∙ ap (λ f. record k { spaces = q.spaces; areas = q.areas; files = f }) (sym c.go_on.ensures.files)

pub returns-clause-moves : goal.returns-clause-moves
returns-clause-moves c = λ row of_row x k makes making.
    let p = c.args.cells.now in
    let q = c.go_on.new.cells in
    let task = c.args.context.now.task in
    let memory = c.args.context.now.memory in
    let ends = c.args.new.ends in
    let does = returns-clause-does c row of_row x k makes making in
    moves_alone task memory _ p q c.go_on.ensures.tasks c.go_on.ensures.sleepers c.requires.awake
    (ap puts_to_sleep c.call_entry.ensures) (λ e. absurd (cc e))
    (subst (λ t. FilesMove (Some t) p.files q.files) (sym c.touched_by_pipe.ensures)
    (pipe_leaves of_row x ends.buffer ends.flags makes.hand makes.table (ends.first, ends.second) k
    c.args.context.now.table c.args.context.now.place p.files q.files making.table making.place making.files
    (ap (λ (m : Kernel). m.files) does)))
    (record {
      registers = λ other apart.
          others_go_on p.registers q.registers task other _ c.go_on.ensures.registers apart;
      spaces = λ name apart.
          others_stay p.spaces q.spaces memory name c.make_pipe.new.space c.go_on.ensures.spaces apart;
    })
