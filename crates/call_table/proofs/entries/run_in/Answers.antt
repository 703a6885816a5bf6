-- A run over the memory of a name leaves that memory alone.
use Rattle.std.proofs.Common.{◌≡◌, ◌∙◌, sym, refl, subst}
use Rattle.std.specs.Prelude.{Some}
use Rattle.mm_space.specs.Spaces.{AddressSpace}
use Rattle.kernel_model.specs.machine.Instructions.{StopsAt, next_of}
use Rattle.kernel_model.specs.machine.Spaces.{acting_in}
use Rattle.kernel_model.proofs.NamedMaps.{get-with_same}
use Rattle.parked_tasks.proofs.Results.{on_ok, on_err}
use Rattle.call_table.proofs.entries.run_in.Goals as goal

pub returns-clause-runs : goal.returns-clause-runs
returns-clause-runs c =
    on_ok _ _ c.run.result (λ r steps. record {
      space = c.in-Some.space.now;
      left = c.run.new.space;
      there = sym c.in-Some.ensures.value;
      put = refl;
      steps = steps;
    }) c.run.ensures.steps

pub returns-clause-stopped : goal.returns-clause-stopped
returns-clause-stopped c =
    on_ok _ _ c.run.result (λ r stop space e.
    let same : Some c.run.new.space ≡ Some space =
    sym (get-with_same c.args.spaces.now c.args.memory.place c.args.memory.index c.run.new.space) ∙ e in
    let is : c.run.new.space ≡ space = cc same in
    subst (λ (a : AddressSpace). StopsAt 10000 r.count r.next (next_of (acting_in c.args.task a) c.run.new.registers))
    is stop) c.run.ensures.stopped

pub returns-clause-memory : goal.returns-clause-memory
returns-clause-memory c =
    on_err c.run.result (λ part. (
      part.0,
      part.1,
      record {
        space = c.in-Some.space.now;
        left = c.run.new.space;
        there = sym c.in-Some.ensures.value;
        put = refl;
        steps = part.2;
      },
    )) c.run.ensures.memory
