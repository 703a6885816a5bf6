-- The new task is at home, and so are all others.
use Rattle.std.proofs.Common.{◌≡◌, ◌+◌, ap, sym, ◌∙◌}
use Rattle.std.specs.FinMap as map
use Rattle.std.specs.Prelude.{None}
use Rattle.kernel_model.specs.opening.Opening.{made_by}
use Rattle.proc_cells.specs.declared.rooms.Rooms.{Rooms}
use Rattle.proc_cells.proofs.NewHomes.{home_begun}
use Rattle.call_table.proofs.processes.begin.Goals as goal

pub invariant_of-result : goal.invariant_of-result
invariant_of-result c =
    let rooms = c.into_rooms-rooms.result in
    let next : c.args.number ≡ rooms.tasks.last + 1 =
    c.requires.next ∙ ap (λ t. t.last + 1) (sym c.into_rooms-rooms.ensures.tasks) in
    record {
      at_home =
          home_begun rooms.tasks rooms.registers rooms.spaces c.into_rooms-rooms.ensures.at_home (record {
            parent = 0;
            memory = made_by c.args.number;
            table = made_by c.args.number;
            cwd = c.args.root;
            ended = None;
          }) 0 c.args.beginning.registers c.args.beginning.space c.place.new.rooms.tasks c.place.new.rooms.registers
          c.place.new.rooms.spaces (ap (λ (r : Rooms). r.tasks) c.in_ok-place.ensures)
          (ap (λ (r : Rooms). r.registers) c.in_ok-place.ensures
          ∙ ap (λ k. map.insert rooms.registers k c.args.beginning.registers) next)
          (ap (λ (r : Rooms). r.spaces) c.in_ok-place.ensures);
    }

pub returns : goal.returns
returns c = λ beside n.
    rw (
      c.in_ok-place.ensures,
      c.into_rooms-rooms.ensures.tasks,
      c.into_rooms-rooms.ensures.registers,
      c.into_rooms-rooms.ensures.spaces,
      c.into_rooms-rooms.ensures.areas,
      c.into_rooms-rooms.ensures.files,
      c.into_rooms-rooms.ensures.sleepers,
      c.into_rooms-rooms.ensures.console,
    )
