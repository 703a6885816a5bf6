-- So many tasks have begun, and the record has them.
use Rattle.std.proofs.Common.{◌≡◌, length}
use Rattle.std.specs.Prelude.{Some, None, IsSomeAnd}
use Rattle.host_node.specs.Tree.{Shape}
use Rattle.kernel_model.proofs.OpenedTasks.{AreOpened}
use Rattle.kernel_model.specs.opening.Opening.{bare}
use Rattle.image_walk.specs.Granted.{told_of}
use Rattle.image_walk.specs.Walking.{IsSilent}
use Rattle.run_opening.specs.Begun.{HasBegun}
use Rattle.run_opening.specs.Openings.{StandsStill, numbering_of}
use Rattle.run_opening.specs.Records.{IsRecord}
use Rattle.run_opening.specs.Told.{kernel_told, trees_told}
use Rattle.run_opening.specs.Trees.{AreOthers, Others, trees_with}
use Rattle.run_opening.proofs.opening.open_tasks.Given as goal

abbrev pub invariant-loop-index : goal.invariant-loop-index
invariant-loop-index g l =
    let told = g.N.HostNode.told in
    record {
      same : l.granted.numbers ≡ l.fn.granted.numbers;
      opened : AreOpened l.index l.processes.cells.tasks;
      record_so_far : IsRecord l.mounts l.tasks.items l.index (length l.granted.lent.items);
      silent : told l.fn.granted.root ≡ None → IsSilent (told l.granted.root) (told_of told l.granted.lent.items);
      stands : (t : Shape) → told l.fn.granted.root ≡ Some t
          → StandsStill (numbering_of l.mounts.mounts) t (told l.granted.root) (told_of told l.granted.lent.items);
      begun : (others : Others) (t : Shape) → AreOthers l.mounts.mounts others → told l.fn.granted.root ≡ Some t
          → IsSomeAnd (kernel_told l.mounts
          (trees_told others (told l.granted.root) (told_of told l.granted.lent.items)) l.processes 0)
          (HasBegun l.mounts 0 l.index l.fn.tasks.items l.tasks.items (bare l.mounts (trees_with others t)));
    }
