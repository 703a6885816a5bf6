use Rattle.std.proofs.Common.{◌≡◌}
use Rattle.std.specs.Option.{option_or}
use Rattle.rv_table.specs.Bytes.{first_barred, first_area}
use Rattle.mm_space.specs.Accesses.{byte_at}
use Rattle.mm_space.specs.Spaces.{reach}
use Rattle.mm_space.proofs.space.Space.allowed.Given as goal

abbrev pub invariant-loop-left : goal.invariant-loop-left
invariant-loop-left l =
    let byte = byte_at l.right (reach l.self l.handed) in
    record {
      barred : first_barred byte l.fn.at l.fn.count ≡ first_barred byte l.address l.left;
      area : first_area byte l.fn.at l.fn.count ≡ option_or l.asked (first_area byte l.address l.left);
    }

abbrev pub decreases-loop-left : goal.decreases-loop-left
decreases-loop-left l = l.left
