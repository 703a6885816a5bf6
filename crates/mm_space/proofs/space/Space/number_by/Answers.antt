use Rattle.std.specs.Prelude.{◌/◌}
use Rattle.mm_areas.specs.Hints.{is_hint}
use Rattle.mm_space.specs.Accesses.{readable}
use Rattle.mm_space.proofs.NearPuts.{load_done}
use Rattle.mm_space.proofs.space.Space.number_by.Goals as goal

pub returns : goal.returns
returns c = record {
  near = load_done c.args.self.now.areas c.args.self.now.reservations readable
      (is_hint c.args.self.now.areas c.args.hint (c.args.at / 4096)) c.args.at c.args.width c.number_near.result
      c.ranges.at.fits c.number_near.ensures;
}
