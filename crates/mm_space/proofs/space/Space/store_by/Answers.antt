use Rattle.mm_areas.specs.Hints.{is_hint}
use Rattle.std.specs.Prelude.{◌/◌, ◌%◌}
use Rattle.mm_frames.specs.Numbers.{with_number}
use Rattle.mm_areas.specs.Mappings.{mapping}
use Rattle.mm_space.proofs.OtherPages.{others_same}
use Rattle.mm_space.proofs.NearPuts.{store_done}
use Rattle.mm_space.proofs.space.Space.store_by.Goals as goal

pub returns-then-done-clause-done : goal.returns-then-done-clause-done
returns-then-done-clause-done c =
    store_done c.args.self.now.areas c.put_number_near-done.new.self c.args.self.now.reservations c.stored.new.self
    c.put_number_near-done.result
    (is_hint c.args.self.now.areas c.args.hint (c.args.at / 4096)) c.args.task c.args.at c.args.width
    c.args.value c.ranges.at.fits
    c.put_number_near-done.ensures.fits c.put_number_near-done.ensures.bytes c.stored.ensures

pub returns-then-done-clause-apart : goal.returns-then-done-clause-apart
returns-then-done-clause-apart c =
    others_same (mapping c.args.self.now.areas) (mapping c.put_number_near-done.new.self) c.put_number_near-done.result
    (c.args.at / 4096) (λ bytes. with_number bytes (c.args.at % 4096) c.args.width c.args.value)
    c.put_number_near-done.ensures.bytes
