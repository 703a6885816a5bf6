use Rattle.std.proofs.Common.{sym, ◌%◌, ◌∙◌}
use Rattle.mm_frames.specs.Numbers.{with_number}
use Rattle.mm_areas.specs.Mappings.{mapping}
use Rattle.mm_space.proofs.Readied.{put_page, ready_alike}
use Rattle.mm_space.proofs.space.Space.put_at.Goals as goal

pub returns-in-None-clause-put : goal.returns-in-None-clause-put
returns-in-None-clause-put c =
    put_page c.put_number.result c.args.self.now (mapping c.put_number.new.self) c.args.handed.now c.args.task
    c.args.address c.args.value c.from.result c.from.ensures c.ranges.value.fits c.ranges.address.fits
    (sym c.shared_page.ensures ∙ c.in-None.is) c.requires c.put_number.ensures.fits c.put_number.ensures.bytes
    c.put_number.ensures.unchanged

pub returns-in-None-clause-ready : goal.returns-in-None-clause-ready
returns-in-None-clause-ready c =
    ready_alike c.args.self.now.areas c.put_number.new.self c.args.handed.now c.args.self.now.reservations
    c.args.self.now.reservations c.args.self.now.caches c.put_number.ensures.owned
    c.put_number.result _ (λ bytes. with_number bytes (c.args.address % 4096) 1 c.from.result)
    c.put_number.ensures.bytes c.put_number.ensures.unchanged
