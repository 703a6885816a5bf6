use Rattle.std.proofs.Common.{refl, arith}
use Rattle.mm_frames.specs.Numbers.{with_run}
use Rattle.mm_frames.proofs.Pages.{page_put, owned_kept, put_past}
use Rattle.mm_frames.proofs.frames.Frames.put_bytes.Goals as goal

pub returns-in-Some-clause-bytes : goal.returns-in-Some-clause-bytes
returns-in-Some-clause-bytes c =
    page_put c.put_bytes.result c.args.self.now.frames.items c.args.page c.in-Some.frame.now c.put_bytes.new.self
    (λ bytes. with_run bytes c.args.offset c.args.run.now)
    (omega (arith, c.in-Some.ensures.variant.0 refl, c.args.self.now.frames.ok.0)) c.in-Some.ensures.value
    c.put_bytes.ensures.bytes

pub returns-in-Some-clause-owned : goal.returns-in-Some-clause-owned
returns-in-Some-clause-owned c =
    owned_kept c.args.self.now.frames.items c.args.page c.in-Some.frame.now c.put_bytes.new.self
    c.in-Some.ensures.value c.put_bytes.ensures.own

pub returns-in-None-clause-fits : goal.returns-in-None-clause-fits
returns-in-None-clause-fits c =
    put_past c.args.self.now.frames.items c.args.page
    (λ within. c.in-None.ensures.variant.1 (omega (arith, c.args.self.now.frames.ok.0)))
