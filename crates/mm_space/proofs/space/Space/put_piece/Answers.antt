use Rattle.std.proofs.Common.{◌%◌, sym, refl, ◌∙◌}
use Rattle.mm_frames.specs.Numbers.{with_run}
use Rattle.mm_areas.specs.Mappings.{mapping}
use Rattle.mm_space.specs.Handed.{hand_of}
use Rattle.mm_space.proofs.PutPieces.{Lies, put_nowhere, put_own, put_shared}
use Rattle.mm_space.proofs.Readied.{ready_alike}
use Rattle.mm_space.proofs.space.Space.put_piece.Goals as goal

pub returns-then-put_bytes-clause-put : goal.returns-then-put_bytes-clause-put
returns-then-put_bytes-clause-put c =
    let lies : Lies c.args.at c.args.piece.now = record { small = c.ranges.at.fits; inside = c.requires.fits } in
    put_own c.args.task c.args.at c.args.piece.now lies c.args.self.now.areas
    (mapping c.put_bytes.new.self) c.args.self.now.reservations (hand_of c.args.handed.now)
    (c.if-put_bytes.ensures.fits.0 refl).0 c.if-put_bytes.ensures.bytes

pub returns-then-put_bytes-clause-ready : goal.returns-then-put_bytes-clause-ready
returns-then-put_bytes-clause-ready c =
    ready_alike c.args.self.now.areas c.put_bytes.new.self c.args.handed.now c.args.self.now.reservations
    c.args.self.now.reservations c.args.self.now.caches c.put_bytes.ensures.owned
    c.put_bytes.result _ (λ bytes. with_run bytes (c.args.at % 4096) c.args.piece.now) c.put_bytes.ensures.bytes
    c.put_bytes.ensures.unchanged

pub returns-in-Some-clause-put : goal.returns-in-Some-clause-put
returns-in-Some-clause-put c =
    let lies : Lies c.args.at c.args.piece.now = record { small = c.ranges.at.fits; inside = c.requires.fits } in
    put_shared c.args.task c.args.at c.args.piece.now lies (mapping c.args.self.now.areas)
    (mapping c.put_bytes.new.self) c.args.self.now.reservations (hand_of c.args.handed.now)
    (hand_of c.put_run.new.self)
    c.in-Some.page c.if-put_bytes.ensures.unchanged (sym c.shared_page.ensures ∙ c.in-Some.is) c.put_run.ensures.put

pub returns-in_default-clause-put : goal.returns-in_default-clause-put
returns-in_default-clause-put c =
    let lies : Lies c.args.at c.args.piece.now = record { small = c.ranges.at.fits; inside = c.requires.fits } in
    put_nowhere c.args.task c.args.at c.args.piece.now lies c.args.self.now c.args.handed.now
    (mapping c.put_bytes.new.self) c.put_bytes.result c.if-put_bytes.ensures.unchanged
    (sym c.shared_page.ensures ∙ c.in_default.is) c.requires.ready c.if-put_bytes.false c.put_bytes.ensures.fits
