use Rattle.std.proofs.Common.{◌/◌, refl, ap, sym, ◌∙◌}
use Rattle.mm_space.specs.Accesses.{byte_at, readable}
use Rattle.mm_space.specs.Runs.{bytes_from}
use Rattle.mm_space.specs.Spaces.{reach}
use Rattle.mm_space.proofs.SeenPages.{IsSeen}
use Rattle.mm_space.proofs.Walks.{piece_step}
use Rattle.mm_space.proofs.space.Space.piece.Goals as goal

pub returns-clause-bytes : goal.returns-clause-bytes
returns-clause-bytes c =
    let r = reach c.args.self.now c.args.handed.now in
    let seen : IsSeen readable r (c.args.at / 4096) c.page_sight-sight.result =
    record { bytes = c.page_sight-sight.ensures.bytes; whole = c.page_sight-sight.ensures.whole } in
    piece_step readable r c.args.at _ c.in_page-piece.result c.page_sight-sight.result c.run.result.now
    c.ranges.at.fits seen c.in_page-piece.ensures.page refl c.run.ensures.bytes
    ∙ ap (bytes_from (byte_at readable r) c.args.at) (sym c.run.ensures.count)
