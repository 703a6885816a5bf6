use Rattle.std.specs.Prelude.{false}
use Rattle.mm_frames.proofs.Pages.{page_owned, pages_kept}
use Rattle.mm_frames.proofs.frames.Frames.share_page.Goals as goal

pub returns-clause-kept : goal.returns-clause-kept
returns-clause-kept c =
    pages_kept c.args.self.now.frames.items c.args.page c.index_mut.result.now c.share.new.self
    c.index_mut.ensures.value c.share.ensures.kept

pub returns-clause-owned : goal.returns-clause-owned
returns-clause-owned c =
    page_owned c.share.result c.args.self.now.frames.items c.args.page c.share.new.self false c.share.ensures.lost
