use Rattle.std.specs.Prelude.{true}
use Rattle.mm_frames.proofs.Pages.{page_owned, pages_kept, page_shared}
use Rattle.mm_frames.proofs.frames.Frames.own.Goals as goal

pub returns-clause-pages : goal.returns-clause-pages
returns-clause-pages c =
    pages_kept c.args.self.now.frames.items c.args.page c.index_mut.result.now c.own.new.self
    c.index_mut.ensures.value c.own.ensures.bytes

pub returns-clause-owned : goal.returns-clause-owned
returns-clause-owned c =
    page_owned c.own.result c.args.self.now.frames.items c.args.page c.own.new.self true c.own.ensures.ok

pub returns-clause-shared : goal.returns-clause-shared
returns-clause-shared c =
    page_shared c.own.result c.args.self.now.frames.items c.args.page c.index_mut.result.now c.requires
    c.index_mut.ensures.value c.own.ensures.shared
