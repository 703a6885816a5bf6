use Rattle.std.specs.Prelude.{true}
use Rattle.mm_frames.specs.Numbers.{with_run}
use Rattle.mm_frames.proofs.Pages.{page_changed, page_owned, page_shared}
use Rattle.mm_frames.proofs.frames.Frames.write_bytes.Goals as goal

pub returns-clause-ok : goal.returns-clause-ok
returns-clause-ok c =
    page_changed c.write_bytes.result c.args.self.now.frames.items c.args.page c.index_mut.result.now
    c.write_bytes.new.self (λ bytes. with_run bytes c.args.offset c.args.run.now) c.requires.page
    c.index_mut.ensures.value c.write_bytes.ensures.ok

pub returns-clause-owned : goal.returns-clause-owned
returns-clause-owned c =
    page_owned c.write_bytes.result c.args.self.now.frames.items c.args.page c.write_bytes.new.self true
    c.write_bytes.ensures.own

pub returns-clause-shared : goal.returns-clause-shared
returns-clause-shared c =
    page_shared c.write_bytes.result c.args.self.now.frames.items c.args.page c.index_mut.result.now c.requires.page
    c.index_mut.ensures.value c.write_bytes.ensures.shared
