use Rattle.std.specs.Prelude.{true, slice_set}
use Rattle.mm_frames.proofs.Pages.{page_changed, page_owned, page_shared}
use Rattle.mm_frames.proofs.frames.Frames.write_byte.Goals as goal

pub returns-clause-ok : goal.returns-clause-ok
returns-clause-ok c =
    page_changed c.write_byte.result c.args.self.now.frames.items c.args.page c.index_mut.result.now
    c.write_byte.new.self (λ bytes. slice_set bytes c.args.offset c.args.value) c.requires.page
    c.index_mut.ensures.value c.write_byte.ensures.ok

pub returns-clause-owned : goal.returns-clause-owned
returns-clause-owned c =
    page_owned c.write_byte.result c.args.self.now.frames.items c.args.page c.write_byte.new.self true
    c.write_byte.ensures.own

pub returns-clause-shared : goal.returns-clause-shared
returns-clause-shared c =
    page_shared c.write_byte.result c.args.self.now.frames.items c.args.page c.index_mut.result.now c.requires.page
    c.index_mut.ensures.value c.write_byte.ensures.shared
