use Rattle.std.proofs.Common.{ap, sym, ◌∙◌}
use Rattle.std.specs.Option.{option_copied}
use Rattle.mm_space.proofs.WholePages.{page_whole}
use Rattle.mm_space.proofs.page_sight.area_sight.Goals as goal

pub returns-in-Some-as_slice-clause-whole : goal.returns-in-Some-as_slice-clause-whole
returns-in-Some-as_slice-clause-whole c =
    page_whole c.in-Some.area.now.frames.frames.items c.args.page.now.number c.in-Some-as_slice.bytes.now
    (sym c.as_slice.ensures ∙ ap option_copied c.in-Some-as_slice.is)
