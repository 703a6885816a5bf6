-- A capped count tells whether an image has more pages than the most.
use Rattle.std.proofs.Common.{◌∙◌, ap, min}
use Rattle.std.specs.FinMap.{len}
use Rattle.elf_image.specs.Loadable.{Loadable}
use Rattle.image_load.specs.Pages.{segments_laid}
use Rattle.image_load.proofs.PageCounts.{over_most}
use Rattle.image_load.proofs.counts.has_too_many_pages.Goals as goal

pub returns : goal.returns
returns c =
    let all = c.args.image.now.segments in
    let same = c.as_slice.ensures ∙ ap (λ (i : Loadable). i.segments) c.image.view_is in
    over_most c.args.image.now c.capped_pages.result
    (c.capped_pages.ensures all ∙ ap (λ ss. min (len (segments_laid all ss)) 16321) same)
