-- No segments have no pages.
use Rattle.std.proofs.Common.{◌∙◌, sym, ap, min}
use Rattle.std.specs.FinMap.{len}
use Rattle.image_load.specs.Pages.{segments_laid}
use Rattle.image_load.proofs.Firsts.{no_items}
use Rattle.image_load.proofs.PageCounts.{no_segments}
use Rattle.image_load.proofs.counts.+capped_pages.Goals as goal

pub returns-in-empty : goal.returns-in-empty
returns-in-empty t c all =
    no_segments all
    ∙ ap (λ ss. min (len (segments_laid all ss)) 16321) (sym (no_items c.args.segments.now c.in-empty.len_below))
