-- A page of no segment is of zeros.
use Rattle.std.proofs.Common.{[], ◌*◌, ◌∙◌, sym, ap, refl}
use Rattle.image_load.specs.Pages.{image_byte, page_bytes}
use Rattle.image_load.proofs.Firsts.{no_items}
use Rattle.image_load.proofs.PageBytes.{zeros_run}
use Rattle.image_load.proofs.pages.+image_frame.Goals as goal

pub returns-in-empty : goal.returns-in-empty
returns-in-empty t c =
    c.zero.ensures.bytes ∙ zeros_run (image_byte []) (4096 * c.args.page) 4096 (λ at. refl)
    ∙ ap (λ ss. page_bytes (image_byte ss) c.args.page) (sym (no_items c.args.segments.now c.in-empty.len_below))
