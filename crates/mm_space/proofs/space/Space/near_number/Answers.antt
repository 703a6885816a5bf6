use Rattle.std.proofs.Common.{sym, ap, ◌∙◌}
use Rattle.std.specs.Prelude.{Some}
use Rattle.mm_frames.specs.Frames.{bytes_of}
use Rattle.mm_areas.specs.declared.page.Content.{Content}
use Rattle.mm_areas.specs.Pages.{Mapped, held_in}
use Rattle.mm_space.specs.Spaces.{space_of}
use Rattle.mm_space.proofs.Near.{near_answer}
use Rattle.mm_space.proofs.space.Space.near_number.Goals as goal

pub returns-in-Private : goal.returns-in-Private
returns-in-Private c =
    let page = c.in_ok-page.page.now in
    near_answer c.args.right page.rights (space_of c.args.self.now) (bytes_of c.in-Private.frame) c.args.at c.args.width
    _ c.number.result c.ranges.at.fits
    (sym c.in_ok-page.ensures
    ∙ ap (λ (content : Content). let m : Mapped = record { rights = page.rights; held = held_in content } in
    Some m) c.in-Private.is)
    (sym c.allows.ensures ∙ c.if-not-allows.false) c.in-Private.frame.whole (λ fits. fits.1) c.number.ensures
