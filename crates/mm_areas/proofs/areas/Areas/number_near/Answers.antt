use Rattle.std.proofs.Common.{List, ℕ, sym}
use Rattle.mm_frames.specs.Numbers.{IsInPage, little_number_at}
use Rattle.mm_areas.specs.Hints.{is_hint}
use Rattle.mm_areas.proofs.WriteLaws.{put_near, near_number}
use Rattle.mm_areas.proofs.areas.Areas.number_near.Goals as goal

pub returns : goal.returns
returns c =
    let rs = c.args.self.now.regions.items in
    let near = sym c.if-not-is_near.ensures in
    let page = c.index.result.now in
    let are = put_near rs c.args.hint c.index-region.result.now c.args.page page page c.args.self.now.in_order near
    c.index-region.ensures c.index.ensures in
    near_number c.number_allowed.result c.args.page page page rs _ (is_hint c.args.self.now c.args.hint c.args.page)
    c.args.right (IsInPage c.args.offset c.args.width)
    (λ (bytes : List ℕ). little_number_at bytes c.args.offset c.args.width) are near c.number_allowed.ensures
