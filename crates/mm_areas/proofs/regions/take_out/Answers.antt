use Rattle.std.proofs.Common.{◌≡◌, arith, ap, ◌∙◌}
use Rattle.mm_areas.proofs.IndexLaws.{index_rises}
use Rattle.mm_areas.proofs.EditLaws.{AreWithout, without, without_room}
use Rattle.mm_areas.specs.Places.{index_behind}
use Rattle.mm_areas.proofs.regions.take_out.Goals as goal

from_is : (c : goal.After-remove_between)
    → c.first_behind-from.result ≡ index_behind c.args.first c.args.regions.now.items
from_is c = c.first_behind-from.ensures.index ∙ ap (index_behind c.args.first) c.as_slice.ensures.value

to_is : (c : goal.After-remove_between) → c.first_behind-to.result ≡ index_behind c.args.end c.args.regions.now.items
to_is c = c.first_behind-to.ensures.index ∙ ap (index_behind c.args.end) c.as_slice-2.ensures.value

pub remove_between-requires-clause-range : goal.remove_between-requires-clause-range
remove_between-requires-clause-range c =
    omega (
      arith,
      index_rises c.args.first c.args.end c.args.regions.now.items c.requires.range,
      c.first_behind-from.ensures.index ∙ ap (index_behind c.args.first) c.as_slice.ensures.value,
      c.first_behind-to.ensures.index ∙ ap (index_behind c.args.end) c.as_slice-2.ensures.value,
    )

whole : (c : goal.After-remove_between)
    → AreWithout c.args.first c.args.end 0 c.args.regions.now.items c.remove_between.new.regions.items
whole c = without c.args.first c.args.end c.args.regions.now.items c.remove_between.new.regions.items
    c.first_behind-from.result c.first_behind-to.result c.remove_between.ensures.items c.requires.range c.requires.order
    c.requires.cut_first c.requires.cut_end (from_is c) (to_is c)

pub returns-clause-order : goal.returns-clause-order
returns-clause-order c = (whole c).order

pub returns-clause-pages : goal.returns-clause-pages
returns-clause-pages c = (whole c).pages

pub returns-clause-kept : goal.returns-clause-kept
returns-clause-kept c = (whole c).kept

pub returns-clause-room : goal.returns-clause-room
returns-clause-room c room =
    let le = index_rises c.args.first c.args.end c.args.regions.now.items c.requires.range in
    let fewer = without_room c.args.regions.now c.remove_between.new.regions c.first_behind-from.result
    c.first_behind-to.result c.remove_between.ensures.items (omega (arith, le, from_is c, to_is c)) in
    omega (arith, room, fewer, c.remove_between.ensures.capacity)
