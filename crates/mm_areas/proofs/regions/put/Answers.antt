use Rattle.std.proofs.Common.{◌∙◌, ap, rules}
use Rattle.mm_areas.specs.Places.{index_behind}
use Rattle.mm_areas.proofs.EditLaws.{put_at}
use Rattle.mm_areas.proofs.regions.put.Goals as goal

pub returns-clause-order : goal.returns-clause-order
returns-clause-order c =
    (put_at c.args.regions.now.items c.insert.new.self.items c.first_behind-index.result c.args.region
    (search rules) c.requires.order c.requires.some c.requires.end c.requires.free
    (c.first_behind-index.ensures.index ∙ ap (index_behind c.args.region.first) c.as_slice.ensures.value)).order

pub returns-clause-pages : goal.returns-clause-pages
returns-clause-pages c =
    (put_at c.args.regions.now.items c.insert.new.self.items c.first_behind-index.result c.args.region
    (search rules) c.requires.order c.requires.some c.requires.end c.requires.free
    (c.first_behind-index.ensures.index ∙ ap (index_behind c.args.region.first) c.as_slice.ensures.value)).pages

pub returns-clause-kept : goal.returns-clause-kept
returns-clause-kept c =
    (put_at c.args.regions.now.items c.insert.new.self.items c.first_behind-index.result c.args.region
    (search rules) c.requires.order c.requires.some c.requires.end c.requires.free
    (c.first_behind-index.ensures.index ∙ ap (index_behind c.args.region.first) c.as_slice.ensures.value)).kept

pub returns-clause-put : goal.returns-clause-put
returns-clause-put c =
    (put_at c.args.regions.now.items c.insert.new.self.items c.first_behind-index.result c.args.region
    (search rules) c.requires.order c.requires.some c.requires.end c.requires.free
    (c.first_behind-index.ensures.index ∙ ap (index_behind c.args.region.first) c.as_slice.ensures.value)).put
