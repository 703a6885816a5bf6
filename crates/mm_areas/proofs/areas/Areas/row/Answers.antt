use Rattle.std.proofs.Common.{ap, sym, ◌∙◌}
use Rattle.mm_areas.specs.DecodedWords.{has_row_in}
use Rattle.mm_areas.proofs.WriteLaws.{put_found, not_found}
use Rattle.mm_areas.proofs.RowLaws.{words_there}
use Rattle.mm_areas.proofs.areas.Areas.row.Goals as goal

pub returns-in-Some-clause-there : goal.returns-in-Some-clause-there
returns-in-Some-clause-there c =
    c.row.ensures.there
    ∙ sym (ap has_row_in
    (put_found c.as_slice.result.now c.args.self.now.regions.items c.in-Some.index c.index-region.result.now c.args.page
    c.index.result.now c.index.result.now c.as_slice.ensures.value c.args.self.now.in_order c.in-Some.ensures.within
    c.in-Some.ensures.held c.index-region.ensures c.index.ensures).there)

pub returns-in-Some-clause-words : goal.returns-in-Some-clause-words
returns-in-Some-clause-words c =
    words_there c.row.result (λ words. words.now) c.args.page c.index.result.now c.index.result.now
    c.args.self.now.regions.items _
    (put_found c.as_slice.result.now c.args.self.now.regions.items c.in-Some.index c.index-region.result.now c.args.page
    c.index.result.now c.index.result.now c.as_slice.ensures.value c.args.self.now.in_order c.in-Some.ensures.within
    c.in-Some.ensures.held c.index-region.ensures c.index.ensures) c.row.ensures.words

pub returns-in-None-clause-there : goal.returns-in-None-clause-there
returns-in-None-clause-there c =
    sym (ap has_row_in
    (not_found c.as_slice.result.now c.args.self.now.regions.items c.args.page c.as_slice.ensures.value
    c.args.self.now.in_order c.in-None.ensures.mapped))
