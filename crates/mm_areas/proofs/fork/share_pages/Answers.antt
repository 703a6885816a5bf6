-- Each round shares the next page, and both it and the other have no bytes of their own then.
use Rattle.std.proofs.Common.{◌≡◌, [], ◌∷◌, ◌++◌, ◌<◌, map, length, ap, sym, ◌∙◌, subst, arith, rules}
use Rattle.std.proofs.lemmas.List.{length-map, take_all}
use Rattle.mm_areas.specs.Pages.{mapped_by}
use Rattle.mm_areas.specs.Shares.{AreShared}
use Rattle.mm_areas.proofs.ShareLaws.{kept_more, copied_more}
use Rattle.mm_areas.proofs.SharedLaws.{shared_more, lost_more, lost_all}
use Rattle.mm_areas.proofs.fork.share_pages.Goals as goal

pub loop-index-preserved : goal.loop-index-preserved
loop-index-preserved c =
    let olds = c.args.pages.now in
    let pages = c.loop-index.pages in
    let copies = c.loop-index.others.items in
    let index = c.loop-index.index in
    let old = c.index-pages-index.result in
    let new = c.share_page.new.page in
    let copy = c.in_ok-share_page.field-0 in
    let met = c.loop-index.invariant in
    let within : index < length pages = omega arith in
    let there = ap mapped_by (sym c.index-pages-index.is) in
    let is : c.push.new.self.items ≡ copies ++ copy ∷ [] = search rules in
    record {
      kept = kept_more mapped_by olds pages index old new met.kept c.index-pages-index.is
          (c.share_page.ensures.kept ∙ there);
      copied = ap (map mapped_by) is
          ∙ copied_more mapped_by olds pages copies index old copy within met.kept met.copied
          c.index-pages-index.is (c.in_ok-share_page.ensures.copied ∙ there);
      lost = lost_more pages index new within met.lost c.in_ok-share_page.ensures.lost;
      shared = subst AreShared (sym is) (shared_more copies copy met.shared c.in_ok-share_page.ensures.shared);
    }

pub returns-in_err-share_page-clause-kept : goal.returns-in_err-share_page-clause-kept
returns-in_err-share_page-clause-kept c =
    kept_more mapped_by c.args.pages.now c.loop-index.pages c.loop-index.index c.index-pages-index.result
    c.share_page.new.page c.loop-index.invariant.kept c.index-pages-index.is
    (c.share_page.ensures.kept ∙ ap mapped_by (sym c.index-pages-index.is))

pub returns-in_err-push-clause-kept : goal.returns-in_err-push-clause-kept
returns-in_err-push-clause-kept c =
    kept_more mapped_by c.args.pages.now c.loop-index.pages c.loop-index.index c.index-pages-index.result
    c.share_page.new.page c.loop-index.invariant.kept c.index-pages-index.is
    (c.share_page.ensures.kept ∙ ap mapped_by (sym c.index-pages-index.is))

pub returns-clause-copied : goal.returns-clause-copied
returns-clause-copied c =
    let olds = c.args.pages.now in
    c.loop-index.invariant.copied
    ∙ take_all c.loop-index.index (map mapped_by olds) (omega (arith, length-map olds mapped_by))

pub returns-clause-lost : goal.returns-clause-lost
returns-clause-lost c =
    lost_all c.loop-index.pages c.loop-index.index (omega arith) c.loop-index.invariant.lost
