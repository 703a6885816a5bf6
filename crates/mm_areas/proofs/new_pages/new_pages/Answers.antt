use Rattle.std.proofs.Common.{◌≡◌, [], ◌∷◌, ◌++◌, map, refl, ap, sym, ◌∙◌, subst, rules}
use Rattle.mm_areas.specs.Pages.{mapped_by}
use Rattle.mm_areas.specs.Shares.{AreShared}
use Rattle.mm_areas.specs.DecodedWords.{AreUndecoded}
use Rattle.mm_areas.proofs.NewPageLaws.{none_yet, one_more}
use Rattle.mm_areas.proofs.SharedLaws.{shared_more, undecoded_more}
use Rattle.mm_areas.proofs.new_pages.new_pages.Goals as goal

pub loop-number-init : goal.loop-number-init
loop-number-init c =
    let none : c.in_ok-pages.pages.items ≡ [] = search rules in
    record {
      pages = ap (map mapped_by) none ∙ none_yet c.args.backing c.args.rights;
      shared = subst AreShared (sym none) (λ index. refl);
      undecoded = subst AreUndecoded (sym none) (λ index. refl);
    }

pub loop-number-preserved : goal.loop-number-preserved
loop-number-preserved c =
    let before = c.loop-number.pages.items in
    let page = c.new_page.result in
    let is : c.push.new.self.items ≡ before ++ page ∷ [] = search rules in
    record {
      pages = one_more c.args.backing c.args.rights c.loop-number.number before c.push.new.self.items page
          c.loop-number.invariant.pages is c.new_page.ensures.mapped;
      shared = subst AreShared (sym is)
          (shared_more before page c.loop-number.invariant.shared c.new_page.ensures.shared);
      undecoded = subst AreUndecoded (sym is)
          (undecoded_more before page c.loop-number.invariant.undecoded c.new_page.ensures.undecoded);
    }
