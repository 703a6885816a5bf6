use Rattle.std.proofs.Common.{◌≡◌, ◌-◌, refl, ap, sym, ◌∙◌}
use Rattle.mm_areas.specs.Mappings.{Mapping, mapping, pages_in}
use Rattle.std.specs.FinMap.{contains_key}
use Rattle.mm_areas.specs.declared.areas.Areas.{Areas}
use Rattle.mm_areas.specs.Regions.{pages_of}
use Rattle.mm_areas.specs.Own.{page_of, is_own_at}
use Rattle.mm_areas.specs.DecodedWords.{has_row_in}
use Rattle.mm_areas.proofs.FreshLaws.{absent, fresh_laid, absent_left}
use Rattle.mm_areas.proofs.PlaceLaws.{grown_limit, grown_apart, cut_apart}
use Rattle.mm_areas.proofs.areas.Areas.move_break.Goals as goal
use Rattle.mm_areas.proofs.areas.Areas.move_break.Goals.{then-broken-wanted+in_ok-pages+in_ok-lay}
use Rattle.mm_areas.proofs.areas.Areas.move_break.Goals.{else-broken-wanted+in_ok-take}

pub lay-requires-clause-limit : goal.lay-requires-clause-limit
lay-requires-clause-limit c =
    let m = mapping c.args.self.now in
    let more : c.pages_in-wanted.result - c.pages_in-broken.result ≡ pages_in c.args.to - pages_in m.program_break =
    cc (c.pages_in-wanted.ensures, c.pages_in-broken.ensures) in
    grown_limit m c.args.to c.pages_in-broken.result (c.pages_in-wanted.result - c.pages_in-broken.result)
    (record { 0 = 3 }) c.in_ok-pages.pages.items c.requires c.pages_in-broken.ensures more
    c.in_ok-pages.ensures.pages

pub returns-clause-kept : goal.returns-clause-kept
returns-clause-kept c page was is =
    let m = mapping c.args.self.now in
    elim c.if-broken-wanted.branch [
      | then-broken-wanted+in_ok-pages+in_ok-lay w ↦
          let more : c.pages_in-wanted.result - c.pages_in-broken.result
          ≡ pages_in c.args.to - pages_in m.program_break =
          cc (c.pages_in-wanted.ensures, c.pages_in-broken.ensures) in
          ap (λ (a : Areas). page_of a page) w.self-is
          ∙ w.lay.ensures.kept page
          (grown_apart m c.args.to c.pages_in-broken.result _ page c.requires c.pages_in-broken.ensures
          (w.in_ok-pages.ensures.count ∙ more) was)
      | else-broken-wanted+in_ok-take w ↦
          let left = ap (λ (a : Areas). contains_key (pages_of a.regions.items) page) (sym w.self-is) ∙ is in
          ap (λ (a : Areas). page_of a page) w.self-is
          ∙ w.take.ensures.kept page
          (cut_apart _ _ page m.pages
          (ap (λ (x : Mapping). contains_key x.pages page) (sym w.in_ok-take.ensures.ok) ∙ left))
    ]

pub returns-in_err-pages-clause-fresh : goal.returns-in_err-pages-clause-fresh
returns-in_err-pages-clause-fresh c page unmapped =
    ap is_own_at (absent c.args.self.now.regions.items page c.args.self.now.in_order unmapped)

pub returns-in_err-lay-clause-fresh : goal.returns-in_err-lay-clause-fresh
returns-in_err-lay-clause-fresh c page unmapped =
    ap is_own_at (c.in_err-lay.ensures.same page
    ∙ absent c.args.self.now.regions.items page c.args.self.now.in_order unmapped)

pub returns-in_err-take-clause-fresh : goal.returns-in_err-take-clause-fresh
returns-in_err-take-clause-fresh c page unmapped =
    ap is_own_at (c.in_err-take.ensures.same page
    ∙ absent c.args.self.now.regions.items page c.args.self.now.in_order unmapped)

pub returns-clause-fresh : goal.returns-clause-fresh
returns-clause-fresh c page unmapped =
    let olds = c.args.self.now.regions.items in
    let none = absent olds page c.args.self.now.in_order unmapped in
    elim c.if-broken-wanted.branch [
      | then-broken-wanted+in_ok-pages+in_ok-lay w ↦
          ap (λ (a : Areas). is_own_at (page_of a page)) w.self-is
          ∙ fresh_laid is_own_at olds w.lay.new.self.regions.items c.pages_in-broken.result w.in_ok-pages.pages.items
          page refl none w.in_ok-pages.ensures.shared w.lay.ensures.kept w.in_ok-lay.ensures.put
      | else-broken-wanted+in_ok-take w ↦
          ap (λ (a : Areas). is_own_at (page_of a page)) w.self-is
          ∙ ap is_own_at (absent_left olds w.take.new.self.regions.items _ _ page w.take.new.self.in_order
          (ap (λ (x : Mapping). x.pages) w.in_ok-take.ensures.ok) none w.take.ensures.kept)
    ]

pub returns-in_err-pages-clause-undecoded : goal.returns-in_err-pages-clause-undecoded
returns-in_err-pages-clause-undecoded c page unmapped =
    ap has_row_in (absent c.args.self.now.regions.items page c.args.self.now.in_order unmapped)

pub returns-in_err-lay-clause-undecoded : goal.returns-in_err-lay-clause-undecoded
returns-in_err-lay-clause-undecoded c page unmapped =
    ap has_row_in (c.in_err-lay.ensures.same page
    ∙ absent c.args.self.now.regions.items page c.args.self.now.in_order unmapped)

pub returns-in_err-take-clause-undecoded : goal.returns-in_err-take-clause-undecoded
returns-in_err-take-clause-undecoded c page unmapped =
    ap has_row_in (c.in_err-take.ensures.same page
    ∙ absent c.args.self.now.regions.items page c.args.self.now.in_order unmapped)

pub returns-clause-undecoded : goal.returns-clause-undecoded
returns-clause-undecoded c page unmapped =
    let olds = c.args.self.now.regions.items in
    let none = absent olds page c.args.self.now.in_order unmapped in
    elim c.if-broken-wanted.branch [
      | then-broken-wanted+in_ok-pages+in_ok-lay w ↦
          ap (λ (a : Areas). has_row_in (page_of a page)) w.self-is
          ∙ fresh_laid has_row_in olds w.lay.new.self.regions.items c.pages_in-broken.result w.in_ok-pages.pages.items
          page refl none w.in_ok-pages.ensures.undecoded w.lay.ensures.kept w.in_ok-lay.ensures.put
      | else-broken-wanted+in_ok-take w ↦
          ap (λ (a : Areas). has_row_in (page_of a page)) w.self-is
          ∙ ap has_row_in (absent_left olds w.take.new.self.regions.items _ _ page w.take.new.self.in_order
          (ap (λ (x : Mapping). x.pages) w.in_ok-take.ensures.ok) none w.take.ensures.kept)
    ]
