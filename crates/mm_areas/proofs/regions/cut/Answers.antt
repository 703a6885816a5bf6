use Rattle.std.proofs.Common.{List, ◌≡◌, ◌+◌, ◌<◌, length, get_or, ◌∙◌, ap, rules, arith}
use Rattle.std.proofs.lemmas.List.{get_or_default}
use Rattle.std.proofs.Math.ListN.{set}
use Rattle.std.specs.List.{insert}
use Rattle.mm_areas.specs.declared.areas.Region.{Region}
use Rattle.mm_areas.specs.Places.{index_behind}
use Rattle.mm_areas.proofs.RegionLaws.{end_of}
use Rattle.mm_areas.proofs.IndexLaws.{index_ends, cut_already}
use Rattle.mm_areas.proofs.EditLaws.{AreCutTo, cut_at}
use Rattle.mm_areas.proofs.regions.cut.Goals as goal
use Rattle.mm_areas.proofs.regions.cut.Goals.{else-index-len-via-then-index-len+else-index-page}
use Rattle.mm_areas.proofs.regions.cut.Goals.{else-index-len-via-else-index-len}

pub halve-requires-clause-high : goal.halve-requires-clause-high
halve-requires-clause-high c =
    let old = c.args.regions.now.items in
    let i = c.first_behind-index.result in
    let r = c.index_mut.result.now in
    let is : i ≡ index_behind c.args.page old =
    c.first_behind-index.ensures.index ∙ ap (index_behind c.args.page) c.as_slice.ensures.value in
    let less : i < length old =
    omega (arith, c.if-index-len.true, c.len.ensures, c.as_slice.ensures.len, ap length c.as_slice.ensures.value) in
    let at : r ≡ get_or old i r =
    c.index_mut.ensures.value ∙ ap (λ (rs : List Region). get_or rs i r) c.in_ok-reserve.ensures.items in
    omega (arith, index_ends c.args.page old i r is less, ap end_of at)

whole : (c : goal.Else-is_err) → AreCutTo c.args.page 0 c.args.regions.now.items c.insert.new.self.items
whole c =
    let old = c.args.regions.now.items in
    let i = c.first_behind-index.result in
    let r = c.index_mut.result.now in
    let less : i < length old =
    omega (arith, c.if-index-len.true, c.len.ensures, c.as_slice.ensures.len, ap length c.as_slice.ensures.value) in
    let at : r ≡ get_or old i r =
    c.index_mut.ensures.value ∙ ap (λ (rs : List Region). get_or rs i r) c.in_ok-reserve.ensures.items in
    let is : c.insert.new.self.items ≡ insert (set old i c.halve.new.region) (i + 1) c.in_ok-behind.behind =
    search rules in
    cut_at c.args.page old c.insert.new.self.items i r c.halve.new.region c.in_ok-behind.behind is c.requires less at
    c.in_ok-behind.ensures.ok

pub returns-else-is_err-clause-order : goal.returns-else-is_err-clause-order
returns-else-is_err-clause-order c = (whole c).order

pub returns-else-is_err-clause-pages : goal.returns-else-is_err-clause-pages
returns-else-is_err-clause-pages c = (whole c).pages

pub returns-else-is_err-clause-ok : goal.returns-else-is_err-clause-ok
returns-else-is_err-clause-ok c = (whole c).cut

pub returns-else-is_err-clause-others : goal.returns-else-is_err-clause-others
returns-else-is_err-clause-others c = (whole c).others

pub returns-else-is_err-clause-kept : goal.returns-else-is_err-clause-kept
returns-else-is_err-clause-kept c = (whole c).kept

pub returns-else-index-len-clause-ok : goal.returns-else-index-len-clause-ok
returns-else-index-len-clause-ok c =
    let old = c.args.regions.now.items in
    let i = c.first_behind-index.result in
    let is : i ≡ index_behind c.args.page old =
    c.first_behind-index.ensures.index ∙ ap (index_behind c.args.page) c.as_slice.ensures.value in
    cut_already c.args.page 0 old i is c.requires (λ d less. elim c.else-index-len.branch [
      | else-index-len-via-then-index-len+else-index-page w ↦
          omega (
            arith,
            w.if-index-page.false,
            ap (λ (r : Region). r.first) w.index.ensures,
            ap (λ (r : Region). r.first) (get_or_default old i w.index.result.now d less),
          )
      | else-index-len-via-else-index-len w ↦
          absurd (omega (
            arith,
            less,
            w.if-index-len.false,
            c.len.ensures,
            c.as_slice.ensures.len,
            ap length c.as_slice.ensures.value,
          ))
    ])
