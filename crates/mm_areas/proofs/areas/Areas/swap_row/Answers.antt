use Rattle.std.proofs.Common.{◌-◌, refl, ap, sym, ◌∙◌}
use Rattle.std.specs.Vec.{with_item}
use Rattle.std.proofs.Math.ListN.{set}
use Rattle.mm_frames.specs.Rows.{words_of}
use Rattle.mm_areas.specs.Mappings.{with_pages, mapping}
use Rattle.mm_areas.specs.DecodedWords.{has_row_in}
use Rattle.mm_areas.proofs.WriteLaws.{AreWritten, put_found, put_owned, write_same, not_found}
use Rattle.mm_areas.proofs.RowLaws.{rows_others, words_there, words_given, none_given}
use Rattle.mm_areas.proofs.areas.Areas.swap_row.Goals as goal
use Rattle.mm_areas.proofs.areas.Areas.swap_row.Goals.{After-swap_row}

written : (c : After-swap_row)
    → AreWritten c.args.page c.index_mut.result.now c.swap_row.new.self c.args.self.now.regions.items
    (set c.args.self.now.regions.items c.in-Some.index
    (record {
      first = c.index_mut-region.result.now.first;
      pages = with_item c.index_mut-region.result.now.pages
          (c.args.page - c.index_mut-region.result.now.first) c.swap_row.new.self;
    }))
written c = put_found c.args.self.now.regions.items c.args.self.now.regions.items c.in-Some.index
    c.index_mut-region.result.now c.args.page c.index_mut.result.now c.swap_row.new.self refl c.args.self.now.in_order
    c.in-Some.ensures.within c.in-Some.ensures.held c.index_mut-region.ensures.value c.index_mut.ensures.value

pub invariant_of-self-clause-in_order : goal.invariant_of-self-clause-in_order
invariant_of-self-clause-in_order c = (written (goal.at.invariant_of-self-clause-in_order c).After-swap_row).order

pub invariant_of-self-clause-counted : goal.invariant_of-self-clause-counted
invariant_of-self-clause-counted c =
    c.args.self.now.counted ∙ sym (written (goal.at.invariant_of-self-clause-counted c).After-swap_row).count

pub swap_row-requires : goal.swap_row-requires
swap_row-requires c =
    let old = c.index_mut.result.now in
    let are = put_found c.args.self.now.regions.items c.args.self.now.regions.items c.in-Some.index
    c.index_mut-region.result.now c.args.page old old refl c.args.self.now.in_order c.in-Some.ensures.within
    c.in-Some.ensures.held c.index_mut-region.ensures.value c.index_mut.ensures.value in
    words_given c.args.row c.args.page old old c.args.self.now.regions.items _ are c.requires

pub returns-in-Some-clause-there : goal.returns-in-Some-clause-there
returns-in-Some-clause-there c =
    c.swap_row.ensures.there
    ∙ sym (ap has_row_in (written (goal.at.returns-in-Some-clause-there c).After-swap_row).there)

pub returns-in-Some-clause-words : goal.returns-in-Some-clause-words
returns-in-Some-clause-words c =
    words_there c.swap_row.result words_of c.args.page c.index_mut.result.now c.swap_row.new.self
    c.args.self.now.regions.items _ (written (goal.at.returns-in-Some-clause-words c).After-swap_row)
    c.swap_row.ensures.words

pub returns-in-Some-clause-row : goal.returns-in-Some-clause-row
returns-in-Some-clause-row c =
    ap has_row_in (written (goal.at.returns-in-Some-clause-row c).After-swap_row).here ∙ c.swap_row.ensures.row

pub returns-in-Some-clause-mapped : goal.returns-in-Some-clause-mapped
returns-in-Some-clause-mapped c =
    ap (with_pages (mapping c.args.self.now))
    (write_same c.args.page c.index_mut.result.now c.swap_row.new.self c.args.self.now.regions.items _
    (written (goal.at.returns-in-Some-clause-mapped c).After-swap_row) c.swap_row.ensures.mapped)

pub returns-in-Some-clause-owned : goal.returns-in-Some-clause-owned
returns-in-Some-clause-owned c =
    put_owned c.args.page c.index_mut.result.now c.swap_row.new.self c.args.self.now.regions.items _
    (written (goal.at.returns-in-Some-clause-owned c).After-swap_row) c.swap_row.ensures.own

pub returns-in-Some-clause-others : goal.returns-in-Some-clause-others
returns-in-Some-clause-others c =
    rows_others c.args.page c.index_mut.result.now c.swap_row.new.self c.args.self.now.regions.items _
    (written (goal.at.returns-in-Some-clause-others c).After-swap_row)

pub returns-in-None-clause-there : goal.returns-in-None-clause-there
returns-in-None-clause-there c =
    sym (ap has_row_in
    (not_found c.args.self.now.regions.items c.args.self.now.regions.items c.args.page refl c.args.self.now.in_order
    c.in-None.ensures.mapped))

pub returns-in-None-clause-row : goal.returns-in-None-clause-row
returns-in-None-clause-row c =
    none_given c.args.row c.args.page c.args.self.now.regions.items c.args.self.now.in_order
    (not_found c.args.self.now.regions.items c.args.self.now.regions.items c.args.page refl c.args.self.now.in_order
    c.in-None.ensures.mapped) c.requires
