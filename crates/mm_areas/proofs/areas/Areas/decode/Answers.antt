use Rattle.std.proofs.Common.{◌-◌, Option, refl, ap, sym, ◌∙◌}
use Rattle.std.specs.Option.{is_some}
use Rattle.std.proofs.lemmas.Bool.{false≢true}
use Rattle.std.specs.Vec.{with_item}
use Rattle.std.proofs.Math.ListN.{set}
use Rattle.mm_areas.specs.Pages.{Mapped}
use Rattle.mm_areas.specs.Contents.{bytes_mapped}
use Rattle.mm_areas.specs.Mappings.{with_pages, mapping}
use Rattle.mm_areas.specs.DecodedWords.{has_row_in}
use Rattle.mm_areas.proofs.WriteLaws.{AreWritten, put_found, put_owned, write_same, not_found}
use Rattle.mm_areas.proofs.RowLaws.{decoded_where, rows_others}
use Rattle.mm_areas.proofs.areas.Areas.decode.Goals as goal
use Rattle.mm_areas.proofs.areas.Areas.decode.Goals.{After-decode}

written : (c : After-decode)
    → AreWritten c.args.page c.index_mut.result.now c.decode.new.self c.args.self.now.regions.items
    (set c.args.self.now.regions.items c.in-Some.index
    (record {
      first = c.index_mut-region.result.now.first;
      pages = with_item c.index_mut-region.result.now.pages
          (c.args.page - c.index_mut-region.result.now.first) c.decode.new.self;
    }))
written c = put_found c.args.self.now.regions.items c.args.self.now.regions.items c.in-Some.index
    c.index_mut-region.result.now c.args.page c.index_mut.result.now c.decode.new.self refl c.args.self.now.in_order
    c.in-Some.ensures.within c.in-Some.ensures.held c.index_mut-region.ensures.value c.index_mut.ensures.value

pub invariant_of-self-clause-in_order : goal.invariant_of-self-clause-in_order
invariant_of-self-clause-in_order c = (written (goal.at.invariant_of-self-clause-in_order c).After-decode).order

pub invariant_of-self-clause-counted : goal.invariant_of-self-clause-counted
invariant_of-self-clause-counted c =
    c.args.self.now.counted ∙ sym (written (goal.at.invariant_of-self-clause-counted c).After-decode).count

pub returns-in-Some-clause-row : goal.returns-in-Some-clause-row
returns-in-Some-clause-row c =
    decoded_where c.args.page c.index_mut.result.now c.decode.new.self c.args.self.now.regions.items _ c.args.right
    (written (goal.at.returns-in-Some-clause-row c).After-decode) c.decode.ensures.row

pub returns-in-Some-clause-kept : goal.returns-in-Some-clause-kept
returns-in-Some-clause-kept c = λ was.
    let are = written (goal.at.returns-in-Some-clause-kept c).After-decode in
    ap has_row_in are.here ∙ c.decode.ensures.kept (sym (ap has_row_in are.there) ∙ was)

pub returns-in-Some-clause-private : goal.returns-in-Some-clause-private
returns-in-Some-clause-private c =
    λ is. ap (λ (m : Option Mapped). is_some (bytes_mapped m))
    (written (goal.at.returns-in-Some-clause-private c).After-decode).mapped ∙ c.decode.ensures.private is

pub returns-in-Some-clause-mapped : goal.returns-in-Some-clause-mapped
returns-in-Some-clause-mapped c =
    ap (with_pages (mapping c.args.self.now))
    (write_same c.args.page c.index_mut.result.now c.decode.new.self c.args.self.now.regions.items _
    (written (goal.at.returns-in-Some-clause-mapped c).After-decode) c.decode.ensures.mapped)

pub returns-in-Some-clause-owned : goal.returns-in-Some-clause-owned
returns-in-Some-clause-owned c =
    put_owned c.args.page c.index_mut.result.now c.decode.new.self c.args.self.now.regions.items _
    (written (goal.at.returns-in-Some-clause-owned c).After-decode) c.decode.ensures.own

pub returns-in-Some-clause-others : goal.returns-in-Some-clause-others
returns-in-Some-clause-others c =
    rows_others c.args.page c.index_mut.result.now c.decode.new.self c.args.self.now.regions.items _
    (written (goal.at.returns-in-Some-clause-others c).After-decode)

pub returns-in-None-clause-row : goal.returns-in-None-clause-row
returns-in-None-clause-row c = (
  (λ is. absurd (false≢true is)),
  (λ both. absurd
      (false≢true (sym
      (ap has_row_in
      (not_found c.args.self.now.regions.items c.args.self.now.regions.items c.args.page refl c.args.self.now.in_order
      c.in-None.ensures.mapped)) ∙ both.0))),
)
