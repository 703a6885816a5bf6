use Rattle.std.proofs.Common.{◌-◌, Option, ap, sym, ◌∙◌}
use Rattle.std.specs.Option.{is_some}
use Rattle.std.specs.Vec.{with_item}
use Rattle.std.proofs.Math.ListN.{set}
use Rattle.mm_frames.specs.Numbers.{with_number}
use Rattle.mm_areas.specs.Pages.{Mapped}
use Rattle.mm_areas.specs.Contents.{bytes_mapped}
use Rattle.mm_areas.proofs.WriteLaws.{AreWritten, put_found, write_ok, write_owns, write_err, write_lacks, write_kept}
use Rattle.mm_areas.proofs.WriteLaws.{write_others}
use Rattle.mm_areas.proofs.RowLaws.{rows_same}
use Rattle.mm_areas.proofs.areas.Areas.write_number.Goals as goal
use Rattle.mm_areas.proofs.areas.Areas.write_number.Goals.{After-write_number}

pub write_number-requires-clause-private : goal.write_number-requires-clause-private
write_number-requires-clause-private c =
    let old = c.index_mut.result.now in
    let are = put_found c.as_slice.result.now c.args.self.now.regions.items c.in-Some.index
    c.index_mut-region.result.now c.args.page old old c.as_slice.ensures.value c.args.self.now.in_order
    c.in-Some.ensures.within c.in-Some.ensures.held c.index_mut-region.ensures.value c.index_mut.ensures.value in
    ap (λ (m : Option Mapped). is_some (bytes_mapped m)) (sym are.mapped) ∙ c.requires.private

written : (c : After-write_number)
    → AreWritten c.args.page c.index_mut.result.now c.write_number.new.self c.args.self.now.regions.items
    (set c.args.self.now.regions.items c.in-Some.index
    (record {
      first = c.index_mut-region.result.now.first;
      pages = with_item c.index_mut-region.result.now.pages (c.args.page - c.index_mut-region.result.now.first)
          c.write_number.new.self;
    }))
written c = put_found c.as_slice.result.now c.args.self.now.regions.items c.in-Some.index c.index_mut-region.result.now
    c.args.page c.index_mut.result.now c.write_number.new.self c.as_slice.ensures.value c.args.self.now.in_order
    c.in-Some.ensures.within c.in-Some.ensures.held c.index_mut-region.ensures.value c.index_mut.ensures.value

pub invariant_of-self-clause-in_order : goal.invariant_of-self-clause-in_order
invariant_of-self-clause-in_order c = (written (goal.at.invariant_of-self-clause-in_order c).After-write_number).order

pub invariant_of-self-clause-counted : goal.invariant_of-self-clause-counted
invariant_of-self-clause-counted c =
    c.args.self.now.counted ∙ sym (written (goal.at.invariant_of-self-clause-counted c).After-write_number).count

pub returns-clause-ok : goal.returns-clause-ok
returns-clause-ok c =
    write_ok c.write_number.result c.args.page c.index_mut.result.now c.write_number.new.self
    c.args.self.now.regions.items _ c.args.self.now.start c.args.self.now.program_break
    (λ bytes. with_number bytes c.args.offset c.args.width c.args.value)
    (written (goal.at.returns-clause-ok c).After-write_number) c.write_number.ensures.ok

pub returns-clause-own : goal.returns-clause-own
returns-clause-own c =
    write_owns c.write_number.result c.args.page c.index_mut.result.now c.write_number.new.self
    c.args.self.now.regions.items _ (written (goal.at.returns-clause-own c).After-write_number)
    c.write_number.ensures.own

pub returns-clause-err : goal.returns-clause-err
returns-clause-err c =
    write_err c.write_number.result c.args.page c.index_mut.result.now c.write_number.new.self
    c.args.self.now.regions.items _ c.args.self.now.start c.args.self.now.program_break
    (written (goal.at.returns-clause-err c).After-write_number) c.write_number.ensures.err

pub returns-clause-lacking : goal.returns-clause-lacking
returns-clause-lacking c =
    write_lacks c.write_number.result c.args.page c.index_mut.result.now c.write_number.new.self
    c.args.self.now.regions.items _ (written (goal.at.returns-clause-lacking c).After-write_number)
    c.write_number.ensures.lacking

pub returns-clause-kept : goal.returns-clause-kept
returns-clause-kept c =
    write_kept c.write_number.result c.args.page c.index_mut.result.now c.write_number.new.self
    c.args.self.now.regions.items _ (written (goal.at.returns-clause-kept c).After-write_number)
    c.write_number.ensures.err

pub returns-clause-others : goal.returns-clause-others
returns-clause-others c =
    write_others c.args.page c.index_mut.result.now c.write_number.new.self c.args.self.now.regions.items _
    (written (goal.at.returns-clause-others c).After-write_number)

pub returns-clause-rows : goal.returns-clause-rows
returns-clause-rows c =
    rows_same c.args.page c.index_mut.result.now c.write_number.new.self c.args.self.now.regions.items _
    (written (goal.at.returns-clause-rows c).After-write_number) c.write_number.ensures.row
