use Rattle.std.proofs.Common.{◌-◌, ap, sym, ◌∙◌}
use Rattle.std.specs.Vec.{with_item}
use Rattle.std.proofs.Math.ListN.{set}
use Rattle.mm_areas.specs.Mappings.{with_pages, mapping}
use Rattle.mm_areas.proofs.WriteLaws.{AreWritten, put_found, write_same, write_lacks, write_kept, write_others}
use Rattle.std.proofs.lemmas.Bool.{false≢true}
use Rattle.mm_areas.proofs.OwnLaws.{own_ok, own_private, own_still, not_private}
use Rattle.mm_areas.proofs.RowLaws.{rows_same}
use Rattle.mm_areas.proofs.areas.Areas.own.Goals as goal
use Rattle.mm_areas.proofs.areas.Areas.own.Goals.{After-own}

written : (c : After-own) → AreWritten c.args.page c.index_mut.result.now c.own.new.self c.args.self.now.regions.items
    (set c.args.self.now.regions.items c.in-Some.index
    (record {
      first = c.index_mut-region.result.now.first;
      pages = with_item c.index_mut-region.result.now.pages
          (c.args.page - c.index_mut-region.result.now.first) c.own.new.self;
    }))
written c = put_found c.as_slice.result.now c.args.self.now.regions.items c.in-Some.index c.index_mut-region.result.now
    c.args.page c.index_mut.result.now c.own.new.self c.as_slice.ensures.value c.args.self.now.in_order
    c.in-Some.ensures.within c.in-Some.ensures.held c.index_mut-region.ensures.value c.index_mut.ensures.value

pub invariant_of-self-clause-in_order : goal.invariant_of-self-clause-in_order
invariant_of-self-clause-in_order c = (written (goal.at.invariant_of-self-clause-in_order c).After-own).order

pub invariant_of-self-clause-counted : goal.invariant_of-self-clause-counted
invariant_of-self-clause-counted c =
    c.args.self.now.counted ∙ sym (written (goal.at.invariant_of-self-clause-counted c).After-own).count

pub returns-in-Some-clause-mapped : goal.returns-in-Some-clause-mapped
returns-in-Some-clause-mapped c =
    ap (with_pages (mapping c.args.self.now))
    (write_same c.args.page c.index_mut.result.now c.own.new.self c.args.self.now.regions.items _
    (written (goal.at.returns-in-Some-clause-mapped c).After-own) c.own.ensures.mapped)

pub returns-in-Some-clause-own : goal.returns-in-Some-clause-own
returns-in-Some-clause-own c =
    own_ok c.own.result c.args.page c.index_mut.result.now c.own.new.self c.args.self.now.regions.items _
    (written (goal.at.returns-in-Some-clause-own c).After-own) c.own.ensures.own

pub returns-in-Some-clause-private : goal.returns-in-Some-clause-private
returns-in-Some-clause-private c =
    own_private c.own.result c.args.page c.index_mut.result.now c.own.new.self c.args.self.now.regions.items _
    (written (goal.at.returns-in-Some-clause-private c).After-own) c.own.ensures.private

pub returns-in-Some-clause-lacking : goal.returns-in-Some-clause-lacking
returns-in-Some-clause-lacking c =
    write_lacks c.own.result c.args.page c.index_mut.result.now c.own.new.self c.args.self.now.regions.items _
    (written (goal.at.returns-in-Some-clause-lacking c).After-own) c.own.ensures.lacking

pub returns-in-Some-clause-kept : goal.returns-in-Some-clause-kept
returns-in-Some-clause-kept c =
    write_kept c.own.result c.args.page c.index_mut.result.now c.own.new.self c.args.self.now.regions.items _
    (written (goal.at.returns-in-Some-clause-kept c).After-own) c.own.ensures.err

pub returns-in-Some-clause-others : goal.returns-in-Some-clause-others
returns-in-Some-clause-others c =
    write_others c.args.page c.index_mut.result.now c.own.new.self c.args.self.now.regions.items _
    (written (goal.at.returns-in-Some-clause-others c).After-own)

pub returns-in-Some-clause-still : goal.returns-in-Some-clause-still
returns-in-Some-clause-still c =
    own_still c.args.page c.index_mut.result.now c.own.new.self c.args.self.now.regions.items _
    (written (goal.at.returns-in-Some-clause-still c).After-own) c.own.ensures.still

pub returns-in-None-clause-own : goal.returns-in-None-clause-own
returns-in-None-clause-own c =
    λ h. absurd (false≢true
    (sym (not_private c.as_slice.result.now c.args.self.now.regions.items c.args.page c.as_slice.ensures.value
    c.in-None.ensures.mapped) ∙ h))

pub returns-in-Some-clause-rows : goal.returns-in-Some-clause-rows
returns-in-Some-clause-rows c =
    rows_same c.args.page c.index_mut.result.now c.own.new.self c.args.self.now.regions.items _
    (written (goal.at.returns-in-Some-clause-rows c).After-own) c.own.ensures.row
