use Rattle.std.proofs.Common.{◌-◌, ap, sym, ◌∙◌}
use Rattle.std.specs.Vec.{with_item}
use Rattle.std.proofs.Math.ListN.{set}
use Rattle.mm_frames.specs.Numbers.{with_number}
use Rattle.std.proofs.lemmas.Bool.{false≢true}
use Rattle.mm_areas.specs.Own.{is_own_at}
use Rattle.mm_areas.proofs.WriteLaws.{AreWritten, put_found, put_ok, put_unchanged, put_owned, put_fits, not_found}
use Rattle.mm_areas.proofs.RowLaws.{rows_same}
use Rattle.mm_areas.proofs.areas.Areas.put_number.Goals as goal
use Rattle.mm_areas.proofs.areas.Areas.put_number.Goals.{After-put_number}

pub returns-in-None-clause-fits : goal.returns-in-None-clause-fits
returns-in-None-clause-fits c =
    let none = not_found c.as_slice.result.now c.args.self.now.regions.items c.args.page c.as_slice.ensures.value
    c.args.self.now.in_order c.in-None.ensures.mapped in
    ((λ h. absurd (false≢true h)), (λ h. absurd (false≢true (sym (ap is_own_at none) ∙ h.0))))

written : (c : After-put_number)
    → AreWritten c.args.page c.index_mut.result.now c.put_number.new.self c.args.self.now.regions.items
    (set c.args.self.now.regions.items c.in-Some.index
    (record {
      first = c.index_mut-region.result.now.first;
      pages = with_item c.index_mut-region.result.now.pages (c.args.page - c.index_mut-region.result.now.first)
          c.put_number.new.self;
    }))
written c = put_found c.as_slice.result.now c.args.self.now.regions.items c.in-Some.index c.index_mut-region.result.now
    c.args.page c.index_mut.result.now c.put_number.new.self c.as_slice.ensures.value c.args.self.now.in_order
    c.in-Some.ensures.within c.in-Some.ensures.held c.index_mut-region.ensures.value c.index_mut.ensures.value

pub invariant_of-self-clause-in_order : goal.invariant_of-self-clause-in_order
invariant_of-self-clause-in_order c = (written (goal.at.invariant_of-self-clause-in_order c).After-put_number).order

pub invariant_of-self-clause-counted : goal.invariant_of-self-clause-counted
invariant_of-self-clause-counted c =
    c.args.self.now.counted ∙ sym (written (goal.at.invariant_of-self-clause-counted c).After-put_number).count

pub returns-in-Some-clause-fits : goal.returns-in-Some-clause-fits
returns-in-Some-clause-fits c =
    put_fits c.args.page c.index_mut.result.now c.put_number.new.self c.args.self.now.regions.items _
    (written (goal.at.returns-in-Some-clause-fits c).After-put_number) c.put_number.ensures.fits

pub returns-in-Some-clause-bytes : goal.returns-in-Some-clause-bytes
returns-in-Some-clause-bytes c =
    put_ok c.put_number.result c.args.page c.index_mut.result.now c.put_number.new.self c.args.self.now.regions.items _
    c.args.self.now.start c.args.self.now.program_break
    (λ bytes. with_number bytes c.args.offset c.args.width c.args.value)
    (written (goal.at.returns-in-Some-clause-bytes c).After-put_number) c.put_number.ensures.bytes

pub returns-in-Some-clause-unchanged : goal.returns-in-Some-clause-unchanged
returns-in-Some-clause-unchanged c =
    put_unchanged c.put_number.result c.args.page c.index_mut.result.now c.put_number.new.self
    c.args.self.now.regions.items _ c.args.self.now.start c.args.self.now.program_break
    (written (goal.at.returns-in-Some-clause-unchanged c).After-put_number) c.put_number.ensures.unchanged

pub returns-in-Some-clause-owned : goal.returns-in-Some-clause-owned
returns-in-Some-clause-owned c =
    put_owned c.args.page c.index_mut.result.now c.put_number.new.self c.args.self.now.regions.items _
    (written (goal.at.returns-in-Some-clause-owned c).After-put_number) c.put_number.ensures.own

pub returns-in-Some-clause-rows : goal.returns-in-Some-clause-rows
returns-in-Some-clause-rows c =
    rows_same c.args.page c.index_mut.result.now c.put_number.new.self c.args.self.now.regions.items _
    (written (goal.at.returns-in-Some-clause-rows c).After-put_number) c.put_number.ensures.row
