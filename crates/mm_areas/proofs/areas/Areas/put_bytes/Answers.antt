use Rattle.std.proofs.Common.{◌-◌, ap, sym, ◌∙◌}
use Rattle.std.specs.Vec.{with_item}
use Rattle.std.proofs.Math.ListN.{set}
use Rattle.mm_frames.specs.Numbers.{with_run}
use Rattle.std.proofs.lemmas.Bool.{false≢true}
use Rattle.mm_areas.specs.Own.{is_own_at}
use Rattle.mm_areas.proofs.WriteLaws.{AreWritten, put_found, put_ok, put_unchanged, put_owned, put_fits, not_found}
use Rattle.mm_areas.proofs.RowLaws.{rows_others, put_drops, put_keeps}
use Rattle.mm_areas.proofs.areas.Areas.put_bytes.Goals as goal
use Rattle.mm_areas.proofs.areas.Areas.put_bytes.Goals.{After-put_bytes}

pub returns-in-None-clause-fits : goal.returns-in-None-clause-fits
returns-in-None-clause-fits c =
    let none = not_found c.as_slice.result.now c.args.self.now.regions.items c.args.page c.as_slice.ensures.value
    c.args.self.now.in_order c.in-None.ensures.mapped in
    ((λ h. absurd (false≢true h)), (λ h. absurd (false≢true (sym (ap is_own_at none) ∙ h.0))))

written : (c : After-put_bytes)
    → AreWritten c.args.page c.index_mut.result.now c.put_bytes.new.self c.args.self.now.regions.items
    (set c.args.self.now.regions.items c.in-Some.index
    (record {
      first = c.index_mut-region.result.now.first;
      pages = with_item c.index_mut-region.result.now.pages (c.args.page - c.index_mut-region.result.now.first)
          c.put_bytes.new.self;
    }))
written c = put_found c.as_slice.result.now c.args.self.now.regions.items c.in-Some.index c.index_mut-region.result.now
    c.args.page c.index_mut.result.now c.put_bytes.new.self c.as_slice.ensures.value c.args.self.now.in_order
    c.in-Some.ensures.within c.in-Some.ensures.held c.index_mut-region.ensures.value c.index_mut.ensures.value

pub invariant_of-self-clause-in_order : goal.invariant_of-self-clause-in_order
invariant_of-self-clause-in_order c = (written (goal.at.invariant_of-self-clause-in_order c).After-put_bytes).order

pub invariant_of-self-clause-counted : goal.invariant_of-self-clause-counted
invariant_of-self-clause-counted c =
    c.args.self.now.counted ∙ sym (written (goal.at.invariant_of-self-clause-counted c).After-put_bytes).count

pub returns-in-Some-clause-fits : goal.returns-in-Some-clause-fits
returns-in-Some-clause-fits c =
    put_fits c.args.page c.index_mut.result.now c.put_bytes.new.self c.args.self.now.regions.items _
    (written (goal.at.returns-in-Some-clause-fits c).After-put_bytes) c.put_bytes.ensures.fits

pub returns-in-Some-clause-bytes : goal.returns-in-Some-clause-bytes
returns-in-Some-clause-bytes c =
    put_ok c.put_bytes.result c.args.page c.index_mut.result.now c.put_bytes.new.self c.args.self.now.regions.items _
    c.args.self.now.start c.args.self.now.program_break (λ bytes. with_run bytes c.args.offset c.args.run.now)
    (written (goal.at.returns-in-Some-clause-bytes c).After-put_bytes) c.put_bytes.ensures.bytes

pub returns-in-Some-clause-unchanged : goal.returns-in-Some-clause-unchanged
returns-in-Some-clause-unchanged c =
    put_unchanged c.put_bytes.result c.args.page c.index_mut.result.now c.put_bytes.new.self
    c.args.self.now.regions.items _ c.args.self.now.start c.args.self.now.program_break
    (written (goal.at.returns-in-Some-clause-unchanged c).After-put_bytes) c.put_bytes.ensures.unchanged

pub returns-in-Some-clause-owned : goal.returns-in-Some-clause-owned
returns-in-Some-clause-owned c =
    put_owned c.args.page c.index_mut.result.now c.put_bytes.new.self c.args.self.now.regions.items _
    (written (goal.at.returns-in-Some-clause-owned c).After-put_bytes) c.put_bytes.ensures.own

pub returns-in-Some-clause-row : goal.returns-in-Some-clause-row
returns-in-Some-clause-row c =
    put_drops c.put_bytes.result c.args.page c.index_mut.result.now c.put_bytes.new.self c.args.self.now.regions.items _
    (written (goal.at.returns-in-Some-clause-row c).After-put_bytes) c.put_bytes.ensures.row

pub returns-in-Some-clause-row_kept : goal.returns-in-Some-clause-row_kept
returns-in-Some-clause-row_kept c =
    put_keeps c.put_bytes.result c.args.page c.index_mut.result.now c.put_bytes.new.self c.args.self.now.regions.items _
    (written (goal.at.returns-in-Some-clause-row_kept c).After-put_bytes) c.put_bytes.ensures.unchanged

pub returns-in-Some-clause-rows : goal.returns-in-Some-clause-rows
returns-in-Some-clause-rows c =
    rows_others c.args.page c.index_mut.result.now c.put_bytes.new.self c.args.self.now.regions.items _
    (written (goal.at.returns-in-Some-clause-rows c).After-put_bytes)
