use Rattle.std.proofs.Common.{◌-◌, sym, ◌∙◌}
use Rattle.std.specs.Vec.{with_item}
use Rattle.std.proofs.Math.ListN.{set}
use Rattle.mm_frames.specs.Numbers.{IsInPage, with_number}
use Rattle.mm_areas.specs.Hints.{is_hint}
use Rattle.mm_areas.proofs.WriteLaws.{AreWritten, put_ok, put_unchanged, put_owned, put_near, near_fits}
use Rattle.mm_areas.proofs.RowLaws.{rows_same}
use Rattle.mm_areas.proofs.areas.Areas.put_number_near.Goals as goal
use Rattle.mm_areas.proofs.areas.Areas.put_number_near.Goals.{After-put_allowed}

written : (c : After-put_allowed)
    → AreWritten c.args.page c.index_mut.result.now c.put_allowed.new.self c.args.self.now.regions.items
    (set c.args.self.now.regions.items c.args.hint
    (record {
      first = c.index_mut-region.result.now.first;
      pages = with_item c.index_mut-region.result.now.pages (c.args.page - c.index_mut-region.result.now.first)
          c.put_allowed.new.self;
    }))
written c = put_near c.args.self.now.regions.items c.args.hint c.index_mut-region.result.now c.args.page
    c.index_mut.result.now c.put_allowed.new.self c.args.self.now.in_order
    (sym c.if-not-is_near.ensures) c.index_mut-region.ensures.value c.index_mut.ensures.value

pub invariant_of-self-clause-in_order : goal.invariant_of-self-clause-in_order
invariant_of-self-clause-in_order c = (written (goal.at.invariant_of-self-clause-in_order c).After-put_allowed).order

pub invariant_of-self-clause-counted : goal.invariant_of-self-clause-counted
invariant_of-self-clause-counted c =
    c.args.self.now.counted ∙ sym (written (goal.at.invariant_of-self-clause-counted c).After-put_allowed).count

pub returns-clause-fits : goal.returns-clause-fits
returns-clause-fits c =
    near_fits c.args.page c.index_mut.result.now c.put_allowed.new.self c.args.self.now.regions.items _
    (is_hint c.args.self.now c.args.hint c.args.page) c.args.right (IsInPage c.args.offset c.args.width)
    (written (goal.at.returns-clause-fits c).After-put_allowed)
    (sym c.if-not-is_near.ensures) c.put_allowed.ensures.fits

pub returns-clause-bytes : goal.returns-clause-bytes
returns-clause-bytes c =
    put_ok c.put_allowed.result c.args.page c.index_mut.result.now c.put_allowed.new.self c.args.self.now.regions.items
    _ c.args.self.now.start c.args.self.now.program_break
    (λ bytes. with_number bytes c.args.offset c.args.width c.args.value)
    (written (goal.at.returns-clause-bytes c).After-put_allowed) c.put_allowed.ensures.bytes

pub returns-clause-unchanged : goal.returns-clause-unchanged
returns-clause-unchanged c =
    put_unchanged c.put_allowed.result c.args.page c.index_mut.result.now c.put_allowed.new.self
    c.args.self.now.regions.items _ c.args.self.now.start c.args.self.now.program_break
    (written (goal.at.returns-clause-unchanged c).After-put_allowed) c.put_allowed.ensures.unchanged

pub returns-clause-owned : goal.returns-clause-owned
returns-clause-owned c =
    put_owned c.args.page c.index_mut.result.now c.put_allowed.new.self c.args.self.now.regions.items _
    (written (goal.at.returns-clause-owned c).After-put_allowed) c.put_allowed.ensures.own

pub returns-clause-rows : goal.returns-clause-rows
returns-clause-rows c =
    rows_same c.args.page c.index_mut.result.now c.put_allowed.new.self c.args.self.now.regions.items _
    (written (goal.at.returns-clause-rows c).After-put_allowed) c.put_allowed.ensures.row
