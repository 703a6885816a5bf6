use Rattle.std.proofs.Common.{Option, ◌+◌, ◌-◌, ◌%◌, ◌^◌, ap, sym, subst, ◌∙◌}
use Rattle.std.specs.Option.{option_or}
use Rattle.rv_table.specs.declared.error.Area.{Area}
use Rattle.rv_table.specs.Bytes.{first_area}
use Rattle.mm_space.specs.Accesses.{byte_at}
use Rattle.mm_space.specs.PageSights.{sight_area}
use Rattle.mm_space.specs.Spaces.{reach}
use Rattle.mm_space.proofs.Accessed.{room_there, no_room_there, no_area_there}
use Rattle.mm_space.proofs.SeenPages.{IsSeen}
use Rattle.mm_space.proofs.Walks.{IsPiece, area_end, area_step, barred_end, barred_step, option_or_assoc, unbarred_step}
use Rattle.mm_space.proofs.space.Space.allowed.Goals as goal

pub returns-in-Barred-clause-room : goal.returns-in-Barred-clause-room
returns-in-Barred-clause-room c =
    let r = reach c.args.self.now c.args.handed.now in
    let seen : IsSeen c.args.right r _ c.page_sight-sight.result =
    record { bytes = c.page_sight-sight.ensures.bytes; whole = c.page_sight-sight.ensures.whole } in
    no_room_there (byte_at c.args.right r) c.args.at c.args.count c.loop-left.address
    (c.loop-left.invariant.barred
    ∙ barred_step c.args.right r c.loop-left.address c.loop-left.left
    c.loop-left.auto.address-fits.fits c.loop-left-test.true
    (subst (IsSeen c.args.right r _) c.in-Barred.is seen))

pub loop-left-preserved : goal.loop-left-preserved
loop-left-preserved c =
    let r = reach c.args.self.now c.args.handed.now in
    let sight = c.page_sight-sight.result in
    let seen : IsSeen c.args.right r _ sight =
    record { bytes = c.page_sight-sight.ensures.bytes; whole = c.page_sight-sight.ensures.whole } in
    let is : IsPiece c.loop-left.address c.loop-left.left c.in_page-piece.result = record {
      small = c.loop-left.auto.address-fits.fits;
      within = c.in_page-piece.ensures.within;
      inside = c.in_page-piece.ensures.page;
      some = c.in_page-piece.ensures.some c.loop-left-test.true;
    } in
    let rest = first_area (byte_at c.args.right r) ((c.loop-left.address + c.in_page-piece.result) % 2 ^ 64)
    (c.loop-left.left - c.in_page-piece.result) in
    record {
      barred = c.loop-left.invariant.barred
          ∙ unbarred_step c.args.right r c.loop-left.address c.loop-left.left c.in_page-piece.result is sight seen
          c.in_default.not-Barred;
      area =
          c.loop-left.invariant.area
          ∙ ap (option_or c.loop-left.asked)
          (area_step c.args.right r c.loop-left.address c.loop-left.left c.in_page-piece.result is sight seen
          c.in_default.not-Barred)
          ∙ option_or_assoc c.loop-left.asked (sight_area sight) rest
          ∙ ap (λ (o : Option Area). option_or o rest) (ap (option_or c.loop-left.asked) (sym c.area.ensures)
          ∙ sym c.or-asked.ensures);
    }

pub returns-in-Some-clause-room : goal.returns-in-Some-clause-room
returns-in-Some-clause-room c =
    let byte = byte_at c.args.right (reach c.args.self.now c.args.handed.now) in
    no_area_there byte c.args.at c.args.count c.in-Some.area
    (c.loop-left.invariant.barred ∙ barred_end byte c.loop-left.address c.loop-left.left c.loop-left-test.false)
    (c.loop-left.invariant.area
    ∙ area_end byte c.loop-left.address c.loop-left.left c.loop-left.asked c.loop-left-test.false ∙ c.in-Some.is)

pub returns-in-None-clause-room : goal.returns-in-None-clause-room
returns-in-None-clause-room c =
    let byte = byte_at c.args.right (reach c.args.self.now c.args.handed.now) in
    room_there byte c.args.at c.args.count
    (c.loop-left.invariant.barred ∙ barred_end byte c.loop-left.address c.loop-left.left c.loop-left-test.false)
    (c.loop-left.invariant.area
    ∙ area_end byte c.loop-left.address c.loop-left.left c.loop-left.asked c.loop-left-test.false ∙ c.in-None.is)
