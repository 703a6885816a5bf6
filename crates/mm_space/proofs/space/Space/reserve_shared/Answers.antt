use Rattle.std.proofs.Common.{List, Some, ap, sym, ◌∙◌}
use Rattle.rv_atomic.specs.declared.reservations.Reservation.{Reservation}
use Rattle.rv_atomic.specs.Reservations.{without}
use Rattle.mm_areas.specs.Mappings.{mapping}
use Rattle.mm_space.specs.Handed.{InHand, hand_of}
use Rattle.mm_space.specs.Spaces.{Reach}
use Rattle.mm_space.proofs.Undone.{undone}
use Rattle.mm_space.proofs.space.Space.reserve_shared.Goals as goal

pub returns-in-Err-clause-err : goal.returns-in-Err-clause-err
returns-in-Err-clause-err c =
    ap (λ (rs : List Reservation).
    (let r : Reach = record {
      space = record { mapping = mapping c.args.self.now.areas; reservations = rs };
      hand = hand_of c.reserve-3.new.self;
    } in r))
    (c.take.ensures.ended
    ∙ ap (λ (rs : List Reservation). without rs c.args.task) c.in_ok-reserve-2.ensures.ok
    ∙ undone c.args.self.now.reservations c.args.task c.args.at c.args.width
    (Some c.args.page.now.area) (sym c.is_reserving.ensures
    ∙ c.if-is_reserving.false))
    ∙ ap (λ (hand : List InHand).
    (let r : Reach =
    record {
      space = record {
        mapping = mapping c.args.self.now.areas;
        reservations = c.args.self.now.reservations;
      };
      hand = hand;
    } in r)) c.in-Err.ensures.err
