-- The last area in hand goes back into its place, and then the others.
use Rattle.std.proofs.Common.{◌≡◌, ◌+◌, length, length-append, [], ◌∷◌, sym, ◌∙◌, ap, subst, arith}
use Rattle.mm_space.specs.Handed.{hand_of, in_hand}
use Rattle.guest_access.specs.Lending.{AreThere, with_hand}
use Rattle.guest_access.proofs.Lendings.{there_rest, back_last}
use Rattle.guest_access.proofs.lending.+take_back.Goals as goal

pub replace-requires : goal.replace-requires
replace-requires t c =
    (there_rest (hand_of c.args.handed.now) (hand_of c.take_back.new.self) (in_hand c.in-Some.field-0) c.args.areas.now
    c.in-Some.ensures.last c.requires).0

pub take_back-requires-in-Some : goal.take_back-requires-in-Some
take_back-requires-in-Some t c =
    let longer : length (hand_of c.args.handed.now) ≡ length (hand_of c.take_back.new.self) + 1 =
    ap length c.in-Some.ensures.last
    ∙ length-append (hand_of c.take_back.new.self) (in_hand c.in-Some.field-0 ∷ []) in (
      omega (arith, c.decreases, longer),
      subst (λ m. AreThere (hand_of c.take_back.new.self) m) (sym c.replace.ensures)
          (there_rest (hand_of c.args.handed.now) (hand_of c.take_back.new.self) (in_hand c.in-Some.field-0)
          c.args.areas.now c.in-Some.ensures.last c.requires).1,
    )

pub returns-in-Some : goal.returns-in-Some
returns-in-Some t c =
    c.take_back-in-Some.ensures
    ∙ ap (with_hand (hand_of c.take_back.new.self)) c.replace.ensures
    ∙ back_last (hand_of c.args.handed.now) (hand_of c.take_back.new.self) (in_hand c.in-Some.field-0)
    c.args.areas.now c.in-Some.ensures.last
