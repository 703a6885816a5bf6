-- Each child can go back, and what is left leads to what all of them do.
use Rattle.std.proofs.Common.{◌+◌, length, drop, sym, ◌∙◌, subst}
use Rattle.std.proofs.lemmas.Iterator.Adapters.{YieldsList-from_vec}
use Rattle.std.proofs.lemmas.Iterator.Consumers.{YieldsList-turn}
use Rattle.std.proofs.lemmas.List.{length_push}
use Rattle.image_walk.specs.Granted.{CanGiveBack, GivesBack, told_of}
use Rattle.image_walk.proofs.GivingBack.{can_take, one_back, next_child}
use Rattle.image_walk.proofs.granted.Granted.give_back.Goals as goal

pub take_back-requires : goal.take_back-requires
take_back-requires g c =
    let told = g.N.HostNode.told in
    let lent = c.args.self.lent.items in
    let gives = c.into_iter-child-iterator.ensures.into_iter_gives in
    let yields =
    YieldsList-from_vec {s = c.into_iter-child-iterator.result} lent gives.0 (gives.1 ∙ c.args.self.lent.ok.0) in
    let t = YieldsList-turn yields c.loop-child.yielded c.loop-child.child-iterator
    c.loop-child.yielded_by c.next.result c.next.new.self c.in-Some.child c.in-Some.is c.next.ensures.steps in
    can_take (told c.loop-child.root) (c.in-Some.child.name, told c.in-Some.child.node)
    (told_of told (drop (length c.loop-child.yielded + 1) lent))
    (subst (CanGiveBack (told c.loop-child.root)) (next_child told lent (length c.loop-child.yielded) c.in-Some.child t)
    c.loop-child.invariant.2)

pub loop-child-preserved : goal.loop-child-preserved
loop-child-preserved g c =
    let told = g.N.HostNode.told in
    let lent = c.args.self.lent.items in
    let gives = c.into_iter-child-iterator.ensures.into_iter_gives in
    let yields =
    YieldsList-from_vec {s = c.into_iter-child-iterator.result} lent gives.0 (gives.1 ∙ c.args.self.lent.ok.0) in
    let t = YieldsList-turn yields c.loop-child.yielded c.loop-child.child-iterator
    c.loop-child.yielded_by c.next.result c.next.new.self c.in-Some.child c.in-Some.is c.next.ensures.steps in
    let rest = one_back (told c.loop-child.root) (told c.take_back.new.self)
    (c.in-Some.child.name, told c.in-Some.child.node)
    (told_of told (drop (length c.loop-child.yielded + 1) lent))
    (subst (CanGiveBack (told c.loop-child.root)) (next_child told lent (length c.loop-child.yielded) c.in-Some.child t)
    c.loop-child.invariant.2) c.take_back.ensures.tells in
    let more = length_push c.loop-child.yielded c.in-Some.child in (
      tt,
      tt,
      subst (λ n. CanGiveBack (told c.take_back.new.self) (told_of told (drop n lent))) (sym more) rest.can,
      (λ after gives. c.loop-child.invariant.3 after
          (subst (λ cs. GivesBack (told c.loop-child.root) cs after)
          (sym (next_child told lent (length c.loop-child.yielded) c.in-Some.child t))
          (rest.leads after
          (subst (λ n. GivesBack (told c.take_back.new.self) (told_of told (drop n lent)) after) more gives)))),
      c.take_back.ensures.faults ∙ c.loop-child.invariant.4,
    )
