use Rattle.std.proofs.Common.{◌<◌, sym, ap, subst, refl, ◌∙◌}
use Rattle.mm_space.specs.Places.{place_of}
use Rattle.mm_space.specs.Reserves.{leave_in_area}
use Rattle.mm_space.proofs.Placed.{alike_there, none_changed, put_there, stands, stands_within}
use Rattle.mm_space.proofs.handed.Handed.leave.Goals as goal

pub index_mut-requires : goal.index_mut-requires
index_mut-requires c =
    let name = c.args.page.now.area in
    subst (λ n. c.in-Some.place < n) (sym c.args.self.now.areas.ok.0)
    (stands_within name c.args.self.now.areas.items c.in-Some.place
    (stands name c.args.self.now.areas.items c.in-Some.place (ap (place_of name) (sym c.deref.ensures.value)
    ∙ sym c.place_of.ensures ∙ c.in-Some.is)))

pub returns-in-Some-clause-left : goal.returns-in-Some-clause-left
returns-in-Some-clause-left c =
    let name = c.args.page.now.area in
    put_there name c.args.self.now.areas.items c.in-Some.place c.index_mut.result.now _
    (record {
      found = ap (place_of name) (sym c.deref.ensures.value) ∙ sym c.place_of.ensures ∙ c.in-Some.is;
      was = c.index_mut.ensures.value;
      named = refl;
    })
    (leave_in_area c.args.task) c.leave.ensures.left

pub returns-in-Some-clause-owned : goal.returns-in-Some-clause-owned
returns-in-Some-clause-owned c =
    let name = c.args.page.now.area in
    alike_there name c.args.self.now.areas.items c.in-Some.place c.index_mut.result.now _
    (record {
      found = ap (place_of name) (sym c.deref.ensures.value) ∙ sym c.place_of.ensures ∙ c.in-Some.is;
      was = c.index_mut.ensures.value;
      named = refl;
    }) c.leave.ensures.owned

pub returns-in_default-clause-left : goal.returns-in_default-clause-left
returns-in_default-clause-left c =
    let name = c.args.page.now.area in
    sym (none_changed name (leave_in_area c.args.task) c.args.self.now.areas.items
    (ap (place_of name) (sym c.deref.ensures.value) ∙ sym c.place_of.ensures ∙ c.in_default.is))
