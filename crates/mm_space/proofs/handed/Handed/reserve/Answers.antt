use Rattle.std.proofs.Common.{◌<◌, sym, ap, subst, refl, ◌∙◌}
use Rattle.mm_space.specs.Places.{place_of}
use Rattle.mm_space.specs.Reserves.{reserve_in_area}
use Rattle.mm_space.proofs.Placed.{none_changed, put_ok, same_err, stands, stands_within}
use Rattle.mm_space.proofs.handed.Handed.reserve.Goals as goal

pub index_mut-requires : goal.index_mut-requires
index_mut-requires c =
    let name = c.args.page.now.area in
    subst (λ n. c.in-Some.place < n) (sym c.args.self.now.areas.ok.0)
    (stands_within name c.args.self.now.areas.items c.in-Some.place
    (stands name c.args.self.now.areas.items c.in-Some.place (ap (place_of name) (sym c.deref.ensures.value)
    ∙ sym c.place_of.ensures ∙ c.in-Some.is)))

pub returns-in-Some-clause-ok : goal.returns-in-Some-clause-ok
returns-in-Some-clause-ok c =
    let name = c.args.page.now.area in
    put_ok name c.args.self.now.areas.items c.in-Some.place c.index_mut.result.now _
    (record {
      found = ap (place_of name) (sym c.deref.ensures.value) ∙ sym c.place_of.ensures ∙ c.in-Some.is;
      was = c.index_mut.ensures.value;
      named = refl;
    })
    c.reserve.result (reserve_in_area c.args.task c.args.page.now.number c.args.offset) c.reserve.ensures.ok

pub returns-in-Some-clause-err : goal.returns-in-Some-clause-err
returns-in-Some-clause-err c =
    let name = c.args.page.now.area in
    same_err name c.args.self.now.areas.items c.in-Some.place c.index_mut.result.now _
    (record {
      found = ap (place_of name) (sym c.deref.ensures.value) ∙ sym c.place_of.ensures ∙ c.in-Some.is;
      was = c.index_mut.ensures.value;
      named = refl;
    })
    c.reserve.result c.reserve.ensures.err

pub returns-in-None-clause-ok : goal.returns-in-None-clause-ok
returns-in-None-clause-ok c =
    let name = c.args.page.now.area in
    sym (none_changed name (reserve_in_area c.args.task c.args.page.now.number c.args.offset)
    c.args.self.now.areas.items
    (ap (place_of name) (sym c.deref.ensures.value) ∙ sym c.place_of.ensures ∙ c.in-None.is))
