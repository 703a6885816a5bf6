use Rattle.std.proofs.Common.{◌<◌, sym, ap, subst, refl, ◌∙◌}
use Rattle.mm_space.specs.Places.{place_of}
use Rattle.mm_space.proofs.Placed.{stands, stands_within, own_there, lacking_there, still_there, same_there, none_owned}
use Rattle.mm_space.proofs.handed.Handed.own.Goals as goal

pub index_mut-requires : goal.index_mut-requires
index_mut-requires c =
    let name = c.args.page.now.area in
    subst (λ n. c.in-Some.place < n) (sym c.args.self.now.areas.ok.0)
    (stands_within name c.args.self.now.areas.items c.in-Some.place
    (stands name c.args.self.now.areas.items c.in-Some.place (ap (place_of name) (sym c.deref.ensures.value)
    ∙ sym c.place_of.ensures ∙ c.in-Some.is)))

pub returns-in-Some-clause-same : goal.returns-in-Some-clause-same
returns-in-Some-clause-same c =
    let name = c.args.page.now.area in
    same_there name c.args.self.now.areas.items c.in-Some.place c.index_mut.result.now _
    (record {
      found = ap (place_of name) (sym c.deref.ensures.value) ∙ sym c.place_of.ensures ∙ c.in-Some.is;
      was = c.index_mut.ensures.value;
      named = refl;
    }) c.own.ensures.same

pub returns-in-Some-clause-ok : goal.returns-in-Some-clause-ok
returns-in-Some-clause-ok c =
    let name = c.args.page.now.area in
    own_there name c.args.self.now.areas.items c.in-Some.place c.index_mut.result.now _
    (record {
      found = ap (place_of name) (sym c.deref.ensures.value) ∙ sym c.place_of.ensures ∙ c.in-Some.is;
      was = c.index_mut.ensures.value;
      named = refl;
    }) c.own.result _ c.own.ensures.ok

pub returns-in-Some-clause-still : goal.returns-in-Some-clause-still
returns-in-Some-clause-still c =
    let name = c.args.page.now.area in
    still_there name c.args.self.now.areas.items c.in-Some.place c.index_mut.result.now _
    (record {
      found = ap (place_of name) (sym c.deref.ensures.value) ∙ sym c.place_of.ensures ∙ c.in-Some.is;
      was = c.index_mut.ensures.value;
      named = refl;
    }) c.own.ensures.still

pub returns-in-Some-clause-lacking : goal.returns-in-Some-clause-lacking
returns-in-Some-clause-lacking c =
    let name = c.args.page.now.area in
    lacking_there name c.args.self.now.areas.items c.in-Some.place c.index_mut.result.now c.index_mut.result.now
    (record {
      found = ap (place_of name) (sym c.deref.ensures.value) ∙ sym c.place_of.ensures ∙ c.in-Some.is;
      was = c.index_mut.ensures.value;
      named = refl;
    }) c.own.result _ c.own.ensures.lacking

pub returns-in-None-clause-ok : goal.returns-in-None-clause-ok
returns-in-None-clause-ok c =
    let name = c.args.page.now.area in
    none_owned name c.args.page.now.number c.args.self.now.areas.items (ap (place_of name) (sym c.deref.ensures.value)
    ∙ sym c.place_of.ensures ∙ c.in-None.is)
