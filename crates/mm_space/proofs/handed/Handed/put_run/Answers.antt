use Rattle.std.proofs.Common.{◌<◌, sym, ap, subst, refl, ◌∙◌}
use Rattle.mm_space.specs.Places.{place_of}
use Rattle.mm_space.specs.Runs.{put_run_in_area}
use Rattle.mm_space.proofs.Placed.{stands, stands_within, owned_there, alike_there, put_there, none_changed}
use Rattle.mm_space.proofs.handed.Handed.put_run.Goals as goal

pub index_mut-requires : goal.index_mut-requires
index_mut-requires c =
    let name = c.args.page.now.area in
    subst (λ n. c.in-Some.place < n) (sym c.args.self.now.areas.ok.0)
    (stands_within name c.args.self.now.areas.items c.in-Some.place
    (stands name c.args.self.now.areas.items c.in-Some.place (ap (place_of name) (sym c.deref.ensures.value)
    ∙ sym c.place_of.ensures ∙ c.in-Some.is)))

pub put_run-requires-clause-own : goal.put_run-requires-clause-own
put_run-requires-clause-own c =
    let name = c.args.page.now.area in
    sym (owned_there name c.args.self.now.areas.items c.in-Some.place c.index_mut.result.now c.index_mut.result.now
    (record {
      found = ap (place_of name) (sym c.deref.ensures.value) ∙ sym c.place_of.ensures ∙ c.in-Some.is;
      was = c.index_mut.ensures.value;
      named = refl;
    }) c.args.page.now.number)
    ∙ c.requires.own

pub returns-in-Some-clause-put : goal.returns-in-Some-clause-put
returns-in-Some-clause-put c =
    let name = c.args.page.now.area in
    put_there name c.args.self.now.areas.items c.in-Some.place c.index_mut.result.now _
    (record {
      found = ap (place_of name) (sym c.deref.ensures.value) ∙ sym c.place_of.ensures ∙ c.in-Some.is;
      was = c.index_mut.ensures.value;
      named = refl;
    })
    (put_run_in_area c.args.task c.args.page.now.number c.args.offset c.args.run.now) c.put_run.ensures.put

pub returns-in-Some-clause-owned : goal.returns-in-Some-clause-owned
returns-in-Some-clause-owned c =
    let name = c.args.page.now.area in
    alike_there name c.args.self.now.areas.items c.in-Some.place c.index_mut.result.now _
    (record {
      found = ap (place_of name) (sym c.deref.ensures.value) ∙ sym c.place_of.ensures ∙ c.in-Some.is;
      was = c.index_mut.ensures.value;
      named = refl;
    }) c.put_run.ensures.owned

pub returns-in_default-clause-put : goal.returns-in_default-clause-put
returns-in_default-clause-put c =
    let name = c.args.page.now.area in
    sym (none_changed name (put_run_in_area c.args.task c.args.page.now.number c.args.offset c.args.run.now)
    c.args.self.now.areas.items
    (ap (place_of name) (sym c.deref.ensures.value) ∙ sym c.place_of.ensures ∙ c.in_default.is))
