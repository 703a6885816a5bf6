use Rattle.std.proofs.Common.{◌≡◌, ap, sym, ◌∙◌}
use Rattle.std.specs.Prelude.{Result, Ok, Err, OnErr}
use Rattle.std.specs.FinMap as map
use Rattle.sn_base.proofs.Maps.{insert_same}
use Rattle.kernel_model.proofs.named.Named.insert.Goals as goal

on_err : {A E P Q : Type 0} (r : Result A E) → (P → Q) → OnErr r P → OnErr r Q
on_err (Ok _) f p = p
on_err (Err _) f p = f p

pub returns-in-Some-clause-err : goal.returns-in-Some-clause-err
returns-in-Some-clause-err g c =
    let places = c.self.inside.places in
    let made = c.in-Some.made.now in
    on_err c.insert.result
    (λ (same : c.insert.new.self ≡ made). ap (map.insert places c.args.place) same
    ∙ insert_same places c.args.place made (sym c.in-Some.ensures.value) ∙ c.self.view_is)
    c.insert.ensures.err
