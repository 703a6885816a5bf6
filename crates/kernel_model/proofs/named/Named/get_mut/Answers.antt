use Rattle.std.proofs.Common.{◌≡◌, ap, sym, ◌∙◌}
use Rattle.std.specs.Prelude.{Some, unwrap_or}
use Rattle.std.specs.Option.{option_and_then}
use Rattle.std.specs.FinMap as map
use Rattle.sn_base.proofs.Maps.{insert_same}
use Rattle.sn_base.proofs.MapBorrows.{read_alike}
use Rattle.kernel_model.proofs.named.Named.get_mut.Goals as goal

pub returns : goal.returns
returns g c =
    let place = c.args.place in
    let was = c.self.inside.places in
    let made = c.in_ok-self-inside.field-0.now in
    let at_place : Some made ≡ map.get c.args.self.now place =
    c.in_ok-self-inside.ensures.value ∙ ap (λ m. map.get m place) c.self.view_is in (
      read_alike c.get_mut-2.result _ _ _ _
          (λ s w.
          ap (λ i. map.insert was place (map.insert made i w)) c.from.ensures
          ∙ ap (λ m. map.insert m place (map.insert made c.args.index w)) c.self.view_is
          ∙ ap (λ o. map.insert c.args.self.now place (map.insert (unwrap_or o map.empty) c.args.index w)) at_place)
          (insert_same was place made (sym c.in_ok-self-inside.ensures.value) ∙ c.self.view_is),
      record {
        writes_back = tt;
        value = c.get_mut-2.ensures.value ∙ ap (map.get made) c.from.ensures
            ∙ ap (option_and_then (λ m. map.get m c.args.index)) at_place;
      },
    )
