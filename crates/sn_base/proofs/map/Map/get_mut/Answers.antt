use Rattle.std.proofs.Common.{ap, sym, ◌∙◌}
use Rattle.std.specs.FinMap as map
use Rattle.sn_base.proofs.Maps.{get_entry, one_inserted}
use Rattle.sn_base.proofs.MapBorrows.{read_alike, some_copied}
use Rattle.sn_base.proofs.map.Map.get_mut.Goals as goal

pub returns : goal.returns
returns g c =
    let key = c.args.key in
    let was = c.self.inside.entries in (
      read_alike c.get_mut.result _ _ _ _
          (λ s w.
          one_inserted was.entries (c.get_mut.follows.lender w).entries key w
          ((c.get_mut.follows.holds w).3 (some_copied c.get_mut.result _ c.get_mut.ensures.value s)).0
          ∙ ap (λ m. map.insert m key w) c.self.view_is)
          (ap (λ t. map.from_entries t.entries) c.get_mut.follows.holds-at-none ∙ c.self.view_is),
      record {
        writes_back = tt;
        value = c.get_mut.ensures.value ∙ sym (get_entry was.entries key)
            ∙ ap (λ m. map.get m key) c.self.view_is;
      },
    )
