use Rattle.std.proofs.Common.{◌≡◌, true, ap, sym, ◌∙◌}
use Rattle.std.specs.Prelude.{Option, None, is_some, Result, Ok, Err, OnOk, OnErr}
use Rattle.std.specs.FinMap as map
use Rattle.sn_base.proofs.Maps.{get_entry, one_inserted}
use Rattle.sn_base.proofs.map.Map.replace.Goals as goal

-- an error comes only where the key has nothing
at_ok : {A E V : Type 0} (P : Type 0) (r : Result A E) (o : Option V) → OnOk r P
    → OnErr r (o ≡ None) → is_some o ≡ true → P
at_ok P (Ok _) o p absent h = p
at_ok P (Err _) o p absent h = absurd (cc (ap is_some absent, h))

pub returns : goal.returns
returns g c =
    let es = c.self.inside.entries.entries in
    let there = ap is_some (sym (get_entry es c.args.key) ∙ ap (λ m. map.get m c.args.key) c.self.view_is)
    ∙ c.requires in
    let updates = at_ok _ c.insert.result _ c.insert.ensures.updates c.insert.ensures.absent there in
    one_inserted es c.insert.new.self.entries c.args.key c.args.value updates.0
    ∙ ap (λ m. map.insert m c.args.key c.args.value) c.self.view_is
