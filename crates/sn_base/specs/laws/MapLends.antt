-- What a map ends as, where a `&mut` to what a key has is handed out.
use Rattle.std.specs.Prelude.{ℕ, Option}
use Rattle.std.specs.Borrow.{LendsIf, Fml, RattleType, MutBor}
use Rattle.std.specs.Ordering.{nat_cmp}
use Rattle.std.specs.FinMap as map
use Rattle.sn_base.specs.contracts.map.Map.{the_row}

-- once the borrow r ends, the key has what r shows last; where there is none, the map stays as it was
-- BTreeMap::get_mut of Rust's standard library
abbrev pub lends_value : (V : RattleType) → MutBor (map.FinMap nat_cmp V.Denot) → ℕ → Option (MutBor V.Denot)
    → Fml
lends_value V m key r = LendsIf (the_row V) V m r (λ w. map.insert m.now key w) m.now
