-- What a map by name ends as, where a `&mut` to what a name has is handed out.
use Rattle.std.specs.Prelude.{ℕ, Option}
use Rattle.std.specs.Borrow.{LendsIf, Fml, RattleType, MutBor}
use Rattle.kernel_model.specs.Names.{NamedMap, with_named}
use Rattle.kernel_model.specs.contracts.named.Named.{the_row}

-- once the borrow r ends, the name has what r shows last; where there is none, the map stays as it was
-- BTreeMap::get_mut of Rust's standard library, by place and then by index
abbrev pub lends_named : (V : RattleType) → MutBor (NamedMap V.Denot) → (place index : ℕ) → Option (MutBor V.Denot)
    → Fml
lends_named V m place index r = LendsIf (the_row V) V m r (λ w. with_named m.now place index w) m.now
