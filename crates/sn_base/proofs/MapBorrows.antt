-- What a map ends as after a `&mut` to one of its values.
use mathlib.Core.Path.{fun_ext}
use borrow.Follows.Closed.{read_of}
use Rattle.std.proofs.Common.{◌≡◌, inl, inr, refl, ap}
use Rattle.std.specs.Prelude.{Option, Some, None, IsSome}
use Rattle.std.specs.Option.{ghost_name_of, option_copied_mut}
use Rattle.std.specs.Borrow.{MutBor}
use Rattle.std.specs.FinMap as map
use Rattle.std.specs.BTreeMap as tree

-- a borrow ends alike by two functions of what it shows last that are alike where there is a borrow
pub read_alike : {D E : Type 0} (r : Option (MutBor E)) (F G : E → D) (v w : D) → (IsSome r → (x : E) → F x ≡ G x)
    → v ≡ w → read_of (ghost_name_of r) F v ≡ read_of (ghost_name_of r) G w
read_alike None F G v w same rest = ap inr rest
read_alike (Some r) F G v w same rest = ap (λ H. inl (r.ghost_name, H)) (fun_ext (same refl))

-- where there is a borrow, there was a value
pub some_copied : {E : Type 0} (r : Option (MutBor E)) (o : Option E) → option_copied_mut r ≡ o → IsSome r → IsSome o
some_copied None o e s = absurd (cc s)
some_copied (Some r) None e s = absurd (cc e)
some_copied (Some r) (Some x) e s = refl
