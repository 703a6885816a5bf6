-- What a look into a map found.
use Rattle.std.proofs.Common.{◌≡◌, Option, Some, None, ap, sym, ◌∙◌}
use Rattle.std.specs.Prelude.{is_some, option_copied}
use Rattle.std.specs.Option.{option_copied_mut}
use Rattle.std.specs.Borrow.{Bor, MutBor}

-- what was found is what is there
pub found : {A : Type 0} (r : Option (Bor A)) (o : Option A) (x : Bor A) → option_copied r ≡ o → r ≡ Some x
    → o ≡ Some x.now
found r o x e is = sym e ∙ ap option_copied is

pub not_found : {A : Type 0} (r : Option (Bor A)) (o : Option A) → option_copied r ≡ o → r ≡ None → o ≡ None
not_found r o e is = sym e ∙ ap option_copied is

-- the same of what was found for writing
pub found_mut : {A : Type 0} (r : Option (MutBor A)) (o : Option A) (x : MutBor A) → option_copied_mut r ≡ o
    → r ≡ Some x → o ≡ Some x.now
found_mut r o x e is = sym e ∙ ap option_copied_mut is

pub not_found_mut : {A : Type 0} (r : Option (MutBor A)) (o : Option A) → option_copied_mut r ≡ o → r ≡ None → o ≡ None
not_found_mut r o e is = sym e ∙ ap option_copied_mut is

-- whether it was found is whether it is there
pub is_some-found : {A : Type 0} (r : Option (Bor A)) (o : Option A) → option_copied r ≡ o → is_some r ≡ is_some o
is_some-found None o e = ap is_some e
is_some-found (Some x) o e = ap is_some e
