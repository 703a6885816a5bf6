-- Own bytes that stay as they were.
use Rattle.std.proofs.Common.{◌≡◌, ℕ, Bool, true, false, List, ap, sym, ◌∙◌}
use Rattle.std.specs.Bool.{OnFalse}
use Rattle.std.specs.Global.{Box}
use Rattle.std.specs.Box.{with_value}
use Rattle.mm_frames.specs.declared.bytes.Bytes.{Bytes}
use Rattle.mm_frames.specs.declared.bytes.Bytes.TheVariants.{Own}

-- bytes behind which the same is written again are the same
pub same_own : (done : Bool) (own : Box (List ℕ)) (held : Bytes) (old new : List ℕ) → held ≡ Own own → old ≡ own.value
    → OnFalse done (new ≡ old) → OnFalse done (Own (with_value own new) ≡ held)
same_own true own held old new is was same = tt
same_own false own held old new is was same = ap (λ (bytes : List ℕ). Own (with_value own bytes)) (same ∙ was) ∙ sym is
