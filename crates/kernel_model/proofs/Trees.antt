-- Decision trees: what they come to, in states that agree on what they look at, and one behind another.
use Rattle.std.proofs.Common.{◌≡◌, List, ◌∷◌, ◌++◌, refl, ap, sym, ◌∙◌, inl, inr}
use Rattle.kernel_model.specs.declared.kernel.Part.{Part}
use Rattle.kernel_model.specs.entries.Parts.{Holds, Parts, Prog, done, look, outcome_in, uses, ◌>>=◌, AgreeOn}

-- states that agree on what a tree looks at bring it to the same, and it looks at the same
pub outcome_alike : {A : Type 0} (a b : Parts) (tree : Prog A) → AgreeOn (uses a tree) a b
    → (uses b tree ≡ uses a tree) × (outcome_in b tree ≡ outcome_in a tree)
outcome_alike a b (done x) same = (refl, refl)
outcome_alike {A} a b (look part then) same =
    let here : b part ≡ a part = sym (same part (inl refl)) in
    let rest : (uses b (then (a part)) ≡ uses a (then (a part)))
    × (outcome_in b (then (a part)) ≡ outcome_in a (then (a part))) =
    outcome_alike a b (then (a part)) (λ q is. same q (inr is)) in (
      ap (λ (c : Holds part). part ∷ uses b (then c)) here ∙ ap (λ (ps : List Part). part ∷ ps) rest.0,
      ap (λ (c : Holds part). outcome_in b (then c)) here ∙ rest.1,
    )

-- a tree and then another
pub outcome-bind : {A B : Type 0} (s : Parts) (tree : Prog A) (next : A → Prog B)
    → outcome_in s (tree >>= next) ≡ outcome_in s (next (outcome_in s tree))
outcome-bind s (done a) next = refl
outcome-bind s (look part rest) next = outcome-bind s (rest (s part)) next

pub uses-bind : {A B : Type 0} (s : Parts) (tree : Prog A) (next : A → Prog B)
    → uses s (tree >>= next) ≡ uses s tree ++ uses s (next (outcome_in s tree))
uses-bind s (done a) next = refl
uses-bind s (look part rest) next = ap (λ (ps : List Part). part ∷ ps) (uses-bind s (rest (s part)) next)
