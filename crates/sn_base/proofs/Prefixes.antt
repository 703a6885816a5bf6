-- Laws of how lists begin.
use Rattle.std.proofs.Common.{◌≡◌, ℕ, List, [], ◌++◌, take, drop, refl, ap, sym, ◌∙◌, append_assoc}
use Rattle.std.proofs.lemmas.List.{append-nil, take-append-drop}
use Rattle.sn_base.specs.Prefix.{IsPrefixOf}

pub IsPrefixOf-refl : {A : Type 0} (xs : List A) → IsPrefixOf xs xs
IsPrefixOf-refl xs = ([], append-nil xs)

pub IsPrefixOf-trans : {A : Type 0} (xs ys zs : List A) → IsPrefixOf xs ys → IsPrefixOf ys zs → IsPrefixOf xs zs
IsPrefixOf-trans xs ys zs p q = (p.0 ++ q.0, sym (append_assoc xs p.0 q.0) ∙ ap (λ front. front ++ q.0) p.1 ∙ q.1)

pub IsPrefixOf-nil : {A : Type 0} (xs : List A) → IsPrefixOf [] xs
IsPrefixOf-nil xs = (xs, refl)

pub IsPrefixOf-append : {A : Type 0} (xs ys : List A) → IsPrefixOf xs (xs ++ ys)
IsPrefixOf-append xs ys = (ys, refl)

-- equal lists begin with one another
pub IsPrefixOf-same : {A : Type 0} (xs ys : List A) → xs ≡ ys → IsPrefixOf xs ys
IsPrefixOf-same xs ys e = ([], append-nil xs ∙ e)

pub IsPrefixOf-take : {A : Type 0} (n : ℕ) (xs : List A) → IsPrefixOf (take n xs) xs
IsPrefixOf-take n xs = (drop n xs, take-append-drop n xs)
