-- Lists that are read item by item.
use Rattle.std.proofs.Common.{List, ◌++◌, Option, option_map}

-- those that stand go before those that come
abbrev pub behind : {A : Type 0} → List A → Option (List A) → Option (List A)
behind done rest = option_map (λ more. done ++ more) rest
