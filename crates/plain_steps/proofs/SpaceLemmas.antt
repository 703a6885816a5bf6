-- A memory in its own place.
use Rattle.std.proofs.Common.{◌≡◌, ℕ, Option, Some, None, refl, ap, sym, ◌∙◌}
use Rattle.std.specs.Prelude.{unwrap_or}
use Rattle.std.specs.Option.{option_and_then}
use Rattle.std.specs.Ordering.{nat_cmp}
use Rattle.std.specs.FinMap as map
use Rattle.sn_base.proofs.Maps.{insert_same}
use Rattle.sn_base.specs.declared.made.Made.{Made}
use Rattle.mm_space.specs.Spaces.{AddressSpace}
use Rattle.kernel_model.specs.declared.kernel.Kernel.{Kernel}
use Rattle.kernel_model.specs.Names.{NamedMap, get_named, with_named}

-- a map where a name is set to what it has is the same
pub with_same : {V : Type 0} (names : NamedMap V) (place index : ℕ) (v : V) → get_named names place index ≡ Some v
    → with_named names place index v ≡ names
with_same {V} names place index v e = by (map.get names place) refl e
  where
    by : (o : Option (map.FinMap nat_cmp V)) → map.get names place ≡ o
        → option_and_then (λ m. map.get m index) o ≡ Some v
        → map.insert names place (map.insert (unwrap_or o map.empty) index v) ≡ names
    by None at e = absurd (cc e)
    by (Some m) at e =
        ap (map.insert names place) (insert_same m index v e) ∙ insert_same names place m at

-- so a kernel with an address space in its own place is the same
pub space_kept : (k : Kernel) (name : Made) (space after : AddressSpace)
    → Some space ≡ get_named k.spaces name.place name.index → after ≡ space
    → record k { spaces = with_named k.spaces name.place name.index after } ≡ k
space_kept k name space after found same =
    ap (λ s. record k { spaces = with_named k.spaces name.place name.index s }) same
    ∙ ap (λ m. record k { spaces = m }) (with_same k.spaces name.place name.index space (sym found))
