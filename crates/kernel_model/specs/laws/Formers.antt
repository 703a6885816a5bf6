-- What a name had before it was set, so that the setting can be taken back.
use Rattle.std.specs.Prelude.{◌≡◌, ℕ}
use Rattle.std.specs.FinMap.{contains_key}
use Rattle.kernel_model.specs.Names.{NamedMap, get_named}
use Rattle.kernel_model.specs.declared.named.Former.{Former}

-- this is what the name has, and whether its place has a map
-- profile
pub record IsFormer {V : Type 0} (former : Former V) (names : NamedMap V) (place index : ℕ) : Type 0 where
  pub value : former.value ≡ get_named names place index
  pub had_place : former.had_place ≡ contains_key names place
