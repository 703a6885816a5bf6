-- What the reader of a mount file answers, beside the definitions.
use Rattle.std.specs.Prelude.{◌≡◌, ℕ, ◌+◌, ◌*◌, ◌⊎◌, Option, Some, None, Result, Ok, Err, option_and_then, option_map}
use Rattle.sn_text.specs.declared.fault.NameFault.{NameFault}
use Rattle.sn_text.specs.declared.fault.NameFault.TheVariants.{Memory as NameMemory}
use Rattle.mount_file.specs.Values.{hex_value}
use Rattle.mount_file.specs.declared.mounts.MountFault.{MountFault}
use Rattle.mount_file.specs.declared.mounts.MountFault.TheVariants.{Range, Memory}

-- the answer is the value of the definition, or `Range` where that has none; want of memory says nothing
-- profile
abbrev pub Gives : {A : Type 0} → Option A → Result A MountFault → Type 0
Gives o (Ok value) = o ≡ Some value
Gives o (Err Range) = o ≡ None
Gives o (Err Memory) = Unit {0}
Gives o (Err _) = ⊥

-- the answer is that of the definition, or want of memory
-- profile
abbrev pub Reads : {A : Type 0} → Result A MountFault → Result A MountFault → Type 0
Reads read answer = (answer ≡ read) ⊎ (answer ≡ Err Memory)

-- what a fault of a name is to the reader of a mount file
-- profile
abbrev pub fault_of_name : NameFault → MountFault
fault_of_name NameMemory = Memory
fault_of_name _ = Range

-- the byte that two hexadecimal digits spell
-- xxd(1), plain style
abbrev pub hex_byte : ℕ → ℕ → Option ℕ
hex_byte high low = option_and_then (λ h. option_map (λ l. 16 * h + l) (hex_value low)) (hex_value high)
