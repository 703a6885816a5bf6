-- How far the addresses of strings are put.
use Rattle.std.proofs.Common.{◌≡◌, ◌+◌, ◌++◌, take}
use Rattle.std.specs.List.{flat_map}
use Rattle.sn_bytes.specs.Fields.{little_bytes}
use Rattle.image_load.specs.Stacks.{first_addresses, strings_length}
use Rattle.image_load.proofs.words.put_addresses.Given as goal

-- the addresses so far are there, and the next string stands behind those that were looked at
abbrev pub invariant-loop-string : goal.invariant-loop-string
invariant-loop-string l = record {
  words : l.out ≡ l.initial.out ++ flat_map (little_bytes 8) (first_addresses l.first l.strings l.string-index);
  behind : l.address ≡ l.first + strings_length (take l.string-index l.strings);
}
