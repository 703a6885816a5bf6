-- How far the bytes of strings are counted.
use Rattle.std.proofs.Common.{◌≡◌, take}
use Rattle.image_load.specs.Stacks.{strings_length}
use Rattle.image_load.proofs.strings.strings_length.Given as goal

-- the bytes of the strings that were looked at
abbrev pub invariant-loop-string : goal.invariant-loop-string
invariant-loop-string l = l.length ≡ strings_length (take l.string-index l.strings)
