-- How far strings are put, each with its zero byte.
use Rattle.std.proofs.Common.{◌≡◌, ◌++◌, take}
use Rattle.image_load.specs.Stacks.{strings_bytes}
use Rattle.image_load.proofs.strings.put_strings.Given as goal

-- the strings so far are there
abbrev pub invariant-loop-string : goal.invariant-loop-string
invariant-loop-string l = l.out ≡ l.initial.out ++ strings_bytes (take l.string-index l.strings)
