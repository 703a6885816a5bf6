-- How far the room of strings is counted.
use Rattle.std.proofs.Common.{◌≡◌, take, min}
use Rattle.image_load.specs.Stacks.{strings_room}
use Rattle.image_load.proofs.strings.capped_room.Given as goal

-- the room of the strings that were looked at
abbrev pub invariant-loop-string : goal.invariant-loop-string
invariant-loop-string l = l.room ≡ min (strings_room (take l.string-index l.strings)) 65537
