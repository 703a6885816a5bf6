-- How far the auxiliary vector is put.
use Rattle.std.proofs.Common.{◌≡◌, ◌++◌, take}
use Rattle.std.specs.List.{flat_map}
use Rattle.sn_bytes.specs.Fields.{little_bytes}
use Rattle.image_load.proofs.words.put_auxiliary.Given as goal

-- the words so far are there
abbrev pub invariant-loop-word : goal.invariant-loop-word
invariant-loop-word l = l.out ≡ l.initial.out ++ flat_map (little_bytes 8) (take l.word-index l.word-items)
