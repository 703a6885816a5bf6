use Rattle.std.proofs.Common.{◌≡◌, ◌++◌, drop}
use Rattle.sn_vectors.specs.Images.{image, code}
use Rattle.sn_vectors.proofs.image.image_of.Given as goal

-- the bytes that stand, and those of the words that are left, are the image
abbrev pub invariant-loop-word : goal.invariant-loop-word
invariant-loop-word l = l.file.items ++ code (drop l.word-index l.words) ≡ image l.words
