-- Buffers that are written one behind another.
use Rattle.std.specs.Prelude.{◌≡◌, ⊤, List, [], ◌∷◌, true}
use Rattle.mm_space.specs.declared.handed.Handed.{Handed}
use Rattle.mm_space.specs.declared.space.Space.{Space}
use Rattle.mm_space.specs.Places.{takes_no_memory}
use Rattle.stat_layout.specs.declared.iovec.IoVec.{IoVec}

-- the pages of each of them have their bytes for themselves
-- fork(2), NOTES: copy-on-write pages
abbrev pub AreReady : Space → Handed → List IoVec → Type 0
AreReady space handed [] = ⊤
AreReady space handed (b ∷ buffers) = (takes_no_memory space handed b.base b.length ≡ true)
    × AreReady space handed buffers
