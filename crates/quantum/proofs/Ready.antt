-- Runs of bytes that are as ready as before, where each byte is.
use Rattle.std.proofs.Common.{◌≡◌, ℕ, zero, suc, ◌&&◌, refl, ap₂}
use Rattle.rv_table.specs.Bytes.{behind}
use Rattle.mm_space.specs.declared.handed.Handed.{Handed}
use Rattle.mm_space.specs.declared.space.Space.{Space}
use Rattle.mm_space.specs.Places.{AreAsReady, takes_no_memory}

pub as_ready : (space other : Space) (handed others : Handed) → AreAsReady space other handed others
    → (at count : ℕ) → takes_no_memory other others at count ≡ takes_no_memory space handed at count
unfolding takes_no_memory
as_ready space other handed others alike at zero = refl
as_ready space other handed others alike at (suc n) =
    ap₂ (λ first rest. first && rest) (alike at) (as_ready space other handed others alike (behind at) n)
