-- The calls that write.
use Rattle.std.specs.Prelude.{◌≡◌, ℕ, ◌⊎◌, Some}
use Rattle.sn_errno.specs.declared.calls.CallNo.TheVariants.{Write, Writev, Pwrite64}
use Rattle.sn_errno.specs.Calls.{call_numbered}

-- the number of a call that writes
-- write(2), writev(2), pwrite(2)
abbrev pub IsWrite : (number : ℕ) → Type 0
IsWrite number = (call_numbered number ≡ Some Write) ⊎ (call_numbered number ≡ Some Writev)
    ⊎ (call_numbered number ≡ Some Pwrite64)
