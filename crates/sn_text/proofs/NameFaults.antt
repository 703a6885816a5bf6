use Rattle.std.proofs.Common.{◌≡◌, ℕ, List, Bool, true, false, Some, None}
use Rattle.std.specs.Prelude.{if◌then◌else◌}
use Rattle.sn_text.specs.Names.{name_fault_of, IsNameFaultOf}
use Rattle.sn_text.specs.declared.fault.NameFault.{NameFault}
use Rattle.sn_text.specs.declared.fault.NameFault.TheVariants.{Empty, Long, Slash, Nul, Dot, Memory}

-- want of memory is no fault of the bytes
five_choices : (a b c d e : Bool) →
    (if a then Some Empty else if b then Some Long else if c then Some Slash else if d then Some Nul else if e
    then Some Dot else None) ≡ Some Memory → ⊥
five_choices true b c d e h = cc
five_choices false true c d e h = cc
five_choices false false true d e h = cc
five_choices false false false true e h = cc
five_choices false false false false true h = cc
five_choices false false false false false h = cc

never_Memory : (bytes : List ℕ) → name_fault_of bytes ≡ Some Memory → ⊥
unfolding name_fault_of
never_Memory bytes h = five_choices _ _ _ _ _ h

-- the first fault is one that a call may tell
pub fault_of_first : (bytes : List ℕ) (e : NameFault) → name_fault_of bytes ≡ Some e → IsNameFaultOf bytes e
fault_of_first bytes Empty h = h
fault_of_first bytes Long h = h
fault_of_first bytes Slash h = h
fault_of_first bytes Nul h = h
fault_of_first bytes Dot h = h
fault_of_first bytes Memory h = absurd (never_Memory bytes h)
