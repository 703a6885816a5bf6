-- The buffers of a call: one, or several whose records lie in memory.
use Rattle.std.specs.Prelude.{ℕ, ◌-◌, ◌*◌, ◌^◌, nat_lt, min, Bool, true, false, List, [], ◌∷◌, ◌++◌, length}
use Rattle.std.specs.Prelude.{take, drop, Option, Some, None, option_map, is_some, if◌then◌else◌}
use Rattle.sn_errno.specs.declared.errno.Errno.TheVariants.{EFAULT, EINVAL}
use Rattle.mm_areas.specs.declared.rights.Rights.{Rights}
use Rattle.mm_space.specs.Accesses.{writable}
use Rattle.mm_space.specs.Handed.{InHand}
use Rattle.mm_space.specs.Puts.{after_run_stored}
use Rattle.mm_space.specs.Spaces.{AddressSpace, Reach}
use Rattle.stat_layout.specs.IoVecs.{iovecs_in, total_of}
use Rattle.stat_layout.specs.declared.iovec.IoVec.{IoVec}
use Rattle.stat_layout.specs.declared.iovec.TheConstants.{IOV_MAX}
use Rattle.kernel_model.specs.declared.caller.Caller.{Caller}
use Rattle.kernel_model.specs.calls.Answers.{Answer, refuses}
use Rattle.kernel_model.specs.calls.Lookups.{or_refuse}
use Rattle.kernel_model.specs.entries.Areas.{access_row, access_tried, bytes_read, most_areas, tried_with}
use Rattle.kernel_model.specs.entries.Parts.{Prog, done, ◌>>=◌}
use Rattle.kernel_model.specs.machine.Spaces.{reach_with}

-- ---- which they are

-- one buffer
-- read(2), write(2)
abbrev pub one_buffer : (base count : ℕ) → List IoVec
one_buffer base count = record { base = base; length = count } ∷ []

-- those of records at an address, at most 1,024
-- readv(2), ERRORS: EINVAL, EFAULT; limits.h, IOV_MAX; their order: profile
abbrev pub if_countable : (List IoVec → Prog Answer) → List IoVec → Prog Answer
if_countable row buffers = if nat_lt (2 ^ 63 - 1) (total_of buffers) then done (refuses EINVAL) else row buffers

abbrev pub with_buffers : Caller → (at count : ℕ) → (List IoVec → Prog Answer) → Prog Answer
with_buffers c at count row =
    if nat_lt IOV_MAX count
    then done (refuses EINVAL)
    else bytes_read c.space at (16 * count) >>= or_refuse EFAULT (λ records. if_countable row (iovecs_in records))

-- the first bytes of buffers, so many at most
-- profile
abbrev pub cut : (most : ℕ) → List IoVec → List IoVec
cut most [] = []
cut most (b ∷ buffers) = record { base = b.base; length = min b.length most } ∷ cut (most - b.length) buffers

-- ---- what is done with them

-- whether each byte of them may be accessed so
-- readv(2), writev(2), EFAULT
abbrev pub are_accessible : Rights → AddressSpace → List IoVec → Prog Bool
are_accessible right space [] = done true
are_accessible right space (b ∷ buffers) =
    access_row right space b.base b.length
    >>= λ hand. if is_some hand then are_accessible right space buffers else done false

-- what is done where there is something
-- profile
abbrev pub if_some : {A B : Type 0} → (A → Prog (Option B)) → Option A → Prog (Option B)
if_some next None = done None
if_some next (Some x) = next x

-- their bytes, one buffer's behind another's, where each may be read
-- writev(2), DESCRIPTION
abbrev pub gathered : AddressSpace → List IoVec → Prog (Option (List ℕ))
gathered space [] = done (Some [])
gathered space (b ∷ buffers) =
    bytes_read space b.base b.length
    >>= if_some (λ first. gathered space buffers >>= λ rest. done (option_map (λ bytes. first ++ bytes) rest))

-- the shared areas that an access to each of them by a right needs, beside those in hand, or None where a byte may not
-- be accessed so
-- readv(2), EFAULT
abbrev pub accessed : Rights → AddressSpace → List IoVec → List InHand → Prog (Option (List InHand))
accessed right space [] hand = done (Some hand)
accessed right space (b ∷ buffers) hand =
    tried_with (access_tried right space b.base b.length) None most_areas hand
    >>= if_some (accessed right space buffers)

-- what is reached once a task has put bytes into them, each filled before the next
-- readv(2), DESCRIPTION
abbrev pub filled : (task : ℕ) → List ℕ → List IoVec → Reach → Reach
filled task bytes [] r = r
filled task bytes (b ∷ buffers) r =
    filled task (drop b.length bytes) buffers (after_run_stored task b.base (take b.length bytes) r)

abbrev pub filled_with : (task : ℕ) → AddressSpace → List ℕ → List IoVec → List InHand → Reach
filled_with task space bytes buffers hand = filled task bytes buffers (reach_with space hand)

-- the same, where each byte of them that is put may be written
-- readv(2), EFAULT
abbrev pub scattered : (task : ℕ) → AddressSpace → List ℕ → List IoVec → Prog (Option Reach)
scattered task space bytes buffers =
    accessed writable space (cut (length bytes) buffers) []
    >>= λ hand. done (option_map (filled_with task space bytes buffers) hand)
