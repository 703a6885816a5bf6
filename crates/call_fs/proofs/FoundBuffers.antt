-- What a call comes to whose buffers have records in memory.
use Rattle.std.proofs.Common.{◌≡◌, ℕ, ◌*◌, ◌-◌, ◌^◌, ◌≤◌, false, cond, List, Option, ap, subst, ◌∙◌}
use Rattle.sn_errno.specs.declared.errno.Errno.{Errno}
use Rattle.sn_errno.specs.declared.errno.Errno.TheVariants.{EFAULT, EINVAL}
use Rattle.std.specs.Prelude.{nat_lt}
use Rattle.mm_space.specs.Spaces.{AddressSpace}
use Rattle.stat_layout.specs.IoVecs.{iovecs_in, total_of}
use Rattle.stat_layout.specs.declared.iovec.IoVec.{IoVec}
use Rattle.kernel_model.specs.declared.caller.Caller.{Caller}
use Rattle.kernel_model.specs.declared.kernel.Kernel.{Kernel}
use Rattle.kernel_model.specs.calls.Answers.{Answer, refuses}
use Rattle.kernel_model.specs.calls.Lookups.{or_refuse}
use Rattle.kernel_model.specs.calls.Vectors.{if_countable, with_buffers}
use Rattle.kernel_model.specs.entries.Areas.{bytes_read}
use Rattle.kernel_model.specs.entries.Parts.{Prog, done, ◌>>=◌, outcome_in, parts}
use Rattle.kernel_model.proofs.Trees.{outcome-bind}
use Rattle.call_fs.specs.Records.{GoesOnWith, IsCountable}
use Rattle.call_fs.specs.declared.vectors.Vectors.{Vectors}
use Rattle.call_fs.specs.declared.vectors.Vectors.TheVariants.{Found, Refused}

-- they go on by what the records are, where there are not too many
pub found_by : (c : Caller) (k : Kernel) (own : AddressSpace) (at count : ℕ) (row : List IoVec → Prog Answer)
    (records : Option (List ℕ)) → nat_lt 1024 count ≡ false → c.space ≡ own
    → outcome_in (parts k) (bytes_read own at (16 * count)) ≡ records
    → outcome_in (parts k) (with_buffers c at count row)
    ≡ outcome_in (parts k) (or_refuse EFAULT (λ records. if_countable row (iovecs_in records)) records)
found_by c k own at count row records few same is =
    ap (λ b. outcome_in (parts k) (cond b (done (refuses EINVAL)) (bytes_read c.space at (16 * count)
    >>= or_refuse EFAULT (λ records. if_countable row (iovecs_in records))))) few
    ∙ outcome-bind (parts k) (bytes_read c.space at (16 * count))
    (or_refuse EFAULT (λ records. if_countable row (iovecs_in records)))
    ∙ ap (λ o. outcome_in (parts k) (or_refuse EFAULT (λ records. if_countable row (iovecs_in records)) o))
    (ap (λ s. outcome_in (parts k) (bytes_read s at (16 * count))) same ∙ is)

-- the same goes on, or is refused
pub goes_alike : (whole other : Prog Answer) (k : Kernel) (row : List IoVec → Prog Answer) (v : Vectors)
    → outcome_in (parts k) whole ≡ outcome_in (parts k) other → GoesOnWith other row v k → GoesOnWith whole row v k
goes_alike whole other k row (Refused errno) is goes = is ∙ goes
goes_alike whole other k row (Found buffers) is goes = is ∙ goes

-- by what has become of the records
pub goes_refused : (whole : Prog Answer) (k : Kernel) (row : List IoVec → Prog Answer) (v : Vectors) (errno : Errno)
    → v ≡ Refused errno → GoesOnWith whole row v k → outcome_in (parts k) whole ≡ refuses errno
goes_refused whole k row v errno is goes = subst (λ x. GoesOnWith whole row x k) is goes

pub goes_found : (whole : Prog Answer) (k : Kernel) (row : List IoVec → Prog Answer) (v : Vectors)
    (buffers : List IoVec) → v ≡ Found buffers → GoesOnWith whole row v k
    → outcome_in (parts k) whole ≡ outcome_in (parts k) (row buffers)
goes_found whole k row v buffers is goes = subst (λ x. GoesOnWith whole row x k) is goes

pub countable_found : (v : Vectors) (buffers : List IoVec) → v ≡ Found buffers → IsCountable v
    → total_of buffers ≤ 2 ^ 63 - 1
countable_found v buffers is fits = subst (λ x. IsCountable x) is fits
