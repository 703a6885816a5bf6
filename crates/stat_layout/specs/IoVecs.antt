-- Buffers that one call reads into or writes from: struct iovec, in bytes and as records.
use Rattle.std.specs.Prelude.{◌⊎◌, ℕ, ◌+◌, ◌-◌, ◌*◌, ◌/◌, ◌^◌, ◌<◌, ◌≤◌, List, length, map, sum_by, pos, ◌<ℤ◌}
use Rattle.std.specs.Int.{cast_signed, w64}
use Rattle.std.specs.List.{range_with_len}
use Rattle.sn_bytes.specs.Fields.{field}
use Rattle.stat_layout.specs.declared.iovec.IoVec.{IoVec}
use Rattle.stat_layout.specs.declared.iovec.IoVecErr.{IoVecErr}
use Rattle.stat_layout.specs.declared.iovec.IoVecErr.TheVariants.{Count, Sum, Memory}
use Rattle.stat_layout.specs.declared.iovec.TheConstants.{IOV_MAX}

-- a count that no call takes: as a signed number it's below 0 or above the most buffers that a call may have
-- readv(2), ERRORS, EINVAL; limits.h, IOV_MAX; its number, and that all 64 bits count: profile
abbrev pub IsOutOfRange : (count : ℕ) → Type 0
IsOutOfRange count = (cast_signed w64 count <ℤ pos 0) ⊎ (pos IOV_MAX <ℤ cast_signed w64 count)

-- the record at an offset
-- readv(2), struct iovec: iov_base, iov_len
abbrev pub iovec_at : List ℕ → (offset : ℕ) → IoVec
iovec_at bytes offset = record { base = field 8 offset bytes; length = field 8 (offset + 8) bytes }

-- the first records in some bytes, in order
-- readv(2), struct iovec: 16 bytes each
abbrev pub first_iovecs : List ℕ → (count : ℕ) → List IoVec
first_iovecs bytes count = map (λ k. iovec_at bytes (16 * k)) (range_with_len 0 count)

-- all records in some bytes, in order: as many as are there whole
-- readv(2), struct iovec; that a rest isn't looked at: profile
abbrev pub iovecs_in : List ℕ → List IoVec
iovecs_in bytes = first_iovecs bytes (length bytes / 16)

-- how many bytes the buffers have in all, as a number that never wraps
-- readv(2), iov_len
abbrev pub total_of : List IoVec → ℕ
total_of buffers = sum_by (λ buffer. buffer.length) buffers

-- they have more bytes than a call can answer
-- readv(2), ERRORS, EINVAL: the sum of the iov_len values overflows an ssize_t
abbrev pub IsTooLong : List IoVec → Type 0
IsTooLong buffers = 2 ^ 63 - 1 < total_of buffers

-- what a refusal may tell of the records in some bytes: that they are too long, or want of memory where they aren't
-- readv(2), ERRORS; malloc(3), ENOMEM; order of the errors: profile
abbrev pub IsVectorFaultOf : List ℕ → IoVecErr → Type 0
IsVectorFaultOf bytes Count = ⊥
IsVectorFaultOf bytes Sum = IsTooLong (iovecs_in bytes)
IsVectorFaultOf bytes Memory = total_of (iovecs_in bytes) ≤ 2 ^ 63 - 1
