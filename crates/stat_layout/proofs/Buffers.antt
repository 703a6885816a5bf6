-- Records one after another, and what their buffers have in all.
use Rattle.std.proofs.Common.{◌≡◌, ℕ, ◌+◌, ◌*◌, ◌/◌, List, [], ◌∷◌, ◌++◌, take, length, get_or, ◌<◌, sym, ap, ◌∙◌}
use Rattle.std.proofs.Common.{arith}
use Rattle.std.proofs.lemmas.List.FromFn.{length-map-range_with_len, map-range_with_len_more}
use Rattle.std.proofs.lemmas.List.FromFn.{sum_by-map-range_with_len_more}
use Rattle.std.proofs.lemmas.List.Sums.{sum_by_more}
use Rattle.sn_base.specs.Sums.{capped}
use Rattle.sn_base.proofs.SumLaws.{capped-add}
use Rattle.stat_layout.specs.declared.iovec.IoVec.{IoVec}
use Rattle.stat_layout.specs.IoVecs.{iovec_at, first_iovecs, iovecs_in, total_of}

-- how many records are in some bytes
pub count_in : (bytes : List ℕ) → length (iovecs_in bytes) ≡ length bytes / 16
count_in bytes = length-map-range_with_len (λ n. iovec_at bytes (16 * n)) 0 (length bytes / 16)

-- one more record
pub one_more : (bytes : List ℕ) (k : ℕ) →
    first_iovecs bytes (k + 1) ≡ first_iovecs bytes k ++ iovec_at bytes (16 * k) ∷ []
one_more bytes k = map-range_with_len_more (λ n. iovec_at bytes (16 * n)) 0 k k (omega arith)

-- the total with one more record
pub total_more : (bytes : List ℕ) (k : ℕ) →
    capped (total_of (first_iovecs bytes (k + 1)))
    ≡ capped (capped (total_of (first_iovecs bytes k)) + (iovec_at bytes (16 * k)).length)
total_more bytes k =
    let at = λ (n : ℕ). iovec_at bytes (16 * n) in
    ap capped (sum_by-map-range_with_len_more (λ buffer. buffer.length) at 0 k k (omega arith))
    ∙ sym (capped-add (total_of (first_iovecs bytes k)) (iovec_at bytes (16 * k)).length)

-- the total with one more buffer
pub total_next : (buffers : List IoVec) (k : ℕ) (d : IoVec) → k < length buffers →
    capped (total_of (take (k + 1) buffers))
    ≡ capped (capped (total_of (take k buffers)) + (get_or buffers k d).length)
total_next buffers k d inside =
    ap capped (sum_by_more (λ buffer. buffer.length) buffers k d inside)
    ∙ sym (capped-add (total_of (take k buffers)) (get_or buffers k d).length)
