-- Bytes of a buffer that go into a pipe, a page's after another's.
use Rattle.std.proofs.Common.{◌≡◌, ℕ, zero, suc, ◌+◌, ◌-◌, ◌%◌, ◌^◌, ◌<◌, ◌≤◌, true, false, List, ◌++◌, length}
use Rattle.std.proofs.Common.{take, Option, Some, None, refl, ap, sym, subst, ◌∙◌, arith, append-nil, append_assoc}
use Rattle.std.proofs.Common.{length-append}
use Rattle.std.proofs.Math.Seq.{take-append_seam}
use Rattle.rv_table.specs.Bytes.{Byte, behind}
use Rattle.mm_space.specs.Runs.{bytes_from}
use Rattle.mm_space.proofs.Splits.{bytes_none, bytes_split}
use Rattle.pipe_core.specs.Pipes.{PipeState, after_write}
use Rattle.guest_access.specs.Sending.{Sent}

-- how many bytes a run has
pub length_from : (byte : ℕ → Byte) (at count : ℕ) → length (bytes_from byte at count) ≡ count
unfolding bytes_from
length_from byte at zero = refl
length_from byte at (suc n) = ap suc (length_from byte (behind at) n)

-- the first of them are those of a shorter run
pub front_from : (byte : ℕ → Byte) (at count taken : ℕ) → at < 2 ^ 64 → taken ≤ count
    → bytes_from byte at taken ≡ take taken (bytes_from byte at count)
front_from byte at count taken small within =
    sym (take-append_seam (bytes_from byte at taken) rest)
    ∙ ap (λ n. take n (bytes_from byte at taken ++ rest)) (length_from byte at taken)
    ∙ ap (take taken) (sym (bytes_split byte at taken (count - taken) small))
    ∙ ap (λ n. take taken (bytes_from byte at n)) (omega arith)
  where
    rest : List ℕ
    rest = bytes_from byte ((at + taken) % 2 ^ 64) (count - taken)

-- nothing has been put, and then a piece more
pub put_none : (byte : ℕ → Byte) (at : ℕ) (pipe : PipeState) → pipe ≡ after_write pipe (bytes_from byte at 0)
put_none byte at pipe =
    sym (ap (λ bs. record { bytes = bs; readers = pipe.readers; writers = pipe.writers })
    (ap (λ bs. pipe.bytes ++ bs) (sym (bytes_none byte at)) ∙ append-nil pipe.bytes))

pub put_more : (byte : ℕ → Byte) (at done : ℕ) (piece : List ℕ) (pipe now new : PipeState) → at < 2 ^ 64
    → now ≡ after_write pipe (bytes_from byte at done) → new ≡ after_write now piece
    → piece ≡ bytes_from byte ((at + done) % 2 ^ 64) (length piece)
    → new ≡ after_write pipe (bytes_from byte at (done + length piece))
put_more byte at done piece pipe now new small before is lies =
    is ∙ ap (λ p. after_write p piece) before
    ∙ ap (λ bs. record { bytes = bs; readers = pipe.readers; writers = pipe.writers })
    (append_assoc pipe.bytes (bytes_from byte at done) piece
    ∙ ap (λ bs. pipe.bytes ++ bs)
    (ap (λ bs. bytes_from byte at done ++ bs) lies ∙ sym (bytes_split byte at done (length piece) small)))

pub length_put : (byte : ℕ → Byte) (at done : ℕ) (pipe now : PipeState)
    → now ≡ after_write pipe (bytes_from byte at done) → length now.bytes ≡ length pipe.bytes + done
length_put byte at done pipe now before =
    ap (λ (p : PipeState). length p.bytes) before
    ∙ length-append pipe.bytes (bytes_from byte at done)
    ∙ ap (λ n. length pipe.bytes + n) (length_from byte at done)

-- what was put are the first bytes that were read
pub sent_all : (byte : ℕ → Byte) (at count taken : ℕ) (pipe new : PipeState) (o : Option (List ℕ)) → at < 2 ^ 64
    → taken ≤ count → o ≡ Some (bytes_from byte at count) → new ≡ after_write pipe (bytes_from byte at taken)
    → Sent o true taken pipe new
sent_all byte at count taken pipe new o small within is put =
    subst (λ x. Sent x true taken pipe new) (sym is)
    (refl, put ∙ ap (after_write pipe) (front_from byte at count taken small within))

pub sent_none : (o : Option (List ℕ)) (taken : ℕ) (pipe : PipeState) → o ≡ None → Sent o false taken pipe pipe
sent_none o taken pipe is = subst (λ x. Sent x false taken pipe pipe) (sym is) (refl, refl)
