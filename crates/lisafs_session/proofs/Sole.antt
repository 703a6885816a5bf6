-- Bytes that spell one answer, which doesn't fit what was asked, are no answer of it.
use Rattle.std.proofs.Common.{◌≡◌, ◌⊎◌, ℕ, ◌<◌, true, leb, List, length, refl, subst, arith, inl, inr}
use Rattle.std.specs.Borrow.{Bor}
use Rattle.std.proofs.lemmas.Bool.{leb-true}
use Rattle.lisafs_wire.specs.declared.answer.PlainAnswer.TheVariants as answers
use Rattle.lisafs_wire.specs.Messages.{plain_answered}
use Rattle.lisafs_wire.specs.Spelling.{Message}
use Rattle.lisafs_session.specs.Operations.{IsReplyTo, Operation, plainly, pread, pwrite}
use Rattle.lisafs_session.specs.Replies.{HasNoReply}
use Rattle.lisafs_session.specs.Spelled.{Spells}

-- the bytes spell no other answer of that number
abbrev pub IsSole : ℕ → List ℕ → Message → Type 0
IsSole number bytes message =
    (answer : Message) → IsReplyTo (plainly number) answer → Spells bytes answer → answer ≡ message

by_number : (operation : Operation) (answer : Message) → IsReplyTo operation answer
    → IsReplyTo (plainly operation.number) answer
by_number operation answer h =
    elim h [
      | inl error ↦ inl error
      | inr reply ↦ inr (reply.0, refl)
    ]

pub no_reply : (operation : Operation) (bytes : List ℕ) (message : Message) → IsSole operation.number bytes message
    → (IsReplyTo operation message → ⊥) → HasNoReply operation bytes
no_reply operation bytes message sole none answer reply spelled =
    let same = sole answer (by_number operation answer reply) spelled in
    none (subst (IsReplyTo operation) same reply)

pub no_read : (count : ℕ) (bytes : List ℕ) (read : Bor (List ℕ)) → count < length read.now
    → IsSole 9 bytes (plain_answered (answers.PRead read)) → HasNoReply (pread count) bytes
no_read count bytes read long sole =
    no_reply (pread count) bytes (plain_answered (answers.PRead read)) sole (λ h.
    elim h [
      | inl error ↦ omega (arith, error)
      | inr reply ↦ omega (arith, long, leb-true (length read.now) count reply.1)
    ])

pub no_write : (size : ℕ) (bytes : List ℕ) (count : ℕ) → size < count
    → IsSole 10 bytes (plain_answered (answers.PWrite count)) → HasNoReply (pwrite size) bytes
no_write size bytes count more sole =
    no_reply (pwrite size) bytes (plain_answered (answers.PWrite count)) sole (λ h.
    elim h [
      | inl error ↦ omega (arith, error)
      | inr reply ↦ omega (arith, more, leb-true count size reply.1)
    ])
