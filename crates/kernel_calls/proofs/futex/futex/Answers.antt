-- Each refusal of a futex call, and what is done by its word, as the row has it.
use Rattle.std.proofs.Common.{◌≡◌, ◌%◌, ◌^◌, refl, ap, sym, ◌∙◌}
use Rattle.std.specs.Prelude.{option_map, if◌then◌else◌}
use Rattle.std.specs.Int.{from_le_bytes, w32}
use Rattle.sn_errno.specs.declared.errno.Errno.TheVariants.{EFAULT, EINVAL, ENOSYS}
use Rattle.kernel_model.specs.machine.FutexWords.{key_at}
use Rattle.kernel_model.specs.calls.Futex.{futex_row, sleeps_on, wakes_on, is_wait}
use Rattle.kernel_model.specs.entries.Areas.{bytes_read}
use Rattle.kernel_model.specs.entries.Parts.{parts, outcome_in}
use Rattle.kernel_calls.proofs.Answering.{answers_refused, has_space}
use Rattle.guest_access.proofs.KernelAreas.{are_those}
use Rattle.kernel_calls.proofs.Coming.{comes_alike}
use Rattle.kernel_calls.proofs.FutexRows.{address_odd, operation_unknown, timeout_there}
use Rattle.kernel_calls.proofs.FutexRows.{word_looked_at, word_read, word_unread}
use Rattle.kernel_calls.proofs.futex.futex.Goals as goal

pub returns-then-not-is_known-clause-row : goal.returns-then-not-is_known-clause-row
returns-then-not-is_known-clause-row c caller k list console calling =
    let a = c.args in
    let w = a.args.now in
    answers_refused (futex_row w.a0 w.a1 w.a2 w.a3 caller) c.refused.result caller k a.space.now a.space.now a.areas.now
    (has_space caller k a.context.now a.space.now a.areas.now list a.sleepers.now console calling) ENOSYS
    (operation_unknown (parts k) caller w.a0 (w.a1 % 2 ^ 32) (w.a2 % 2 ^ 32) w.a3
    (sym c.is_known.ensures ∙ c.if-not-is_known.true))
    c.refused.ensures.reply c.refused.ensures.effect refl (sym calling.areas)

pub returns-then-address-ne0-clause-row : goal.returns-then-address-ne0-clause-row
returns-then-address-ne0-clause-row c caller k list console calling =
    let a = c.args in
    let w = a.args.now in
    answers_refused (futex_row w.a0 w.a1 w.a2 w.a3 caller) c.refused-then-address-ne0.result caller k a.space.now
    a.space.now a.areas.now
    (has_space caller k a.context.now a.space.now a.areas.now list a.sleepers.now console calling) EINVAL
    (address_odd (parts k) caller w.a0 (w.a1 % 2 ^ 32) (w.a2 % 2 ^ 32) w.a3
    (sym c.is_known.ensures ∙ c.if-not-is_known.false) c.if-address-ne0.true)
    c.refused-then-address-ne0.ensures.reply c.refused-then-address-ne0.ensures.effect refl (sym calling.areas)

pub returns-then-has_timeout-clause-row : goal.returns-then-has_timeout-clause-row
returns-then-has_timeout-clause-row c caller k list console calling =
    let a = c.args in
    let w = a.args.now in
    answers_refused (futex_row w.a0 w.a1 w.a2 w.a3 caller) c.refused-then-has_timeout.result caller k a.space.now
    a.space.now a.areas.now
    (has_space caller k a.context.now a.space.now a.areas.now list a.sleepers.now console calling) ENOSYS
    (timeout_there (parts k) caller w.a0 (w.a1 % 2 ^ 32) (w.a2 % 2 ^ 32) w.a3
    (sym c.is_known.ensures ∙ c.if-not-is_known.false) c.if-address-ne0.false
    (sym c.has_timeout.ensures ∙ c.if-has_timeout.true))
    c.refused-then-has_timeout.ensures.reply c.refused-then-has_timeout.ensures.effect refl (sym calling.areas)

pub returns-in-Some-clause-row : goal.returns-in-Some-clause-row
returns-in-Some-clause-row c caller k list console calling =
    let a = c.args in
    let w = a.args.now in
    let key : key_at caller.memory caller.space w.a0 ≡ c.key_at-key.result =
    ap (λ m. key_at m caller.space w.a0) calling.memory
    ∙ ap (λ s. key_at a.context.now.memory s w.a0) calling.space ∙ sym c.key_at-key.ensures in
    comes_alike c.by_word.result (futex_row w.a0 w.a1 w.a2 w.a3 caller) _ caller k a.space.now a.areas.now
    (word_looked_at (parts k) caller w.a0 (w.a1 % 2 ^ 32) (w.a2 % 2 ^ 32) w.a3
    (sym c.is_known.ensures ∙ c.if-not-is_known.false) c.if-address-ne0.false
    (sym c.has_timeout.ensures ∙ c.if-has_timeout.false)
    ∙ word_read (parts k) caller w.a0 (w.a1 % 2 ^ 32) (w.a2 % 2 ^ 32) w.a3
    (outcome_in (parts k) (bytes_read caller.space w.a0 4)) c.in-Some.word
    (ap (λ s. option_map (from_le_bytes w32) (outcome_in (parts k) (bytes_read s w.a0 4))) calling.space
    ∙ c.in_ok-word.ensures.word (parts k) (are_those k a.areas.now calling.areas) ∙ c.in-Some.is)
    ∙ ap (λ q. outcome_in (parts k) (if is_wait (w.a1 % 2 ^ 32)
    then sleeps_on caller.task q c.in-Some.word (w.a2 % 2 ^ 32)
    else wakes_on q (w.a2 % 2 ^ 32))) key)
    (c.by_word.ensures.row caller k a.space.now a.areas.now
    (has_space caller k a.context.now a.space.now a.areas.now list a.sleepers.now console calling) calling.areas
    calling.sleepers)

pub returns-in-None-clause-row : goal.returns-in-None-clause-row
returns-in-None-clause-row c caller k list console calling =
    let a = c.args in
    let w = a.args.now in
    answers_refused (futex_row w.a0 w.a1 w.a2 w.a3 caller) c.refused-in-None.result caller k a.space.now a.space.now
    a.areas.now (has_space caller k a.context.now a.space.now a.areas.now list a.sleepers.now console calling) EFAULT
    (word_looked_at (parts k) caller w.a0 (w.a1 % 2 ^ 32) (w.a2 % 2 ^ 32) w.a3
    (sym c.is_known.ensures ∙ c.if-not-is_known.false) c.if-address-ne0.false
    (sym c.has_timeout.ensures ∙ c.if-has_timeout.false)
    ∙ word_unread (parts k) caller w.a0 (w.a1 % 2 ^ 32) (w.a2 % 2 ^ 32) w.a3
    (outcome_in (parts k) (bytes_read caller.space w.a0 4))
    (ap (λ s. option_map (from_le_bytes w32) (outcome_in (parts k) (bytes_read s w.a0 4))) calling.space
    ∙ c.in_ok-word.ensures.word (parts k) (are_those k a.areas.now calling.areas) ∙ c.in-None.is))
    c.refused-in-None.ensures.reply c.refused-in-None.ensures.effect refl (sym calling.areas)
