-- What the row of futex comes to, by the tests that it makes.
use Rattle.std.proofs.Common.{◌≡◌, ◌≢◌, ◌==◌, ◌&&◌, ◌||◌, not, ℕ, ◌%◌, true, false, List, Option, Some, None, refl, ap}
use Rattle.std.specs.Prelude.{option_map, if◌then◌else◌}
use Rattle.std.specs.Int.{from_le_bytes, w32}
use Rattle.std.proofs.lemmas.Bool.{eq-eqb, ne_eqb}
use Rattle.sn_errno.specs.declared.errno.Errno.TheVariants.{EFAULT, EINVAL, ENOSYS}
use Rattle.kernel_model.specs.declared.caller.Caller.{Caller}
use Rattle.kernel_model.specs.machine.FutexWords.{key_at}
use Rattle.kernel_model.specs.calls.Answers.{refuses}
use Rattle.kernel_model.specs.calls.Futex.{by_word, futex_of, is_wait, is_wake, sleeps_on, wakes_on}
use Rattle.kernel_model.specs.entries.Areas.{bytes_read}
use Rattle.kernel_model.specs.entries.Parts.{Parts, outcome_in}
use Rattle.kernel_model.proofs.Trees.{outcome-bind}

module _ (s : Parts) (c : Caller) (address operation value timeout : ℕ) where
  -- another operation,
  pub operation_unknown : (is_wait operation || is_wake operation) ≡ false
      → outcome_in s (futex_of address operation value timeout c) ≡ refuses ENOSYS
  operation_unknown unknown = rw unknown refl

  -- an address that is no multiple of 4,
  pub address_odd : (is_wait operation || is_wake operation) ≡ true → address % 4 ≢ 0
      → outcome_in s (futex_of address operation value timeout c) ≡ refuses EINVAL
  address_odd known odd = let is : (address % 4 == 0) ≡ false = ne_eqb (address % 4) 0 odd in rw (known, is) refl

  -- a timeout,
  pub timeout_there : (is_wait operation || is_wake operation) ≡ true → address % 4 ≡ 0
      → (is_wait operation && not (timeout == 0)) ≡ true
      → outcome_in s (futex_of address operation value timeout c) ≡ refuses ENOSYS
  timeout_there known even timed =
      let is : (address % 4 == 0) ≡ true = eq-eqb (address % 4) 0 even in rw (known, is, timed) refl

  -- and else by the word, where that may be read
  pub word_looked_at : (is_wait operation || is_wake operation) ≡ true → address % 4 ≡ 0
      → (is_wait operation && not (timeout == 0)) ≡ false
      → outcome_in s (futex_of address operation value timeout c)
      ≡ outcome_in s (by_word c address operation value (outcome_in s (bytes_read c.space address 4)))
  word_looked_at known even untimed =
      let is : (address % 4 == 0) ≡ true = eq-eqb (address % 4) 0 even in
      rw (known, is, untimed) (outcome-bind s (bytes_read c.space address 4) (by_word c address operation value))

  pub word_read : (bytes : Option (List ℕ)) (word : ℕ) → option_map (from_le_bytes w32) bytes ≡ Some word
      → outcome_in s (by_word c address operation value bytes)
      ≡ outcome_in s (if is_wait operation
      then sleeps_on c.task (key_at c.memory c.space address) word value
      else wakes_on (key_at c.memory c.space address) value)
  word_read (Some bytes) word is =
      let same : from_le_bytes w32 bytes ≡ word = cc in
      ap (λ w. outcome_in s (if is_wait operation
      then sleeps_on c.task (key_at c.memory c.space address) w value
      else wakes_on (key_at c.memory c.space address) value)) same
  word_read None word is = absurd (cc is)

  pub word_unread : (bytes : Option (List ℕ)) → option_map (from_le_bytes w32) bytes ≡ None
      → outcome_in s (by_word c address operation value bytes) ≡ refuses EFAULT
  word_unread (Some bytes) is = absurd (cc is)
  word_unread None is = refl
