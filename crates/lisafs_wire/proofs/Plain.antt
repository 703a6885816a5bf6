-- Answers without lists: their table has the rows of the table of all answers.
use Rattle.std.proofs.Common.{◌≡◌, ◌≢◌, ℕ, ◌++◌, Bool, true, false, eqb, length, List, Option, Result, Ok}
use Rattle.std.proofs.Common.{Err, refl, sym, ap, subst, ◌∙◌}
use Rattle.std.specs.Prelude.{IfOk}
use Rattle.std.proofs.lemmas.Bool.{eqb-true}
use Rattle.lisafs_wire.specs.declared.fault.WireFault.{WireFault}
use Rattle.lisafs_wire.specs.Grammar.{Layout, answer_table, is_plain, layout_of, plain_table}
use Rattle.lisafs_wire.specs.Reading.{Gives, laid_out_at, message_at, numbered_at}
use Rattle.lisafs_wire.specs.Spelling.{IsLaidOut, IsMessageOf, Message, body_of, header_of, spelling}
use Rattle.lisafs_wire.proofs.Messages.{is_read, message_takes, some_layout}
use Rattle.lisafs_wire.proofs.Numbers.{IsBytes}
use Rattle.lisafs_wire.proofs.Sizes.{IsSound, is_sound}

eqb-no : (a b : ℕ) (t : Bool) → eqb a b ≡ t → b ≢ a → t ≡ false
eqb-no a b true e h = absurd (h (sym (eqb-true a b e)))
eqb-no a b false e h = refl

same_layout : (number : ℕ) → number ≢ 32772 → number ≢ 32784
    → layout_of plain_table number ≡ layout_of answer_table number
same_layout number no_walk no_list =
    rw (eqb-no 32772 number (eqb 32772 number) refl no_walk, eqb-no 32784 number (eqb 32784 number) refl no_list) refl

-- the body of such an answer is read in the same way by both tables
pub other_rows : (number : ℕ) (bytes : List ℕ) → number ≢ 32772 → number ≢ 32784
    → numbered_at answer_table number bytes ≡ numbered_at plain_table number bytes
other_rows number bytes no_walk no_list =
    ap (λ (found : Option Layout). laid_out_at number found bytes) (sym (same_layout number no_walk no_list))

true_false : true ≡ false → ⊥
true_false e = absurd cc

plain_layout : (number : ℕ) → is_plain number ≡ true → layout_of plain_table number ≡ layout_of answer_table number
plain_layout number plain =
    same_layout number (λ e. true_false (sym plain ∙ ap is_plain e)) (λ e. true_false (sym plain ∙ ap is_plain e))

-- a message of a table, by its layout
spelled_by : Option Layout → Message → List ℕ → Type 0
spelled_by found message bytes =
    IsLaidOut found message
    × (bytes ≡ header_of (length (body_of found message)) message.number ++ body_of found message)

to_answer : (bytes : List ℕ) (message : Message)
    → IsMessageOf plain_table message × (bytes ≡ spelling plain_table message)
    → IsMessageOf answer_table message × (bytes ≡ spelling answer_table message)
unfolding spelling spelled_by
to_answer bytes message h =
    subst (λ (found : Option Layout). spelled_by found message bytes)
    (plain_layout message.number (some_layout (layout_of plain_table message.number) message h.0)) h

to_plain : (bytes : List ℕ) (message : Message) → is_plain message.number ≡ true
    → IsMessageOf answer_table message × (bytes ≡ spelling answer_table message)
    → IsMessageOf plain_table message × (bytes ≡ spelling plain_table message)
unfolding spelling spelled_by
to_plain bytes message plain h =
    subst (λ (found : Option Layout). spelled_by found message bytes) (sym (plain_layout message.number plain)) h

plain_sound : IsSound plain_table
plain_sound = is_sound plain_table refl

pub plain_found : {A : Type 0} (view : A → Message) (r : Result A WireFault) (bytes : List ℕ) → IsBytes bytes
    → Gives view r (message_at plain_table bytes)
    → IfOk r (λ x. IsMessageOf answer_table (view x) × (bytes ≡ spelling answer_table (view x)))
plain_found view (Ok x) bytes fits read = to_answer bytes (view x) (message_takes plain_table bytes (view x) fits read)
plain_found view (Err fault) bytes fits read = tt

pub plain_only : {A : Type 0} (view : A → Message) (r : Result A WireFault) (bytes : List ℕ)
    → Gives view r (message_at plain_table bytes) → (message : Message) → IsMessageOf answer_table message
    → is_plain message.number ≡ true → bytes ≡ spelling answer_table message → Gives view r (Ok message)
plain_only view r bytes read message is plain e =
    let h = to_plain bytes message plain (is, e) in
    is_read (Gives view r) plain_table bytes message plain_sound h.0 h.1 read
