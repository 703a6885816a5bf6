-- Words that get a child's number, over areas that were left so before.
use Rattle.std.proofs.Common.{◌≡◌, ℕ, ◌+◌, Bool, true, false, List, Option, Some, None, refl, ap, sym}
use Rattle.std.proofs.Common.{◌∙◌, option_map, subst}
use Rattle.std.specs.Int.{to_le_bytes, w32}
use Rattle.mm_space.specs.Handed.{AreaState, InHand}
use Rattle.mm_space.specs.Spaces.{AddressSpace, Reach}
use Rattle.kernel_model.specs.Names.{NamedMap}
use Rattle.kernel_model.specs.declared.caller.Caller.{Caller}
use Rattle.kernel_model.specs.declared.kernel.Kernel.{Kernel}
use Rattle.kernel_model.specs.calls.Clone.{word_set}
use Rattle.kernel_model.specs.entries.Areas.{bytes_written, bytes_written_over, over, reach_over}
use Rattle.kernel_model.specs.entries.Parts.{Parts, parts, done, outcome_in, ◌>>=◌}
use Rattle.kernel_model.proofs.Trees.{outcome-bind}
use Rattle.kernel_calls.specs.Clones.{HasSet, LeavesWords, SetsWord}
use Rattle.guest_access.specs.Lending.{with_hand, AreThose}
use Rattle.kernel_calls.specs.declared.clone.Words.{Words}
use Rattle.guest_access.specs.Trying.{Wrote}
use Rattle.guest_access.proofs.KernelAreas.{are_those}
use Rattle.kernel_calls.proofs.Overlays.{overlay, outcome-over, those_over, with_hand-append}
use Rattle.guest_access.proofs.Tries.{those_same}

wrote_over : (hand : List InHand) (o : Option Reach) (set : Bool) (space space' : AddressSpace)
    (areas areas' all : NamedMap AreaState) → areas ≡ with_hand hand all → Wrote o set space space' areas areas'
    → HasSet (option_map (reach_over hand) o) set space' areas' all
wrote_over hand None set space space' areas areas' all same wrote = wrote.0
wrote_over hand (Some r) set space space' areas areas' all same wrote =
    (wrote.0, wrote.1, wrote.2 ∙ ap (with_hand r.hand) same ∙ sym (with_hand-append r.hand hand all))

module _ (task : ℕ) (space : AddressSpace) (hand : List InHand) (at : ℕ) (bytes : List ℕ) (s : Parts) where
  written_over : outcome_in s (over hand (bytes_written task space at bytes) >>= λ reach.
      done (option_map (reach_over hand) reach))
      ≡ option_map (reach_over hand) (outcome_in (overlay hand s) (bytes_written task space at bytes))
  written_over =
      outcome-bind s (over hand (bytes_written task space at bytes))
      (λ reach. done (option_map (reach_over hand) reach))
      ∙ ap (option_map (reach_over hand)) (outcome-over hand s (bytes_written task space at bytes))

-- a word that was to be set, by what the code wrote
pub word_written : (task : ℕ) (asked : Bool) (space space' : AddressSpace) (areas areas' : NamedMap AreaState)
    (at number : ℕ) (set : Bool) (bytes : List ℕ) → asked ≡ true → bytes ≡ to_le_bytes w32 number
    → ((s : Parts) → AreThose s areas
    → Wrote (outcome_in s (bytes_written task space at bytes)) set space space' areas areas')
    → SetsWord task asked space space' areas areas' at number set
word_written task asked space space' areas areas' at number set bytes is word wrote = record {
  over = λ s hand all those same.
      let there : AreThose (overlay hand s) areas
      = those_same (overlay hand s) (with_hand hand all) areas same (those_over hand s all those) in
      let row : outcome_in s (word_set task asked space hand at number)
      ≡ option_map (reach_over hand) (outcome_in (overlay hand s) (bytes_written task space at bytes))
      = ap (λ b. outcome_in s (word_set task b space hand at number)) is
      ∙ ap (λ w. outcome_in s (bytes_written_over task space hand at w)) (sym word)
      ∙ written_over task space hand at bytes s in
      subst (λ o. HasSet o set space' areas' all) (sym row)
      (wrote_over hand (outcome_in (overlay hand s) (bytes_written task space at bytes)) set space space' areas areas'
      all same (wrote (overlay hand s) there));
}

-- and one that was not
pub word_unasked : (task : ℕ) (asked : Bool) (space : AddressSpace) (areas : NamedMap AreaState) (at number : ℕ)
    → asked ≡ false → SetsWord task asked space space areas areas at number true
word_unasked task asked space areas at number is = record {
  over = λ s hand all those same.
      subst (λ o. HasSet o true space areas all)
      (sym (ap (λ b. outcome_in s (word_set task b space hand at number)) is)) (refl, refl, same);
}

-- a word that was set is the same for equal data
pub sets_same : {task : ℕ} {asked due : Bool} {space own space' : AddressSpace}
    {areas shared areas' : NamedMap AreaState} {at number : ℕ} {set told : Bool}
    → SetsWord task asked space space' areas areas' at number set → asked ≡ due → space ≡ own → areas ≡ shared
    → set ≡ told
    → SetsWord task due own space' shared areas' at number told
sets_same {task} {asked} {due} {space} {own} {space'} {areas} {shared} {areas'} {at} {number} {set} {told} sets is
    there lies so =
    subst (λ b. SetsWord task b own space' shared areas' at number told) is
    (subst (λ m. SetsWord task asked m space' shared areas' at number told) there
    (subst (λ a. SetsWord task asked space space' a areas' at number told) lies
    (subst (λ s. SetsWord task asked space space' areas areas' at number s) so sets)))

-- what is left of a memory whose word was set, and where it can't be written
pub words_left : {task : ℕ} {asked : Bool} {space : AddressSpace} {areas : NamedMap AreaState} {at number : ℕ}
    {o : Option Words} {words : Words} → LeavesWords task asked space areas at number o → o ≡ Some words
    → SetsWord task asked space words.space areas words.areas at number true
words_left {task} {asked} {space} {areas} {at} {number} left is =
    subst (LeavesWords task asked space areas at number) is left

pub words_lost : {task : ℕ} {asked : Bool} {space : AddressSpace} {areas : NamedMap AreaState} {at number : ℕ}
    {o : Option Words} → LeavesWords task asked space areas at number o → o ≡ None
    → LeavesWords task asked space areas at number None
words_lost {task} {asked} {space} {areas} {at} {number} left is =
    subst (LeavesWords task asked space areas at number) is left

-- a word of a row
module _ (c : Caller) (k : Kernel) (task number : ℕ) (same : c.task ≡ task) (next : number ≡ k.tasks.last + 1) where
  pub row_word : (asked due : Bool) (space own space' : AddressSpace) (areas areas' : NamedMap AreaState) (at : ℕ)
      (set : Bool) (hand : List InHand) → SetsWord task asked space space' areas areas' at number set → asked ≡ due
      → space ≡ own → areas ≡ with_hand hand k.areas
      → HasSet (outcome_in (parts k) (word_set c.task due own hand at (k.tasks.last + 1))) set space' areas' k.areas
  row_word asked due space own space' areas areas' at set hand sets is there lies =
      subst (λ o. HasSet o set space' areas' k.areas)
      (ap (λ t. outcome_in (parts k) (word_set t asked space hand at number)) (sym same)
      ∙ ap (λ b. outcome_in (parts k) (word_set c.task b space hand at number)) is
      ∙ ap (λ m. outcome_in (parts k) (word_set c.task due m hand at number)) there
      ∙ ap (λ n. outcome_in (parts k) (word_set c.task due own hand at n)) next)
      (sets.over (parts k) hand k.areas (are_those k k.areas refl) lies)
