-- Clear words of tasks that end, as they are cleared one after another.
use Rattle.std.proofs.Common.{◌≡◌, ◌==◌, ℕ, Bool, true, false, cond, List, [], ◌∷◌}
use Rattle.std.proofs.Common.{◌++◌, Option, Some, None, refl, ap, sym}
use Rattle.std.proofs.Common.{◌∙◌, ◌-◌, ◌≤◌, arith, drop, get_or, length, option_map, subst, take}
use Rattle.std.proofs.Math.Seq.{take-length}
use Rattle.futex_core.specs.declared.keys.FutexKey.{FutexKey}
use Rattle.mm_space.specs.Handed.{AreaState}
use Rattle.mm_space.specs.Spaces.{AddressSpace, Reach}
use Rattle.task_table.specs.declared.task.EndedTask.{EndedTask}
use Rattle.sn_base.specs.declared.made.Made.{Made}
use Rattle.kernel_model.specs.Names.{NamedMap}
use Rattle.kernel_model.specs.declared.caller.Caller.{Caller}
use Rattle.kernel_model.specs.calls.ClearWords.{Cleared, nothing_cleared, with_cleared, word_cleared, words_cleared}
use Rattle.kernel_model.specs.calls.ClearWords.{zero_word}
use Rattle.kernel_model.specs.entries.Areas.{bytes_written, bytes_written_over, over, reach_over}
use Rattle.kernel_model.specs.entries.Parts.{Parts, done, outcome_in, ◌>>=◌}
use Rattle.kernel_model.specs.machine.FutexWords.{key_at}
use Rattle.kernel_model.proofs.Trees.{outcome-bind}
use Rattle.kernel_calls.specs.ClearWords.{IsCleared}
use Rattle.guest_access.specs.Lending.{AreThose, with_hand}
use Rattle.guest_access.specs.Trying.{Wrote}
use Rattle.kernel_calls.proofs.Overlays.{outcome-over, overlay, those_over, with_hand-append}
use Rattle.guest_access.proofs.Tries.{those_same}

module _ (c : Caller) (e : EndedTask) (x : Cleared) (s : Parts) where
  -- a task with no clear word
  no_word : (e.clear == 0) ≡ true → outcome_in s (word_cleared c e x) ≡ x
  no_word none =
      ap (λ b. outcome_in s (cond b (done x)
      (bytes_written_over c.task x.reach.space x.reach.hand e.clear zero_word
      >>= λ reach. done (with_cleared c e.clear x reach)))) none

  -- the state in which the next word is cleared, and what is reached then
  abbrev behind : Parts
  behind = overlay x.reach.hand s

  abbrev reached : Option Reach
  reached = outcome_in behind (bytes_written c.task x.reach.space e.clear zero_word)

  -- and one with a word
  a_word : (e.clear == 0) ≡ false
      → outcome_in s (word_cleared c e x) ≡ with_cleared c e.clear x (option_map (reach_over x.reach.hand) reached)
  a_word some =
      ap (λ b. outcome_in s (cond b (done x)
      (bytes_written_over c.task x.reach.space x.reach.hand e.clear zero_word
      >>= λ reach. done (with_cleared c e.clear x reach)))) some
      ∙ outcome-bind s (bytes_written_over c.task x.reach.space x.reach.hand e.clear zero_word)
      (λ reach. done (with_cleared c e.clear x reach))
      ∙ ap (with_cleared c e.clear x) (
      outcome-bind s (over x.reach.hand (bytes_written c.task x.reach.space e.clear zero_word))
      (λ reach. done (option_map (reach_over x.reach.hand) reach))
      ∙ ap (option_map (reach_over x.reach.hand))
      (outcome-over x.reach.hand s (bytes_written c.task x.reach.space e.clear zero_word)))

  module _ (all : NamedMap AreaState) (space : AddressSpace) (areas : NamedMap AreaState) (keys : List FutexKey)
      (so_far : IsCleared x all space areas keys) where
    -- where there is no word nothing changes
    pub cleared_none : (e.clear == 0) ≡ true → IsCleared (outcome_in s (word_cleared c e x)) all space areas keys
    cleared_none none = subst (λ y. IsCleared y all space areas keys) (sym (no_word none)) so_far

    -- the areas of that state are those there are
    pub those_behind : AreThose s all → AreThose behind areas
    those_behind those =
        those_same behind (with_hand x.reach.hand all) areas so_far.areas_are (those_over x.reach.hand s all those)

    module _ (space' : AddressSpace) (areas' : NamedMap AreaState) (some : (e.clear == 0) ≡ false) where
      -- a word that may not be written stays
      stays : (o : Option Reach) (wrote : Bool) → Wrote o wrote space space' areas areas' → wrote ≡ false
          → IsCleared (with_cleared c e.clear x (option_map (reach_over x.reach.hand) o)) all space' areas' keys
      stays None wrote w so = record {
        space_is = w.1 ∙ so_far.space_is;
        areas_are = w.2 ∙ so_far.areas_are;
        keys_are = so_far.keys_are;
      }
      stays (Some r) wrote w so = absurd (cc (w.0, so))

      -- and one that may is added
      adds : (o : Option Reach) (wrote : Bool) → Wrote o wrote space space' areas areas' → wrote ≡ true
          → IsCleared (with_cleared c e.clear x (option_map (reach_over x.reach.hand) o)) all space' areas'
          (keys ++ key_at c.memory space e.clear ∷ [])
      adds None wrote w so = absurd (cc (w.0, so))
      adds (Some r) wrote w so = record {
        space_is = w.1;
        areas_are =
            w.2 ∙ ap (with_hand r.hand) so_far.areas_are ∙ sym (with_hand-append r.hand x.reach.hand all);
        keys_are =
            ap (λ ks. ks ++ key_at c.memory space e.clear ∷ []) so_far.keys_are
            ∙ ap (λ a. x.keys ++ key_at c.memory a e.clear ∷ []) so_far.space_is;
      }

      module _ (task : ℕ) (same : c.task ≡ task) (wrote : Bool)
          (w : Wrote (outcome_in behind (bytes_written task space e.clear zero_word)) wrote space space' areas areas')
        where
          told : Wrote reached wrote space space' areas areas'
          told =
              subst (λ t. Wrote (outcome_in behind (bytes_written t x.reach.space e.clear zero_word)) wrote space space'
              areas areas') (sym same)
              (subst (λ a. Wrote (outcome_in behind (bytes_written task a e.clear zero_word)) wrote space space' areas
              areas') so_far.space_is w)

          pub cleared_not : wrote ≡ false → (keys' : List FutexKey) → keys' ≡ keys
              → IsCleared (outcome_in s (word_cleared c e x)) all space' areas' keys'
          cleared_not so keys' kept =
              subst (λ ks. IsCleared (outcome_in s (word_cleared c e x)) all space' areas' ks) (sym kept)
              (subst (λ y. IsCleared y all space' areas' keys) (sym (a_word some)) (stays reached wrote told so))

          pub cleared_one : wrote ≡ true → (memory : Made) → c.memory ≡ memory → (keys' : List FutexKey)
              → keys' ≡ keys ++ key_at memory space e.clear ∷ []
              → IsCleared (outcome_in s (word_cleared c e x)) all space' areas' keys'
          cleared_one so memory own keys' more =
              subst (λ ks. IsCleared (outcome_in s (word_cleared c e x)) all space' areas' ks)
              (ap (λ m. keys ++ key_at m space e.clear ∷ []) own ∙ sym more)
              (subst (λ y. IsCleared y all space' areas' (keys ++ key_at c.memory space e.clear ∷ []))
              (sym (a_word some))
              (adds reached wrote told so))

-- the word of the first, and then those of the rest
pub words_comes : (c : Caller) (list : List EndedTask) (d : EndedTask) (x : Cleared) (s : Parts) → 1 ≤ length list
    → outcome_in s (words_cleared c list x)
    ≡ outcome_in s (words_cleared c (take (length list - 1) (drop 1 list))
    (outcome_in s (word_cleared c (get_or list 0 d) x)))
words_comes c [] d x s some = absurd (omega arith)
words_comes c (e ∷ ended) d x s some =
    outcome-bind s (word_cleared c e x) (words_cleared c ended)
    ∙ ap (λ l. outcome_in s (words_cleared c l (outcome_in s (word_cleared c e x)))) (sym rest)
  where
    less : length (e ∷ ended) - 1 ≡ length ended
    less = omega arith

    rest : take (length (e ∷ ended) - 1) ended ≡ ended
    rest = ap (λ n. take n ended) less ∙ take-length ended

-- before the first word
pub cleared_nothing : (space : AddressSpace) (all : NamedMap AreaState) (own : AddressSpace) → own ≡ space
    → (keys : List FutexKey) → keys ≡ [] → IsCleared (nothing_cleared own) all space all keys
cleared_nothing space all own same keys none = record { space_is = sym same; areas_are = refl; keys_are = none }
