-- Bytes that are put into one buffer after another.
use Rattle.std.proofs.Common.{◌≡◌, ℕ, ◌-◌, ◌≤◌, min, Bool, true, false, List, [], ◌∷◌, length, take, drop, get_or}
use Rattle.std.proofs.Common.{Option, None, Result, Ok, Err, refl, ap, sym, subst, ◌∙◌, arith, option_map, OnOk}
use Rattle.std.specs.Prelude.{⊤}
use Rattle.std.proofs.Math.Seq.{take-length}
use Rattle.mm_space.specs.Accesses.{writable}
use Rattle.mm_space.specs.Handed.{AreaState, InHand}
use Rattle.mm_space.specs.Places.{AreAsReady, takes_no_memory}
use Rattle.mm_space.specs.Puts.{after_run_stored}
use Rattle.mm_space.specs.Spaces.{AddressSpace, Reach}
use Rattle.mm_space.specs.declared.handed.Handed.{Handed}
use Rattle.mm_space.specs.declared.space.Space.{Space}
use Rattle.mm_space.proofs.Readied.{ready_same}
use Rattle.stat_layout.specs.declared.iovec.IoVec.{IoVec}
use Rattle.kernel_model.specs.Names.{NamedMap}
use Rattle.kernel_model.specs.machine.Spaces.{reach_with}
use Rattle.kernel_model.specs.calls.Vectors.{accessed, cut, filled, filled_with, if_some, scattered}
use Rattle.kernel_model.specs.entries.Areas.{access_tried, tried_with}
use Rattle.kernel_model.specs.entries.Parts.{Parts, done, outcome_in}
use Rattle.kernel_model.proofs.Trees.{outcome-bind}
use Rattle.guest_access.specs.Lending.{AreThere, AreThose, names, with_hand}
use Rattle.guest_access.specs.Scattering.{AreReady}
use Rattle.guest_access.specs.Trying.{Wrote, by_right}
use Rattle.guest_access.proofs.Lendings.{lent_left, there_same}
use Rattle.guest_access.proofs.Runs.{put_run_names}

-- a list is its first item, and then the rest
pub of_first : {A : Type 0} (list : List A) (d : A) → 1 ≤ length list
    → list ≡ get_or list 0 d ∷ take (length list - 1) (drop 1 list)
of_first [] d some = absurd (omega arith)
of_first (x ∷ xs) d some =
    let less : length (x ∷ xs) - 1 ≡ length xs = omega arith in
    sym (ap (λ l. x ∷ l) (ap (λ n. take n xs) less ∙ take-length xs))

-- the rest of buffers of which that is the first
abbrev pub others : List IoVec → List IoVec
others buffers = take (length buffers - 1) (drop 1 buffers)

-- ---- what they ask for

-- so many bytes are asked for as are told
pub asked_by : (s : Parts) (space : AddressSpace) (base : ℕ) (hand : List InHand) (told count : ℕ) → told ≡ count
    → {o : Option (List InHand)}
    → outcome_in s (tried_with (access_tried writable space base told) None 17 hand) ≡ o
    → outcome_in s (tried_with (access_tried writable space base count) None 17 hand) ≡ o
asked_by s space base hand told count is {o} e =
    subst (λ n. outcome_in s (tried_with (access_tried writable space base n) None 17 hand) ≡ o) is e

pub asked_all : (space : AddressSpace) (buffers : List IoVec) (hand last : List InHand) (areas : NamedMap AreaState)
    (allowed : Bool) (count told : ℕ) → count ≡ told
    → ((s : Parts) → AreThose s (with_hand hand areas)
    → outcome_in s (accessed writable space (cut told buffers) hand) ≡ by_right allowed last)
    → (s : Parts) → AreThose s (with_hand hand areas)
    → outcome_in s (accessed writable space (cut count buffers) hand) ≡ by_right allowed last
asked_all space buffers hand last areas allowed count told is comes s those =
    ap (λ n. outcome_in s (accessed writable space (cut n buffers) hand)) is ∙ comes s those

-- the first's bytes, and then those of the others
module _ (s : Parts) (space : AddressSpace) (b : IoVec) (rest : List IoVec) (count : ℕ) (hand last : List InHand)
    (allowed : Bool)
    (comes : outcome_in s (tried_with (access_tried writable space b.base (min b.length count)) None 17 hand)
    ≡ by_right allowed last) where
  abbrev on : Option (List InHand) → Option (List InHand)
  on o = outcome_in s (if_some (accessed writable space (cut (count - b.length) rest)) o)

  first_then : outcome_in s (accessed writable space (cut count (b ∷ rest)) hand) ≡ on (by_right allowed last)
  first_then =
      outcome-bind s (tried_with (access_tried writable space b.base (min b.length count)) None 17 hand)
      (if_some (accessed writable space (cut (count - b.length) rest)))
      ∙ ap on comes

module _ (s : Parts) (space : AddressSpace) (buffers : List IoVec) (d : IoVec) (some : 1 ≤ length buffers)
    (count : ℕ) (hand last : List InHand) (allowed : Bool)
    (comes : outcome_in s (tried_with (access_tried writable space (get_or buffers 0 d).base
    (min (get_or buffers 0 d).length count)) None 17 hand) ≡ by_right allowed last) where
  abbrev from : outcome_in s (accessed writable space (cut count buffers) hand)
      ≡ outcome_in s (if_some (accessed writable space (cut (count - (get_or buffers 0 d).length) (others buffers)))
      (by_right allowed last))
  from =
      ap (λ l. outcome_in s (accessed writable space (cut count l) hand)) (of_first buffers d some)
      ∙ first_then s space (get_or buffers 0 d) (others buffers) count hand last allowed comes

  pub asked_refused : allowed ≡ false → (end : List InHand)
      → outcome_in s (accessed writable space (cut count buffers) hand) ≡ by_right false end
  asked_refused barred end =
      from
      ∙ ap (λ a. outcome_in s (if_some (accessed writable space (cut (count - (get_or buffers 0 d).length)
      (others buffers))) (by_right a last))) barred

  pub asked_on : allowed ≡ true → (left : ℕ) → left ≡ count - (get_or buffers 0 d).length → (all : Bool)
      (end : List InHand)
      → outcome_in s (accessed writable space (cut left (others buffers)) last) ≡ by_right all end
      → outcome_in s (accessed writable space (cut count buffers) hand) ≡ by_right all end
  asked_on free left is all end then =
      from
      ∙ ap (λ a. outcome_in s (if_some (accessed writable space (cut (count - (get_or buffers 0 d).length)
      (others buffers))) (by_right a last))) free
      ∙ ap (λ n. outcome_in s (accessed writable space (cut n (others buffers)) last)) (sym is)
      ∙ then

-- ---- whose pages have their bytes for themselves

module _ (space : Space) (handed : Handed) (buffers : List IoVec) (d : IoVec) (some : 1 ≤ length buffers)
    (count : ℕ) where
  abbrev first_and_others : Type 0
  first_and_others =
      (takes_no_memory space handed (get_or buffers 0 d).base (min (get_or buffers 0 d).length count) ≡ true)
      × AreReady space handed (cut (count - (get_or buffers 0 d).length) (others buffers))

  pub all_ready : first_and_others → AreReady space handed (cut count buffers)
  all_ready ready = subst (λ l. AreReady space handed (cut count l)) (sym (of_first buffers d some)) ready

  pub each_ready : AreReady space handed (cut count buffers) → first_and_others
  each_ready ready = subst (λ l. AreReady space handed (cut count l)) (of_first buffers d some) ready

-- the first's are so, and then those of the others, where there was memory
pub ready_on : (space : Space) (handed : Handed) (buffers : List IoVec) (d : IoVec) → 1 ≤ length buffers
    → (count piece left : ℕ) → piece ≡ min (get_or buffers 0 d).length count
    → left ≡ count - (get_or buffers 0 d).length
    → takes_no_memory space handed (get_or buffers 0 d).base piece ≡ true → {E : Type 0} (answer : Result ⊤ E)
    → OnOk answer (AreReady space handed (cut left (others buffers)))
    → OnOk answer (AreReady space handed (cut count buffers))
ready_on space handed buffers d some count piece left first rest ready (Err e) then = then
ready_on space handed buffers d some count piece left first rest ready (Ok told) then =
    all_ready space handed buffers d some count (
      ap (takes_no_memory space handed (get_or buffers 0 d).base) (sym first) ∙ ready,
      subst (λ n. AreReady space handed (cut n (others buffers))) rest then,
    )

-- where the same pages have them, they are as ready
pub as_ready : (space other : Space) (handed others : Handed) → AreAsReady space other handed others
    → (buffers : List IoVec) → AreReady space handed buffers → AreReady other others buffers
as_ready space other handed others alike [] ready = tt
as_ready space other handed others alike (b ∷ buffers) ready = (
  ready_same space other handed others alike b.base b.length ∙ ready.0,
  as_ready space other handed others alike buffers ready.1,
)

-- ---- what they are then

-- the first is filled, and then the others
pub filled_first : (task : ℕ) (bytes begin more : List ℕ) (buffers : List IoVec) (d : IoVec) → 1 ≤ length buffers
    → begin ≡ take (get_or buffers 0 d).length bytes → more ≡ drop (get_or buffers 0 d).length bytes → (r : Reach)
    → filled task more (others buffers) (after_run_stored task (get_or buffers 0 d).base begin r)
    ≡ filled task bytes buffers r
filled_first task bytes begin more buffers d some first rest r =
    ap (λ bs. filled task bs (others buffers) (after_run_stored task (get_or buffers 0 d).base begin r)) rest
    ∙ ap (λ bs. filled task (drop (get_or buffers 0 d).length bytes) (others buffers)
    (after_run_stored task (get_or buffers 0 d).base bs r)) first
    ∙ sym (ap (λ l. filled task bytes l r) (of_first buffers d some))

-- the names of what is in hand stay
filled_names : (task : ℕ) (bytes : List ℕ) (buffers : List IoVec) (r : Reach)
    → names (filled task bytes buffers r).hand ≡ names r.hand
filled_names task bytes [] r = refl
filled_names task bytes (b ∷ buffers) r =
    filled_names task (drop b.length bytes) buffers (after_run_stored task b.base (take b.length bytes) r)
    ∙ put_run_names task b.base (take b.length bytes) r

-- ---- all of them, with nothing in hand before

module _ (task : ℕ) (space : AddressSpace) (bytes : List ℕ) (buffers : List IoVec) (hand last : List InHand)
    (none : hand ≡ []) (areas mid : NamedMap AreaState) (allowed : Bool)
    (comes : (s : Parts) → AreThose s (with_hand hand areas)
    → outcome_in s (accessed writable space (cut (length bytes) buffers) hand) ≡ by_right allowed last)
    (back : with_hand last mid ≡ with_hand hand areas) where
  abbrev put_with : List InHand → Reach
  put_with = filled_with task space bytes buffers

  puts : (s : Parts) → AreThose s areas
      → outcome_in s (scattered task space bytes buffers) ≡ option_map put_with (by_right allowed last)
  puts s those =
      outcome-bind s (accessed writable space (cut (length bytes) buffers) [])
      (λ hand. done (option_map put_with hand))
      ∙ ap (option_map put_with)
      (subst (λ h. (s : Parts) → AreThose s (with_hand h areas)
      → outcome_in s (accessed writable space (cut (length bytes) buffers) h) ≡ by_right allowed last) none comes s
      those)

  all_back : with_hand last mid ≡ areas
  all_back = back ∙ ap (λ h. with_hand h areas) none

  pub none_scattered : allowed ≡ false → (s : Parts) → AreThose s areas
      → Wrote (outcome_in s (scattered task space bytes buffers)) false space space areas (with_hand last mid)
  none_scattered barred s those =
      subst (λ o. Wrote o false space space areas (with_hand last mid))
      (sym (puts s those ∙ ap (λ b. option_map put_with (by_right b last)) barred))
      (refl, refl, all_back)

  module _ (own space' : AddressSpace) (left : List InHand)
      (put : reach_with space' left ≡ filled task bytes buffers (reach_with own last)) where
    same_names : names left ≡ names last
    same_names = ap (λ (r : Reach). names r.hand) put ∙ filled_names task bytes buffers (reach_with own last)

    pub there_filled : AreThere last mid → AreThere left mid
    there_filled there = there_same last left mid same_names there

    pub all_scattered : allowed ≡ true → AreThere last mid → own ≡ space → (s : Parts) → AreThose s areas
        → Wrote (outcome_in s (scattered task space bytes buffers)) true space space' areas (with_hand left mid)
    all_scattered free there is s those =
        subst (λ o. Wrote o true space space' areas (with_hand left mid))
        (sym (puts s those ∙ ap (λ b. option_map put_with (by_right b last)) free)) (
          refl,
          ap (λ (r : Reach). r.space) to,
          lent_left last left mid areas (record { there = there; back = all_back }) same_names
              ∙ ap (λ (r : Reach). with_hand r.hand areas) to,
        )
      where
        to : reach_with space' left ≡ put_with last
        to = put ∙ ap (λ a. filled_with task a bytes buffers last) is
