-- The number that a kernel's opening execve draws, and what it comes to with that number and with a rise.
use Rattle.std.proofs.Common.{◌≡◌, ◌≢◌, ℕ, ◌+◌, ◌<◌, ◌≤◌, Bool, true, false, List, [], ◌∷◌, ◌++◌, length, refl, ap}
use Rattle.std.proofs.Common.{◌∙◌, arith, eqb, ◌⊎◌, inl, inr, length-append}
use Rattle.std.specs.FinMap as map
use Rattle.std.specs.Prelude.{Option, Some, None, Result, if◌then◌else◌, ◌&&◌, ◌||◌, not, is_some, nat_lt}
use Rattle.std.specs.List.{list_any}
use Rattle.std.specs.Str.{bytes_eq}
use Rattle.std.proofs.lemmas.Bool.{lt-ltb, le-ltb, le-leb, cases_eq, eq-eqb}
use Rattle.std.proofs.lemmas.Cmp.{nat_list_eq_equiv}
use Rattle.host_node.specs.Tree.{Shape, child_of}
use Rattle.sn_errno.specs.declared.errno.Errno.{Errno}
use Rattle.sn_errno.specs.declared.errno.Errno.TheVariants.{EIO, ENFILE}
use Rattle.elf_image.specs.declared.image.Image.{Image}
use Rattle.kernel_model.specs.declared.limits.TheConstants.{LAST_NUMBER}
use Rattle.kernel_model.specs.declared.kernel.Kernel.{Kernel}
use Rattle.kernel_model.specs.declared.kernel.Part.TheVariants.{OfFaults}
use Rattle.kernel_model.specs.declared.opening.Fresh.{Fresh}
use Rattle.kernel_model.specs.declared.opening.Given.{Given}
use Rattle.kernel_model.specs.declared.opening.Rise.{Rise}
use Rattle.kernel_model.specs.files.FileTree.{number_in, known, unnumbered, child_node, numbered_in}
use Rattle.kernel_model.specs.entries.Given.{Nodes_so_far, has_any, is_in_order, number_all, number_at, number_next}
use Rattle.kernel_model.specs.entries.Given.{given_number, met, faulted, node_changes, above_last, risen, is_unused}
use Rattle.kernel_model.specs.entries.Given.{gives_number, is_numbered, may_meet}
use Rattle.kernel_model.specs.entries.Parts.{Parts, parts, outcome_in, done, ◌>>=◌}
use Rattle.kernel_model.specs.opening.Opening.{Walked, by_walk, by_image, by_numbers, failed_by, draws_just, Fails}
use Rattle.kernel_model.specs.opening.Opening.{Unfit}
use Rattle.kernel_model.proofs.Trees.{outcome-bind}
use Rattle.kernel_model.proofs.Failing.{faulted_is}
use Rattle.image_walk.specs.declared.granted.Numbering.{Numbering}
use Rattle.image_walk.specs.Standing.{IsNumbering, lend_all, numbers_from, root_with}
use Rattle.image_walk.specs.Executing.{HasNumber, fresh_for, named_then}
use Rattle.image_walk.proofs.Lending.{child_of-lend_all}
use Rattle.image_walk.proofs.Places.{IsThere, unnumbered_new}
use Rattle.image_walk.proofs.KernelWalk.{HasNodes}

-- what is drawn for a name
abbrev pub fresh_of : (num : Numbering) → List (List ℕ) → List ℕ → Fresh
fresh_of num names name = record { dir = num.root; name = name; ino = length names + num.first }

-- the nodes that change where a number is drawn
abbrev pub nodes_drawn : (num : Numbering) → Shape → List (List ℕ) → List ℕ → Option Shape → Nodes_so_far
nodes_drawn num t names name None = []
nodes_drawn num t names name (Some x) =
    (length names + num.first, child_node num.root x)
    ∷ (num.root, numbered_in (root_with num t names) name (length names + num.first)) ∷ []

abbrev pub nodes_then : (num : Numbering) → Bool → Shape → List (List ℕ) → List ℕ → Nodes_so_far
nodes_then num true t names name = nodes_drawn num t names name (child_of name t)
nodes_then num false t names name = []

-- a number is drawn for a child that is there and has none, and there is room for it
pub record Draws (num : Numbering) (t : Shape) (names : List (List ℕ)) (name : List ℕ) (drawn : Bool) : Type 0 where
  pub unnumbered : drawn ≡ true → number_in name (numbers_from num.first names) ≡ None
  pub there : drawn ≡ true → IsThere (child_of name t)
  pub room : length names + num.first ≤ LAST_NUMBER

-- a node that has a number has not 0
pub number_some : (num : Numbering) (is : IsNumbering num) (count ino : ℕ) → HasNumber num count ino → 0 < ino
number_some num is count ino (inl e) = let some : 0 < num.root = is.0 in omega arith
number_some num is count ino (inr h) =
    let low : num.root < num.first = is.1 in
    let from : num.first ≤ ino = h.0 in
    omega arith

module _ (num : Numbering) (is : IsNumbering num) (s : Parts) (t : Shape) (names : List (List ℕ)) (name : List ℕ)
    (has : HasNodes num s t names) where
  -- ---- the numbers

  number_true : (o : Option Shape) → child_of name t ≡ o → IsThere o → Draws num t names name true
      → outcome_in s (number_all (fresh_of num names name ∷ []) []) ≡ Some (nodes_drawn num t names name o)
  number_true None e there d = absurd there
  number_true (Some x) e there d =
      let n : ℕ = length names + num.first in
      let f : Fresh = fresh_of num names name in
      let none : number_in name (numbers_from num.first names) ≡ None = d.unnumbered refl in
      ap (λ dir. outcome_in s (number_next (number_all []) (number_at [] f dir))) has.root
      ∙ ap (λ number. outcome_in s (number_next (number_all [])
      (given_number [] f (root_with num t names) (known number (child_of name (lend_all names t)))))) none
      ∙ ap (λ c. outcome_in s (number_next (number_all []) (given_number [] f (root_with num t names) (unnumbered c))))
      (child_of-lend_all name names t (unnumbered_new name num.first names none) ∙ e)
      ∙ ap (λ b. outcome_in s (number_next (number_all [])
      (if b then Some (nodes_drawn num t names name (Some x)) else Some []))) (le-leb n LAST_NUMBER d.room)

  pub numbers_are : (drawn : Bool) → Draws num t names name drawn
      → outcome_in s (number_all (fresh_for num drawn names name) []) ≡ Some (nodes_then num drawn t names name)
  numbers_are true d = number_true (child_of name t) refl (d.there refl) d
  numbers_are false d = refl

  -- ---- without a rise

  same_bytes : draws_just num.root true name (fresh_of num names name ∷ []) ≡ true
  same_bytes =
      let low : num.root < num.first = is.1 in
      let some : 0 < length names + num.first = omega arith in
      ap (λ b. b && bytes_eq name name && nat_lt 0 (length names + num.first)) (eq-eqb num.root num.root refl)
      ∙ ap (λ b. true && b && nat_lt 0 (length names + num.first)) (nat_list_eq_equiv.refl name)
      ∙ lt-ltb 0 (length names + num.first) some

  draws : (drawn : Bool) → draws_just num.root drawn name (fresh_for num drawn names name) ≡ true
  draws true = same_bytes
  draws false = refl

  not_above : (drawn : Bool) → length names + num.first ≤ LAST_NUMBER
      → list_any above_last (fresh_for num drawn names name) ≡ false
  not_above true h = ap (λ b. b || false) (le-ltb LAST_NUMBER (length names + num.first) h)
  not_above false h = refl

  pub by_walk_quiet : (drawn : Bool) (image : Result Image Errno) (w : Walked) → Draws num t names name drawn
      → w ≡ record { draws = drawn; image = image }
      → outcome_in s (by_walk num.root name (record { fresh = fresh_for num drawn names name; rises = [] }) w)
      ≡ by_image image (node_changes (nodes_then num drawn t names name))
  by_walk_quiet drawn image w d e =
      ap (λ x. outcome_in s (by_walk num.root name (record { fresh = fresh_for num drawn names name; rises = [] }) x)) e
      ∙ ap (λ b. outcome_in s (if not b then done Unfit
      else if list_any above_last (fresh_for num drawn names name) then done (Fails ENFILE [])
      else (number_all (fresh_for num drawn names name) [] >>= λ nodes. done (by_numbers image nodes)))) (draws drawn)
      ∙ ap (λ b. outcome_in s (if b then done (Fails ENFILE [])
      else (number_all (fresh_for num drawn names name) [] >>= λ nodes. done (by_numbers image nodes))))
      (not_above drawn d.room)
      ∙ outcome-bind s (number_all (fresh_for num drawn names name) []) (λ nodes. done (by_numbers image nodes))
      ∙ ap (by_numbers image) (numbers_are drawn d)

  -- ---- with a rise

  abbrev failing_given : Bool → Rise → Given
  failing_given drawn r = record { fresh = fresh_for num drawn names name; rises = r ∷ [] }

  in_order : (drawn : Bool) (r : Rise) → 0 < r.ino → 0 < r.count → is_in_order (failing_given drawn r) ≡ true
  in_order true r some rose =
      let low : num.root < num.first = is.1 in
      let number : 0 < length names + num.first = omega arith in
      ap (λ b. (b && true) && true && (nat_lt 0 r.ino && true) && (nat_lt 0 r.count && true))
      (lt-ltb 0 (length names + num.first) number)
      ∙ ap (λ b. (b && true) && (nat_lt 0 r.count && true)) (lt-ltb 0 r.ino some)
      ∙ ap (λ b. b && true) (lt-ltb 0 r.count rose)
  in_order false r some rose =
      ap (λ b. (b && true) && (nat_lt 0 r.count && true)) (lt-ltb 0 r.ino some)
      ∙ ap (λ b. b && true) (lt-ltb 0 r.count rose)

  failed_by_walk : (given : Given) (w : Walked) → has_any given.rises ≡ true
      → is_in_order given ≡ true → outcome_in s (by_walk num.root name given w)
      ≡ failed_by (outcome_in s (faulted given))
  failed_by_walk given w h o =
      ap (λ b. outcome_in s (if b
      then (if is_in_order given then (faulted given >>= λ changes. done (failed_by changes)) else done Unfit)
      else (if not (draws_just num.root w.draws name given.fresh) then done Unfit
      else if list_any above_last given.fresh then done (Fails ENFILE [])
      else (number_all given.fresh [] >>= λ nodes. done (by_numbers w.image nodes))))) h
      ∙ ap (λ b. outcome_in s (if b then (faulted given >>= λ changes. done (failed_by changes)) else done Unfit)) o
      ∙ outcome-bind s (faulted given) (λ changes. done (failed_by changes))

  pub by_walk_failing : (drawn : Bool) (r : Rise) (w : Walked) → Draws num t names name drawn → 0 < r.count → 0 < r.ino
      → outcome_in s (by_walk num.root name (record { fresh = fresh_for num drawn names name; rises = r ∷ [] }) w)
      ≡ Fails EIO (node_changes (nodes_then num drawn t names name) ++ (OfFaults, risen (r ∷ []) (s OfFaults)) ∷ [])
  by_walk_failing drawn r w d rose some =
      failed_by_walk (failing_given drawn r) w refl (in_order drawn r some rose)
      ∙ ap failed_by (faulted_is s (failing_given drawn r)
      ∙ ap (λ n. met (failing_given drawn r) n (s OfFaults)) (numbers_are drawn d))

-- ---- what may be drawn and met

or_true : (b : Bool) → (b || true) ≡ true
or_true true = refl
or_true false = refl

module _ (num : Numbering) (k : Kernel) (t : Shape) (names : List (List ℕ)) (name : List ℕ)
    (has : HasNodes num (parts k) t names) where
  -- the next number is that of no node
  unused : is_unused k.nodes (fresh_of num names name) ≡ true
  unused =
      let above : num.first + length names ≤ length names + num.first = omega arith in
      ap (λ o. not (is_some o)) (has.above (length names + num.first) above)

  pub may_quiet : (drawn : Bool) → may_meet k.nodes (record { fresh = fresh_for num drawn names name; rises = [] })
      ≡ true
  may_quiet true = ap (λ b. (b && true) && true) unused
  may_quiet false = refl

  -- the root and each child so far has a number,
  numbered : (ino : ℕ) → HasNumber num (length names) ino → map.contains_key k.nodes ino ≡ true
  numbered ino (inl e) = ap (map.contains_key k.nodes) e ∙ ap is_some has.root
  numbered ino (inr h) = has.within ino h.0 h.1

  -- and then the child that gets one
  numbered_true : (r : Rise) → Draws num t names name true → HasNumber num (length (names ++ name ∷ [])) r.ino
      → is_numbered k.nodes (fresh_of num names name ∷ []) r ≡ true
  numbered_true r d (inl e) =
      ap (λ b. b || (gives_number r.ino (fresh_of num names name) || false)) (numbered r.ino (inl e))
  numbered_true r d (inr h) = by (cases_eq (length names + num.first) r.ino)
    where
      by : (length names + num.first ≡ r.ino) ⊎ (length names + num.first ≡ r.ino → ⊥)
          → is_numbered k.nodes (fresh_of num names name ∷ []) r ≡ true
      by (inl e) =
          ap (λ b. map.contains_key k.nodes r.ino || ((b && eqb (length names + num.first) r.ino) || false))
          (le-leb (length names + num.first) LAST_NUMBER d.room)
          ∙ ap (λ b. map.contains_key k.nodes r.ino || (b || false)) (eq-eqb (length names + num.first) r.ino e)
          ∙ or_true (map.contains_key k.nodes r.ino)
      by (inr differs) =
          let apart : length names + num.first ≢ r.ino = differs in
          let longer : length (names ++ name ∷ []) ≡ length names + 1 = length-append names (name ∷ []) in
          let from : num.first ≤ r.ino = h.0 in
          let high : r.ino < num.first + length (names ++ name ∷ []) = h.1 in
          let below : r.ino < num.first + length names = omega arith in
          ap (λ b. b || (gives_number r.ino (fresh_of num names name) || false)) (numbered r.ino (inr (from, below)))

  pub may_fail : (drawn : Bool) (r : Rise) → Draws num t names name drawn
      → HasNumber num (length (named_then drawn names name)) r.ino
      → may_meet k.nodes (record { fresh = fresh_for num drawn names name; rises = r ∷ [] }) ≡ true
  may_fail true r d number =
      ap (λ b. (b && true) && (is_numbered k.nodes (fresh_of num names name ∷ []) r && true)) unused
      ∙ ap (λ b. b && true) (numbered_true r d number)
  may_fail false r d number = ap (λ b. (b || false) && true) (numbered r.ino number)
