-- A granted folder before any opening execve, and the numbers that are drawn then.
use Rattle.std.proofs.Common.{◌≡◌, ℕ, zero, suc, ◌+◌, ◌<◌, ◌^◌, Bool, true, false, List, [], ◌∷◌, ◌++◌, length}
use Rattle.std.proofs.Common.{refl, ap, sym, ◌∙◌, arith}
use Rattle.std.specs.Prelude.{Some, if◌then◌else◌}
use Rattle.host_node.specs.Tree.{Shape, faults_of, none_lent}
use Rattle.kernel_model.specs.entries.Given.{numbers_of}
use Rattle.kernel_model.specs.files.Numbers.{count_up}
use Rattle.image_walk.specs.declared.granted.Numbering.{Numbering}
use Rattle.image_walk.specs.Standing.{StandsLent}
use Rattle.image_walk.specs.Executing.{fresh_for}
use Rattle.image_walk.proofs.Trees.{faulted_by_none}

pub first_stands : (num : Numbering) (t : Shape) → faults_of t < 2 ^ 64 → none_lent t ≡ true → StandsLent num t [] []
    (Some t) []
first_stands num t h free = record {
  small = h;
  free = free;
  there = tt;
  root_tells = ap Some (sym (faulted_by_none t h));
  children_tell = refl;
}

pub numbers_of-fresh : (num : Numbering) (drawn : Bool) (names : List (List ℕ)) (name : List ℕ)
    → numbers_of (fresh_for num drawn names name) ≡ (if drawn then (length names + num.first) ∷ [] else [])
numbers_of-fresh num true names name = refl
numbers_of-fresh num false names name = refl

-- one more number
pub count_up-more : (first n : ℕ) → count_up first (n + 1) ≡ count_up first n ++ (n + first) ∷ []
unfolding count_up
count_up-more first zero =
    let same : first ≡ 0 + first = omega arith in
    ap (λ m. m ∷ []) same
count_up-more first (suc n) =
    let later : suc n + 1 ≡ suc (n + 1) = omega arith in
    let same : n + (first + 1) ≡ suc n + first = omega arith in
    ap (count_up first) later
    ∙ ap (λ (ns : List ℕ). first ∷ ns) (count_up-more (first + 1) n ∙ ap (λ m. count_up (first + 1) n ++ m ∷ []) same)
