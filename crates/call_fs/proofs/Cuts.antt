-- Buffers of a call, one after another: their first bytes, and whether they may be accessed.
use Rattle.std.proofs.Common.{◌≡◌, ℕ, ◌-◌, ◌+◌, ◌≤◌, min, Bool, false, List, [], ◌∷◌, length, take}
use Rattle.std.proofs.Common.{drop, get_or, ap, ◌∙◌, arith}
use Rattle.std.specs.Prelude.{is_some, if◌then◌else◌}
use Rattle.std.proofs.lemmas.List.Sums.{sum_by-cons}
use Rattle.mm_areas.specs.declared.rights.Rights.{Rights}
use Rattle.mm_space.specs.Spaces.{AddressSpace}
use Rattle.stat_layout.specs.IoVecs.{total_of}
use Rattle.stat_layout.specs.declared.iovec.IoVec.{IoVec}
use Rattle.kernel_model.specs.calls.Vectors.{are_accessible, cut}
use Rattle.kernel_model.specs.entries.Areas.{access_row}
use Rattle.kernel_model.specs.entries.Parts.{Parts, done, outcome_in}
use Rattle.kernel_model.proofs.Trees.{outcome-bind}
use Rattle.guest_access.proofs.Scattered.{of_first}

-- ---- their first bytes

-- how many they are
pub total_cut : (most : ℕ) (buffers : List IoVec) → total_of (cut most buffers) ≡ min (total_of buffers) most
total_cut most [] = omega arith
total_cut most (b ∷ buffers) =
    let first : IoVec = record { base = b.base; length = min b.length most } in
    let all = sum_by-cons (λ (x : IoVec). x.length) b buffers in
    sum_by-cons (λ (x : IoVec). x.length) first (cut (most - b.length) buffers)
    ∙ ap (λ n. min b.length most + n) (total_cut (most - b.length) buffers)
    ∙ omega (arith, all)

-- ---- whether they may be accessed

pub accessible_first : (s : Parts) (right : Rights) (space : AddressSpace) (buffers : List IoVec) (d : IoVec)
    (allowed : Bool) → 1 ≤ length buffers
    → is_some (outcome_in s (access_row right space (get_or buffers 0 d).base (get_or buffers 0 d).length)) ≡ allowed
    → outcome_in s (are_accessible right space buffers)
    ≡ outcome_in s (if allowed then are_accessible right space (take (length buffers - 1) (drop 1 buffers))
    else done false)
accessible_first s right space buffers d allowed some is =
    ap (λ l. outcome_in s (are_accessible right space l)) (of_first buffers d some)
    ∙ outcome-bind s (access_row right space (get_or buffers 0 d).base (get_or buffers 0 d).length)
    (λ hand. if is_some hand then are_accessible right space (take (length buffers - 1) (drop 1 buffers))
    else done false)
    ∙ ap (λ b. outcome_in s (if b then are_accessible right space (take (length buffers - 1) (drop 1 buffers))
    else done false)) is
