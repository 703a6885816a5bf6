use Rattle.std.proofs.Common.{◌≡◌, ℕ, ◌≤◌, ap, sym, ◌∙◌, arith, take, length, replicate, length-take-le, get_or-take}
use Rattle.std.proofs.lemmas.List.{length-replicate, get_or-replicate}
use Rattle.std.proofs.lemmas.Grind.{same_number_lists}
use Rattle.mm_space.proofs.page_sight.zeros.Goals as goal

-- the first of so many alike
first_alike : (all n x : ℕ) → n ≤ all → take n (replicate all x) ≡ replicate n x
first_alike all n x within =
    same_number_lists (take n (replicate all x)) (replicate n x) (cut ∙ sym (length-replicate n x)) (λ i in_range.
    get_or-take n (replicate all x) i 0 (omega (arith, cut))
    ∙ get_or-replicate all i x 0 (omega (arith, cut))
    ∙ sym (get_or-replicate n i x 0 (omega (arith, cut))))
  where
    cut : length (take n (replicate all x)) ≡ n
    cut = length-take-le n (replicate all x) (omega (arith, length-replicate all x))

pub returns : goal.returns
returns c = ap (take c.args.count) c.page_of_zeros-page.ensures ∙ first_alike 4096 c.args.count 0 c.requires
