use Rattle.std.proofs.Common.{◌≡◌, ◌+◌, ◌-◌, ℕ, rules, length, map, ap, arith}
use Rattle.std.specs.FinMap.{len}
use Rattle.std.proofs.lemmas.List.{length-map}
use Rattle.mm_areas.specs.Pages.{mapped_by, unmapped}
use Rattle.mm_areas.specs.Regions.{pages_of}
use Rattle.mm_areas.proofs.PageLaws.{len-laid}
use Rattle.mm_areas.proofs.areas.Areas.lay.Goals as goal

counted : (c : goal.In_ok-lay_over) → (c.args.self.now.count - c.mapped_within-gone.result) + c.len-count.result
    ≡ len (pages_of c.lay_over.new.regions.items)
counted c =
    let ms = map mapped_by c.args.pages.items in
    let before = pages_of c.args.self.now.regions.items in
    let gone : c.mapped_within-gone.result + len (unmapped c.args.first c.len-count.result before) ≡ len before =
    search rules in
    let same : c.len-count.result ≡ length ms =
    omega (arith, c.len-count.ensures, c.args.pages.ok.0, length-map c.args.pages.items mapped_by) in
    omega (
      arith,
      ap len c.in_ok-lay_over.ensures.ok,
      len-laid c.args.first ms before,
      gone,
      ap (λ (n : ℕ). len (unmapped c.args.first n before)) same,
      same,
    )

pub invariant_of-self-2-clause-counted : goal.invariant_of-self-2-clause-counted
invariant_of-self-2-clause-counted c = counted c

pub invariant_of-self-2-clause-limited : goal.invariant_of-self-2-clause-limited
invariant_of-self-2-clause-limited c = omega (arith, counted c, ap len c.in_ok-lay_over.ensures.ok, c.requires.limit)
