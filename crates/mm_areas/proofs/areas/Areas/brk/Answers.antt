use Rattle.std.proofs.Common.{ap, ◌∙◌}
use Rattle.mm_areas.specs.declared.areas.Areas.{Areas}
use Rattle.mm_areas.specs.Own.{owns, is_own_at}
use Rattle.mm_areas.specs.DecodedWords.{has_row_at, has_row_in}
use Rattle.mm_areas.proofs.FreshLaws.{absent}
use Rattle.mm_areas.proofs.areas.Areas.brk.Goals as goal
use Rattle.mm_areas.proofs.areas.Areas.brk.Goals.{then-is_break+in_ok-move_break, else-is_break}

pub returns-clause-fresh : goal.returns-clause-fresh
returns-clause-fresh c page unmapped = elim c.if-is_break.branch [
  | then-is_break+in_ok-move_break w ↦
      ap (λ (a : Areas). owns a page) w.self-is ∙ w.move_break.ensures.fresh page unmapped
  | else-is_break w ↦
      ap (λ (a : Areas). owns a page) w.self-is
      ∙ ap is_own_at (absent c.args.self.now.regions.items page c.args.self.now.in_order unmapped)
]

pub returns-clause-undecoded : goal.returns-clause-undecoded
returns-clause-undecoded c page unmapped = elim c.if-is_break.branch [
  | then-is_break+in_ok-move_break w ↦
      ap (λ (a : Areas). has_row_at a page) w.self-is ∙ w.move_break.ensures.undecoded page unmapped
  | else-is_break w ↦
      ap (λ (a : Areas). has_row_at a page) w.self-is
      ∙ ap has_row_in (absent c.args.self.now.regions.items page c.args.self.now.in_order unmapped)
]
