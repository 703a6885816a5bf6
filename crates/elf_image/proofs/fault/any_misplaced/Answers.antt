use Rattle.std.proofs.Common.{refl, rules}
use borrow.Author.Tests.{tests}
use Rattle.std.proofs.lemmas.Iterator.Consumers.{YieldsList-from_first}
use Rattle.std.proofs.lemmas.Iterator.Search.{any_from_yields_List}
use Rattle.elf_image.proofs.fault.any_misplaced.Goals as goal
use Rattle.elf_image.specs.Faults.{is_misplaced}

pub returns : goal.returns
returns c =
    any_from_yields_List (is_misplaced c.args.size) _ _ _ c.any.ensures.ran
    (YieldsList-from_first (λ x. x) (λ rest. rest) c.args.headers refl)
    (λ x b q k. search (rules, tests))
