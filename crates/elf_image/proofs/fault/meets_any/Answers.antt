use Rattle.std.proofs.Common.{refl, rules}
use borrow.Author.Tests.{tests}
use Rattle.std.proofs.lemmas.Iterator.Consumers.{YieldsList-from_first}
use Rattle.std.proofs.lemmas.Iterator.Search.{any_from_yields_List}
use Rattle.elf_image.proofs.fault.meets_any.Goals as goal
use Rattle.std.specs.Prelude.{◌&&◌}
use Rattle.elf_image.specs.Headers.{is_load}
use Rattle.elf_image.specs.Faults.{meet}

pub returns : goal.returns
returns c =
    any_from_yields_List (λ other. is_load other && meet (c.args.header.now, other)) _ _ _ c.any.ensures.ran
    (YieldsList-from_first (λ x. x) (λ rest. rest) c.args.others refl)
    (λ x b q k. search (rules, tests))
