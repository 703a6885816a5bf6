use Rattle.std.proofs.Common.{rules, ◌∙◌, Bor, List, ℕ}
use Rattle.std.proofs.lemmas.Iterator.{YieldsList-from_slice}
use Rattle.std.proofs.lemmas.Iterator.Search.{any_from_yields_List}
use Rattle.std.specs.Str.{bytes_eq}
use borrow.Author.Tests.{tests}
use Rattle.mount_file.proofs.Views.{is_one_of_view}
use Rattle.mount_file.proofs.keys.is_one_of.Goals as goal

pub returns : goal.returns
returns c =
    any_from_yields_List (λ (k : Bor (List ℕ)). bytes_eq k.now c.args.key.now) _ _ c.any.result c.any.ensures.ran
    (YieldsList-from_slice c.args.keys.now cc) (λ x b q k. search (rules, tests))
    ∙ is_one_of_view c.args.keys.now c.args.key.now
