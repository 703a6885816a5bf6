use Rattle.std.proofs.Common.{rules, ◌∙◌, List, ℕ}
use Rattle.std.proofs.lemmas.Iterator.{YieldsList-from_slice, YieldsList-from_zip}
use Rattle.std.proofs.lemmas.Iterator.Search.{all_from_yields_List}
use Rattle.std.specs.Str.{bytes_eq}
use borrow.Author.Tests.{tests}
use Rattle.mount_file.proofs.Names.{begins_zip}
use Rattle.mount_file.proofs.rules.begins_with.Goals as goal

pub returns-then-others-names : goal.returns-then-others-names
returns-then-others-names c =
    all_from_yields_List (λ (p : List ℕ × List ℕ). bytes_eq p.0 p.1) c.all.new.self _ c.all.result c.all.ensures.ran
    (YieldsList-from_zip (YieldsList-from_slice c.args.others.now cc) (YieldsList-from_slice c.args.names.now cc))
    (λ x b q k. search (rules, tests))
    ∙ begins_zip c.args.names.now c.args.others.now c.if-others-names.true
