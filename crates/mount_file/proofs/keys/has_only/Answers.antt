use Rattle.std.proofs.Common.{rules, ◌∙◌, ap, map, string_bytes}
use Rattle.std.proofs.lemmas.Iterator.Search.{all_from_yields_List}
use Rattle.std.specs.List.{list_all}
use borrow.Author.Tests.{tests}
use Rattle.mount_file.specs.Keys.{is_one_of}
use Rattle.mount_file.proofs.Views.{has_only_view, YieldsList-from_keys}
use Rattle.mount_file.proofs.keys.has_only.Goals as goal

pub returns : goal.returns
returns c =
    let known = map (λ k. k.now) c.args.keys.now in
    all_from_yields_List (λ k. is_one_of known (string_bytes k)) _ _ c.all.result c.all.ensures.ran
    (YieldsList-from_keys c.keys.result) (λ x b q k. search (rules, tests))
    ∙ ap (list_all (λ k. is_one_of known (string_bytes k))) c.keys.ensures.rest
    ∙ has_only_view known c.args.table.now.entries
