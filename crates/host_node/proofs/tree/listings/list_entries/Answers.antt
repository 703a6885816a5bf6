use Rattle.std.proofs.Common.{◌≡◌, ◌+◌, ◌++◌, ◌∷◌, [], ◌∙◌, ap, take, get_or}
use Rattle.std.proofs.lemmas.List.{take_more, take_all}
use Rattle.host_node.specs.Tree.{listed_from}
use Rattle.host_node.specs.Order.{names_of}
use Rattle.host_node.specs.Levels.{children_from}
use Rattle.host_node.proofs.Listings.{listed, listed-push, names_listed}
use Rattle.host_node.proofs.tree.listings.list_entries.Goals as goal

pub loop-entry-preserved : goal.loop-entry-preserved
loop-entry-preserved c =
    let es = c.args.entries.now in
    let i = c.loop-entry.entry-index in
    let e = c.entry-item.result in
    let name : c.in_ok-name.name ≡ e.name = c.in_ok-name.ensures in
    let here : e ≡ get_or es i e = c.entry-item.is in
    let more : take (i + 1) es ≡ take i es ++ get_or es i e ∷ [] = take_more es i e c.loop-entry-test.true in
    let pushed : listed_from (children_from (take i es ++ e ∷ []))
    ≡ listed_from (children_from (take i es)) ++ listed e ∷ [] =
    listed-push (take i es) e in
    cc (c.in_ok-push.ensures.ok, c.kind-kind.ensures, c.loop-entry.invariant)

pub returns-clause-names : goal.returns-clause-names
returns-clause-names c =
    let all = take_all c.loop-entry.entry-index c.args.entries.now c.loop-entry-test.false in
    ap names_of (c.loop-entry.invariant ∙ ap (λ es. listed_from (children_from es)) all)
    ∙ names_listed c.args.entries.now
