-- The path of a child is that of its directory with its name behind a slash.
use Rattle.std.proofs.Common.{◌≡◌, ◌∷◌, ◌++◌, [], string_bytes, append_assoc, IsUtf8}
use Rattle.std.proofs.lemmas.List.Elements.{All-push}
use Rattle.host_folder.specs.Paths.{slashed}
use Rattle.host_folder.proofs.PathLemmas.{slashed_push}
use Rattle.host_folder.proofs.node.FolderNode.child_path.Goals as goal

pub returns-clause-ok : goal.returns-clause-ok
returns-clause-ok g c =
    let folder = string_bytes c.args.self.now.folder in
    let names = c.args.route.now in
    let name = c.args.name.now in
    let more : slashed (names ++ name ∷ []) ≡ slashed names ++ (47 ∷ name) = slashed_push names name in
    let apart : (folder ++ slashed names) ++ (47 ∷ name) ≡ folder ++ (slashed names ++ (47 ∷ name)) =
    append_assoc folder (slashed names) (47 ∷ name) in
    let before = c.in_ok-path.ensures.ok in
    let after = c.in_ok-push_name.ensures.ok in
    cc

pub returns-clause-text : goal.returns-clause-text
returns-clause-text g c =
    All-push IsUtf8 c.args.route.now c.args.name.now c.in_ok-path.ensures.text c.in_ok-push_name.ensures.text
