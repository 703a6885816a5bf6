-- A path is one name longer with each name of its route, and each name is text.
use Rattle.std.proofs.Common.{ℕ, List, string_bytes, All, IsUtf8, sym, subst, rules}
use Rattle.std.proofs.lemmas.List.{take_all}
use Rattle.std.proofs.lemmas.List.Elements.{All-get_or, All-more}
use Rattle.host_folder.proofs.PathLemmas.{path_push}
use Rattle.host_folder.proofs.paths.path_of.Goals as goal

pub loop-name-preserved : goal.loop-name-preserved
loop-name-preserved c = record {
  path =
      path_push c.args.folder.now c.names-name-items.result.now c.loop-name.name-index c.name-item.result
      (string_bytes c.loop-name.path) (string_bytes c.push_name.new.path) c.loop-name-test.true c.name-item.is
      c.loop-name.invariant.path c.in_ok-push_name.ensures.ok;
  text =
      All-more IsUtf8 c.names-name-items.result.now c.loop-name.name-index c.name-item.result c.loop-name-test.true
      c.loop-name.invariant.text
      (subst IsUtf8 c.name-item.is c.in_ok-push_name.ensures.text);
}

pub returns-in_err-push_name-clause-memory : goal.returns-in_err-push_name-clause-memory
returns-in_err-push_name-clause-memory c all =
    let names = c.names-name-items.result.now in
    let P : List (List ℕ) → Type 0 = λ xs. All IsUtf8 xs in
    let each : All IsUtf8 names = subst P (sym c.names-name-items.ensures.value) all in
    let here : IsUtf8 c.name-item.result =
    subst IsUtf8 (sym c.name-item.is)
    (All-get_or IsUtf8 names c.loop-name.name-index c.name-item.result c.loop-name-test.true each) in
    let memory = c.in_err-push_name.ensures.memory here in
    search rules

pub returns-clause-text : goal.returns-clause-text
returns-clause-text c =
    let names = c.names-name-items.result.now in
    let i = c.loop-name.name-index in
    let here : All IsUtf8 names =
    subst (All IsUtf8) (take_all i names c.loop-name-test.false) c.loop-name.invariant.text in
    subst (All IsUtf8) c.names-name-items.ensures.value here
