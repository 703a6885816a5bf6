-- A number that is taken, or whose child has one or is missing, cannot be given.
use Rattle.std.proofs.Common.{◌≡◌, Some, ap, sym, ◌∙◌}
use Rattle.std.specs.Prelude.{is_none, not}
use Rattle.std.specs.FinMap as map
use Rattle.kernel_model.specs.files.FileTree.{number_in}
use Rattle.std.proofs.lemmas.Bool.{OnFalse_from}
use Rattle.node_numbers.proofs.OptionLemmas.{found, not_found, is_some-found}
use Rattle.node_numbers.proofs.Numberings.{taken_number, has_number, is_missing, no_directory}
use Rattle.node_numbers.proofs.numbering.is_waiting.Goals as goal

pub returns-then-contains-clause-none : goal.returns-then-contains-clause-none
returns-then-contains-clause-none c =
    taken_number c.args.fresh.now c.args.kernel.now (sym c.contains.ensures ∙ c.if-contains.true)

pub returns-then-is_none-clause-none : goal.returns-then-is_none-clause-none
returns-then-is_none-clause-none c =
    let dir : map.get c.args.kernel.now.nodes c.args.fresh.now.dir ≡ Some c.in-Some.dir.now =
    found c.get.result _ c.in-Some.dir c.get.ensures c.in-Some.is in
    OnFalse_from _ _ (λ e. is_missing c.args.fresh.now c.args.kernel.now c.in-Some.dir.now dir
    (sym (c.is_some.ensures ∙ is_some-found c.find.result _ c.find.ensures) ∙ e))

pub returns-else-is_none-clause-none : goal.returns-else-is_none-clause-none
returns-else-is_none-clause-none c =
    let dir : map.get c.args.kernel.now.nodes c.args.fresh.now.dir ≡ Some c.in-Some.dir.now =
    found c.get.result _ c.in-Some.dir c.get.ensures c.in-Some.is in
    OnFalse_from _ _ (λ e. has_number c.args.fresh.now c.args.kernel.now c.in-Some.dir.now dir
    (ap is_none
    (sym (c.number_of.ensures ∙ ap (λ bytes. number_in bytes c.in-Some.dir.now.numbers) c.as_bytes.ensures.value))
    ∙ ap not c.if-is_none.ensures))

pub returns-in-None-clause-none : goal.returns-in-None-clause-none
returns-in-None-clause-none c =
    no_directory c.args.fresh.now c.args.kernel.now (not_found c.get.result _ c.get.ensures c.in-None.is)
