-- A mapping, once it is told whether a file is asked for.
use Rattle.std.proofs.Common.{ap, ◌∙◌}
use Rattle.std.proofs.lemmas.Result.{IfOk-weaker}
use Rattle.kernel_model.specs.calls.Callers.{context_of}
use Rattle.kernel_model.specs.calls.Memory.{file_refusal, maps}
use Rattle.kernel_model.specs.entries.Parts.{done, parts}
use Rattle.kernel_model.proofs.Trees.{outcome-bind}
use Rattle.kernel_calls.proofs.mapping.mmap.Goals as goal

pub returns-clause-row : goal.returns-clause-row
returns-clause-row c =
    let a = c.args.args.now in
    IfOk-weaker c.map.result _ _ (λ p row caller k has shared place table.
    let answers = row caller k has shared place in
    record {
      changes = answers.changes;
      row_is =
          outcome-bind (parts k) (file_refusal a.a3 a.a4 caller)
          (λ file. done (maps (context_of k) caller a.a0 a.a1 a.a2 a.a3 a.a5 file))
          ∙ ap (λ file. maps (context_of k) caller a.a0 a.a1 a.a2 a.a3 a.a5 file)
          (c.file_refusal-file.ensures caller k table)
          ∙ answers.row_is;
      done_is = answers.done_is;
    }) c.map.ensures.row
