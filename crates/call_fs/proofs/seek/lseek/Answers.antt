-- A register's open file description, or none.
use Rattle.std.proofs.Common.{Some, None, ◌∙◌}
use Rattle.kernel_model.specs.calls.Seek.{positioned}
use Rattle.call_fs.proofs.Answering.{answers_by_file}
use Rattle.call_fs.proofs.seek.lseek.Goals as goal

pub returns-in_default : goal.returns-in_default
returns-in_default c = record {
  row = λ fd caller k file.
      answers_by_file (λ file. positioned file.description.object) c.refused.result caller k fd None
      (file ∙ c.in_default.is) (c.refused.ensures.row caller k);
}

pub returns : goal.returns
returns c = record {
  row = λ fd caller k file.
      answers_by_file (λ file. positioned file.description.object) c.positioned.result caller k fd
      (Some c.in-Some.file) (file ∙ c.in-Some.is) (c.positioned.ensures.row caller k);
}
