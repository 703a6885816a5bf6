-- An open file description that is there, or none.
use Rattle.std.proofs.Common.{Some, None, ◌∙◌}
use Rattle.kernel_model.specs.calls.Descriptors.{sets_status}
use Rattle.call_fs.proofs.Answering.{answers_at_file}
use Rattle.call_fs.proofs.Changes.{answers_status}
use Rattle.call_fs.proofs.descriptors.sets_status.Goals as goal

pub returns-in-None : goal.returns-in-None
returns-in-None c = record {
  row = λ caller k file.
      answers_at_file (sets_status c.args.descriptor c.args.flags) c.refused.result caller k
      c.args.descriptor.description None (file ∙ c.in-None.is) (c.refused.ensures.row caller k);
}

pub returns-in-Some : goal.returns-in-Some
returns-in-Some c = record {
  row = λ caller k file.
      let there = file ∙ c.in-Some.is in
      answers_at_file (sets_status c.args.descriptor c.args.flags) _ caller k c.args.descriptor.description
      (Some c.in-Some.field-0) there
      (answers_status c.args.descriptor c.args.flags c.in-Some.field-0 caller k there);
}
