-- An open file description that is there, or none.
use Rattle.std.proofs.Common.{[], Some, None, subst, ◌∙◌}
use Rattle.std.specs.Prelude.{pos}
use Rattle.kernel_model.specs.calls.Answers.{replies}
use Rattle.kernel_model.specs.calls.Descriptors.{tells_status}
use Rattle.kernel_model.specs.entries.Parts.{done}
use Rattle.call_fs.specs.Prepared.{AnswersFiles}
use Rattle.call_fs.proofs.Answering.{answers_at_file}
use Rattle.call_fs.proofs.descriptors.tells_status.Goals as goal

pub returns-in-None : goal.returns-in-None
returns-in-None c = record {
  row = λ caller k d file.
      answers_at_file tells_status c.refused.result caller k d.description None (file ∙ c.in-None.is)
      (c.refused.ensures.row caller k);
}

pub returns-in-Some : goal.returns-in-Some
returns-in-Some c = record {
  row = λ caller k d file.
      answers_at_file tells_status c.replied.result caller k d.description (Some c.in-Some.file) (file ∙ c.in-Some.is)
      (subst (λ n. AnswersFiles (done (replies (pos n) [])) c.replied.result caller k) c.status_flags.ensures
      (c.replied.ensures.row caller k));
}
