-- A register's descriptor that isn't open, or is.
use Rattle.std.proofs.Common.{◌%◌, ◌^◌, sym, subst, ◌∙◌}
use Rattle.kernel_model.specs.calls.Lookups.{descriptor}
use Rattle.kernel_model.specs.calls.Descriptors.{by_command}
use Rattle.call_fs.specs.Prepared.{AnswersFiles}
use Rattle.call_fs.proofs.Answering.{answers_found, answers_missing, file_looked}
use Rattle.call_fs.proofs.descriptors.fcntl.Goals as goal

pub returns-in-None : goal.returns-in-None
returns-in-None c = record {
  row = λ caller k table file.
      answers_missing (by_command (c.args.command % 2 ^ 32) (c.args.argument % 2 ^ 32) (descriptor c.args.fd) caller)
      c.refused.result caller k c.args.fd _ table c.in-None.ensures.none (c.refused.ensures.row caller k);
}

pub returns-in-Some : goal.returns-in-Some
returns-in-Some c = record {
  row = λ caller k table file.
      let is = c.in-Some.ensures.open caller k table in
      let l = c.in-Some.looked in
      let by = by_command (c.args.command % 2 ^ 32) (c.args.argument % 2 ^ 32) in
      let number = c.in-Some.ensures.number in
      answers_found (by (descriptor c.args.fd) caller) c.by_command.result caller k c.args.fd l is number
      (subst (λ n. AnswersFiles (by n caller l.numbers.now l.descriptor) c.by_command.result caller k) number
      (c.by_command.ensures.row caller k is (sym (file_looked l caller k c.args.fd is number) ∙ file)));
}
