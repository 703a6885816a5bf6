-- A register's descriptor that isn't open, or is.
use Rattle.sn_errno.specs.declared.errno.Errno.TheVariants.{ENOTTY}
use Rattle.kernel_model.specs.calls.Answers.{refuses}
use Rattle.kernel_model.specs.entries.Parts.{done}
use Rattle.call_fs.proofs.Answering.{answers_found, answers_missing}
use Rattle.call_fs.proofs.descriptors.ioctl.Goals as goal

pub returns-in-None : goal.returns-in-None
returns-in-None c = record {
  row = λ caller k table.
      answers_missing (λ t d. done (refuses ENOTTY)) c.refused.result caller k c.args.fd _ table
      c.in-None.ensures.none (c.refused.ensures.row caller k);
}

pub returns-in-Some : goal.returns-in-Some
returns-in-Some c = record {
  row = λ caller k table.
      answers_found (λ t d. done (refuses ENOTTY)) c.refused-in-Some.result caller k c.args.fd c.in-Some.field-0
      (c.in-Some.ensures.open caller k table) c.in-Some.ensures.number (c.refused-in-Some.ensures.row caller k);
}
