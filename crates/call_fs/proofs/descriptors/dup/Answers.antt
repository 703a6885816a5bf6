-- A register's descriptor that isn't open, or is.
use Rattle.std.proofs.Common.{false}
use Rattle.kernel_model.specs.calls.Descriptors.{opens_from}
use Rattle.call_fs.proofs.Answering.{answers_found, answers_missing}
use Rattle.call_fs.proofs.descriptors.dup.Goals as goal

pub returns-in-None : goal.returns-in-None
returns-in-None c = record {
  row = λ caller k table.
      answers_missing (opens_from caller 0 false) c.refused.result caller k c.args.fd _ table c.in-None.ensures.none
      (c.refused.ensures.row caller k);
}

pub returns-in-Some : goal.returns-in-Some
returns-in-Some c = record {
  row = λ caller k table.
      let is = c.in-Some.ensures.open caller k table in
      answers_found (opens_from caller 0 false) c.opens_from.result caller k c.args.fd c.in-Some.looked is
      c.in-Some.ensures.number (c.opens_from.ensures.row caller k is);
}
