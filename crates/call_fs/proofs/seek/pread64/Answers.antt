-- A register's open file description, or none.
use Rattle.std.proofs.Common.{Bool, Some, None, cond, ap, sym, ◌∙◌}
use Rattle.fd_table.specs.Flags.{may_read}
use Rattle.sn_errno.specs.declared.errno.Errno.TheVariants.{EBADF}
use Rattle.kernel_model.specs.calls.Answers.{refuses}
use Rattle.kernel_model.specs.calls.Lookups.{if_may}
use Rattle.kernel_model.specs.calls.Seek.{positioned}
use Rattle.kernel_model.specs.entries.Parts.{done, outcome_in, parts}
use Rattle.call_fs.proofs.Answering.{answers_alike, answers_by_file}
use Rattle.call_fs.proofs.seek.pread64.Goals as goal

pub returns-in-None : goal.returns-in-None
returns-in-None c = record {
  row = λ fd caller k is.
      answers_by_file (if_may may_read (λ d. positioned d.object)) c.refused.result caller k fd None
      (is ∙ c.in-None.is) (c.refused.ensures.row caller k);
}

pub returns-in-Some : goal.returns-in-Some
returns-in-Some c = record {
  row = λ fd caller k is.
      let file = c.in-Some.file in
      let at = λ (b : Bool). cond b (positioned file.description.object) (done (refuses EBADF)) in
      answers_by_file (if_may may_read (λ d. positioned d.object)) c.if_may.result caller k fd (Some file)
      (is ∙ c.in-Some.is)
      (answers_alike _ (at c.may_read.result) c.if_may.result caller k
      (ap (λ b. outcome_in (parts k) (at b)) (sym c.may_read.ensures)) (c.if_may.ensures.row caller k));
}
