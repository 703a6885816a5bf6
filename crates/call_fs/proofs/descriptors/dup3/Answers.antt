-- A register's descriptor that isn't open, or is.
use Rattle.std.proofs.Common.{rules, tests, ◌≡◌, ◌%◌, ◌^◌, ◌==◌, ◌||◌, cond, ap, false}
use Rattle.std.specs.Prelude.{not}
use Rattle.sn_errno.specs.declared.errno.Errno.TheVariants.{EINVAL}
use Rattle.kernel_model.specs.calls.Answers.{refuses}
use Rattle.kernel_model.specs.calls.Lookups.{descriptor}
use Rattle.kernel_model.specs.calls.Descriptors.{gives_at, is_cloexec_or_none}
use Rattle.kernel_model.specs.calls.Lookups.{with_descriptor}
use Rattle.kernel_model.specs.entries.Parts.{done, outcome_in, parts}
use Rattle.call_fs.proofs.Answering.{answers_alike, answers_missing}
use Rattle.call_fs.proofs.descriptors.dup3.Goals as goal

pub returns-in-None : goal.returns-in-None
returns-in-None c = record {
  row = λ caller k table.
      let to = gives_at caller (descriptor c.args.number) (c.args.flags % 2 ^ 32) in
      let flags = c.args.flags % 2 ^ 32 in
      let test : (not (is_cloexec_or_none flags) || (descriptor c.args.fd == descriptor c.args.number)) ≡ false
      = search (rules, tests) in
      answers_alike _ (with_descriptor caller c.args.fd to) c.refused-in-None.result caller k
      (ap (λ b. outcome_in (parts k) (cond b (done (refuses EINVAL)) (with_descriptor caller c.args.fd to))) test)
      (answers_missing to c.refused-in-None.result caller k c.args.fd _ table c.in-None.ensures.none
      (c.refused-in-None.ensures.row caller k));
}
