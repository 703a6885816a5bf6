-- A number that a table may have, or none.
use Rattle.std.proofs.Common.{◌≡◌, ◌==◌, true, nat_lt, cond, arith, ap, sym, ◌∙◌}
use Rattle.std.proofs.lemmas.Bool.Decides.{nat_tests}
use Rattle.sn_errno.specs.declared.errno.Errno.TheVariants.{EBADF}
use Rattle.fd_table.specs.declared.flags.TheConstants.{O_CLOEXEC}
use Rattle.kernel_model.specs.calls.Answers.{refuses}
use Rattle.kernel_model.specs.calls.Descriptors.{gives}
use Rattle.kernel_model.specs.entries.Parts.{done, outcome_in, parts}
use Rattle.call_fs.proofs.Answering.{answers_alike}
use Rattle.call_fs.proofs.Lowest.{possible}
use Rattle.call_fs.proofs.descriptors.gives_at.Goals as goal

pub returns-then-is_possible : goal.returns-then-is_possible
returns-then-is_possible c = record {
  row = λ caller k is apart.
      let l = c.args.looked.now in
      let here = gives caller (c.args.flags == O_CLOEXEC) l.numbers.now l.descriptor c.args.number in
      let below : nat_lt c.args.number 256 ≡ true = sym c.is_possible.ensures ∙ c.if-is_possible.true in
      answers_alike _ here c.gives.result caller k
      (ap (λ b. outcome_in (parts k) (cond b here (done (refuses EBADF))))
      (sym c.is_possible.ensures ∙ c.if-is_possible.true))
      (c.gives.ensures.row caller k is (possible l.numbers.now l.number c.args.number l.descriptor is.has apart
      (grind (arith, nat_tests))));
}
