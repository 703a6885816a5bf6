-- The lowest free number, or none.
use Rattle.std.proofs.Common.{ap, sym}
use Rattle.sn_errno.specs.declared.errno.Errno.TheVariants.{EMFILE}
use Rattle.kernel_model.specs.calls.Descriptors.{gives, opens_from}
use Rattle.kernel_model.specs.calls.Lookups.{or_refuse}
use Rattle.kernel_model.specs.entries.Parts.{outcome_in, parts}
use Rattle.call_fs.proofs.Answering.{answers_alike}
use Rattle.call_fs.proofs.Lowest.{not_refused}
use Rattle.call_fs.proofs.descriptors.opens_from.Goals as goal

pub returns-in-Some : goal.returns-in-Some
returns-in-Some c = record {
  row = λ caller k is.
      let l = c.args.looked.now in
      let row = gives caller c.args.cloexec l.numbers.now l.descriptor in
      answers_alike (opens_from caller c.args.from c.args.cloexec l.numbers.now l.descriptor) (row c.in-Some.number)
      c.gives.result caller k
      (ap (λ o. outcome_in (parts k) (or_refuse EMFILE row o)) (sym c.in-Some.ensures))
      (c.gives.ensures.row caller k is
      (not_refused l.numbers.now c.args.from l.number c.in-Some.number l.descriptor is.has c.in-Some.ensures));
}
