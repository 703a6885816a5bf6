-- A call in which a host call failed leaves what it met and answers EIO.
use mir.Val.{to_z, of_z}
use mir.Syntax.{w64}
use Rattle.std.proofs.Common.{◌≡◌, Some, None, refl, ap, sym, ◌∙◌}
use Rattle.std.specs.FinMap as map
use Rattle.std.specs.Ordering.{int_eq}
use Rattle.std.proofs.Math.Facts.{to_z-of_z}
use Rattle.sn_errno.specs.declared.errno.Errno.TheVariants.{EIO}
use Rattle.sn_errno.specs.Errors.{reply_of}
use Rattle.kernel_model.specs.declared.kernel.Part.TheVariants.{OfTask}
use Rattle.kernel_model.specs.entries.Given.{faulted}
use Rattle.kernel_model.specs.entries.Parts.{outcome_in, parts, put}
use Rattle.kernel_model.specs.laws.InPlace.{changed_by}
use Rattle.kernel_model.specs.machine.Registers.{replied}
use Rattle.plain_steps.proofs.CallLemmas.{failing_other, failing_none, failing_some, faulted_registers}
use Rattle.node_numbers.proofs.FaultLemmas.{done_all}
use Rattle.node_numbers.proofs.FaultLemmas.{done_nothing}
use Rattle.plain_steps.proofs.calls.failing.Goals as goal

pub returns-then-not-is_failure : goal.returns-then-not-is_failure
returns-then-not-is_failure c = (
  failing_other c.args.caller.now c.args.reply c.args.given.now (parts c.args.kernel.now)
      (ap (λ z. int_eq z (reply_of EIO)) (sym (to_z-of_z c.ranges.reply)) ∙ sym c.is_failure.ensures
      ∙ c.if-not-is_failure.true),
  refl,
)

pub returns-then-not-branch : goal.returns-then-not-branch
returns-then-not-branch c =
    let nothing : ((outcome_in (parts c.args.kernel.now) (faulted c.args.given.now)) ≡ None)
    × (c.faulted.new.kernel ≡ c.args.kernel.now) =
    done_nothing (outcome_in (parts c.args.kernel.now) (faulted c.args.given.now)) c.in_ok-faulted.field-0
    c.args.kernel.now c.faulted.new.kernel c.in_ok-faulted.ensures.fits c.in_ok-faulted.ensures.ok
    c.if-not-branch.true in
    (failing_none c.args.caller.now c.args.reply c.args.given.now (parts c.args.kernel.now) nothing.0, nothing.1)

pub go_on-requires : goal.go_on-requires
go_on-requires c =
    let all : changed_by (outcome_in (parts c.args.kernel.now) (faulted c.args.given.now)) c.args.kernel.now
    ≡ Some c.faulted.new.kernel =
    done_all (outcome_in (parts c.args.kernel.now) (faulted c.args.given.now)) c.in_ok-faulted.field-0
    c.args.kernel.now c.faulted.new.kernel c.in_ok-faulted.ensures.fits c.in_ok-faulted.ensures.ok
    c.if-not-branch.false in
    ap (λ m. map.contains_key m c.args.caller.now.task)
    (faulted_registers c.args.given.now c.args.kernel.now c.faulted.new.kernel all)
    ∙ c.requires.there.registers

pub returns : goal.returns
returns c =
    let all : changed_by (outcome_in (parts c.args.kernel.now) (faulted c.args.given.now)) c.args.kernel.now
    ≡ Some c.faulted.new.kernel =
    done_all (outcome_in (parts c.args.kernel.now) (faulted c.args.given.now)) c.in_ok-faulted.field-0
    c.args.kernel.now c.faulted.new.kernel c.in_ok-faulted.ensures.fits c.in_ok-faulted.ensures.ok
    c.if-not-branch.false in
    failing_some c.args.caller.now c.args.reply c.args.given.now c.args.kernel.now c.faulted.new.kernel
    (ap (λ z. int_eq z (reply_of EIO)) (sym (to_z-of_z c.ranges.reply)) ∙ sym c.is_failure.ensures
    ∙ c.if-not-is_failure.false) all
    ∙ ap (λ k. Some k)
    (sym (c.go_on.ensures
    ∙ ap (λ v. put (OfTask c.args.caller.now.task) (Some (replied c.args.caller.now.registers (to_z w64 (of_z w64 v))))
    c.faulted.new.kernel) (c.number.ensures ∙ c.of.ensures)))
