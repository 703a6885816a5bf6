-- A task at a call sleeps where the call puts it to sleep.
use Rattle.std.proofs.Common.{Some, refl, ap, sym, ◌∙◌}
use Rattle.futex_core.specs.Waiters.{after_sleep}
use Rattle.kernel_model.specs.declared.caller.Caller.{Caller}
use Rattle.kernel_model.specs.declared.kernel.Kernel.{Kernel}
use Rattle.kernel_model.specs.laws.InPlace.{changed_by}
use Rattle.plain_steps.proofs.WaitLemmas.{slept_on, sleeps_at}
use Rattle.plain_steps.proofs.waiting.sleep_in.Goals as goal

pub returns-in_ok-sleep-in-Some : goal.returns-in_ok-sleep-in-Some
returns-in_ok-sleep-in-Some c =
    let k : Kernel = c.args.kernel.now in
    ap (λ o. changed_by o k)
    (sleeps_at c.args.draft.now.caller k c.call_of-no.result c.args_of-args.result c.in_ok-prepare.field-0
    c.prepare.new.draft.caller.space c.prepare.new.draft.areas c.call_of-no.ensures c.args_of-args.ensures
    c.in_ok-prepare.ensures.row
    ∙ ap (λ key. slept_on key c.args.draft.now.caller k) (sym c.key_slept_on-key.ensures ∙ c.in-Some.is))
    ∙ ap (λ list. Some (record k { sleepers = list }))
    (ap (λ (x : Caller). after_sleep k.sleepers x.task c.in-Some.key) (sym c.in_ok-prepare.ensures.kept)
    ∙ sym c.in_ok-sleep-in-Some.ensures.ok)

pub returns-in-None : goal.returns-in-None
returns-in-None c = (
  sleeps_at c.args.draft.now.caller c.args.kernel.now c.call_of-no.result c.args_of-args.result c.in_ok-prepare.field-0
      c.prepare.new.draft.caller.space c.prepare.new.draft.areas c.call_of-no.ensures c.args_of-args.ensures
      c.in_ok-prepare.ensures.row
      ∙ ap (λ key. slept_on key c.args.draft.now.caller c.args.kernel.now) (sym c.key_slept_on-key.ensures ∙
      c.in-None.is),
  refl,
)
