-- What got other rights, or why nothing did.
use Rattle.std.proofs.Common.{◌≡◌, pos, Some, [], if◌then◌else◌, refl, ap, sym, ◌∙◌}
use Rattle.sn_errno.specs.declared.errno.Errno.TheVariants.{EINVAL}
use Rattle.mm_areas.specs.Mappings.{protect_fault}
use Rattle.mm_space.specs.Changes.{righted_in}
use Rattle.mm_space.specs.Spaces.{AddressSpace}
use Rattle.kernel_model.specs.calls.Memory.{fault_errno, protect_refusal, remaps, rights_in}
use Rattle.kernel_calls.proofs.Answering.{no_fault, answers_if_refused, answers_unless_refused}
use Rattle.kernel_calls.proofs.memory.mprotect.Goals as goal
use Rattle.kernel_calls.proofs.memory.mprotect.Goals.{in-Ok, in-Err}

pub returns-then-is_no_protection-clause-row : goal.returns-then-is_no_protection-clause-row
returns-then-is_no_protection-clause-row c caller k has =
    let a = c.args in
    answers_if_refused (λ space. protect_refusal space a.address a.length a.protection) c.refused.result caller k
    a.space.now a.space.now k.areas has c.refused.ensures.effect
    (remaps caller (righted_in caller.space a.address a.length (rights_in a.protection)) (pos 0) []) EINVAL
    (ap (λ b. if b then Some EINVAL else fault_errno (protect_fault a.space.now.mapping a.address a.length))
    (sym c.is_no_protection.ensures ∙ c.if-is_no_protection.true)) c.refused.ensures.reply refl refl

pub returns-clause-row : goal.returns-clause-row
returns-clause-row c caller k has =
    let a = c.args in
    let within : protect_refusal a.space.now a.address a.length a.protection
    ≡ fault_errno (protect_fault a.space.now.mapping a.address a.length)
    = ap (λ b. if b then Some EINVAL else fault_errno (protect_fault a.space.now.mapping a.address a.length))
    (sym c.is_no_protection.ensures ∙ c.if-is_no_protection.false) in
    let view = ap (λ (s : AddressSpace). protect_fault s.mapping a.address a.length) c.space.view_is in
    elim c.match-protect.branch [
      | in-Ok w ↦
          answers_unless_refused (λ space. protect_refusal space a.address a.length a.protection)
          c.match-protect.result caller k a.space.now _ k.areas has
          (ap (λ p. p.effect) w.result-is ∙ w.replied.ensures.effect)
          (λ space. righted_in space a.address a.length (rights_in a.protection)) (pos 0)
          (within ∙ ap fault_errno (sym view ∙ no_fault (λ f. f) _ c.protect.result w.in-Ok.field-0 w.in-Ok.is
          c.protect.ensures.faulty))
          (ap (λ p. p.reply) w.result-is ∙ w.replied.ensures.reply)
          (w.in-Ok.ensures.ok ∙ ap (λ s. righted_in s a.address a.length c.rights_in.result) c.space.view_is
          ∙ ap (righted_in a.space.now a.address a.length) c.rights_in.ensures) refl
      | in-Err w ↦
          answers_if_refused (λ space. protect_refusal space a.address a.length a.protection) c.match-protect.result
          caller k a.space.now _ k.areas has (ap (λ p. p.effect) w.result-is ∙ w.refused-in-Err.ensures.effect)
          (remaps caller (righted_in caller.space a.address a.length (rights_in a.protection)) (pos 0) [])
          w.area_errno.result
          (within ∙ ap fault_errno (sym view ∙ w.in-Err.ensures.fault) ∙ ap Some (sym w.area_errno.ensures))
          (ap (λ p. p.reply) w.result-is ∙ w.refused-in-Err.ensures.reply)
          (w.in-Err.ensures.err ∙ c.space.view_is) refl
    ]
