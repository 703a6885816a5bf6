-- What was unmapped, or why nothing was.
use Rattle.std.proofs.Common.{pos, [], Some, rules, refl, ap, sym, ◌∙◌}
use Rattle.mm_areas.specs.declared.fault.AreaErr.TheVariants.{Fault}
use Rattle.mm_areas.specs.Mappings.{unmap_fault}
use Rattle.mm_space.specs.Changes.{unmapped_in}
use Rattle.kernel_model.specs.calls.Memory.{fault_errno, remaps}
use Rattle.kernel_calls.proofs.Answering.{no_fault, answers_if_refused, answers_unless_refused}
use Rattle.kernel_calls.proofs.memory.munmap.Goals as goal
use Rattle.kernel_calls.proofs.memory.munmap.Goals.{in-Ok, in-Err-Memory, in-Err-Fault}

pub returns-clause-row : goal.returns-clause-row
returns-clause-row c =
    let a = c.args in
    elim c.match-unmap.branch [
      | in-Ok w ↦
          rw w.result-is (λ caller k has. answers_unless_refused
          (λ space. fault_errno (unmap_fault a.address a.length)) w.replied.result caller k a.space.now _
          k.areas has w.replied.ensures.effect (λ space. unmapped_in space a.address a.length) (pos 0)
          (ap fault_errno (no_fault Fault (unmap_fault a.address a.length) c.unmap.result _ w.in-Ok.is
          c.unmap.ensures.faulty)) w.replied.ensures.reply
          (w.in-Ok.ensures.ok ∙ ap (λ s. unmapped_in s a.address a.length) c.space.view_is) refl)
      | in-Err-Memory w ↦ rw w.result-is tt
      | in-Err-Fault w ↦
          rw w.result-is (λ caller k has. answers_if_refused
          (λ space. fault_errno (unmap_fault a.address a.length)) w.refused.result caller k a.space.now _
          k.areas has w.refused.ensures.effect (remaps caller (unmapped_in caller.space a.address a.length)
          (pos 0) []) w.area_errno.result
          (ap fault_errno (w.in-Err-Fault.ensures.fault w.in-Err-Fault.fault (search rules)) ∙ ap Some (sym w.area_errno.ensures))
          w.refused.ensures.reply (w.in-Err-Fault.ensures.err ∙ c.space.view_is) refl)
    ]
