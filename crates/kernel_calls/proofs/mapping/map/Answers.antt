-- A mapping that is refused.
use Rattle.std.proofs.Common.{refl, sym, ◌∙◌}
use Rattle.kernel_model.specs.calls.Callers.{context_of}
use Rattle.kernel_model.specs.calls.Memory.{address_in, asked_place, map_refusal, maps_at}
use Rattle.kernel_calls.proofs.Answering.{answers_if_refused}
use Rattle.kernel_calls.proofs.mapping.map.Goals as goal

pub returns-in-Some-clause-row : goal.returns-in-Some-clause-row
returns-in-Some-clause-row c caller k has shared place =
    let a = c.args.args.now in
    answers_if_refused (λ space. map_refusal space a.a0 a.a1 a.a2 a.a3 a.a5 c.args.file) c.refused.result caller k
    c.args.space.now c.args.space.now c.args.areas.now has c.refused.ensures.effect
    (maps_at (context_of k) caller (address_in caller.space (asked_place a.a0 a.a3) a.a1) a.a1 a.a2 a.a3)
    c.in-Some.errno (sym c.refusal.ensures ∙ c.in-Some.is) c.refused.ensures.reply refl (sym shared)
