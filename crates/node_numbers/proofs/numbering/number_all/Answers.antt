-- Fresh numbers are given one after the other, and taken back where one cannot be.
use Rattle.std.proofs.Common.{◌≡◌, [], ◌∷◌, ap, sym, ◌∙◌, Some, None, is_some, unwrap_or}
use Rattle.kernel_model.specs.declared.kernel.Kernel.{Kernel}
use Rattle.kernel_model.specs.laws.InPlace.{numbered}
use Rattle.node_numbers.proofs.NodesSoFar.{numbered_none}
use Rattle.node_numbers.proofs.NumberRuns.{numbered_step, numbered_refused, taken_by, refused_by}
use Rattle.node_numbers.proofs.numbering.number_all.Goals as goal

pub loop-done-init : goal.loop-done-init
loop-done-init c = numbered_none c.args.kernel.now

pub unnumber_all-requires : goal.unnumber_all-requires
unnumber_all-requires c =
    let refused : (numbered (c.index-fresh-done.result ∷ []) c.loop-done.kernel ≡ None)
    × (c.number_one.new.kernel ≡ c.loop-done.kernel) =
    refused_by (numbered (c.index-fresh-done.result ∷ []) c.loop-done.kernel) c.in-Ok-false.field-0 c.loop-done.kernel
    c.number_one.new.kernel c.in-Ok-false.ensures.fits c.in-Ok-false.ensures.ok c.in-Ok-false.field-0-test in
    (c.args.kernel.now, c.loop-done.invariant ∙ ap (λ (k : Kernel). Some k) (sym refused.1))

pub returns-in-Ok-false-clause-fits : goal.returns-in-Ok-false-clause-fits
returns-in-Ok-false-clause-fits c =
    let refused : (numbered (c.index-fresh-done.result ∷ []) c.loop-done.kernel ≡ None)
    × (c.number_one.new.kernel ≡ c.loop-done.kernel) =
    refused_by (numbered (c.index-fresh-done.result ∷ []) c.loop-done.kernel) c.in-Ok-false.field-0 c.loop-done.kernel
    c.number_one.new.kernel c.in-Ok-false.ensures.fits c.in-Ok-false.ensures.ok c.in-Ok-false.field-0-test in
    sym
    (ap is_some (numbered_refused c.args.fresh.now c.loop-done.done c.index-fresh-done.result c.loop-done-test.true
    c.index-fresh-done.is c.args.kernel.now c.loop-done.kernel c.loop-done.invariant refused.0))

pub returns-in-Ok-false-clause-ok : goal.returns-in-Ok-false-clause-ok
returns-in-Ok-false-clause-ok c =
    let refused : (numbered (c.index-fresh-done.result ∷ []) c.loop-done.kernel ≡ None)
    × (c.number_one.new.kernel ≡ c.loop-done.kernel) =
    refused_by (numbered (c.index-fresh-done.result ∷ []) c.loop-done.kernel) c.in-Ok-false.field-0 c.loop-done.kernel
    c.number_one.new.kernel c.in-Ok-false.ensures.fits c.in-Ok-false.ensures.ok c.in-Ok-false.field-0-test in
    let none : numbered c.args.fresh.now c.args.kernel.now ≡ None =
    numbered_refused c.args.fresh.now c.loop-done.done c.index-fresh-done.result c.loop-done-test.true
    c.index-fresh-done.is c.args.kernel.now c.loop-done.kernel c.loop-done.invariant refused.0 in
    c.unnumber_all.ensures c.args.kernel.now (c.loop-done.invariant ∙ ap (λ (k : Kernel). Some k) (sym refused.1))
    ∙ sym (ap (λ o. unwrap_or o c.args.kernel.now) none)

pub unnumber_all-requires-in-Err : goal.unnumber_all-requires-in-Err
unnumber_all-requires-in-Err c =
    (c.args.kernel.now, c.loop-done.invariant ∙ ap (λ (k : Kernel). Some k) (sym c.in-Err.ensures.err))

pub loop-done-preserved : goal.loop-done-preserved
loop-done-preserved c =
    numbered_step c.args.fresh.now c.loop-done.done c.index-fresh-done.result c.loop-done-test.true
    c.index-fresh-done.is c.args.kernel.now c.loop-done.kernel c.loop-done.invariant
    ∙ taken_by (numbered (c.index-fresh-done.result ∷ []) c.loop-done.kernel) c.in-Ok-true.field-0 c.loop-done.kernel
    c.number_one.new.kernel c.in-Ok-true.ensures.fits c.in-Ok-true.ensures.ok c.in-Ok-true.field-0-test
