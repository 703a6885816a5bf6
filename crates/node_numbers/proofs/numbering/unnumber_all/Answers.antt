-- Fresh numbers are taken back, the last first.
use Rattle.std.proofs.Common.{◌≡◌, ◌-◌, [], ◌∷◌, take, ap, sym, ◌∙◌, Some}
use Rattle.kernel_model.specs.declared.kernel.Kernel.{Kernel}
use Rattle.kernel_model.specs.laws.InPlace.{numbered}
use Rattle.node_numbers.proofs.NumberRuns.{last_of, none_left}
use Rattle.node_numbers.proofs.numbering.unnumber_all.Goals as goal

pub unnumber-requires : goal.unnumber-requires
unnumber-requires c =
    let last : (m : Kernel) × (numbered (take (c.loop-index.index - 1) c.args.fresh.now) c.requires.0 ≡ Some m)
    × (numbered (c.index-fresh-index.result ∷ []) m ≡ Some c.loop-index.kernel) =
    last_of c.args.fresh.now c.loop-index.index c.index-fresh-index.result c.loop-index-test.true
    c.loop-index.auto.index c.index-fresh-index.is c.requires.0 c.loop-index.kernel
    (c.loop-index.invariant c.requires.0 c.requires.1) in
    (last.0, last.2)

pub loop-index-preserved : goal.loop-index-preserved
loop-index-preserved c = λ before e.
    let last : (m : Kernel) × (numbered (take (c.loop-index.index - 1) c.args.fresh.now) before ≡ Some m)
    × (numbered (c.index-fresh-index.result ∷ []) m ≡ Some c.loop-index.kernel) =
    last_of c.args.fresh.now c.loop-index.index c.index-fresh-index.result c.loop-index-test.true
    c.loop-index.auto.index c.index-fresh-index.is before c.loop-index.kernel (c.loop-index.invariant before e) in
    last.1 ∙ ap (λ k. Some k) (sym (c.unnumber.ensures last.0 last.2))

pub returns : goal.returns
returns c =
    λ before e. none_left c.args.fresh.now c.loop-index.index c.loop-index-test.false before c.loop-index.kernel
    (c.loop-index.invariant before e)
