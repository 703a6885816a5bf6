-- Each round puts one word of the auxiliary vector.
use Rattle.std.proofs.Common.{◌++◌, ◌∙◌, get_or, sym, ap}
use Rattle.sn_bytes.specs.Fields.{little_bytes}
use Rattle.image_load.specs.Stacks.{auxiliary_vector}
use Rattle.image_load.proofs.Stacks.{flat_more}
use Rattle.image_load.proofs.words.put_auxiliary.Goals as goal

pub loop-word-preserved : goal.loop-word-preserved
loop-word-preserved c =
    let words = auxiliary_vector c.args.auxiliary.now in
    let k = c.loop-word.word-index in
    c.in_ok-put_u64.ensures.ok ∙ (ap (λ out. out ++ little_bytes 8 (get_or words k 0)) c.loop-word.invariant
    ∙ sym (flat_more (little_bytes 8) words k 0 c.args.out.now c.loop-word-test.true))
