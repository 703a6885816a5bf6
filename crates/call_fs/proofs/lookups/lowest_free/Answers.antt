-- A number that isn't free is passed over.
use Rattle.std.proofs.Common.{◌≡◌, ◌+◌, true, cond, Some, ap, sym, ◌∙◌}
use Rattle.std.specs.Prelude.{is_some, not}
use Rattle.std.specs.FinMap as map
use Rattle.kernel_model.specs.calls.Lookups.{lowest_free}
use Rattle.call_fs.proofs.Lowest.{one_on}
use Rattle.call_fs.proofs.lookups.lowest_free.Goals as goal

pub loop-number-preserved : goal.loop-number-preserved
loop-number-preserved c =
    let t = c.args.numbers.now in
    let n = c.loop-number.number in
    let taken : map.contains_key t n ≡ true =
    sym (ap is_some c.get.ensures.value) ∙ c.is_none.ensures ∙ ap not c.if-is_none.false in
    sym (ap (λ b. cond (not b) (Some n) (lowest_free t (n + 1))) taken) ∙ sym (one_on t n c.loop-number-test.true)
    ∙ c.loop-number.invariant
