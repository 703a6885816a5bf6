-- Before the first there is none, and each is the next.
use Rattle.std.proofs.Common.{◌+◌, [], ◌∷◌, ◌++◌, ap, sym, ◌∙◌}
use Rattle.kernel_model.specs.files.Numbers.{count_up}
use Rattle.image_walk.proofs.Firsts.{count_up-more}
use Rattle.sentry_run.proofs.play.root_numbers.Goals as goal

pub loop-index-init : goal.loop-index-init
unfolding count_up
loop-index-init c = c.new-roots.ensures

pub loop-index-preserved : goal.loop-index-preserved
loop-index-preserved c =
    c.in_ok-push.ensures.ok ∙ ap (λ ns. ns ++ (c.loop-index.index + 1) ∷ []) c.loop-index.invariant
    ∙ sym (count_up-more 1 c.loop-index.index)
