-- The word is written, or it may not be.
use Rattle.std.proofs.Common.{◌∷◌, ◌++◌, [], ap, length, take, ◌∙◌}
use Rattle.std.proofs.lemmas.Bool.{ne_eqb}
use Rattle.std.proofs.Math.Seq.{take-append_seam}
use Rattle.kernel_calls.proofs.ClearedWords.{cleared_not, cleared_one, those_behind}
use Rattle.kernel_calls.proofs.Overlays.{overlay}
use Rattle.kernel_calls.proofs.clear_words.clear.Goals as goal

pub returns-then-not-branch-clause-cleared : goal.returns-then-not-branch-clause-cleared
returns-then-not-branch-clause-cleared c caller x all s same own those so_far =
    let a = c.args in
    cleared_not caller a.ended x s all a.space.now a.areas.now a.keys.now so_far _ _
    (ne_eqb a.ended.clear 0 c.if-ended-eq0.false) a.context.now.task same c.in_ok-write.field-0
    (c.in_ok-write.ensures.wrote (overlay x.reach.hand s)
    (those_behind caller a.ended x s all a.space.now a.areas.now a.keys.now so_far those))
    c.if-not-branch.true _
    (c.truncate.ensures ∙ ap (λ n. take n c.push.new.self) c.len-before.ensures
    ∙ ap (take (length a.keys.now)) c.in_ok-push.ensures.ok ∙ take-append_seam a.keys.now _)

pub returns-else-not-branch-clause-cleared : goal.returns-else-not-branch-clause-cleared
returns-else-not-branch-clause-cleared c caller x all s same own those so_far =
    let a = c.args in
    cleared_one caller a.ended x s all a.space.now a.areas.now a.keys.now so_far _ _
    (ne_eqb a.ended.clear 0 c.if-ended-eq0.false) a.context.now.task same c.in_ok-write.field-0
    (c.in_ok-write.ensures.wrote (overlay x.reach.hand s)
    (those_behind caller a.ended x s all a.space.now a.areas.now a.keys.now so_far those))
    c.if-not-branch.false a.context.now.memory own _
    (c.in_ok-push.ensures.ok ∙ ap (λ key. a.keys.now ++ key ∷ []) c.key_at.ensures)
