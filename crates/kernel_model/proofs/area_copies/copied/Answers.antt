-- Each area stays while it is copied, and from the first key on all of them are.
use Rattle.std.proofs.Common.{◌≤◌, length, ap, sym, ◌∙◌, subst}
use Rattle.kernel_model.proofs.AreaCopies.{set_back, one_more, all_copied}
use Rattle.kernel_model.proofs.area_copies.copied.Goals as goal

pub returns-in_err-copy-clause-kept : goal.returns-in_err-copy-clause-kept
returns-in_err-copy-clause-kept c =
    set_back c.args.made.now c.loop-index.made _ c.in-Some.area.now c.copy.new.self c.loop-index.invariant.0
    c.in-Some.ensures.value c.copy.ensures.kept

pub returns-in_err-insert-clause-kept : goal.returns-in_err-insert-clause-kept
returns-in_err-insert-clause-kept c =
    set_back c.args.made.now c.loop-index.made _ c.in-Some.area.now c.copy.new.self c.loop-index.invariant.0
    c.in-Some.ensures.value c.copy.ensures.kept

pub loop-index-preserved-in-Continue-branch-3 : goal.loop-index-preserved-in-Continue-branch-3
loop-index-preserved-in-Continue-branch-3 c =
    let within : c.loop-index.index ≤ length c.as_slice.result.now =
    subst (λ n. c.loop-index.index ≤ n) (c.len-index.ensures ∙ ap length (sym c.as_slice.ensures))
    c.loop-index.auto.index in (
      set_back c.args.made.now c.loop-index.made _ c.in-Some.area.now c.copy.new.self c.loop-index.invariant.0
          c.in-Some.ensures.value c.copy.ensures.kept,
      c.in_ok-insert.ensures.ok
          ∙ one_more c.args.made.now c.keys-2.inside.items.items c.as_slice.result.now c.loop-index.index
          c.loop-index.made c.loop-index.areas c.in-Some.area.now c.in_ok-copy.copy c.loop-index-test.true within
          (c.as_slice.ensures ∙ sym c.keys-2.view_is) c.loop-index.invariant.0 c.loop-index.invariant.1
          c.in-Some.ensures.value c.in_ok-copy.ensures.copied,
    )

pub returns-clause-copied : goal.returns-clause-copied
returns-clause-copied c =
    all_copied c.args.made.now c.keys-2.inside.items.items c.loop-index.index c.loop-index.areas c.loop-index-test.false
    (c.keys-2.view_is ∙ c.in_ok-keys.ensures) c.loop-index.invariant.1
