-- Each place's areas stay while they are copied, and from the first place on all of them are.
use Rattle.std.proofs.Common.{◌≤◌, length, ap, sym, ◌∙◌, subst}
use Rattle.std.specs.FinMap as map
use Rattle.kernel_model.proofs.AreaCopies.{set_back, one_more, all_copied}
use Rattle.kernel_model.proofs.area_copies.Named+GuestArea.copy.Goals as goal

pub returns-in_err-copy-clause-kept : goal.returns-in_err-copy-clause-kept
returns-in_err-copy-clause-kept c =
    set_back c.args.self.now c.loop-index.self-inside.places _ c.in-Some.made.now c.copied.new.made
    c.loop-index.invariant.0 c.in-Some.ensures.value c.copied.ensures.kept

pub returns-in_err-insert-clause-kept : goal.returns-in_err-insert-clause-kept
returns-in_err-insert-clause-kept c =
    set_back c.args.self.now c.loop-index.self-inside.places _ c.in-Some.made.now c.copied.new.made
    c.loop-index.invariant.0 c.in-Some.ensures.value c.copied.ensures.kept

pub loop-index-preserved-in-Continue-branch-3 : goal.loop-index-preserved-in-Continue-branch-3
loop-index-preserved-in-Continue-branch-3 c =
    let within : c.loop-index.index ≤ length c.as_slice.result.now =
    subst (λ n. c.loop-index.index ≤ n) (c.len-index.ensures ∙ ap length (sym c.as_slice.ensures))
    c.loop-index.auto.index in (
      set_back c.args.self.now c.loop-index.self-inside.places _ c.in-Some.made.now c.copied.new.made
          c.loop-index.invariant.0 c.in-Some.ensures.value c.copied.ensures.kept,
      c.in_ok-insert.ensures.ok
          ∙ one_more c.args.self.now c.keys-2.inside.items.items c.as_slice.result.now c.loop-index.index
          c.loop-index.self-inside.places c.loop-index.places c.in-Some.made.now c.in_ok-copy.copy
          c.loop-index-test.true within (c.as_slice.ensures ∙ sym c.keys-2.view_is) c.loop-index.invariant.0
          c.loop-index.invariant.1
          c.in-Some.ensures.value c.in_ok-copy.ensures.copied,
    )

pub returns-clause-copied : goal.returns-clause-copied
returns-clause-copied c =
    all_copied c.args.self.now c.keys-2.inside.items.items c.loop-index.index c.loop-index.places
    c.loop-index-test.false (c.keys-2.view_is ∙ c.in_ok-keys.ensures ∙ ap map.keys c.self.view_is)
    c.loop-index.invariant.1
