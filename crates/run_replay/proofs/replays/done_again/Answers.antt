-- How many entries are steps, and the text behind them, are what the answer says.
use Rattle.std.proofs.Common.{◌≡◌, ◌<◌, ◌≤◌, List, length, take, ap, sym, subst, ◌∙◌, arith}
use Rattle.std.specs.Prelude.{◌≢◌}
use Rattle.std.specs.Cmp.Lexicographic.{other_text}
use Rattle.kernel_model.specs.declared.entry.Entry.{Entry}
use Rattle.kernel_model.specs.printed.Printed.{printed}
use Rattle.run_replay.specs.Replays.{Fits}
use Rattle.run_replay.proofs.Sayings.{says_step, says_text}
use Rattle.run_replay.proofs.replays.done_again.Goals as goal

pub returns-then-done-len : goal.returns-then-done-len
returns-then-done-len c =
    let start = c.args.plain.now.kernel in
    let after = c.fitting.new.plain.kernel in
    let trace = c.args.trace.now in
    let done = c.in_ok-done.done in
    let fits : Fits start trace done after =
    subst (λ (t : List Entry). Fits start t done after) c.as_slice.ensures c.in_ok-done.ensures in
    let short : done < length trace = omega arith in
    λ mounts. says_step mounts start after trace c.args.flag c.args.text.now done fits short

pub returns : goal.returns
returns c =
    let start = c.args.plain.now.kernel in
    let after = c.fitting.new.plain.kernel in
    let trace = c.args.trace.now in
    let flag = c.args.flag in
    let text = c.args.text.now in
    let done = c.in_ok-done.done in
    let same = c.alike.result in
    let fits : Fits start trace done after =
    subst (λ (t : List Entry). Fits start t done after) c.as_slice.ensures c.in_ok-done.ensures in
    let long : length trace ≤ done = omega arith in
    let alike : take same (printed after trace flag) ≡ take same text =
    ap (take same) (sym (c.as_slice-else-eq.ensures ∙ c.in_ok-printed.ensures)) ∙ c.alike.ensures in
    let other : c.as_slice-2.result.now ≢ text =
    other_text c.as_slice-2.result.now text (sym c.if-eq.false ∙ c.eq.ensures) in
    let apart : printed after trace flag ≢ text =
    λ e. other (c.as_slice-2.ensures ∙ c.in_ok-printed.ensures ∙ e) in
    λ mounts. says_text mounts start after trace flag text done same fits long alike apart
