-- The first buffer's bytes, and then those of the others.
use Rattle.std.proofs.Common.{◌≡◌, ◌∙◌, Some, ap, rules}
use Rattle.std.proofs.lemmas.Result.{IfOk-weaker}
use Rattle.guest_access.proofs.Tries.{those_same}
use Rattle.call_fs.proofs.Gathered.{append_goes, append_stops, begins_with}
use Rattle.call_fs.proofs.gathering.+append_each.Goals as goal

pub returns-in_ok-extend_from_slice-in-Some-clause-appended
    : goal.returns-in_ok-extend_from_slice-in-Some-clause-appended
returns-in_ok-extend_from_slice-in-Some-clause-appended t c =
    let a = c.args in
    let same : c.in-Some.bytes ≡ c.as_slice.result.now = search rules in
    IfOk-weaker c.append_each.result _ _
    (λ b goes s those.
    append_goes s a.space.now a.buffers.now _ c.in-len1-up.len_at_least c.as_slice.result.now a.console.now
    c.extend_from_slice.new.self c.append_each.new.console b c.in_ok-extend_from_slice-in-Some.ensures.ok
    (c.in_ok-bytes-in-len1-up.ensures.bytes s those ∙ c.in-Some.is ∙ ap Some same)
    (goes s (those_same s a.areas.now c.read.new.areas c.in_ok-bytes-in-len1-up.ensures.kept those)))
    c.append_each.ensures.appended

pub returns-in_ok-extend_from_slice-in-Some-clause-begins : goal.returns-in_ok-extend_from_slice-in-Some-clause-begins
returns-in_ok-extend_from_slice-in-Some-clause-begins t c =
    begins_with c.args.console.now c.extend_from_slice.new.self c.append_each.new.console c.as_slice.result.now
    c.in_ok-extend_from_slice-in-Some.ensures.ok c.append_each.ensures.begins

pub returns-in-None-clause-appended : goal.returns-in-None-clause-appended
returns-in-None-clause-appended t c s those =
    let a = c.args in
    append_stops s a.space.now a.buffers.now _ c.in-len1-up.len_at_least a.console.now a.console.now
    (c.in_ok-bytes-in-len1-up.ensures.bytes s those ∙ c.in-None.is)
