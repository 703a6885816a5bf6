-- The first buffer's bytes, and then those of the others.
use Rattle.std.proofs.Common.{◌-◌, ◌∙◌, ap, min, arith}
use Rattle.std.proofs.lemmas.Result.{IfOk-weaker}
use Rattle.guest_access.proofs.Tries.{those_same}
use Rattle.std.proofs.Math.Seq.{take-length}
use Rattle.call_fs.proofs.Gathered.{put_goes, put_stops, sent_begins, sent_ends}
use Rattle.call_fs.proofs.gathering.+put_each.Goals as goal

pub returns-then-branch-clause-sent : goal.returns-then-branch-clause-sent
returns-then-branch-clause-sent t c =
    let a = c.args in
    IfOk-weaker c.put_each.result _ _
    (λ b goes s those fits.
    put_goes s a.space.now a.buffers.now _ c.in-len1-up.len_at_least a.taken c.min-part.result
    (65536 - c.len-held.result) a.pipe.now c.send.new.pipe c.put_each.new.pipe
    (c.min-part.ensures ∙ ap (λ n. min n (65536 - c.len-held.result)) c.min-wanted.ensures)
    (omega (arith, fits, c.len-held.ensures.len)) fits c.in_ok-send-in-len1-up.field-0 c.if-branch.true
    (c.in_ok-send-in-len1-up.ensures.sent s those) b
    (goes s (those_same s a.areas.now c.send.new.areas c.in_ok-send-in-len1-up.ensures.kept those)))
    c.put_each.ensures.sent

pub returns-then-branch-clause-readers : goal.returns-then-branch-clause-readers
returns-then-branch-clause-readers t c =
    let a = c.args in
    c.put_each.ensures.readers
    ∙ (sent_ends a.areas.now a.space.now a.buffers.now _ c.min-wanted.result a.taken c.min-part.result a.pipe.now
    c.send.new.pipe c.in_ok-send-in-len1-up.field-0 c.min-wanted.ensures c.in_ok-send-in-len1-up.ensures.sent).0

pub returns-then-branch-clause-writers : goal.returns-then-branch-clause-writers
returns-then-branch-clause-writers t c =
    let a = c.args in
    c.put_each.ensures.writers
    ∙ (sent_ends a.areas.now a.space.now a.buffers.now _ c.min-wanted.result a.taken c.min-part.result a.pipe.now
    c.send.new.pipe c.in_ok-send-in-len1-up.field-0 c.min-wanted.ensures c.in_ok-send-in-len1-up.ensures.sent).1

pub returns-else-branch-clause-sent : goal.returns-else-branch-clause-sent
returns-else-branch-clause-sent t c s those fits =
    let a = c.args in
    put_stops s a.space.now a.buffers.now _ c.in-len1-up.len_at_least c.min-wanted.result a.taken c.min-part.result
    a.pipe.now c.send.new.pipe c.send.new.pipe c.in_ok-send-in-len1-up.field-0 c.min-wanted.ensures c.if-branch.false
    (c.in_ok-send-in-len1-up.ensures.sent s those)

pub returns-else-branch-clause-readers : goal.returns-else-branch-clause-readers
returns-else-branch-clause-readers t c =
    let a = c.args in
    (sent_ends a.areas.now a.space.now a.buffers.now _ c.min-wanted.result a.taken c.min-part.result a.pipe.now
    c.send.new.pipe c.in_ok-send-in-len1-up.field-0 c.min-wanted.ensures c.in_ok-send-in-len1-up.ensures.sent).0

pub returns-else-branch-clause-writers : goal.returns-else-branch-clause-writers
returns-else-branch-clause-writers t c =
    let a = c.args in
    (sent_ends a.areas.now a.space.now a.buffers.now _ c.min-wanted.result a.taken c.min-part.result a.pipe.now
    c.send.new.pipe c.in_ok-send-in-len1-up.field-0 c.min-wanted.ensures c.in_ok-send-in-len1-up.ensures.sent).1

pub returns-then-branch-clause-begins : goal.returns-then-branch-clause-begins
returns-then-branch-clause-begins t c =
    let a = c.args in
    sent_begins a.areas.now a.space.now a.buffers.now _ c.min-part.result a.pipe.now c.send.new.pipe c.put_each.new.pipe
    c.in_ok-send-in-len1-up.field-0 c.in_ok-send-in-len1-up.ensures.sent c.put_each.ensures.begins

pub returns-else-branch-clause-begins : goal.returns-else-branch-clause-begins
returns-else-branch-clause-begins t c =
    let a = c.args in
    sent_begins a.areas.now a.space.now a.buffers.now _ c.min-part.result a.pipe.now c.send.new.pipe c.send.new.pipe
    c.in_ok-send-in-len1-up.field-0 c.in_ok-send-in-len1-up.ensures.sent (take-length c.send.new.pipe.bytes)
