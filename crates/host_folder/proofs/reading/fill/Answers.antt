-- What was read so far, and one read more, is what both are together.
use Rattle.std.proofs.Common.{◌≤◌, ◌++◌, length, take, sym, subst}
use Rattle.std.specs.Io.KnownBytes.{Consumes}
use Rattle.host_folder.proofs.ReadLemmas.{consumes_more, take_placed, placed_within}
use Rattle.host_folder.proofs.reading.fill.Goals as goal

pub loop-done-preserved : goal.loop-done-preserved
loop-done-preserved g c =
    let buf = c.loop-done.buf in
    let part = c.read.new.buf in
    let done = c.loop-done.done in
    let n = c.in_ok-count.count in
    let old = g.F.Read.remaining c.args.file.now in
    let mid = g.F.Read.remaining c.loop-done.file in
    let new = g.F.Read.remaining c.read.new.self in
    let few : n ≤ length part = c.in_ok-count.ensures.bound.0 in
    let more : Consumes old new (take done buf ++ take n part) =
    consumes_more old mid new (take done buf) (take n part) c.loop-done.invariant.1 c.in_ok-count.ensures.bytes.0 in (
      placed_within buf part done n c.loop-done.invariant.0 few,
      subst (Consumes old new) (sym (take_placed buf part done n c.loop-done.invariant.0 few)) more,
    )
