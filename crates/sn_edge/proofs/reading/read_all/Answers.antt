use Rattle.std.proofs.Common.{◌+◌, length, refl, ap, sym, ◌∙◌, arith}
use Rattle.sn_edge.specs.Reading.{after_reads}
use Rattle.sn_edge.proofs.Readings.{ReadsWithin-last, IsFrontOfRest-step, IsFrontOfFile-end, after_reads-step}
use Rattle.sn_edge.proofs.reading.read_all.Goals as goal

pub returns-in_err-read_piece-clause-told : goal.returns-in_err-read_piece-clause-told
returns-in_err-read_piece-clause-told g c =
    let so_far = c.loop-bytes.invariant.told in
    ReadsWithin-last _ _ _ _ c.args.name.now (length c.loop-bytes.bytes) _ (c.args.limit + 1) so_far.0
    c.in_ok-open.ensures.ok so_far.2 so_far.1 (omega arith) c.in_err-read_piece.ensures.err

pub returns-then-branch-eq0-clause-content : goal.returns-then-branch-eq0-clause-content
returns-then-branch-eq0-clause-content g c =
    let so_far = c.loop-bytes.invariant.told in
    let read = c.in_ok-read_piece.ensures in
    IsFrontOfFile-end (g.S.Source.told c.args.source.now) (g.S.Source.told c.open.new.self)
    (g.S.Source.told c.loop-bytes.source)
    c.args.name.now c.loop-bytes.bytes c.read_piece.new.bytes c.in_ok-read_piece.field-0 so_far.0 (c.args.limit + 1)
    c.in_ok-open.ensures.ok so_far.2 c.loop-bytes.invariant.front read.bytes (omega (arith, read.len))
    (omega (arith, read.len)) (read.end c.if-branch-eq0.true)

pub returns-then-branch-eq0-clause-ok : goal.returns-then-branch-eq0-clause-ok
returns-then-branch-eq0-clause-ok g c =
    let so_far = c.loop-bytes.invariant.told in
    let read = c.in_ok-read_piece.ensures in (
      so_far.0 + 1,
      omega (arith, read.len),
      after_reads-step _ _ _ _ _ so_far.0 so_far.2 read.ok
          ∙ ap (λ k. after_reads (g.S.Source.told c.open.new.self) k (so_far.0 + 1)) (sym read.len)
          ∙ ap (λ s. after_reads s (length c.read_piece.new.bytes) (so_far.0 + 1)) c.in_ok-open.ensures.ok,
    )

pub loop-bytes-preserved : goal.loop-bytes-preserved
loop-bytes-preserved g c =
    let so_far = c.loop-bytes.invariant.told in
    let read = c.in_ok-read_piece.ensures in
    record {
      within = omega (arith, read.len, read.bound);
      front = IsFrontOfRest-step _ _ _ so_far.0 _ _ so_far.2 c.loop-bytes.invariant.front read.bytes;
      told = (
        so_far.0 + 1,
        omega (arith, read.len),
        after_reads-step _ _ _ _ _ so_far.0 so_far.2 read.ok
            ∙ ap (λ k. after_reads (g.S.Source.told c.open.new.self) k (so_far.0 + 1)) (sym read.len),
      );
      still = read.cause.still refl ∙ c.loop-bytes.invariant.still;
      unfailing = λ h. read.unfailing (c.loop-bytes.invariant.unfailing h);
    }
