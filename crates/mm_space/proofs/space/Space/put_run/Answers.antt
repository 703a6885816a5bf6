use Rattle.std.proofs.Common.{◌≡◌, ◌+◌, ◌-◌, ◌%◌, ◌^◌, ◌++◌, length, take, drop, refl, sym, ap, ◌∙◌, arith}
use Rattle.std.proofs.lemmas.List.{length-take-le}
use Rattle.std.proofs.Math.Seq.{take-add}
use Rattle.mm_space.specs.Puts.{put_run}
use Rattle.mm_space.specs.Spaces.{reach}
use Rattle.mm_space.proofs.PageRuns.{put_none, put_split}
use Rattle.mm_space.proofs.ReadyRuns.{byte_ready}
use Rattle.mm_space.proofs.Readied.{ready_same}
use Rattle.mm_space.proofs.space.Space.put_run.Goals as goal

pub loop-done-init : goal.loop-done-init
loop-done-init c =
    record {
      within = omega arith;
      put = sym (put_none c.args.task c.args.at (reach c.args.self.now c.args.handed.now));
      ready = c.requires;
      alike = λ address. refl;
    }

pub put_piece-requires-clause-ready : goal.put_piece-requires-clause-ready
put_piece-requires-clause-ready c =
    byte_ready c.loop-done.self c.loop-done.handed c.args.at _ c.loop-done.done c.ranges.at.fits c.loop-done-test.true
    c.loop-done.invariant.ready

pub loop-done-preserved : goal.loop-done-preserved
loop-done-preserved c =
    let bytes = c.args.bytes.now in
    let at = (c.args.at + c.loop-done.done) % 2 ^ 64 in
    let r = reach c.args.self.now c.args.handed.now in
    let first = take c.loop-done.done bytes in
    let piece = take (c.loop-done.done + c.in_page-piece.result - c.loop-done.done) (drop c.loop-done.done bytes) in
    let counted : length first ≡ c.loop-done.done =
    length-take-le c.loop-done.done bytes c.loop-done.invariant.within in
    let parts : take (c.loop-done.done + c.in_page-piece.result) bytes ≡ first ++ piece =
    take-add c.loop-done.done c.in_page-piece.result bytes
    ∙ ap (λ n. first ++ take n (drop c.loop-done.done bytes)) (omega arith) in
    record {
      within = omega (arith, c.loop-done.invariant.within);
      put =
          c.put_piece.ensures.put
          ∙ ap (put_run c.args.task at piece) c.loop-done.invariant.put
          ∙ ap (λ n. put_run c.args.task ((c.args.at + n) % 2 ^ 64) piece (put_run c.args.task c.args.at first r))
          (sym counted)
          ∙ sym (put_split c.args.task c.args.at first piece r c.ranges.at.fits)
          ∙ ap (λ bs. put_run c.args.task c.args.at bs r) (sym parts);
      ready = ready_same c.loop-done.self c.put_piece.new.self c.loop-done.handed c.put_piece.new.handed
          c.put_piece.ensures.ready c.args.at _ ∙ c.loop-done.invariant.ready;
      alike = λ address. c.put_piece.ensures.ready address ∙ c.loop-done.invariant.alike address;
    }
