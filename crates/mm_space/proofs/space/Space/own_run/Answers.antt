use Rattle.std.proofs.Common.{◌+◌, ◌%◌, ◌^◌, refl, ◌∙◌, arith}
use Rattle.mm_space.proofs.ReadyRuns.{byte_unready, none_ready, on_err, piece_ready, ready_split, still_ready}
use Rattle.mm_space.proofs.ReadyRuns.{unready_then}
use Rattle.mm_space.proofs.space.Space.own_run.Goals as goal

pub loop-done-init : goal.loop-done-init
loop-done-init c =
    record {
      within = omega arith;
      same = refl;
      ready = none_ready c.args.self.now c.args.handed.now c.args.at;
      still = λ other ready. ready;
    }

pub returns-in_err-own_at-clause-lacking : goal.returns-in_err-own_at-clause-lacking
returns-in_err-own_at-clause-lacking c =
    let at = (c.args.at + c.loop-done.done) % 2 ^ 64 in
    on_err c.from_residual.result
    (byte_unready c.args.self.now c.args.handed.now c.args.at c.args.count c.loop-done.done
    c.ranges.at.fits c.loop-done-test.true
    (unready_then c.args.self.now c.loop-done.self c.args.handed.now c.loop-done.handed c.loop-done.invariant.still at
    c.in_err-own_at.ensures.lacking))

pub loop-done-preserved : goal.loop-done-preserved
loop-done-preserved c =
    let at = (c.args.at + c.loop-done.done) % 2 ^ 64 in
    record {
      within = omega (arith, c.loop-done.invariant.within);
      same = c.own_at.ensures.same ∙ c.loop-done.invariant.same;
      ready = ready_split c.own_at.new.self c.own_at.new.handed c.args.at c.loop-done.done
          c.in_page-done.result c.ranges.at.fits
          (still_ready c.loop-done.self c.own_at.new.self c.loop-done.handed c.own_at.new.handed c.own_at.ensures.still
          c.args.at c.loop-done.done c.loop-done.invariant.ready)
          (piece_ready c.own_at.new.self c.own_at.new.handed at c.in_page-done.result
          (omega arith) c.in_page-done.ensures.page c.in_ok-own_at.ensures.ready);
      still = λ other ready. c.own_at.ensures.still other (c.loop-done.invariant.still other ready);
    }
