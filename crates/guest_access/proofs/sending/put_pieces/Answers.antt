-- A piece more is put behind those before it.
use Rattle.std.proofs.Common.{◌≡◌, ◌+◌, ◌%◌, ◌^◌, length, ap, ◌∙◌, arith}
use Rattle.mm_space.specs.Accesses.{byte_at, readable}
use Rattle.mm_space.specs.Handed.{hand_of}
use Rattle.mm_space.specs.Runs.{bytes_from}
use Rattle.kernel_model.specs.machine.Spaces.{reach_with}
use Rattle.guest_access.proofs.Sendings.{length_put, put_more, put_none}
use Rattle.guest_access.proofs.sending.put_pieces.Goals as goal

pub loop-done-init : goal.loop-done-init
loop-done-init c =
    record {
      within = omega arith;
      put = put_none (byte_at readable (reach_with c.args.space.now (hand_of c.args.handed.now))) c.args.at
          c.args.pipe.now;
    }

pub put-requires : goal.put-requires
put-requires c =
    let there : length c.loop-done.pipe.bytes ≡ length c.args.pipe.now.bytes + c.loop-done.done =
    length_put (byte_at readable (reach_with c.args.space.now (hand_of c.args.handed.now))) c.args.at c.loop-done.done
    c.args.pipe.now c.loop-done.pipe c.loop-done.invariant.put in
    omega (arith, there, c.requires, c.piece-piece.ensures.within, c.loop-done-test.true)

pub loop-done-preserved : goal.loop-done-preserved
loop-done-preserved c =
    let piece = c.piece-piece.result.now in
    let at = (c.args.at + c.loop-done.done) % 2 ^ 64 in
    record {
      within = omega (arith, c.piece-piece.ensures.within, c.loop-done-test.true);
      put = put_more (byte_at readable (reach_with c.args.space.now (hand_of c.args.handed.now))) c.args.at
          c.loop-done.done piece c.args.pipe.now c.loop-done.pipe c.put.new.self c.ranges.at.fits
          c.loop-done.invariant.put c.put.ensures
          (c.piece-piece.ensures.bytes
          ∙ ap (λ s. bytes_from (byte_at readable (reach_with s (hand_of c.args.handed.now))) at (length piece))
          c.space.view_is);
    }
