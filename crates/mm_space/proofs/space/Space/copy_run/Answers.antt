use Rattle.std.proofs.Common.{◌≡◌, ◌+◌, ◌/◌, ◌%◌, ◌^◌, length, ap, sym, ◌∙◌, arith, length-take, length-drop}
use Rattle.std.proofs.lemmas.List.{take_all}
use Rattle.std.proofs.lemmas.Slice.{take-put_mid}
use Rattle.mm_space.specs.Accesses.{byte_at, readable}
use Rattle.mm_space.specs.Runs.{bytes_from}
use Rattle.mm_space.specs.Spaces.{reach}
use Rattle.mm_space.proofs.SeenPages.{IsSeen}
use Rattle.mm_space.proofs.Splits.{bytes_more, bytes_none}
use Rattle.mm_space.proofs.Walks.{piece_step}
use Rattle.mm_space.proofs.space.Space.copy_run.Goals as goal

pub loop-done-init : goal.loop-done-init
loop-done-init c =
    record {
      within = omega arith;
      taken = bytes_none (byte_at readable (reach c.args.self.now c.args.handed.now)) c.args.at;
    }

pub loop-done-preserved : goal.loop-done-preserved
loop-done-preserved c =
    let r = reach c.args.self.now c.args.handed.now in
    let at = (c.args.at + c.loop-done.done) % 2 ^ 64 in
    let seen : IsSeen readable r (at / 4096) c.page_sight-sight.result =
    record { bytes = c.page_sight-sight.ensures.bytes; whole = c.page_sight-sight.ensures.whole } in
    let counted : length c.copy_to.new.piece ≡ c.in_page-piece.result =
    c.copy_to.auto.piece ∙ simp (length-take, length-drop) (omega (arith, c.loop-done.invariant.within)) in
    record {
      within = omega arith;
      taken =
          take-put_mid c.loop-done.done _ c.loop-done.buffer c.copy_to.new.piece
          (c.loop-done.done + c.in_page-piece.result) (omega arith) (omega (arith, c.loop-done.invariant.within))
          ∙ bytes_more (byte_at readable r) c.args.at c.loop-done.done c.in_page-piece.result _ _ c.ranges.at.fits
          c.loop-done.invariant.taken
          (piece_step readable r at _ c.in_page-piece.result c.page_sight-sight.result c.copy_to.new.piece
          (omega arith) seen c.in_page-piece.ensures.page (sym c.copy_to.auto.piece ∙ counted) c.copy_to.ensures);
    }

pub returns : goal.returns
returns c =
    sym (take_all c.loop-done.done c.loop-done.buffer c.loop-done-test.false) ∙ c.loop-done.invariant.taken
    ∙ ap (bytes_from (byte_at readable (reach c.args.self.now c.args.handed.now)) c.args.at) (omega arith)
