use Rattle.std.proofs.Common.{sym, ◌∙◌}
use Rattle.std.proofs.lemmas.List.{length-map}
use Rattle.mm_frames.specs.Frames.{bytes_of, is_own, bytes_of_frames, owned_of}
use Rattle.mm_space.specs.Handed.{area_state}
use Rattle.mm_space.proofs.AreaRuns.{area_put, run_done}
use Rattle.mm_space.proofs.WholePages.{page_there_whole}
use Rattle.mm_space.proofs.handed.SharedArea.put_run.Goals as goal

pub returns-clause-put : goal.returns-clause-put
returns-clause-put c =
    let frames = c.args.self.now.frames in
    area_put c.args.task c.args.number c.args.offset c.args.run.now (area_state c.args.self.now)
    (bytes_of_frames c.put_bytes.new.self) c.stored_run.new.self
    (page_there_whole frames.frames.items c.args.number) c.requires.fits
    (run_done c.put_bytes.result (bytes_of_frames frames) (bytes_of_frames c.put_bytes.new.self)
    (owned_of frames) c.args.number c.args.offset c.args.run.now c.requires.fits
    (length-map frames.frames.items is_own ∙ sym (length-map frames.frames.items bytes_of)) c.requires.own
    c.put_bytes.ensures.fits c.put_bytes.ensures.bytes c.put_bytes.ensures.unchanged)
    c.stored_run.ensures
