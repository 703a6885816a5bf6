use Rattle.std.proofs.Common.{List, ℕ, ap, sym, ◌∙◌}
use Rattle.std.proofs.lemmas.List.{length-map}
use Rattle.rv_atomic.specs.AreaReservations.{after_store_here}
use Rattle.rv_atomic.specs.declared.area_reservations.AreaReservation.{AreaReservation}
use Rattle.mm_frames.specs.Frames.{bytes_of, is_own, bytes_of_frames, owned_of, with_page_changed}
use Rattle.mm_space.specs.Handed.{AreaState}
use Rattle.std.specs.Prelude.{slice_set}
use Rattle.mm_space.proofs.AreaPuts.{put_done, place_is}
use Rattle.mm_space.proofs.handed.SharedArea.put.Goals as goal

pub returns-clause-put : goal.returns-clause-put
returns-clause-put c =
    let frames = c.args.self.now.frames in
    let news = bytes_of_frames c.put_number.new.self in
    ap (λ (pages : List (List ℕ)).
    (let s : AreaState = record { pages = pages; reservations = c.stored.new.self } in s))
    (put_done c.put_number.result (bytes_of_frames frames) news
    (owned_of frames) c.args.number c.args.offset c.args.value
    c.from.result c.from.ensures c.ranges.value.fits c.requires.offset
    (length-map frames.frames.items is_own ∙ sym (length-map frames.frames.items bytes_of)) c.requires.own
    c.put_number.ensures.fits c.put_number.ensures.bytes c.put_number.ensures.unchanged)
    ∙ ap (λ (rs : List AreaReservation).
    (let s : AreaState =
    record {
      pages = with_page_changed (bytes_of_frames frames) c.args.number
          (λ bytes. slice_set bytes c.args.offset c.args.value);
      reservations = rs;
    } in s))
    (c.stored.ensures
    ∙ ap (λ at. after_store_here c.args.self.now.reservations c.args.task at 1)
    (place_is c.args.number c.args.offset))
