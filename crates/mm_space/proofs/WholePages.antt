-- Each page of a shared area has 4,096 bytes.
use Rattle.std.proofs.Common.{◌≡◌, ℕ, zero, suc, ◌<◌, List, [], ◌∷◌, length, map, Some, ap, sym, ◌∙◌}
use Rattle.std.specs.Prelude.{slice_get}
use Rattle.std.proofs.lemmas.Option.{none-some, same_Some, slice_get-get_or}
use Rattle.mm_frames.specs.declared.frame.Frame.{Frame}
use Rattle.mm_frames.specs.Frames.{bytes_of, page_at}

pub page_whole : (frames : List Frame) (page : ℕ) (bytes : List ℕ) → slice_get (map bytes_of frames) page
    ≡ Some bytes → length bytes ≡ 4096
page_whole [] page bytes is = absurd (none-some bytes is)
page_whole (f ∷ fs) zero bytes is = ap length (sym (same_Some (bytes_of f) bytes is)) ∙ f.whole
page_whole (f ∷ fs) (suc p) bytes is = page_whole fs p bytes is

pub page_there_whole : (frames : List Frame) (page : ℕ) → page < length (map bytes_of frames)
    → length (page_at (map bytes_of frames) page) ≡ 4096
page_there_whole frames page within =
    page_whole frames page (page_at (map bytes_of frames) page) (slice_get-get_or (map bytes_of frames) page [] within)
