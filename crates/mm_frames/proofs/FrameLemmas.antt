-- A frame has a page's bytes.
use Rattle.std.proofs.Common.{◌≡◌, length}
use Rattle.mm_frames.specs.declared.frame.Frame.{Frame}
use Rattle.mm_frames.specs.Frames.{bytes_of}

-- which are 4,096
pub length-bytes_of : (frame : Frame) → length (bytes_of frame) ≡ 4096
length-bytes_of frame = frame.whole
