use Rattle.std.proofs.Common.{◌≡◌, arith, None}
use Rattle.elf_image.specs.Headers.{file_header, program_headers}
use Rattle.elf_image.specs.Faults.{image_fault}
use Rattle.elf_image.specs.Images.{segments_of}
use Rattle.elf_image.proofs.ImageLaws.{segments_apart, starts_in_code}
use Rattle.elf_image.proofs.image.read_image.Goals as goal

pub returns-clause-apart : goal.returns-clause-apart
returns-clause-apart c =
    let bytes = c.args.bytes.now in
    let none : image_fault bytes ≡ None = grind arith in
    let same : c.in_ok-segments.segments ≡ segments_of bytes (program_headers bytes) = grind arith in
    segments_apart bytes c.in_ok-segments.segments none same

pub returns-clause-starts : goal.returns-clause-starts
returns-clause-starts c =
    let bytes = c.args.bytes.now in
    let none : image_fault bytes ≡ None = grind arith in
    let same : c.in_ok-segments.segments ≡ segments_of bytes (program_headers bytes) = grind arith in
    let start : c.file_header-file.result.e_entry ≡ (file_header bytes).e_entry = grind arith in
    starts_in_code bytes c.file_header-file.result.e_entry c.in_ok-segments.segments none start same _ _
