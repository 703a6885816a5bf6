-- The image that the bytes of a file are.
use Rattle.std.specs.Prelude.{ℕ, List, Option, Some, None, is_none, if◌then◌else◌}
use Rattle.elf_image.specs.declared.image.Image.{Image}
use Rattle.elf_image.specs.Faults.{image_fault}
use Rattle.elf_image.specs.Images.{image_in}

-- the image that the bytes are, or None where they are none
-- ELF-64 Object File Format
unfoldable pub image_of : List ℕ → Option Image
image_of bytes = if is_none (image_fault bytes) then Some (image_in bytes) else None
