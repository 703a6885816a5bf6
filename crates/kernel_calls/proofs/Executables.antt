-- What the reading of an image tells of the image that bytes are.
use Rattle.std.proofs.Common.{◌≡◌, ℕ, List, Option, Some, None, is_none, cond, refl, ap, sym, ◌∙◌, arith}
use Rattle.std.specs.Prelude.{nat_le, nat_lt, not}
use Rattle.std.proofs.lemmas.Bool.Decides.{nat_tests}
use Rattle.elf_image.specs.declared.fault.ImageFault.{ImageFault}
use Rattle.elf_image.specs.declared.fault.ImageFault.TheVariants.{Short, Magic, Class, Machine, Kind, Flags, Headers}
use Rattle.elf_image.specs.declared.fault.ImageFault.TheVariants.{Interp, Range, Overlap, Entry, Memory}
use Rattle.elf_image.specs.declared.image.Image.{Image}
use Rattle.elf_image.specs.Faults.{image_fault, IsImageFaultOf}
use Rattle.elf_image.specs.Images.{image_in}
use Rattle.kernel_model.specs.machine.Image.{image_of}

-- a test of the pages, the other way round
pub room_test : (pages : ℕ) → nat_le pages 16384 ≡ not (nat_lt 16384 pages)
room_test pages = grind (arith, nat_tests)

by_fault : (bytes : List ℕ) (o : Option ImageFault) → image_fault bytes ≡ o
    → image_of bytes ≡ cond (is_none o) (Some (image_in bytes)) None
unfolding image_of
by_fault bytes o h = ap (λ f. cond (is_none f) (Some (image_in bytes)) None) h

-- bytes without a fault are an image
pub image_some : (bytes : List ℕ) (image : Image) → image_fault bytes ≡ None → image ≡ image_in bytes
    → image_of bytes ≡ Some image
image_some bytes image h e = by_fault bytes None h ∙ ap Some (sym e)

-- bytes with a fault are none
pub image_none : (bytes : List ℕ) (fault : ImageFault) → IsImageFaultOf bytes fault → (fault ≡ Memory → ⊥)
    → image_of bytes ≡ None
image_none bytes Short h other = by_fault bytes (Some Short) h
image_none bytes Magic h other = by_fault bytes (Some Magic) h
image_none bytes Class h other = by_fault bytes (Some Class) h
image_none bytes Machine h other = by_fault bytes (Some Machine) h
image_none bytes Kind h other = by_fault bytes (Some Kind) h
image_none bytes Flags h other = by_fault bytes (Some Flags) h
image_none bytes Headers h other = by_fault bytes (Some Headers) h
image_none bytes Interp h other = by_fault bytes (Some Interp) h
image_none bytes Range h other = by_fault bytes (Some Range) h
image_none bytes Overlap h other = by_fault bytes (Some Overlap) h
image_none bytes Entry h other = by_fault bytes (Some Entry) h
image_none bytes Memory h other = absurd (other refl)
