-- Openings done in place: what an execve and an opening leave, by what they answer.
use Rattle.std.specs.Prelude.{◌≡◌, ⊤, false, List, Result, Ok, Err}
use Rattle.sn_errno.specs.declared.errno.Errno.{Errno}
use Rattle.elf_image.specs.declared.image.Image.{Image as AnImage}
use Rattle.kernel_model.specs.declared.kernel.Kernel.{Kernel}
use Rattle.plain_kernel.specs.declared.walking.Execved.{Execved}
use Rattle.plain_kernel.specs.declared.walking.Execved.TheVariants as answers
use Rattle.plain_kernel.specs.declared.plain.OpeningErr.{OpeningErr}
use Rattle.plain_kernel.specs.declared.plain.OpeningErr.TheVariants.{Image, Misfit, Memory}
use Rattle.kernel_model.specs.entries.Parts.{Change, changed}
use Rattle.mount_file.specs.declared.mounts.Program.{Program}
use Rattle.kernel_model.specs.opening.Arguments.{is_too_long}
use Rattle.kernel_model.specs.laws.Room.{HasRoom}
use Rattle.kernel_model.specs.opening.Opening.{Executed, Starts, Fails, Unfit, Begun, Refuses, Misfits}

-- an execve in place answers what it does, and does its changes
-- execve(2)
abbrev pub ExecutesInPlace : Executed → Kernel → Kernel → Execved → Type 0
ExecutesInPlace does before after (answers.Starts image) =
    (changes : List Change) × (does ≡ Starts image changes) × (after ≡ changed changes before)
ExecutesInPlace does before after (answers.Fails errno) =
    (changes : List Change) × (does ≡ Fails errno changes) × (after ≡ changed changes before)
ExecutesInPlace does before after answers.Unfit = does ≡ Unfit

-- an execve answers with its image or its error
-- execve(2)
abbrev pub IsByImage : Result AnImage Errno → Execved → Type 0
IsByImage image (answers.Starts elf) = image ≡ Ok elf
IsByImage image (answers.Fails errno) = image ≡ Err errno
IsByImage image answers.Unfit = ⊥

-- an execve starts no other image than that to which it walked
-- execve(2)
abbrev pub IsFrom : Result AnImage Errno → Execved → Type 0
IsFrom image (answers.Starts elf) = image ≡ Ok elf
IsFrom image (answers.Fails errno) = ⊤
IsFrom image answers.Unfit = ⊤

-- an image that an execve starts has no more pages than may be mapped, and the strings of its program are neither too
-- many nor too long
-- execve(2), E2BIG and ENOMEM
abbrev pub MayStart : Program → Execved → Type 0
MayStart program (answers.Starts image) = (is_too_long program.args program.env ≡ false) × HasRoom image
MayStart program (answers.Fails errno) = ⊤
MayStart program answers.Unfit = ⊤

-- an opening is refused so: an execve failed, its record fits no task, or want of memory
-- execve(2), ERRORS; profile
abbrev pub IsRefusedBy : Begun → OpeningErr → Type 0
IsRefusedBy begun (Image task errno) = (k : Kernel) × (begun ≡ Refuses k task errno)
IsRefusedBy begun (Misfit task) = begun ≡ Misfits task
IsRefusedBy begun Memory = ⊤
