-- What a mount file's bytes are to the file that they were read from.
use Rattle.std.proofs.Common.{◌≡◌, ℕ, List, [], take, subst}
use Rattle.std.specs.Prelude.{Option, Some, None, IsSome, IsSomeAnd, option_map, unwrap_or}
use Rattle.sn_edge.specs.Shelf.{Shelf, HasFile, content_at}
use Rattle.sn_edge.specs.Reading.{IsFrontOfFile}
use Rattle.mount_file.specs.declared.mounts.Mounts.{Mounts}
use Rattle.mount_file.specs.MountFile.{IsMountFile, IsFaultOf}
use Rattle.mount_file.specs.declared.mounts.MountFault.{MountFault}
use Rattle.kernel_model.specs.Words.{Command}
use Rattle.sentry_run.specs.Outcome.{WhereTold, NamesFaulty, most_read}
use Rattle.sentry_run.specs.Ran.{ReadsAs}

-- what holds of the bytes read holds of the front of a content that is there
of_front : (o : Option (List ℕ)) (bytes : List ℕ) (P : List ℕ → Type 0) → IsSome o
    → bytes ≡ take most_read (unwrap_or o []) → P bytes → IsSomeAnd (option_map (take most_read) o) P
of_front None bytes P there front h = cc
of_front (Some content) bytes P there front h = subst P front h

pub reads_as : (command : Command) (shelf : Option Shelf) (bytes : List ℕ) (m : Mounts)
    → HasFile shelf command.mounts → IsFrontOfFile shelf command.mounts most_read bytes → IsMountFile bytes m
    → ReadsAs command shelf m
reads_as command None bytes m there front is = tt
reads_as command (Some s) bytes m there front is =
    of_front (content_at s.files command.mounts) bytes (λ b. IsMountFile b m) there front is

pub reads_fault : (command : Command) (shelf : Option Shelf) (bytes : List ℕ) (f : MountFault)
    → HasFile shelf command.mounts → IsFrontOfFile shelf command.mounts most_read bytes → IsFaultOf bytes f
    → WhereTold shelf (λ s. NamesFaulty command s f)
reads_fault command None bytes f there front is = tt
reads_fault command (Some s) bytes f there front is =
    of_front (content_at s.files command.mounts) bytes (λ b. IsFaultOf b f) there front is
