-- Whether the record of an opening is of a mount file.
use Rattle.std.specs.Prelude.{nat_eq, List, [], ◌∷◌, length, map, Bool, true, false, ◌&&◌, not}
use Rattle.std.specs.Str.{bytes_eq}
use lib.Pointwise.{pointwise}
use Rattle.sn_text.specs.Folders.{FolderPath}
use Rattle.mount_file.specs.declared.mounts.Mount.{Mount}
use Rattle.mount_file.specs.declared.mounts.Mounts.{Mounts}
use Rattle.mount_file.specs.declared.mounts.Program.{Program}
use Rattle.mount_file.specs.Rules.{is_same_place}
use Rattle.kernel_model.specs.declared.opening.OpenedTask.{OpenedTask}
use Rattle.kernel_model.specs.declared.opening.Opening.{Opening}
use Rattle.kernel_model.specs.files.Numbers.{count_up}

-- the first of two lists is a beginning of the second, by a test of two items
-- profile
abbrev pub begins : {A : Type 0} → (A → A → Bool) → List A → List A → Bool
begins same [] ys = true
begins same (x ∷ xs) (y ∷ ys) = same x y && begins same xs ys
begins same (x ∷ xs) [] = false

abbrev pub same_flag : Bool → Bool → Bool
same_flag true b = b
same_flag false b = not b

abbrev pub same_folder : FolderPath → FolderPath → Bool
same_folder a b = same_flag a.rooted b.rooted && pointwise bytes_eq a.names b.names

abbrev pub same_mount : Mount → Mount → Bool
same_mount a b = is_same_place a.at b.at && same_folder a.folder b.folder && same_flag a.write b.write

-- the record is of these mounts and tasks, with the roots numbered 1 up
-- profile
abbrev pub is_of : Mounts → Opening → Bool
is_of mounts opening =
    pointwise same_mount opening.mounts mounts.mounts
    && pointwise nat_eq opening.roots (count_up 1 (length mounts.mounts))
    && begins (pointwise bytes_eq) (map (λ (o : OpenedTask). o.words) opening.tasks)
    (map (λ (p : Program). p.args) mounts.tasks)
