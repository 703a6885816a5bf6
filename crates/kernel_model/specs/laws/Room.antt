-- What may begin: the images that have room, and a task where there is room for one more.
use Rattle.std.specs.Prelude.{◌≡◌, ◌<◌, Bool, true, Result, Ok, Err}
use Rattle.sn_errno.specs.declared.errno.Errno.{Errno}
use Rattle.elf_image.specs.declared.image.Image.{Image as AnImage}
use Rattle.mount_file.specs.declared.rules.TheConstants.{MOST_TASKS}
use Rattle.task_table.specs.declared.table.TheConstants.{LAST_TASK, MOST_LIVE}
use Rattle.task_table.specs.Table.{TaskTable, live_count}
use Rattle.kernel_model.specs.opening.Opening.{has_room}

-- an image has no more pages than may be mapped
-- execve(2), ENOMEM
abbrev pub HasRoom : AnImage → Type 0
HasRoom image = has_room image ≡ true

abbrev pub fits : Result AnImage Errno → Bool
fits (Ok image) = has_room image
fits (Err errno) = true

-- a task more may be made: fewer live than may live at once, and there is a number for it
-- profile
pub record IsRoomFor (list : TaskTable) : Type 0 where
  pub few : live_count list < MOST_LIVE
  pub next : list.last < LAST_TASK

-- an opening task more may be made: there is room for it, and fewer were made than a mount file may have
-- profile
pub record MayOpen (list : TaskTable) : Type 0 where
  pub room : IsRoomFor list
  pub few : list.last < MOST_TASKS
