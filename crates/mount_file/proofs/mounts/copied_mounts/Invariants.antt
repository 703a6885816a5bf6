-- How far the mounts are copied.
use Rattle.std.proofs.Common.{◌≡◌, take}
use Rattle.mount_file.proofs.mounts.copied_mounts.Given as goal

-- the copies so far are a front of the list
abbrev pub invariant-loop-mount : goal.invariant-loop-mount
invariant-loop-mount l = l.copies ≡ take l.mount-index l.mounts
