-- The status flags of an open file description.
use Rattle.std.specs.Prelude.{ℕ, ◌+◌, if◌then◌else◌}
use Rattle.fd_table.specs.declared.description.Description.{Description}
use Rattle.fd_table.specs.Flags.{access_number, has_flag}
use Rattle.fd_table.specs.declared.flags.TheConstants.{O_APPEND, O_NONBLOCK}

-- the access mode, and the bits of the status flags that are set
-- fcntl(2), F_GETFL; that no other bit is told: profile
abbrev pub status_flags : Description → ℕ
status_flags d =
    access_number d.access
    + (if d.append then O_APPEND else 0)
    + (if d.nonblock then O_NONBLOCK else 0)

-- a description with the status flags that a number has, and else as before
-- fcntl(2), F_SETFL: the access mode is ignored; that the other bits are: profile
abbrev pub with_status : Description → (flags : ℕ) → Description
with_status d flags = record {
  object = d.object;
  access = d.access;
  append = has_flag flags O_APPEND;
  nonblock = has_flag flags O_NONBLOCK;
  position = d.position;
}
