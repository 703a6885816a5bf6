-- The bytes that are asked with, and what bytes spell as an answer.
use Rattle.std.specs.Prelude.{◌≡◌, ℕ, List, Option, Some, None}
use Rattle.lisafs_wire.specs.declared.fd.Fd.{Fd}
use Rattle.lisafs_wire.specs.declared.request.Request.{Request}
use Rattle.lisafs_wire.specs.Grammar.{answer_table, request_table}
use Rattle.lisafs_wire.specs.Messages.{decoded}
use Rattle.lisafs_wire.specs.Spelling.{IsMessageOf, Message, spelling}
use Rattle.lisafs_session.specs.declared.control_fd.ControlFd.{ControlFd}

-- the one spelling of a request
-- gVisor package lisafs
abbrev pub request_bytes : Request → List ℕ
request_bytes request = spelling request_table (decoded request)

-- the bytes are the spelling of an answer
-- gVisor package lisafs
abbrev pub Spells : List ℕ → Message → Type 0
Spells bytes answer = IsMessageOf answer_table answer × (bytes ≡ spelling answer_table answer)

-- the FD of a node, or 0, which is that of none
-- gVisor package lisafs, InvalidFDID; 0: profile
abbrev pub fd_or_none : Option ControlFd → Fd
fd_or_none None = record { number = 0 }
fd_or_none (Some node) = node.fd
