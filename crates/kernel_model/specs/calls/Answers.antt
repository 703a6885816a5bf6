-- What a call comes to: its reply, what it changes, and the children that it walks to, lists or makes.
use Rattle.std.specs.Prelude.{ℕ, ℤ, List, [], Bool, true, false}
use Rattle.std.specs.Int.{cast_signed, w64}
use Rattle.sn_errno.specs.declared.errno.Errno.{Errno}
use Rattle.sn_errno.specs.Errors.{reply_of}
use Rattle.kernel_model.specs.entries.Parts.{Change}

-- what a call replies: a value, of which a negative one is an error's number; or nothing so far, since it puts its task
-- to sleep by an entry of its own, or since it waits
-- syscall(2); futex(2), FUTEX_WAIT; the entry: profile
pub data RowReply : Type 0 where
  Replies : ℤ → RowReply
  Sleeps : RowReply
  NotReady : RowReply

-- a child by its directory's number and its name
-- path_resolution(7)
pub record Key : Type 0 where
  pub dir : ℕ
  pub name : List ℕ

-- what a call comes to: its reply, the new contents of the parts that it changes beside the caller's registers, and the
-- children without an inode number that it walks to, lists or makes
-- profile
pub record Answer : Type 0 where
  pub reply : RowReply
  pub changes : List Change
  pub fresh : List Key

-- a call that replies a value, with changes
-- syscall(2)
abbrev pub replies : ℤ → List Change → Answer
replies value changes = record { reply = Replies value; changes = changes; fresh = [] }

-- a call that puts its task to sleep, with changes
-- futex(2), FUTEX_WAIT
abbrev pub sleeps : List Change → Answer
sleeps changes = record { reply = Sleeps; changes = changes; fresh = [] }

-- a call that waits, and changes nothing
-- wait4(2)
abbrev pub not_ready : Answer
not_ready = record { reply = NotReady; changes = []; fresh = [] }

-- an address as a reply: the signed number of its 64 bits
-- syscall(2), RETURN VALUE
abbrev pub address_reply : ℕ → ℤ
address_reply address = cast_signed w64 address

-- a call that is refused with an error, and changes nothing
-- syscall(2)
abbrev pub refuses : Errno → Answer
refuses errno = replies (reply_of errno) []

-- whether there is an entry of a call: it replies, or puts its task to sleep
-- profile
abbrev pub makes_entry : RowReply → Bool
makes_entry (Replies value) = true
makes_entry Sleeps = true
makes_entry NotReady = false
