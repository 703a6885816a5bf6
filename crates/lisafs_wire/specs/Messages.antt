-- What the requests and answers of this crate say, as messages of the grammar.
use Rattle.std.specs.Prelude.{ℕ, Bool, true, false, List, [], ◌∷◌, map}
use Rattle.std.specs.Borrow.{Bor}
use Rattle.lisafs_wire.specs.declared.fd.Fd.{Fd}
use Rattle.lisafs_wire.specs.declared.attr.FileKind.{FileKind}
use Rattle.lisafs_wire.specs.declared.attr.FileKind.TheVariants.{Directory, File, Link}
use Rattle.lisafs_wire.specs.declared.attr.FileAttr.{FileAttr}
use Rattle.lisafs_wire.specs.declared.answer.Answer.{Answer}
use Rattle.lisafs_wire.specs.declared.answer.Answer.TheVariants as answers
use Rattle.lisafs_wire.specs.declared.answer.PlainAnswer.{PlainAnswer}
use Rattle.lisafs_wire.specs.declared.answer.PlainAnswer.TheVariants as plain_answers
use Rattle.lisafs_wire.specs.declared.answer.ListedName.{ListedName}
use Rattle.lisafs_wire.specs.declared.answer.WalkEnd.{WalkEnd}
use Rattle.lisafs_wire.specs.declared.answer.WalkEnd.TheVariants as ends
use Rattle.lisafs_wire.specs.declared.answer.WalkedNode.{WalkedNode}
use Rattle.lisafs_wire.specs.declared.request.Access.{Access}
use Rattle.lisafs_wire.specs.declared.request.Access.TheVariants.{Read, Write, ReadWrite}
use Rattle.lisafs_wire.specs.declared.request.Removal.{Removal}
use Rattle.lisafs_wire.specs.declared.request.Removal.TheVariants.{NoDirectory, OnlyDirectory}
use Rattle.lisafs_wire.specs.declared.request.RequestRef.{RequestRef}
use Rattle.lisafs_wire.specs.declared.request.RequestRef.TheVariants as refs
use Rattle.lisafs_wire.specs.declared.request.Request.{Request}
use Rattle.lisafs_wire.specs.declared.request.Request.TheVariants as asks
use Rattle.lisafs_wire.specs.Fields.{Value, Num, Bytes}
use Rattle.lisafs_wire.specs.Spelling.{Message}

-- the numbers that stand for kinds of nodes, for ways to open a file, and for what may be removed
-- readdir(3), d_type; open(2), flags; unlinkat(2), AT_REMOVEDIR
abbrev pub kind_number : FileKind → ℕ
kind_number Directory = 4
kind_number File = 8
kind_number Link = 10

abbrev pub access_number : Access → ℕ
access_number Read = 0
access_number Write = 1
access_number ReadWrite = 2

abbrev pub removal_number : Removal → ℕ
removal_number NoDirectory = 0
removal_number OnlyDirectory = 512

-- an FD in its field, and what is known of a node in its three
-- profile
abbrev pub fd_value : Fd → Value
fd_value fd = Num fd.number

abbrev pub attr_values : FileAttr → List Value
attr_values attr = Num (kind_number attr.kind) ∷ Num attr.mode ∷ Num attr.size ∷ []

-- a name alone, as a group
-- profile
abbrev pub name_group : List ℕ → List Value
name_group name = Bytes name ∷ []

-- a message with nothing behind its fields
-- profile
abbrev pub plain : ℕ → List Value → Message
plain number values = record { number = number; values = values; groups = [] }

-- the message that a request with lent names is
-- gVisor package lisafs; numbers: profile
abbrev pub asked : RequestRef → Message
asked (refs.Mount version) = plain 1 (Num version ∷ [])
asked (refs.FStat fd) = plain 2 (fd_value fd ∷ [])
asked (refs.SetStat fd size) = plain 3 (fd_value fd ∷ Num size ∷ [])
asked (refs.Walk fd names) = record { number = 4; values = fd_value fd ∷ []; groups = map name_group names.now }
asked (refs.OpenAt fd access) = plain 5 (fd_value fd ∷ Num (access_number access) ∷ [])
asked (refs.OpenCreateAt fd mode access name) =
    plain 6 (fd_value fd ∷ Num mode ∷ Num (access_number access) ∷ Bytes name.now ∷ [])
asked (refs.Close fd) = plain 7 (fd_value fd ∷ [])
asked (refs.PRead fd offset count) = plain 9 (fd_value fd ∷ Num offset ∷ Num count ∷ [])
asked (refs.PWrite fd offset bytes) = plain 10 (fd_value fd ∷ Num offset ∷ Bytes bytes.now ∷ [])
asked (refs.MkdirAt fd mode name) = plain 11 (fd_value fd ∷ Num mode ∷ Bytes name.now ∷ [])
asked (refs.SymlinkAt fd name text) = plain 12 (fd_value fd ∷ Bytes name.now ∷ Bytes text.now ∷ [])
asked (refs.ReadLinkAt fd) = plain 13 (fd_value fd ∷ [])
asked (refs.UnlinkAt fd victim removal name) =
    plain 14 (fd_value fd ∷ fd_value victim ∷ Num (removal_number removal) ∷ Bytes name.now ∷ [])
asked (refs.RenameAt fd directory victim old new) =
    plain 15 (fd_value fd ∷ fd_value directory ∷ fd_value victim ∷ Bytes old.now ∷ Bytes new.now ∷ [])
asked (refs.Getdents64 fd start) = plain 16 (fd_value fd ∷ Num start ∷ [])

-- a value as what stands behind a reference; contracts tell nothing else of one
-- profile
abbrev pub lent : {A : Type 0} → A → Bor A
lent x = record { ref_ptr = (0, 0); now = x }

-- a request with its names lent
-- profile
abbrev pub lent_request : Request → RequestRef
lent_request (asks.Mount version) = refs.Mount version
lent_request (asks.FStat fd) = refs.FStat fd
lent_request (asks.SetStat fd size) = refs.SetStat fd size
lent_request (asks.Walk fd names) = refs.Walk fd (lent names)
lent_request (asks.OpenAt fd access) = refs.OpenAt fd access
lent_request (asks.OpenCreateAt fd mode access name) = refs.OpenCreateAt fd mode access (lent name)
lent_request (asks.Close fd) = refs.Close fd
lent_request (asks.PRead fd offset count) = refs.PRead fd offset count
lent_request (asks.PWrite fd offset bytes) = refs.PWrite fd offset bytes
lent_request (asks.MkdirAt fd mode name) = refs.MkdirAt fd mode (lent name)
lent_request (asks.SymlinkAt fd name text) = refs.SymlinkAt fd (lent name) text
lent_request (asks.ReadLinkAt fd) = refs.ReadLinkAt fd
lent_request (asks.UnlinkAt fd victim removal name) = refs.UnlinkAt fd victim removal (lent name)
lent_request (asks.RenameAt fd directory victim old new) = refs.RenameAt fd directory victim (lent old) (lent new)
lent_request (asks.Getdents64 fd start) = refs.Getdents64 fd start

-- the message that a request is
-- profile
abbrev pub decoded : Request → Message
decoded request = asked (lent_request request)

-- how a walk ended, and whether a listing is the last part
-- profile
abbrev pub end_number : WalkEnd → ℕ
end_number ends.All = 0
end_number ends.Missing = 1
end_number ends.Link = 2

abbrev pub last_number : Bool → ℕ
last_number false = 0
last_number true = 1

-- a walked node, and a listed name, as groups
-- profile
abbrev pub node_group : WalkedNode → List Value
node_group node = fd_value node.fd ∷ attr_values node.attr

abbrev pub listed_group : ListedName → List Value
listed_group listed = Num (kind_number listed.kind) ∷ Bytes listed.name ∷ []

-- the message that an answer without lists is
-- gVisor package lisafs; numbers: profile
abbrev pub plain_answered : PlainAnswer → Message
plain_answered (plain_answers.Error errno) = plain 32768 (Num errno ∷ [])
plain_answered (plain_answers.Mount version fd attr) = plain 32769 (Num version ∷ fd_value fd ∷ attr_values attr)
plain_answered (plain_answers.FStat attr) = plain 32770 (attr_values attr)
plain_answered plain_answers.SetStat = plain 32771 []
plain_answered (plain_answers.OpenAt fd) = plain 32773 (fd_value fd ∷ [])
plain_answered (plain_answers.OpenCreateAt fd opened attr) =
    plain 32774 (fd_value fd ∷ fd_value opened ∷ attr_values attr)
plain_answered plain_answers.Close = plain 32775 []
plain_answered (plain_answers.PRead bytes) = plain 32777 (Bytes bytes.now ∷ [])
plain_answered (plain_answers.PWrite count) = plain 32778 (Num count ∷ [])
plain_answered (plain_answers.MkdirAt fd attr) = plain 32779 (fd_value fd ∷ attr_values attr)
plain_answered (plain_answers.SymlinkAt fd attr) = plain 32780 (fd_value fd ∷ attr_values attr)
plain_answered (plain_answers.ReadLinkAt text) = plain 32781 (Bytes text.now ∷ [])
plain_answered plain_answers.UnlinkAt = plain 32782 []
plain_answered plain_answers.RenameAt = plain 32783 []

-- the message that an answer is
-- gVisor package lisafs; numbers: profile
abbrev pub answered : Answer → Message
answered (answers.Plain answer) = plain_answered answer
answered (answers.Walk end nodes) =
    record { number = 32772; values = Num (end_number end) ∷ []; groups = map node_group nodes }
answered (answers.Getdents64 is_last names) =
    record { number = 32784; values = Num (last_number is_last) ∷ []; groups = map listed_group names }
