-- The grammar: for each number the fields of the request, and of the answer to it.
use Rattle.std.specs.Prelude.{ℕ, ◌==◌, ◌||◌, ◌&&◌, nat_le, Bool, true, false, List, [], ◌∷◌, filter, Option, Some, None}
use Rattle.std.specs.Prelude.{is_some, if◌then◌else◌}
use Rattle.lisafs_wire.specs.declared.limits.TheConstants.{ALL_MODE_BITS, MOST_DATA, MOST_NAMES}
use Rattle.lisafs_wire.specs.Fields.{Field, Number, Name, Data}

-- what may stand behind the fields of a message: nothing, or a count in two bytes, which has to pass a test, and so
-- many groups of the same fields
-- gVisor package lisafs, Walk and Getdents64
pub data Groups : Type 0 where
  Without : Groups
  Counted : (is_allowed : ℕ → Bool) → (fields : List Field) → Groups

-- the fields of a message, one after another, and what stands behind them
-- gVisor package lisafs
pub record Layout : Type 0 where
  pub fields : List Field
  pub groups : Groups

-- any number
-- profile
abbrev pub any : ℕ → Bool
any n = true

-- a number of a control FD or of an open FD
-- gVisor package lisafs, FDID; eight bytes: profile
abbrev pub fd : Field
fd = Number 8 any

-- a number of four bytes, and one of eight
-- profile
abbrev pub word : Field
word = Number 4 any

abbrev pub double_word : Field
double_word = Number 8 any

-- a number in so many bytes that is at most so much
-- profile
abbrev pub up_to : ℕ → ℕ → Field
up_to width most = Number width (λ n. nat_le n most)

-- how a file is opened: for reading, for writing, or for both
-- open(2): O_RDONLY 0, O_WRONLY 1, O_RDWR 2
abbrev pub access : Field
access = up_to 4 2

-- permission bits
-- chmod(2): 0777 is 511
abbrev pub mode : Field
mode = up_to 4 ALL_MODE_BITS

-- how many bytes are read at once
-- read(2); at most 65,536: profile
abbrev pub byte_count : Field
byte_count = up_to 4 MOST_DATA

-- what may be removed: no directory, or a directory alone
-- unlinkat(2): AT_REMOVEDIR is 512
abbrev pub removal : Field
removal = Number 4 (λ n. n == 0 || (n == 512))

-- the kind of a node: a directory, a file or a symbolic link
-- readdir(3): DT_DIR 4, DT_REG 8, DT_LNK 10
abbrev pub kind : Field
kind = Number 1 (λ n. n == 4 || (n == 8) || (n == 10))

-- data of at most 65,536 bytes
-- profile
abbrev pub bulk : Field
bulk = Data MOST_DATA

-- what is known of a node: its kind, its permission bits and its size
-- gVisor package lisafs, Inode; stat(2)
abbrev pub attr : List Field
attr = kind ∷ mode ∷ double_word ∷ []

-- fields with nothing behind them, and fields with groups behind them
-- profile
abbrev pub only : List Field → Layout
only fields = record { fields = fields; groups = Without }

abbrev pub counted : List Field → (ℕ → Bool) → List Field → Layout
counted fields is_allowed group = record { fields = fields; groups = Counted is_allowed group }

-- the requests, by their numbers
-- gVisor package lisafs; numbers, widths and limits: profile
abbrev pub request_table : List (ℕ × Layout)
request_table =
    (1, only (word ∷ []))
    ∷ (2, only (fd ∷ []))
    ∷ (3, only (fd ∷ double_word ∷ []))
    ∷ (4, counted (fd ∷ []) (λ n. nat_le 1 n && nat_le n MOST_NAMES) (Name ∷ []))
    ∷ (5, only (fd ∷ access ∷ []))
    ∷ (6, only (fd ∷ mode ∷ access ∷ Name ∷ []))
    ∷ (7, only (fd ∷ []))
    ∷ (9, only (fd ∷ double_word ∷ byte_count ∷ []))
    ∷ (10, only (fd ∷ double_word ∷ bulk ∷ []))
    ∷ (11, only (fd ∷ mode ∷ Name ∷ []))
    ∷ (12, only (fd ∷ Name ∷ bulk ∷ []))
    ∷ (13, only (fd ∷ []))
    ∷ (14, only (fd ∷ fd ∷ removal ∷ Name ∷ []))
    ∷ (15, only (fd ∷ fd ∷ fd ∷ Name ∷ Name ∷ []))
    ∷ (16, only (fd ∷ word ∷ []))
    ∷ []

-- the answers, by their numbers: that of its request and 32,768, and 32,768 alone for an error
-- gVisor package lisafs; numbers, widths and limits: profile
abbrev pub answer_table : List (ℕ × Layout)
answer_table =
    (32768, only (word ∷ []))
    ∷ (32769, only (word ∷ fd ∷ attr))
    ∷ (32770, only attr)
    ∷ (32771, only [])
    ∷ (32772, counted (up_to 1 2 ∷ []) any (fd ∷ attr))
    ∷ (32773, only (fd ∷ []))
    ∷ (32774, only (fd ∷ fd ∷ attr))
    ∷ (32775, only [])
    ∷ (32777, only (bulk ∷ []))
    ∷ (32778, only (word ∷ []))
    ∷ (32779, only (fd ∷ attr))
    ∷ (32780, only (fd ∷ attr))
    ∷ (32781, only (bulk ∷ []))
    ∷ (32782, only [])
    ∷ (32783, only [])
    ∷ (32784, counted (up_to 1 1 ∷ []) any (kind ∷ Name ∷ []))
    ∷ []

-- the layout that a table has for a number
-- profile
abbrev pub layout_of : List (ℕ × Layout) → ℕ → Option Layout
layout_of [] number = None
layout_of (row ∷ rows) number = if row.0 == number then Some row.1 else layout_of rows number

-- nothing stands behind the fields
-- profile
abbrev pub is_without : Groups → Bool
is_without Without = true
is_without (Counted is_allowed fields) = false

-- the answers without lists
-- profile
abbrev pub plain_table : List (ℕ × Layout)
plain_table = filter (λ row. is_without row.1.groups) answer_table

-- an answer with that number has no list
-- profile
abbrev pub is_plain : ℕ → Bool
is_plain number = is_some (layout_of plain_table number)
