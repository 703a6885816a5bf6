-- The flags of open(2): their names and bits, the access mode among them, and which are set.
use Rattle.std.specs.Prelude.{ℕ, ◌%◌, ◌==◌, Bool, true, false, if◌then◌else◌, List, [], ◌∷◌, codes, Option, Some, None}
use Rattle.std.specs.Int.RustNames.{bit_and}
use Rattle.fd_table.specs.declared.flags.AccessMode.{AccessMode}
use Rattle.fd_table.specs.declared.flags.AccessMode.TheVariants.{Read, Write, Both}
use Rattle.fd_table.specs.declared.flags.TheConstants.{O_APPEND, O_CLOEXEC, O_NONBLOCK}

-- each flag's name and bit, in the order of the bits: octal 1, 2, 100, 200, 1000, 2000, 4000, 100000, 200000, 400000
-- and 2000000
-- open(2), DESCRIPTION; Linux's asm-generic/fcntl.h, which riscv64 has
abbrev pub open_flags : List (List ℕ × ℕ)
open_flags =
    (codes "WRONLY", 1)
    ∷ (codes "RDWR", 2)
    ∷ (codes "CREAT", 64)
    ∷ (codes "EXCL", 128)
    ∷ (codes "TRUNC", 512)
    ∷ (codes "APPEND", O_APPEND)
    ∷ (codes "NONBLOCK", O_NONBLOCK)
    ∷ (codes "LARGEFILE", 32768)
    ∷ (codes "DIRECTORY", 65536)
    ∷ (codes "NOFOLLOW", 131072)
    ∷ (codes "CLOEXEC", O_CLOEXEC)
    ∷ []

-- the access that the low two bits of flags stand for: 0, 1 and 2 are access modes, and 3 is none
-- open(2), O_RDONLY, O_WRONLY and O_RDWR; that 3 is none: profile
abbrev pub access_in : (flags : ℕ) → Option AccessMode
access_in flags =
    if flags % 4 == 0 then Some Read
    else if flags % 4 == 1 then Some Write
    else if flags % 4 == 2 then Some Both
    else None

-- the access mode of an access
-- open(2), O_RDONLY, O_WRONLY and O_RDWR
abbrev pub access_number : AccessMode → ℕ
access_number Read = 0
access_number Write = 1
access_number Both = 2

-- whether an access lets a caller read
-- read(2), EBADF
abbrev pub may_read : AccessMode → Bool
may_read Read = true
may_read Write = false
may_read Both = true

-- whether an access lets a caller write
-- write(2), EBADF
abbrev pub may_write : AccessMode → Bool
may_write Read = false
may_write Write = true
may_write Both = true

-- whether flags have one of them
-- open(2)
abbrev pub has_flag : (flags flag : ℕ) → Bool
has_flag flags flag = bit_and flags flag == flag
