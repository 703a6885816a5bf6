-- What a call tells of a node: struct stat, byte by byte.
use Rattle.std.specs.Prelude.{◌≡◌, ℕ, ◌+◌, ◌/◌, List, ◌++◌, replicate, slice_range}
use Rattle.sn_bytes.specs.Fields.{field, little_bytes}
use Rattle.stat_layout.specs.declared.stat.Stat.{Stat}
use Rattle.stat_layout.specs.declared.stat.TheConstants.{OWNER}
use Rattle.stat_layout.specs.Kinds.{type_bits}

-- a node's type and its permissions in one number
-- inode(7), The file type and mode
abbrev pub mode_of : Stat → ℕ
mode_of stat = type_bits stat.kind + stat.permissions

-- how many blocks of 512 bytes so many bytes fill, the last one maybe in part
-- stat(2), st_blocks: units of 512 bytes; that a size alone decides it: profile
abbrev pub blocks_of : (size : ℕ) → ℕ
blocks_of size = (size + 511) / 512

-- the 128 bytes that tell of a node, a field a line, in the order of the struct
-- Linux's asm-generic/stat.h, struct stat, as riscv64 has it; stat(2); owner, group, block size and what is 0: profile
unfoldable pub stat_record : Stat → List ℕ
stat_record stat =
    little_bytes 8 stat.dev  -- st_dev, at 0
    ++ little_bytes 8 stat.ino  -- st_ino, at 8
    ++ little_bytes 4 (mode_of stat)  -- st_mode, at 16
    ++ little_bytes 4 stat.nlink  -- st_nlink, at 20
    ++ little_bytes 4 OWNER  -- st_uid, at 24
    ++ little_bytes 4 OWNER  -- st_gid, at 28
    ++ little_bytes 8 0  -- st_rdev, at 32
    ++ replicate 8 0  -- padding, at 40
    ++ little_bytes 8 stat.size  -- st_size, at 48
    ++ little_bytes 4 4096  -- st_blksize, at 56
    ++ replicate 4 0  -- padding, at 60
    ++ little_bytes 8 (blocks_of stat.size)  -- st_blocks, at 64
    ++ replicate 56 0  -- st_atime to the end, at 72

-- what a program finds that reads the fields where the struct has them, and 0 in all others
-- Linux's asm-generic/stat.h, struct stat; stat(2); owner, group, block size and what is 0: profile
pub record HasStatFields (stat : Stat) (bytes : List ℕ) : Type 0 where
  pub st_dev : field 8 0 bytes ≡ stat.dev
  pub st_ino : field 8 8 bytes ≡ stat.ino
  pub st_mode : field 4 16 bytes ≡ mode_of stat
  pub st_nlink : field 4 20 bytes ≡ stat.nlink
  pub st_uid : field 4 24 bytes ≡ OWNER
  pub st_gid : field 4 28 bytes ≡ OWNER
  pub st_rdev : field 8 32 bytes ≡ 0
  pub st_size : field 8 48 bytes ≡ stat.size
  pub st_blksize : field 4 56 bytes ≡ 4096
  pub st_blocks : field 8 64 bytes ≡ blocks_of stat.size
  pub pad1 : slice_range bytes 40 48 ≡ replicate 8 0
  pub pad2 : slice_range bytes 60 64 ≡ replicate 4 0
  pub rest : slice_range bytes 72 128 ≡ replicate 56 0
