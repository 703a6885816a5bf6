-- The mount file: what its bytes say, or the first fault that they have.
use Rattle.std.specs.Prelude.{◌≡◌, ℕ, ◌<◌, ◌≤◌, List, length, Some, None, Result, Ok, Err, if◌then◌else◌}
use Rattle.std.specs.Option.{option_map_or}
use Rattle.std.specs.Str.{IsUtf8}
use Rattle.toml.specs.Data.{Members}
use Rattle.toml.specs.Parse.{parse_document}
use Rattle.mount_file.specs.Keys.{has_keys}
use Rattle.mount_file.specs.Tables.{mounts_in}
use Rattle.mount_file.specs.Rules.{rule_broken}
use Rattle.mount_file.specs.declared.mounts.Mounts.{Mounts}
use Rattle.mount_file.specs.declared.mounts.MountFault.{MountFault}
use Rattle.mount_file.specs.declared.mounts.MountFault.TheVariants.{Long, Utf8, Toml, Field, Range, Memory}
use Rattle.mount_file.specs.declared.read.TheConstants.{LONGEST_MOUNT_FILE}

-- mounts that break no rule, or the rule that they break first
-- profile
abbrev pub ruled : Mounts → Result Mounts MountFault
ruled mounts = option_map_or Err (rule_broken mounts) (Ok mounts)

-- what a document says, or its first fault
-- order of the faults: profile
abbrev pub document_read : Members → Result Mounts MountFault
document_read document = if has_keys document then option_map_or ruled (mounts_in document) (Err Range) else Err Field

-- the bytes are a document: UTF-8, no longer than a mount file may be, and TOML
-- TOML 1.1; the length: profile
pub record IsDocument (bytes : List ℕ) (document : Members) : Type 0 where
  pub short : length bytes ≤ LONGEST_MOUNT_FILE
  pub text : IsUtf8 bytes
  pub parsed : parse_document bytes ≡ Some document

-- the bytes are a mount file that says this
-- profile
pub record IsMountFile (bytes : List ℕ) (mounts : Mounts) : Type 0 where
  pub document : Members
  pub is : IsDocument bytes document
  pub read : document_read document ≡ Ok mounts

-- the bytes are a document with this as its first fault
-- profile
pub record IsFaultyDocument (bytes : List ℕ) (fault : MountFault) : Type 0 where
  pub document : Members
  pub is : IsDocument bytes document
  pub read : document_read document ≡ Err fault

-- the bytes are no TOML, but text
-- TOML 1.1, Spec
pub record IsNoDocument (bytes : List ℕ) : Type 0 where
  pub short : length bytes ≤ LONGEST_MOUNT_FILE
  pub text : IsUtf8 bytes
  pub refused : parse_document bytes ≡ None

-- the bytes are no text
-- TOML 1.1, Spec: a file is UTF-8
pub record IsNoText (bytes : List ℕ) : Type 0 where
  pub short : length bytes ≤ LONGEST_MOUNT_FILE
  pub refused : ¬ IsUtf8 bytes

-- this is the first fault of bytes that are no mount file; want of memory is none
-- order of the faults: profile
abbrev pub IsFaultOf : List ℕ → MountFault → Type 0
IsFaultOf bytes Long = LONGEST_MOUNT_FILE < length bytes
IsFaultOf bytes Utf8 = IsNoText bytes
IsFaultOf bytes Toml = IsNoDocument bytes
IsFaultOf bytes Memory = ⊥
IsFaultOf bytes fault = IsFaultyDocument bytes fault

-- the bytes are no mount file
-- profile
abbrev pub IsNoMountFile : List ℕ → Type 0
IsNoMountFile bytes = (mounts : Mounts) → ¬ IsMountFile bytes mounts
