-- What a program reads in the fields of a record.
use Rattle.std.proofs.Common.{◌≡◌, ℕ, ◌+◌, ◌-◌, ◌^◌, ◌<◌, ◌≤◌, List, [], ◌++◌, length, take, drop, get_or, Some, refl}
use Rattle.std.proofs.Common.{sym, ap, subst, ◌∙◌, arith, length-append, append_assoc}
use Rattle.std.specs.Prelude.{Result, Ok, Err, OnOk, replicate, slice_get, slice_range}
use Rattle.std.proofs.Math.Seq.{take-append_seam, drop-append_seam}
use Rattle.std.proofs.lemmas.List.{get_or-append-add, get_or-replicate, length-replicate}
use Rattle.std.proofs.lemmas.Option.{slice_get-get_or}
use Rattle.sn_bytes.specs.Fields.{field, little_bytes}
use Rattle.sn_bytes.proofs.FieldWrites.{read_back}
use Rattle.stat_layout.specs.declared.kind.FileKind.{FileKind}
use Rattle.stat_layout.specs.declared.kind.FileKind.TheVariants.{Directory, File, Link, Pipe, Console}
use Rattle.stat_layout.specs.declared.stat.Stat.{Stat}
use Rattle.stat_layout.specs.Dirents.{DirEntry, HasDirentFields, dirent_length, dirent_record}
use Rattle.stat_layout.specs.Kinds.{entry_type, type_bits}
use Rattle.stat_layout.specs.Stats.{mode_of, blocks_of, stat_record, HasStatFields}

-- the number in two bytes, in four and in eight
read_2 : (n : ℕ) → n < 2 ^ 16 → field 2 0 (little_bytes 2 n) ≡ n
unfolding little_bytes
read_2 n fits = cc (read_back 2 n [] (little_bytes 2 n) fits refl)

read_4 : (n : ℕ) → n < 2 ^ 32 → field 4 0 (little_bytes 4 n) ≡ n
unfolding little_bytes
read_4 n fits = cc (read_back 4 n [] (little_bytes 4 n) fits refl)

read_8 : (n : ℕ) → n < 2 ^ 64 → field 8 0 (little_bytes 8 n) ≡ n
unfolding little_bytes
read_8 n fits = cc (read_back 8 n [] (little_bytes 8 n) fits refl)

-- a type takes bits of the lowest 16
type_fits : (kind : FileKind) → type_bits kind < 2 ^ 16
type_fits Directory = omega arith
type_fits File = omega arith
type_fits Link = omega arith
type_fits Pipe = omega arith
type_fits Console = omega arith

-- what a program reads in struct stat
pub stat_fields : (s : Stat) → s.dev < 2 ^ 64 → s.ino < 2 ^ 64 → s.permissions ≤ 511 → s.nlink < 2 ^ 32 →
    s.size < 2 ^ 64 → HasStatFields s (stat_record s)
unfolding little_bytes stat_record
stat_fields s dev ino permissions nlink size = record {
  st_dev = read_8 s.dev dev;
  st_ino = read_8 s.ino ino;
  st_mode = read_4 (mode_of s) (omega (arith, type_fits s.kind));
  st_nlink = read_4 s.nlink nlink;
  st_uid = refl;
  st_gid = refl;
  st_rdev = refl;
  st_size = read_8 s.size size;
  st_blksize = refl;
  st_blocks = read_8 (blocks_of s.size) (omega arith);
  pad1 = refl;
  pad2 = refl;
  rest = refl;
}

-- a type takes one byte
read_type : (kind : FileKind) → field 1 0 (little_bytes 1 (entry_type kind)) ≡ entry_type kind
unfolding little_bytes
read_type Directory = refl
read_type File = refl
read_type Link = refl
read_type Pipe = refl
read_type Console = refl

-- a name between other bytes
name_read : (head name rest : List ℕ) → length head ≡ 19 →
    slice_range (head ++ name ++ rest) 19 (19 + length name) ≡ name
name_read head name rest long =
    let all = head ++ name ++ rest in
    let behind : drop 19 all ≡ name ++ rest =
    ap (λ n. drop n all) (sym long) ∙ ap (drop (length head)) (append_assoc head name rest)
    ∙ drop-append_seam head (name ++ rest) in
    let width : 19 + length name - 19 ≡ length name = omega arith in
    ap (λ n. take n (drop 19 all)) width ∙ ap (take (length name)) behind ∙ take-append_seam name rest

-- how many bytes stand there with zeros behind them
length-record : (head name : List ℕ) (more : ℕ) → length head ≡ 19 →
    length (head ++ name ++ replicate more 0) ≡ 19 + length name + more
length-record head name more long =
    let zeros = length-replicate {A = ℕ} more 0 in
    omega (arith, length-append (head ++ name) (replicate more 0), length-append head name, zeros)

-- the first zero behind a name
nul_read : (head name : List ℕ) (more : ℕ) → length head ≡ 19 → 0 < more →
    slice_get (head ++ name ++ replicate more 0) (19 + length name) ≡ Some 0
nul_read head name more long some =
    let all = head ++ name ++ replicate more 0 in
    let front : length (head ++ name) + 0 ≡ 19 + length name = omega (arith, length-append head name) in
    let nul : get_or all (19 + length name) 0 ≡ 0 =
    ap (λ i. get_or all i 0) (sym front) ∙ get_or-append-add (head ++ name) (replicate more 0) 0 0
    ∙ get_or-replicate more 0 0 0 some in
    let inside : 19 + length name < length all = omega (arith, length-record head name more long) in
    slice_get-get_or all (19 + length name) 0 inside ∙ ap Some nul

-- what a program reads in struct linux_dirent64
pub dirent_fields : (e : DirEntry) → e.ino < 2 ^ 64 → e.next < 2 ^ 64 → length e.name ≤ 255 →
    HasDirentFields e (dirent_record e)
unfolding little_bytes dirent_record
dirent_fields e ino next short =
    let reclen = dirent_length (length e.name) in
    let more = reclen - 19 - length e.name in
    let head : List ℕ =
    little_bytes 8 e.ino ++ little_bytes 8 e.next ++ little_bytes 2 reclen ++ little_bytes 1 (entry_type e.kind) in
    let all : length (head ++ e.name ++ replicate more 0) ≡ reclen =
    omega (arith, length-record head e.name more refl) in
    record {
      d_ino = read_8 e.ino ino;
      d_off = read_8 e.next next;
      d_reclen = read_2 reclen (omega arith) ∙ sym all;
      d_type = read_type e.kind;
      d_name = name_read head e.name (replicate more 0) refl;
      ends = nul_read head e.name more refl (omega arith);
    }

-- the same of a record behind other bytes, of a call that may be refused
pub fields_added : {A E : Type 0} (r : Result A E) (e : DirEntry) (old new : List ℕ) →
    HasDirentFields e (dirent_record e) → OnOk r (new ≡ old ++ dirent_record e) →
    OnOk r (HasDirentFields e (drop (length old) new))
fields_added (Ok a) e old new fields added =
    let behind : drop (length old) new ≡ dirent_record e =
    ap (drop (length old)) added ∙ drop-append_seam old (dirent_record e) in
    subst (HasDirentFields e) (sym behind) fields
fields_added (Err a) e old new fields added = tt
