-- Fields that are put over zeros one after another make a record.
use Rattle.std.proofs.Common.{◌≡◌, ℕ, ◌+◌, ◌-◌, ◌≤◌, List, ◌++◌, length, take, drop, refl, sym, ap, ◌∙◌, arith}
use Rattle.std.proofs.Common.{length-append}
use Rattle.std.proofs.Math.Seq.{take-append_seam, take-append-add, drop-append-add}
use Rattle.std.proofs.lemmas.List.{take-replicate, drop-replicate}
use Rattle.std.specs.Prelude.{replicate}
use Rattle.sn_bytes.specs.Fields.{little_bytes}
use Rattle.stat_layout.specs.declared.kind.FileKind.{FileKind}
use Rattle.stat_layout.specs.declared.stat.Stat.{Stat}
use Rattle.stat_layout.specs.Places.{placed}
use Rattle.stat_layout.specs.Kinds.{entry_type}
use Rattle.stat_layout.specs.Dirents.{dirent_length, dirent_record}
use Rattle.stat_layout.specs.Stats.{mode_of, blocks_of, stat_record}

-- the fields of struct stat, put over zeros
pub stat_laid_out : (s : Stat) →
    placed 64 (little_bytes 8 (blocks_of s.size)) (placed 56 (little_bytes 4 4096) (placed 48 (little_bytes 8 s.size)
    (placed 28 (little_bytes 4 1000) (placed 24 (little_bytes 4 1000) (placed 20 (little_bytes 4 s.nlink)
    (placed 16 (little_bytes 4 (mode_of s)) (placed 8 (little_bytes 8 s.ino) (placed 0 (little_bytes 8 s.dev)
    (replicate 128 0)))))))))
    ≡ stat_record s
unfolding little_bytes placed stat_record
stat_laid_out s = refl

-- the fields before a name
head : (ino next reclen type : ℕ) → List ℕ
head ino next reclen type = little_bytes 8 ino ++ little_bytes 8 next ++ little_bytes 2 reclen ++ little_bytes 1 type

length-head : (ino next reclen type : ℕ) → length (head ino next reclen type) ≡ 19
unfolding head little_bytes
length-head ino next reclen type = refl

-- the same, put over zeros
head_laid_out : (ino next reclen type : ℕ) →
    placed 18 (little_bytes 1 type) (placed 16 (little_bytes 2 reclen) (placed 8 (little_bytes 8 next)
    (placed 0 (little_bytes 8 ino) (replicate 280 0))))
    ≡ head ino next reclen type ++ replicate 261 0
unfolding head little_bytes placed
head_laid_out ino next reclen type = refl

-- a name put over zeros behind 19 bytes
name_put : (front name : List ℕ) → length front ≡ 19 →
    placed 19 name (front ++ replicate 261 0) ≡ front ++ name ++ replicate (261 - length name) 0
unfolding placed
name_put front name long =
    let all : List ℕ = front ++ replicate 261 0 in
    let start : take 19 all ≡ front = ap (λ n. take n all) (sym long) ∙ take-append_seam front (replicate 261 0) in
    let rest : drop (19 + length name) all ≡ replicate (261 - length name) 0 =
    ap (λ n. drop (n + length name) all) (sym long) ∙ drop-append-add front (replicate 261 0) (length name)
    ∙ drop-replicate (length name) 261 0 in
    rw (start, rest) refl

-- the bytes up to an end among the zeros
cut : (bytes : List ℕ) (zeros end : ℕ) → length bytes ≤ end → end ≤ length bytes + zeros →
    take end (bytes ++ replicate zeros 0) ≡ bytes ++ replicate (end - length bytes) 0
cut bytes zeros end past inside =
    let more = end - length bytes in
    let room : length bytes + more ≡ end = omega arith in
    ap (λ n. take n (bytes ++ replicate zeros 0)) (sym room) ∙ take-append-add bytes (replicate zeros 0) more
    ∙ ap (λ rest. bytes ++ rest) (take-replicate more zeros 0 (omega arith))

-- the fields of a directory's entry, put over zeros
pub dirent_laid_out : (ino next : ℕ) (kind : FileKind) (name : List ℕ) → length name ≤ 255 →
    take (dirent_length (length name))
    (placed 19 name (placed 18 (little_bytes 1 (entry_type kind))
    (placed 16 (little_bytes 2 (dirent_length (length name)))
    (placed 8 (little_bytes 8 next) (placed 0 (little_bytes 8 ino) (replicate 280 0))))))
    ≡ dirent_record (record { ino = ino; next = next; kind = kind; name = name })
unfolding head dirent_record
dirent_laid_out ino next kind name short =
    let end = dirent_length (length name) in
    let front : List ℕ = head ino next end (entry_type kind) in
    let long : length front ≡ 19 = length-head ino next end (entry_type kind) in
    let behind : length (front ++ name) ≡ 19 + length name = omega (arith, length-append front name) in
    let more : end - length (front ++ name) ≡ end - 19 - length name = omega arith in
    rw (head_laid_out ino next end (entry_type kind), name_put front name long)
    (
    cut (front ++ name) (261 - length name) end (omega arith) (omega arith)
    ∙ ap (λ n. front ++ name ++ replicate n 0) more
    )
