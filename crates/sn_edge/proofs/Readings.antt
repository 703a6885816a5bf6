-- What is told after one read and then another, and the front of a file that they gave.
use Rattle.std.proofs.Common.{◌≡◌, ◌⊎◌, ℕ, ◌+◌, ◌≤◌, List, [], ◌++◌, length, take, drop, Option, Some, None, refl, ap}
use Rattle.std.proofs.Common.{sym, subst, ◌∙◌, inl, inr, arith}
use Rattle.std.proofs.lemmas.List.{drop-drop, length-drop, length-append, length-take-le, take_all}
use Rattle.std.proofs.Math.Seq.{take-add}
use Rattle.sn_edge.specs.Shelf.{Shelf, after_open, left_after_read, after_failed_read, IsAtEnd}
use Rattle.sn_edge.specs.Reading.{after_reads, IsFrontOfFile, Gains, ReadsWithin}

-- the bytes so far are the front of what was left, where that is told
abbrev pub IsFrontOfRest : Option Shelf → List ℕ → Type 0
IsFrontOfRest None bytes = Unit {0}
IsFrontOfRest (Some shelf) bytes = bytes ≡ take (length bytes) shelf.rest

-- equal parts make equal shelves
same_told : (files : List (List ℕ × List ℕ)) {r r' : List ℕ} {m m' n n' : ℕ} → r ≡ r' → m ≡ m' → n ≡ n'
    → Some (let s : Shelf = record { files = files; rest = r; reads = m; taken = n } in s)
    ≡ Some (record { files = files; rest = r'; reads = m'; taken = n' })
same_told files e f g = cc

-- no read leaves all as it was
pub after_reads-none : (t : Option Shelf) → after_reads t 0 0 ≡ t
after_reads-none None = refl
after_reads-none (Some s) = same_told s.files refl (omega arith) (omega arith)

-- one more read
pub after_read-after_reads : (t : Option Shelf) (n m reads : ℕ) → left_after_read (after_reads t n reads) m
    ≡ after_reads t (n + m) (reads + 1)
after_read-after_reads None n m reads = refl
after_read-after_reads (Some s) n m reads = same_told s.files (drop-drop m n s.rest) (omega arith) (omega arith)

-- one more that gave an error
pub after_failed_read-after_reads : (t : Option Shelf) (n reads : ℕ) → after_failed_read (after_reads t n reads)
    ≡ after_reads t n (reads + 1)
after_failed_read-after_reads None n reads = refl
after_failed_read-after_reads (Some s) n reads = same_told s.files refl (omega arith) refl

-- the front grows by what the next read gives
pub IsFrontOfRest-gains : (t : Option Shelf) (n reads : ℕ) (before now : List ℕ) → IsFrontOfRest t before
    → Gains (after_reads t (length before) reads) n before now → IsFrontOfRest t now
IsFrontOfRest-gains None n reads before now front gains = tt
IsFrontOfRest-gains (Some s) n reads before now front gains =
    let more : length now ≡ length before + n =
    ap length gains.1 ∙ length-append before (take n (drop (length before) s.rest))
    ∙ ap (λ k. length before + k) (length-take-le n (drop (length before) s.rest) gains.0) in
    gains.1 ∙ ap (λ xs. xs ++ take n (drop (length before) s.rest)) front ∙ sym (take-add (length before) n s.rest)
    ∙ ap (λ k. take k s.rest) (sym more)

-- at the end of the file the front is all of it
pub IsFrontOfFile-at_end : (t : Option Shelf) (name bytes : List ℕ) (reads most : ℕ)
    → IsFrontOfRest (after_open t name) bytes → length bytes ≤ most
    → IsAtEnd (after_reads (after_open t name) (length bytes) reads) → IsFrontOfFile t name most bytes
IsFrontOfFile-at_end None name bytes reads most front le at_end = tt
IsFrontOfFile-at_end (Some s) name bytes reads most front le at_end = front ∙ whole (length bytes) most _ le at_end
  where
    whole : (m n : ℕ) (rest : List ℕ) → m ≤ n → drop m rest ≡ [] → take m rest ≡ take n rest
    whole m n rest le e =
        let short : length rest ≤ m = omega (arith, length-drop m rest, ap length e) in
        take_all m rest short ∙ sym (take_all n rest (omega arith))

-- what some reads leave, in few of them
pub ReadsWithin-reads : (before now : Option Shelf) (name : List ℕ) (n reads most : ℕ) → reads ≤ n + 1 → n ≤ most
    → now ≡ after_reads (after_open before name) n reads → ReadsWithin before now most
ReadsWithin-reads None None name n reads most few le e =
    record { files = refl; taken = omega arith; within = omega arith; read = omega arith; reads = omega arith }
ReadsWithin-reads None (Some s) name n reads most few le e = absurd (cc)
ReadsWithin-reads (Some s) now name n reads most few le e =
    subst (λ (u : Option Shelf). ReadsWithin (Some s) u most) (sym e)
    (record { files = refl; taken = omega arith; within = omega arith; read = omega arith; reads = omega arith })

-- the last read gave an error, or memory ran out behind it
pub ReadsWithin-last : (before t s now : Option Shelf) (name : List ℕ) (n last most reads : ℕ)
    → t ≡ after_open before name → s ≡ after_reads t n reads → reads ≤ n → n + last ≤ most
    → (now ≡ after_failed_read s) ⊎ ((m : ℕ) × (m ≤ last) × (now ≡ left_after_read s m)) → ReadsWithin before now most
ReadsWithin-last before t s now name n last most reads opened so_far few fits outcome =
    let told : s ≡ after_reads (after_open before name) n reads = so_far ∙ ap (λ u. after_reads u n reads) opened in
    elim outcome [
      | inl e ↦ ReadsWithin-reads before now name n (reads + 1) most (omega arith) (omega arith)
          (e ∙ ap after_failed_read told ∙ after_failed_read-after_reads (after_open before name) n reads)
      | inr w ↦ ReadsWithin-reads before now name (n + w.0) (reads + 1) most (omega arith) (omega (arith, w.1))
          (w.2 ∙ ap (λ u. left_after_read u w.0) told ∙ after_read-after_reads (after_open before name) n w.0 reads)
    ]

-- the front grows by a read, of what is told after the reads before it
pub IsFrontOfRest-step : (t s : Option Shelf) (n reads : ℕ) (before now : List ℕ)
    → s ≡ after_reads t (length before) reads → IsFrontOfRest t before → Gains s n before now → IsFrontOfRest t now
IsFrontOfRest-step t s n reads before now so_far front gains =
    IsFrontOfRest-gains t n reads before now front (subst (λ (u : Option Shelf). Gains u n before now) so_far gains)

-- a read that gives nothing shows that the file was read to its end
pub IsFrontOfFile-end : (before t s : Option Shelf) (name bytes now : List ℕ) (n reads most : ℕ)
    → t ≡ after_open before name → s ≡ after_reads t (length bytes) reads
    → IsFrontOfRest t bytes → Gains s n bytes now → length now ≡ length bytes → length now ≤ most → IsAtEnd s
    → IsFrontOfFile before name most now
IsFrontOfFile-end before t s name bytes now n reads most opened so_far front gains same le at_end =
    let front_now = IsFrontOfRest-step t s n reads bytes now so_far front gains in
    IsFrontOfFile-at_end before name now reads most
    (subst (λ (u : Option Shelf). IsFrontOfRest u now) opened front_now) le
    (subst (λ (u : Option Shelf). IsAtEnd u) (so_far ∙ ap (λ u. after_reads u (length bytes) reads) opened
    ∙ ap (λ k. after_reads (after_open before name) k reads) (sym same)) at_end)

-- one more read, in what is told
pub after_reads-step : (t s now : Option Shelf) (n m reads : ℕ) → s ≡ after_reads t n reads → now ≡ left_after_read s m
    → now ≡ after_reads t (n + m) (reads + 1)
after_reads-step t s now n m reads so_far e = e ∙ ap (λ u. left_after_read u m) so_far
    ∙ after_read-after_reads t n m reads
