-- The segments of a file without a fault.
use Rattle.std.proofs.Common.{◌≡◌, ℕ, suc, subst, ◌+◌, ◌-◌, ◌*◌, ◌^◌, ◌≤◌, List, [], ◌∷◌, length, map, drop, Bool, true}
use Rattle.std.proofs.Common.{false, cond, refl, sym, ap, arith, None}
use Rattle.std.specs.Prelude.{All, filter, sum_by, slice_range}
use Rattle.std.specs.List.{list_any}
use Rattle.std.proofs.lemmas.Bool.Decides.{nat_tests}
use Rattle.std.proofs.lemmas.List.FromFn.{length-map-range_with_len}
use Rattle.std.proofs.lemmas.List.{length-take}
use Rattle.std.proofs.lemmas.List.Sums.{sum_by-cons}
use Rattle.std.proofs.lemmas.List.Elements.{All-cons}
use Rattle.elf_image.specs.declared.header.ProgramHeader.{ProgramHeader}
use Rattle.elf_image.specs.declared.image.Segment.{Segment}
use Rattle.elf_image.specs.Headers.{file_header, program_headers, is_loaded}
use Rattle.elf_image.specs.Faults.{is_misplaced, image_fault}
use Rattle.elf_image.specs.Images.{segment_of, segments_of}
use Rattle.elf_image.specs.Loadable.{page_count, IsPlaced, AreLoadable}
use Rattle.elf_image.proofs.ImageFaults.{split_or, without_fault}

length-headers : (bytes : List ℕ) → length (program_headers bytes) ≡ (file_header bytes).e_phnum
unfolding program_headers
length-headers bytes = length-map-range_with_len _ 0 _

kept_few : (bytes : List ℕ) (b : Bool) (h : ProgramHeader) (hs : List ProgramHeader) (n : ℕ)
    → length (map (segment_of bytes) hs) ≤ n →
    length (map (segment_of bytes) (cond b (h ∷ hs) hs)) ≤ n + 1
kept_few bytes true h hs n le = omega arith
kept_few bytes false h hs n le = omega arith

few : (bytes : List ℕ) (hs : List ProgramHeader) → length (segments_of bytes hs) ≤ length hs
few bytes [] = omega arith
few bytes (h ∷ hs) = omega (arith, kept_few bytes (is_loaded h) h (filter is_loaded hs) (length hs) (few bytes hs))

length-part : (offset size : ℕ) (bytes : List ℕ) → length (slice_range bytes offset (offset + size)) ≤ size
length-part offset size bytes =
    let long : offset + size - offset ≡ size = omega arith in
    omega (arith, length-take (offset + size - offset) (drop offset bytes))

one_placed : (bytes : List ℕ) (h : ProgramHeader) → is_loaded h ≡ true → is_misplaced (length bytes) h ≡ false
    → IsPlaced (segment_of bytes h)
one_placed bytes h load placed =
    let short = length-part h.p_offset h.p_filesz bytes in
    record {
      some = grind (arith, nat_tests);
      held = grind (arith, nat_tests);
      above = grind (arith, nat_tests);
      below = grind (arith, nat_tests);
    }

kept_placed : (bytes : List ℕ) (b : Bool) (h : ProgramHeader) (hs : List ProgramHeader) → is_loaded h ≡ b
    → is_misplaced (length bytes) h ≡ false →
    All IsPlaced (map (segment_of bytes) hs) → All IsPlaced (map (segment_of bytes) (cond b (h ∷ hs) hs))
kept_placed bytes true h hs load here rest =
    All-cons IsPlaced (segment_of bytes h) (map (segment_of bytes) hs) (one_placed bytes h load here) rest
kept_placed bytes false h hs load here rest = rest

placed : (bytes : List ℕ) (hs : List ProgramHeader) → list_any (is_misplaced (length bytes)) hs ≡ false
    → All IsPlaced (segments_of bytes hs)
placed bytes [] none = λ k d below. absurd (omega arith)
placed bytes (h ∷ hs) none =
    let both = split_or (is_misplaced (length bytes) h) (list_any (is_misplaced (length bytes)) hs) none in
    kept_placed bytes (is_loaded h) h (filter is_loaded hs) refl both.0 (placed bytes hs both.1)

one_count : (s : Segment) → IsPlaced s → page_count s ≤ 2 ^ 25 + 1
one_count s placed = omega arith

counts : (ss : List Segment) → All IsPlaced ss → sum_by page_count ss ≤ (2 ^ 25 + 1) * length ss
counts [] all = omega arith
counts (s ∷ ss) all =
    let here = one_count s (all 0 s (omega arith)) in
    let rest = counts ss (λ k d below. all (suc k) d (omega arith)) in
    omega (arith, here, rest, sum_by-cons page_count s ss)

-- they are those of an image
pub loadable : (bytes : List ℕ) (ss : List Segment) → image_fault bytes ≡ None
    → ss ≡ segments_of bytes (program_headers bytes) → AreLoadable ss
loadable bytes ss none same =
    let fit = without_fault bytes none in
    let short : length ss ≤ 64 =
    omega (arith, ap length same, few bytes (program_headers bytes), length-headers bytes, fit.few) in
    let all : All IsPlaced ss = subst (All IsPlaced) (sym same) (placed bytes (program_headers bytes) fit.placed) in
    record {
      few = short;
      placed = all;
      pages = omega (arith, counts ss all, short);
    }
