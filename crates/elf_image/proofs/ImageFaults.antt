-- The first fault of bytes, and bytes without one.
use Rattle.std.proofs.Common.{◌≡◌, ℕ, ◌+◌, ◌*◌, ◌≤◌, List, [], ◌∷◌, length, Bool, true, false, Some, None, refl, arith}
use Rattle.std.specs.List.{list_any}
use Rattle.std.specs.Prelude.{nat_lt, not, ◌||◌, if◌then◌else◌, Option}
use Rattle.std.proofs.lemmas.Bool.Decides.{nat_tests}
use Rattle.elf_image.specs.declared.header.FileHeader.{FileHeader}
use Rattle.elf_image.specs.declared.fault.ImageFault.{ImageFault}
use Rattle.elf_image.specs.declared.fault.ImageFault.TheVariants.{Short, Magic, Class, Machine, Kind, Flags, Headers}
use Rattle.elf_image.specs.declared.fault.ImageFault.TheVariants.{Interp, Range, Overlap, Entry, Memory}
use Rattle.elf_image.specs.Headers.{file_header, program_headers, is_loaded}
use Rattle.elf_image.specs.Faults.{has_no_table, is_misplaced, has_overlap, has_no_entry, first_fault, fault_rows}
use Rattle.elf_image.specs.Faults.{image_fault, IsImageFaultOf}

abbrev is_memory : ImageFault → Bool
is_memory Memory = true
is_memory fault = false

-- a fault that no row has is never the first
first_row : (b : Bool) (e : ImageFault) (rest : Option ImageFault) → is_memory e ≡ false → (rest ≡ Some Memory → ⊥)
    → (if b then Some e else rest) ≡ Some Memory → ⊥
first_row true e rest other none h = cc (other, ap_memory e h)
  where
    ap_memory : (e : ImageFault) → Some e ≡ Some Memory → is_memory e ≡ true
    ap_memory e h = rw (let same : e ≡ Memory = cc in same) refl
first_row false e rest other none h = none h

pub split_or : (a b : Bool) → (a || b) ≡ false → (a ≡ false) × (b ≡ false)
split_or true b h = absurd (cc h)
split_or false b h = (refl, h)

never_memory : (rows : List (Bool × ImageFault)) → list_any (λ row. is_memory row.1) rows ≡ false
    → first_fault rows ≡ Some Memory → ⊥
never_memory [] other h = cc
never_memory (row ∷ rows) other h =
    let both = split_or (is_memory row.1) (list_any (λ r. is_memory r.1) rows) other in
    first_row row.0 row.1 (first_fault rows) both.0 (never_memory rows both.1) h

-- want of memory is no fault of the bytes
not_Memory : (bytes : List ℕ) → image_fault bytes ≡ Some Memory → ⊥
unfolding image_fault
not_Memory bytes h = never_memory (fault_rows bytes) refl h

-- the first fault is one that a call may tell
pub fault_of_first : (bytes : List ℕ) (e : ImageFault) → image_fault bytes ≡ Some e → IsImageFaultOf bytes e
fault_of_first bytes Short h = h
fault_of_first bytes Magic h = h
fault_of_first bytes Class h = h
fault_of_first bytes Machine h = h
fault_of_first bytes Kind h = h
fault_of_first bytes Flags h = h
fault_of_first bytes Headers h = h
fault_of_first bytes Interp h = h
fault_of_first bytes Range h = h
fault_of_first bytes Overlap h = h
fault_of_first bytes Entry h = h
fault_of_first bytes Memory h = absurd (not_Memory bytes h)

-- no row holds
abbrev NoneHolds : List (Bool × ImageFault) → Type 0
NoneHolds [] = Unit {0}
NoneHolds (row ∷ rows) = (row.0 ≡ false) × NoneHolds rows

no_row : (b : Bool) (e : ImageFault) (rest : Option ImageFault) → (if b then Some e else rest) ≡ None
    → (b ≡ false) × (rest ≡ None)
no_row true e rest h = absurd (cc h)
no_row false e rest h = (refl, h)

none_holds : (rows : List (Bool × ImageFault)) → first_fault rows ≡ None → NoneHolds rows
none_holds [] h = tt
none_holds (row ∷ rows) h =
    let both = no_row row.0 row.1 (first_fault rows) h in
    (both.0, none_holds rows both.1)

-- what a file without a fault has
pub record HasNoFault (bytes : List ℕ) : Type 0 where
  pub room : 64 ≤ length bytes
  pub few : (file_header bytes).e_phnum ≤ 64
  pub inside : (file_header bytes).e_phoff + 56 * (file_header bytes).e_phnum ≤ length bytes
  pub placed : list_any (is_misplaced (length bytes)) (program_headers bytes) ≡ false
  pub apart : has_overlap (program_headers bytes) ≡ false
  pub entered : has_no_entry (file_header bytes).e_entry (program_headers bytes) ≡ false

has_room : (size : ℕ) → nat_lt size 64 ≡ false → 64 ≤ size
has_room size h = grind (arith, nat_tests)

has_table : (size : ℕ) (file : FileHeader) → has_no_table size file ≡ false
    → (file.e_phnum ≤ 64) × (file.e_phoff + 56 * file.e_phnum ≤ size)
has_table size file h = grind (arith, nat_tests)

pub without_fault : (bytes : List ℕ) → image_fault bytes ≡ None → HasNoFault bytes
unfolding image_fault
without_fault bytes h =
    let none = none_holds (fault_rows bytes) h in
    let table = has_table (length bytes) (file_header bytes) none.1.1.1.1.1.1.0 in
    let range = none.1.1.1.1.1.1.1.1.0 in
    record {
      room = has_room (length bytes) none.0;
      few = table.0;
      inside = table.1;
      placed = (split_or (not (list_any is_loaded (program_headers bytes)))
          (list_any (is_misplaced (length bytes)) (program_headers bytes)) range).1;
      apart = none.1.1.1.1.1.1.1.1.1.0;
      entered = none.1.1.1.1.1.1.1.1.1.1.0;
    }
