-- A byte put into the bytes of a page, and into one of an area's pages.
use Rattle.std.proofs.Common.{◌≡◌, ℕ, zero, suc, ◌==◌, Bool, true, false, ◌&&◌, List, [], ◌∷◌, Option, Some, None, refl}
use Rattle.std.proofs.Common.{ap, sym, ◌∙◌, ◌⊎◌, inl, inr, eq-eqb, ne_eqb}
use Rattle.std.specs.Prelude.{if◌then◌else◌, option_and_then, option_map, slice_get, slice_set}
use Rattle.std.proofs.lemmas.Bool.{cases_eq}
use Rattle.rv_table.specs.Bytes.{Byte, Barred}
use Rattle.rv_exec.specs.Writes.{with_value}
use Rattle.mm_frames.specs.Frames as frames
use Rattle.mm_space.specs.Sight.{as_byte}

-- a byte that has another value where a test says so
-- profile
abbrev pub valued_if : Bool → ℕ → Byte → Byte
valued_if same value byte = if same then with_value byte value else byte

-- what may not be accessed stays so
pub barred_stays : (same : Bool) (value : ℕ) → Barred ≡ valued_if same value Barred
barred_stays true value = refl
barred_stays false value = refl

-- a byte that is seen only where there is a right
pub seen_by_right : (allowed same : Bool) (value : ℕ) (old new : Byte) → new ≡ valued_if same value old
    → (if allowed then new else Barred) ≡ valued_if same value (if allowed then old else Barred)
seen_by_right true same value old new is = is
seen_by_right false same value old new is = barred_stays same value

-- ---- one element of a list

set_here : (bytes : List ℕ) (offset value : ℕ)
    → as_byte (slice_get (slice_set bytes offset value) offset) ≡ with_value (as_byte (slice_get bytes offset)) value
set_here [] offset value = refl
set_here (b ∷ bs) zero value = refl
set_here (b ∷ bs) (suc offset) value = set_here bs offset value

set_elsewhere : {X : Type 0} → (xs : List X) (index : ℕ) (x : X) (other : ℕ) → (index ≡ other → ⊥)
    → slice_get (slice_set xs index x) other ≡ slice_get xs other
set_elsewhere [] index x other apart = refl
set_elsewhere (y ∷ ys) zero x zero apart = absurd (apart refl)
set_elsewhere (y ∷ ys) zero x (suc other) apart = refl
set_elsewhere (y ∷ ys) (suc index) x zero apart = refl
set_elsewhere (y ∷ ys) (suc index) x (suc other) apart =
    set_elsewhere ys index x other (λ same. apart (ap (λ n. suc n) same))

changed_here : (pages : List (List ℕ)) (page : ℕ) (change : List ℕ → List ℕ)
    → slice_get (frames.with_page_changed pages page change) page ≡ option_map change (slice_get pages page)
changed_here [] page change = refl
changed_here (p ∷ ps) zero change = refl
changed_here (p ∷ ps) (suc page) change = changed_here ps page change

-- ---- a byte of a page, and of an area's pages

pub byte_set : (bytes : List ℕ) (offset value other : ℕ)
    → as_byte (slice_get (slice_set bytes offset value) other)
    ≡ valued_if (offset == other) value (as_byte (slice_get bytes other))
byte_set bytes offset value other = by (cases_eq offset other)
  where
    new : ℕ → Byte
    new o = as_byte (slice_get (slice_set bytes offset value) o)

    old : ℕ → Byte
    old o = as_byte (slice_get bytes o)

    by : (offset ≡ other) ⊎ (offset ≡ other → ⊥) → new other ≡ valued_if (offset == other) value (old other)
    by (inl same) =
        ap new (sym same) ∙ set_here bytes offset value ∙ ap (λ o. with_value (old o) value) same
        ∙ sym (ap (λ (test : Bool). valued_if test value (old other)) (eq-eqb offset other same))
    by (inr apart) =
        ap as_byte (set_elsewhere bytes offset value other apart)
        ∙ sym (ap (λ (test : Bool). valued_if test value (old other)) (ne_eqb offset other apart))

-- the byte at an offset of a page that may not be there
-- profile
abbrev byte_of : (offset : ℕ) → Option (List ℕ) → Byte
byte_of offset page = as_byte (option_and_then (λ bytes. slice_get bytes offset) page)

byte_changed : (page : Option (List ℕ)) (offset value other : ℕ)
    → byte_of other (option_map (λ bytes. slice_set bytes offset value) page)
    ≡ valued_if (offset == other) value (byte_of other page)
byte_changed None offset value other = barred_stays (offset == other) value
byte_changed (Some bytes) offset value other = byte_set bytes offset value other

pub byte_in_pages : (pages : List (List ℕ)) (page offset value number other : ℕ)
    → as_byte (frames.byte_of_pages (frames.with_page_changed pages page
    (λ bytes. slice_set bytes offset value)) number other)
    ≡ valued_if ((page == number) && (offset == other)) value (as_byte (frames.byte_of_pages pages number other))
byte_in_pages pages page offset value number other = by (cases_eq page number)
  where
    change : List ℕ → List ℕ
    change bytes = slice_set bytes offset value

    new : ℕ → Byte
    new n = byte_of other (slice_get (frames.with_page_changed pages page change) n)

    old : ℕ → Byte
    old n = byte_of other (slice_get pages n)

    tested : Bool → Byte
    tested test = valued_if (test && (offset == other)) value (old number)

    by : (page ≡ number) ⊎ (page ≡ number → ⊥) → new number ≡ tested (page == number)
    by (inl same) =
        ap new (sym same) ∙ ap (byte_of other) (changed_here pages page change)
        ∙ byte_changed (slice_get pages page) offset value other
        ∙ ap (λ n. valued_if (offset == other) value (old n)) same
        ∙ sym (ap tested (eq-eqb page number same))
    by (inr apart) =
        ap (byte_of other) (set_elsewhere pages page (change (frames.page_at pages page)) number apart)
        ∙ sym (ap tested (ne_eqb page number apart))
