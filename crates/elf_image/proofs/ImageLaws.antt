-- What is true of the segments of a file without a fault.
use Rattle.std.proofs.Common.{◌≡◌, ℕ, zero, suc, ◌+◌, ◌%◌, ◌<◌, ◌≤◌, List, [], ◌∷◌, map, Bool, true, false, cond, ◌&&◌}
use Rattle.std.proofs.Common.{◌||◌, subst, refl, sym, ap, ◌∙◌, arith, None}
use Rattle.std.specs.Prelude.{All, AllPairs, Any, IsTrue, filter}
use Rattle.std.specs.List.{list_any}
use Rattle.std.proofs.lemmas.Bool.Decides.{nat_tests}
use Rattle.std.proofs.lemmas.List.Elements.{All-cons}
use Rattle.elf_image.specs.declared.header.ProgramHeader.{ProgramHeader}
use Rattle.elf_image.specs.declared.image.Segment.{Segment}
use Rattle.elf_image.specs.Headers.{file_header, program_headers, is_load, is_loaded}
use Rattle.elf_image.specs.Faults.{meet, has_overlap, is_executed, has_no_entry, image_fault}
use Rattle.elf_image.specs.Images.{segment_of, segments_of}
use Rattle.elf_image.specs.Loadable.{IsInSegment, AreApart, StartsInCode}
use Rattle.elf_image.proofs.HeaderPairs.{overlap_more}
use Rattle.elf_image.proofs.ImageFaults.{split_or, without_fault}

-- ---- segments lie apart

AllPairs-cons : {X : Type 0} (R : X → X → Type 0) (x : X) (xs : List X) → All (R x) xs
    → AllPairs R xs → AllPairs R (x ∷ xs)
AllPairs-cons R x xs first rest zero zero d below fits = absurd (omega arith)
AllPairs-cons R x xs first rest zero (suc j) d below fits = first j d (omega arith)
AllPairs-cons R x xs first rest (suc i) zero d below fits = absurd (omega arith)
AllPairs-cons R x xs first rest (suc i) (suc j) d below fits = rest i j d (omega arith) (omega arith)

one_apart : (bytes : List ℕ) (h o : ProgramHeader) → is_loaded o ≡ true → (is_load o && meet (h, o)) ≡ false
    → AreApart (segment_of bytes h) (segment_of bytes o)
one_apart bytes h o load none address in_h in_o = grind (arith, nat_tests)

kept_apart : (bytes : List ℕ) (h o : ProgramHeader) (b : Bool) (os : List ProgramHeader) → is_loaded o ≡ b
    → (is_load o && meet (h, o)) ≡ false →
    All (AreApart (segment_of bytes h)) (map (segment_of bytes) os)
    → All (AreApart (segment_of bytes h)) (map (segment_of bytes) (cond b (o ∷ os) os))
kept_apart bytes h o true os load none rest =
    All-cons (AreApart (segment_of bytes h)) (segment_of bytes o) (map (segment_of bytes) os)
    (one_apart bytes h o load none) rest
kept_apart bytes h o false os load none rest = rest

first_apart : (bytes : List ℕ) (h : ProgramHeader) (os : List ProgramHeader)
    → list_any (λ o. is_load o && meet (h, o)) os ≡ false →
    All (AreApart (segment_of bytes h)) (segments_of bytes os)
first_apart bytes h [] none = λ k d below. absurd (omega arith)
first_apart bytes h (o ∷ os) none =
    let both = split_or (is_load o && meet (h, o)) (list_any (λ o. is_load o && meet (h, o)) os) none in
    kept_apart bytes h o (is_loaded o) (filter is_loaded os) refl both.0 (first_apart bytes h os both.1)

loaded_first : (h : ProgramHeader) (b : Bool) → is_loaded h ≡ true → (is_load h && b) ≡ false → b ≡ false
loaded_first h b load none = grind (arith, nat_tests)

kept_pairs : (bytes : List ℕ) (h : ProgramHeader) (b : Bool) (hs : List ProgramHeader) → is_loaded h ≡ b →
    (is_load h && list_any (λ o. is_load o && meet (h, o)) hs) ≡ false →
    AllPairs AreApart (segments_of bytes hs)
    → AllPairs AreApart (map (segment_of bytes) (cond b (h ∷ filter is_loaded hs) (filter is_loaded hs)))
kept_pairs bytes h true hs load none rest =
    AllPairs-cons AreApart (segment_of bytes h) (segments_of bytes hs)
    (first_apart bytes h hs (loaded_first h _ load none)) rest
kept_pairs bytes h false hs load none rest = rest

all_apart : (bytes : List ℕ) (hs : List ProgramHeader) → has_overlap hs ≡ false
    → AllPairs AreApart (segments_of bytes hs)
all_apart bytes [] none = λ i j d below fits. absurd (omega arith)
all_apart bytes (h ∷ hs) none =
    let both = split_or (is_load h && list_any (λ o. is_load o && meet (h, o)) hs) (has_overlap hs)
    (sym (overlap_more h hs) ∙ none) in
    kept_pairs bytes h (is_loaded h) hs refl both.0 (all_apart bytes hs both.1)

-- the segments of a file without a fault lie apart
pub segments_apart : (bytes : List ℕ) (ss : List Segment) → image_fault bytes ≡ None
    → ss ≡ segments_of bytes (program_headers bytes) → AllPairs AreApart ss
segments_apart bytes ss none same =
    subst (AllPairs AreApart) (sym same) (all_apart bytes (program_headers bytes) (without_fault bytes none).apart)

-- ---- the start is in one that may be executed

Any-cons : {X : Type 0} (P : X → Type 0) (y : X) (xs : List X) → Any P xs → Any P (y ∷ xs)
Any-cons P y xs a = (suc a.0, a.1, omega arith, a.3, a.4)

abbrev IsStart : ℕ → Segment → Type 0
IsStart entry segment = IsInSegment entry segment × IsTrue segment.rights.execute

split_and : (a b : Bool) → (a && b) ≡ true → (a ≡ true) × (b ≡ true)
split_and true b h = (refl, h)
split_and false b h = absurd (cc h)

-- an address that is executed is in the header's segment, which may be executed and has a byte
pub record Starts (bytes : List ℕ) (entry : ℕ) (h : ProgramHeader) : Type 0 where
  pub low : h.p_vaddr ≤ entry
  pub high : entry < h.p_vaddr + h.p_memsz
  pub code : IsTrue (segment_of bytes h).rights.execute
  pub loaded : is_loaded h ≡ true

one_start : (bytes : List ℕ) (entry : ℕ) (h : ProgramHeader) → is_executed entry h ≡ true → Starts bytes entry h
one_start bytes entry h there = record {
  low = grind (arith, nat_tests);
  high = grind (arith, nat_tests);
  code = grind (arith, nat_tests);
  loaded = grind (arith, nat_tests);
}

kept_start : (bytes : List ℕ) (entry : ℕ) (h : ProgramHeader) (b : Bool) (hs : List ProgramHeader)
    → Any (IsStart entry) (map (segment_of bytes) hs) →
    Any (IsStart entry) (map (segment_of bytes) (cond b (h ∷ hs) hs))
kept_start bytes entry h true hs rest = Any-cons (IsStart entry) (segment_of bytes h) (map (segment_of bytes) hs) rest
kept_start bytes entry h false hs rest = rest

new_start : (bytes : List ℕ) (entry : ℕ) (h : ProgramHeader) (b : Bool) (hs : List ProgramHeader)
    → Starts bytes entry h → b ≡ true →
    Any (IsStart entry) (map (segment_of bytes) (cond b (h ∷ hs) hs))
new_start bytes entry h true hs starts load =
    (zero, segment_of bytes h, omega arith, refl, ((starts.low, starts.high), starts.code))
new_start bytes entry h false hs starts load = absurd (cc load)

first_or_later : (bytes : List ℕ) (entry : ℕ) (h : ProgramHeader) (b : Bool) (hs : List ProgramHeader)
    → is_executed entry h ≡ b →
    (b || list_any (is_executed entry) hs) ≡ true
    → (list_any (is_executed entry) hs ≡ true → Any (IsStart entry) (segments_of bytes hs)) →
    Any (IsStart entry) (segments_of bytes (h ∷ hs))
first_or_later bytes entry h true hs is there later =
    let starts = one_start bytes entry h is in
    new_start bytes entry h (is_loaded h) (filter is_loaded hs) starts starts.loaded
first_or_later bytes entry h false hs is there later =
    kept_start bytes entry h (is_loaded h) (filter is_loaded hs) (later there)

some_start : (bytes : List ℕ) (entry : ℕ) (hs : List ProgramHeader) → list_any (is_executed entry) hs ≡ true
    → Any (IsStart entry) (segments_of bytes hs)
some_start bytes entry [] there = absurd (cc there)
some_start bytes entry (h ∷ hs) there =
    first_or_later bytes entry h (is_executed entry h) hs refl there (some_start bytes entry hs)

entry_there : (entry : ℕ) (hs : List ProgramHeader) → has_no_entry entry hs ≡ false
    → (list_any (is_executed entry) hs ≡ true) × (entry % 4 ≡ 0)
entry_there entry hs none = (grind (arith, nat_tests), grind (arith, nat_tests))

-- the image of a file without a fault starts in its code
pub starts_in_code : (bytes : List ℕ) (entry : ℕ) (ss : List Segment) → image_fault bytes ≡ None
    → entry ≡ (file_header bytes).e_entry →
    ss ≡ segments_of bytes (program_headers bytes) → (headers count : ℕ) →
    StartsInCode (record { entry = entry; segments = ss; headers = headers; header_count = count })
starts_in_code bytes entry ss none start same headers count =
    let entered = entry_there (file_header bytes).e_entry (program_headers bytes) (without_fault bytes none).entered in
    let there = some_start bytes (file_header bytes).e_entry (program_headers bytes) entered.0 in
    record {
      aligned = ap (λ e. e % 4) start ∙ entered.1;
      there = subst (λ e. Any (IsStart e) ss) (sym start)
          (subst (Any (IsStart (file_header bytes).e_entry)) (sym same) there);
    }
