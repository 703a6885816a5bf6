-- What a program reads at the end of its stack.
use Rattle.std.proofs.Common.{◌≡◌, ℕ, ◌+◌, ◌-◌, ◌*◌, ◌^◌, ◌<◌, ◌≤◌, List, [], ◌∷◌, ◌++◌, length, take, get_or, Some}
use Rattle.std.proofs.Common.{refl, sym, ap, subst, ◌∙◌, arith, length-append}
use Rattle.std.specs.Prelude.{All, replicate, slice_get, slice_range}
use Rattle.std.specs.List.{flat_map}
use Rattle.std.proofs.lemmas.List.{append-nil, append_assoc, get_or_append_left, get_or-append-add, length-replicate}
use Rattle.std.proofs.lemmas.List.Elements.{All-from_recursion}
use Rattle.std.proofs.lemmas.List.FromFn.{length-map-range_with_len, get_or-map-range_with_len}
use Rattle.std.proofs.lemmas.List.Sums.{sum_by-cons, sum_by-take-le}
use Rattle.std.proofs.lemmas.Option.{slice_get_within, get_or_from_slice_get}
use Rattle.sn_bytes.specs.Fields.{field, little_bytes}
use Rattle.image_load.specs.declared.stack.Auxiliary.{Auxiliary}
use Rattle.image_load.specs.declared.stack.OpeningStack.{OpeningStack}
use Rattle.image_load.specs.Stacks.{ProgramStart, strings_bytes, strings_length, strings_room, addresses, args_address}
use Rattle.image_load.specs.Stacks.{env_address, auxiliary_vector, pointer_words, stack_words, words_length}
use Rattle.image_load.specs.Stacks.{stack_pointer, stack_bytes, word_at, AreBytesAt, IsStackOf}
use Rattle.image_load.proofs.Found.{between, string_found, word_found, length-words}

-- how many bytes strings take
pub length-strings : (strings : List (List ℕ)) → length (strings_bytes strings) ≡ strings_length strings
length-strings [] = refl
length-strings (s ∷ strings) =
    let first = length-append s (0 ∷ []) in
    let bytes = length-append (s ++ 0 ∷ []) (strings_bytes strings) in
    let sum = sum_by-cons (λ string. length string + 1) s strings in
    omega (arith, length-strings strings, first, bytes, sum)

length-addresses : (first : ℕ) (strings : List (List ℕ)) → length (addresses first strings) ≡ length strings
length-addresses first strings =
    length-map-range_with_len (λ k. first + strings_length (take k strings)) 0 (length strings)

address_of : (first : ℕ) (strings : List (List ℕ)) (k : ℕ) → k < length strings →
    get_or (addresses first strings) k 0 ≡ first + strings_length (take k strings)
address_of first strings k inside =
    let at = λ (n : ℕ). first + strings_length (take n strings) in
    get_or-map-range_with_len at 0 (length strings) k k 0 inside (omega arith)

-- a part of some words, with others before it and behind it
part_of : (before part after : List ℕ) (k : ℕ) → k < length part →
    get_or ((before ++ part) ++ after) (length before + k) 0 ≡ get_or part k 0
part_of before part after k inside =
    get_or_append_left (before ++ part) after 0 (length before + k) (omega (arith, length-append before part))
    ∙ get_or-append-add before part k 0

-- what is behind a part joined to one list, of nothing up to five lists
joined_0 : (p a : List ℕ) → p ++ a ≡ p ++ a ++ []
joined_0 p a = sym (append-nil (p ++ a))

joined_2 : (p a b c : List ℕ) → p ++ a ++ b ++ c ≡ (p ++ a) ++ (b ++ c)
joined_2 p a b c = append_assoc (p ++ a) b c

joined_3 : (p a b c d : List ℕ) → p ++ a ++ b ++ c ++ d ≡ (p ++ a) ++ (b ++ c ++ d)
joined_3 p a b c d = ap (λ x. x ++ d) (joined_2 p a b c) ∙ append_assoc (p ++ a) (b ++ c) d

joined_4 : (p a b c d e : List ℕ) → p ++ a ++ b ++ c ++ d ++ e ≡ (p ++ a) ++ (b ++ c ++ d ++ e)
joined_4 p a b c d e = ap (λ x. x ++ e) (joined_3 p a b c d) ∙ append_assoc (p ++ a) (b ++ c ++ d) e

joined_5 : (p a b c d e f : List ℕ) → p ++ a ++ b ++ c ++ d ++ e ++ f ≡ (p ++ a) ++ (b ++ c ++ d ++ e ++ f)
joined_5 p a b c d e f = ap (λ x. x ++ f) (joined_4 p a b c d e) ∙ append_assoc (p ++ a) (b ++ c ++ d ++ e) f

-- the words at their places
record Words (start : ProgramStart) : Type 0 where
  pub count : length (stack_words start) ≡ length start.args + length start.env + 17
  pub argc : get_or (stack_words start) 0 0 ≡ length start.args
  pub argv : (k : ℕ) → k < length start.args →
      get_or (stack_words start) (1 + k) 0 ≡ args_address start + strings_length (take k start.args)
  pub argv_end : get_or (stack_words start) (1 + length start.args) 0 ≡ 0
  pub envp : (k : ℕ) → k < length start.env →
      get_or (stack_words start) (2 + length start.args + k) 0 ≡ env_address start + strings_length (take k start.env)
  pub envp_end : get_or (stack_words start) (2 + length start.args + length start.env) 0 ≡ 0
  pub auxv : (k : ℕ) → k < 14 →
      get_or (stack_words start) (3 + length start.args + length start.env + k) 0
      ≡ get_or (auxiliary_vector start.auxiliary) k 0

words_of : (start : ProgramStart) → Words start
unfolding pointer_words stack_words
words_of start =
    let n = length start.args in
    let m = length start.env in
    let c : List ℕ = n ∷ [] in
    let v = addresses (args_address start) start.args in
    let e = addresses (env_address start) start.env in
    let z : List ℕ = 0 ∷ [] in
    let x = auxiliary_vector start.auxiliary in
    let lv = length-addresses (args_address start) start.args in
    let le = length-addresses (env_address start) start.env in
    let l1 = length-append c v in
    let l2 = length-append (c ++ v) z in
    let l3 = length-append (c ++ v ++ z) e in
    let l4 = length-append (c ++ v ++ z ++ e) z in
    let l5 = length-append (c ++ v ++ z ++ e ++ z) x in
    let all = stack_words start in
    let at : (before part after : List ℕ) (k i : ℕ) → all ≡ (before ++ part) ++ after → k < length part →
    length before + k ≡ i → get_or all i 0 ≡ get_or part k 0 =
    λ before part after k i same inside place.
    ap (λ l. get_or l i 0) same ∙ ap (λ j. get_or ((before ++ part) ++ after) j 0) (sym place)
    ∙ part_of before part after k inside in
    record {
      count = omega (arith, lv, le, l1, l2, l3, l4, l5);
      argc = at [] c (v ++ z ++ e ++ z ++ x) 0 0 (joined_5 [] c v z e z x) (omega arith) refl;
      argv = λ k inside.
          at c v (z ++ e ++ z ++ x) k (1 + k) (joined_4 c v z e z x) (omega (arith, lv)) refl
          ∙ address_of (args_address start) start.args k inside;
      argv_end = at (c ++ v) z (e ++ z ++ x) 0 (1 + n) (joined_3 (c ++ v) z e z x) (omega arith)
          (omega (arith, lv, l1));
      envp = λ k inside.
          at (c ++ v ++ z) e (z ++ x) k (2 + n + k) (joined_2 (c ++ v ++ z) e z x) (omega (arith, le))
          (omega (arith, lv, l1, l2))
          ∙ address_of (env_address start) start.env k inside;
      envp_end = at (c ++ v ++ z ++ e) z x 0 (2 + n + m) refl (omega arith) (omega (arith, lv, le, l1, l2, l3));
      auxv = λ k inside.
          at (c ++ v ++ z ++ e ++ z) x [] k (3 + n + m + k) (joined_0 (c ++ v ++ z ++ e ++ z) x) inside
          (omega (arith, lv, le, l1, l2, l3, l4));
    }

-- what a load knows of a program's start: its strings aren't too big, and its numbers have 64 bits
pub record Loads (start : ProgramStart) : Type 0 where
  pub few : length start.args + length start.env ≤ 1024
  pub short : strings_room start.args + strings_room start.env ≤ 65536
  pub random : length start.random ≡ 16
  pub words : All (λ word. word < 2 ^ 64) (auxiliary_vector start.auxiliary)

length_within : (strings : List (List ℕ)) (k : ℕ) → strings_length (take k strings) ≤ strings_length strings
length_within strings k = sum_by-take-le (λ string. length string + 1) strings k

-- a word of the auxiliary vector has 64 bits where the three numbers have
pub auxiliary_fits : (a : Auxiliary) → a.headers < 2 ^ 64 → a.header_count < 2 ^ 64 → a.entry < 2 ^ 64 →
    All (λ word. word < 2 ^ 64) (auxiliary_vector a)
auxiliary_fits a headers count entry =
    All-from_recursion (λ word. word < 2 ^ 64) (auxiliary_vector a) (
      omega arith,
      (
        headers,
        (
          omega arith,
          (
            omega arith,
            (
              omega arith,
              (
                count,
                (
                  omega arith,
                  (
                    omega arith,
                    (
                      omega arith,
                      (
                        entry,
                        (omega arith, (omega arith, (omega arith, (omega arith, tt)))),
                      ),
                    ),
                  ),
                ),
              ),
            ),
          ),
        ),
      ),
    )

-- the stack pointer and the strings
record Places (start : ProgramStart) : Type 0 where
  pub strings : args_address start + strings_length start.args + strings_length start.env ≡ 2 ^ 38 - 16
  pub below : words_length start ≤ args_address start
  pub room : stack_pointer start + words_length start ≤ args_address start
  pub most : args_address start < stack_pointer start + words_length start + 16

places_of : (start : ProgramStart) → length start.args + length start.env ≤ 1024 →
    strings_room start.args + strings_room start.env ≤ 65536 → Places start
places_of start few short =
    record {
      strings = omega (arith, few, short);
      below = omega (arith, few, short);
      room = omega (arith, few, short);
      most = omega (arith, few, short);
    }

-- the bytes of a stack, part by part, and what a program reads in them
filled : (start : ProgramStart) → Loads start →
    IsStackOf start (record { sp = stack_pointer start; bytes = stack_bytes start })
unfolding stack_bytes
filled start loads =
    let n = length start.args in
    let m = length start.env in
    let sp = stack_pointer start in
    let stack : OpeningStack = record { sp = sp; bytes = stack_bytes start } in
    let terminated = λ (string : List ℕ). string ++ 0 ∷ [] in
    let words = stack_words start in
    let w : List ℕ = flat_map (little_bytes 8) words in
    let z : List ℕ = replicate (args_address start - words_length start - sp) 0 in
    let a = strings_bytes start.args in
    let e = strings_bytes start.env in
    let r = start.random in
    let at = words_of start in
    let few = loads.few in
    let short = loads.short in
    let places = places_of start few short in
    let strings = places.strings in
    let below = places.below in
    let room = places.room in
    let lw : length w ≡ words_length start = omega (arith, length-words words, at.count) in
    let lz : length z ≡ args_address start - words_length start - sp =
    length-replicate (args_address start - words_length start - sp) 0 in
    let la = length-strings start.args in
    let le = length-strings start.env in
    let before_args : length (w ++ z) + sp ≡ args_address start =
    omega (arith, length-append w z, lw, lz, room, below) in
    let before_env : length (w ++ z ++ a) + sp ≡ env_address start =
    omega (arith, length-append (w ++ z) a, before_args, la) in
    let before_random : length (w ++ z ++ a ++ e) + sp ≡ 2 ^ 38 - 16 =
    omega (arith, length-append (w ++ z ++ a) e, before_env, le, strings) in
    let word : (i v : ℕ) → i < n + m + 17 → get_or words i 0 ≡ v → v < 2 ^ 64 → word_at stack i ≡ v =
    λ i v inside is fits.
    ap (field 8 (8 * i)) (joined_4 [] w z a e r)
    ∙ word_found words i (z ++ a ++ e ++ r) (omega (arith, inside, at.count)) (omega (arith, is, fits)) ∙ is in
    let follow : (i v : ℕ) (bytes : List ℕ) → word_at stack i ≡ v → AreBytesAt stack v bytes →
    AreBytesAt stack (word_at stack i) bytes =
    λ i v bytes is stands. subst (λ v. AreBytesAt stack v bytes) (sym is) stands in
    let arg_stands : (k : ℕ) (string : List ℕ) → slice_get start.args k ≡ Some string →
    AreBytesAt stack (args_address start + strings_length (take k start.args)) (terminated string) =
    λ k string given.
    let item : get_or start.args k [] ≡ string = get_or_from_slice_get start.args k string [] given in
    let place = args_address start + strings_length (take k start.args) - sp in
    let size = length (terminated string) in (
      omega (arith, room),
      ap (λ bytes. slice_range bytes place (place + size)) (joined_2 (w ++ z) a e r)
          ∙ string_found terminated start.args k (w ++ z) (e ++ r) place size
          (slice_get_within start.args k string given)
          (omega (arith, before_args, length-strings (take k start.args))) (ap (λ s. length (terminated s)) item)
          ∙ ap terminated item,
    ) in
    let env_stands : (k : ℕ) (string : List ℕ) → slice_get start.env k ≡ Some string →
    AreBytesAt stack (env_address start + strings_length (take k start.env)) (terminated string) =
    λ k string given.
    let item : get_or start.env k [] ≡ string = get_or_from_slice_get start.env k string [] given in
    let place = env_address start + strings_length (take k start.env) - sp in
    let size = length (terminated string) in (
      omega (arith, room),
      string_found terminated start.env k (w ++ z ++ a) r place size (slice_get_within start.env k string given)
          (omega (arith, before_env, length-strings (take k start.env))) (ap (λ s. length (terminated s)) item)
          ∙ ap terminated item,
    ) in
    let random_stands : AreBytesAt stack (2 ^ 38 - 16) r = (
      omega (arith, room, strings),
      between (w ++ z ++ a ++ e ++ r) (w ++ z ++ a ++ e) r [] (2 ^ 38 - 16 - sp) (length r)
          (ap (λ x. (w ++ z ++ a ++ e) ++ x) (sym (append-nil r))) (omega (arith, before_random)) refl,
    ) in
    let auxv : (k : ℕ) → k < 14 → word_at stack (3 + n + m + k) ≡ get_or (auxiliary_vector start.auxiliary) k 0 =
    λ k inside.
    word (3 + n + m + k) (get_or (auxiliary_vector start.auxiliary) k 0) (omega (arith, inside)) (at.auxv k inside)
    (loads.words k 0 inside) in
    record {
      argc = word 0 n (omega arith) at.argc (omega (arith, few));
      argv = λ k string given.
          let inside = slice_get_within start.args k string given in
          let v = args_address start + strings_length (take k start.args) in
          follow (1 + k) v (terminated string)
          (word (1 + k) v (omega (arith, inside)) (at.argv k inside)
          (omega (arith, strings, length_within start.args k)))
          (arg_stands k string given);
      argv_end = word (1 + n) 0 (omega arith) at.argv_end (omega arith);
      envp = λ k string given.
          let inside = slice_get_within start.env k string given in
          let v = env_address start + strings_length (take k start.env) in
          follow (2 + n + k) v (terminated string)
          (word (2 + n + k) v (omega (arith, inside)) (at.envp k inside)
          (omega (arith, strings, length_within start.env k)))
          (env_stands k string given);
      envp_end = word (2 + n + m) 0 (omega arith) at.envp_end (omega arith);
      auxv = auxv;
      random = follow (3 + n + m + 11) (2 ^ 38 - 16) r (auxv 11 (omega arith)) random_stands;
    }

-- how many bytes there are
filled_length : (start : ProgramStart) → length start.args + length start.env ≤ 1024 →
    strings_room start.args + strings_room start.env ≤ 65536 → length start.random ≡ 16 →
    stack_pointer start + length (stack_bytes start) ≡ 2 ^ 38
unfolding stack_bytes
filled_length start few short random =
    let sp = stack_pointer start in
    let words = stack_words start in
    let w : List ℕ = flat_map (little_bytes 8) words in
    let z : List ℕ = replicate (args_address start - words_length start - sp) 0 in
    let a = strings_bytes start.args in
    let e = strings_bytes start.env in
    let r = start.random in
    let places = places_of start few short in
    let strings = places.strings in
    let below = places.below in
    let room = places.room in
    let count = (words_of start).count in
    let lw = length-words words in
    let lz : length z ≡ args_address start - words_length start - sp =
    length-replicate (args_address start - words_length start - sp) 0 in
    let la = length-strings start.args in
    let le = length-strings start.env in
    let l1 = length-append w z in
    let l2 = length-append (w ++ z) a in
    let l3 = length-append (w ++ z ++ a) e in
    let l4 = length-append (w ++ z ++ a ++ e) r in
    omega (arith, lw, count, lz, la, le, strings, below, room, random, l1, l2, l3, l4)

-- what a program reads, and how many bytes there are, where they are those of the definition
pub stack_read : (start : ProgramStart) (stack : OpeningStack) → length start.args + length start.env ≤ 1024 →
    strings_room start.args + strings_room start.env ≤ 65536 → length start.random ≡ 16 →
    All (λ word. word < 2 ^ 64) (auxiliary_vector start.auxiliary) → stack.sp ≡ stack_pointer start →
    stack.bytes ≡ stack_bytes start → IsStackOf start stack
stack_read start stack few short random words sp bytes =
    let loads : Loads start =
    record { few = few; short = short; random = random; words = words } in
    let same : record { sp = stack_pointer start; bytes = stack_bytes start } ≡ stack =
    λ i. record { sp = sym sp i; bytes = sym bytes i } in
    subst (IsStackOf start) same (filled start loads)

pub stack_length : (start : ProgramStart) (stack : OpeningStack) → length start.args + length start.env ≤ 1024 →
    strings_room start.args + strings_room start.env ≤ 65536 → length start.random ≡ 16 →
    stack.sp ≡ stack_pointer start → stack.bytes ≡ stack_bytes start → stack.sp + length stack.bytes ≡ 2 ^ 38
stack_length start stack few short random sp bytes =
    omega (arith, sp, ap length bytes, filled_length start few short random)
