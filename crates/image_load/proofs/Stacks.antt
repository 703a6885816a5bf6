-- The parts of a stack, one more string and one more word at a time.
use Rattle.std.proofs.Common.{◌≡◌, ℕ, ◌+◌, ◌-◌, ◌<◌, ◌≤◌, List, [], ◌∷◌, ◌++◌, length, take, get_or, sym, ap, ◌∙◌}
use Rattle.std.proofs.Common.{arith}
use Rattle.std.specs.Prelude.{replicate}
use Rattle.std.specs.List.{flat_map}
use Rattle.std.proofs.lemmas.List.{append-nil, append_assoc, take_more, take-replicate}
use Rattle.std.proofs.lemmas.List.Sums.{sum_by_more}
use Rattle.std.proofs.lemmas.List.Concat.{flat_map-append}
use Rattle.std.proofs.lemmas.List.FromFn.{map-range_with_len_more}
use Rattle.sn_bytes.specs.Fields.{little_bytes}
use Rattle.image_load.specs.Stacks.{ProgramStart, strings_bytes, strings_length, first_addresses, addresses}
use Rattle.image_load.specs.Stacks.{args_address, env_address, auxiliary_vector, pointer_words, stack_words}
use Rattle.image_load.specs.Stacks.{words_length, stack_pointer, stack_bytes}

-- how many bytes one more string takes
pub length_more : (strings : List (List ℕ)) (k : ℕ) (d : List ℕ) → k < length strings →
    strings_length (take (k + 1) strings) ≡ strings_length (take k strings) + (length (get_or strings k d) + 1)
length_more strings k d inside = sum_by_more (λ string. length string + 1) strings k d inside

-- one more among things whose bytes stand one after another
pub flat_more : {X : Type 0} (f : X → List ℕ) (xs : List X) (k : ℕ) (d : X) (old : List ℕ) → k < length xs →
    old ++ flat_map f (take (k + 1) xs) ≡ (old ++ flat_map f (take k xs)) ++ f (get_or xs k d)
flat_more f xs k d old inside =
    ap (λ ys. old ++ flat_map f ys) (take_more xs k d inside)
    ∙ ap (λ bs. old ++ bs) (flat_map-append f (take k xs) (get_or xs k d ∷ [])
    ∙ ap (λ bs. flat_map f (take k xs) ++ bs) (append-nil (f (get_or xs k d))))
    ∙ sym (append_assoc old (flat_map f (take k xs)) (f (get_or xs k d)))

-- one more address
pub address_more : (first : ℕ) (strings : List (List ℕ)) (k : ℕ) (old : List ℕ) →
    old ++ flat_map (little_bytes 8) (first_addresses first strings (k + 1))
    ≡ (old ++ flat_map (little_bytes 8) (first_addresses first strings k))
    ++ little_bytes 8 (first + strings_length (take k strings))
address_more first strings k old =
    let at = λ (n : ℕ). first + strings_length (take n strings) in
    let one = first_addresses first strings k in
    ap (λ ws. old ++ flat_map (little_bytes 8) ws) (map-range_with_len_more at 0 k k (omega arith))
    ∙ ap (λ bs. old ++ bs) (flat_map-append (little_bytes 8) one (at k ∷ [])
    ∙ ap (λ bs. flat_map (little_bytes 8) one ++ bs) (append-nil (little_bytes 8 (at k))))
    ∙ sym (append_assoc old (flat_map (little_bytes 8) one) (little_bytes 8 (at k)))

-- a word alone
word_alone : (n : ℕ) → flat_map (little_bytes 8) (n ∷ []) ≡ little_bytes 8 n
word_alone n = append-nil (little_bytes 8 n)

-- the words that tell where strings stand, part by part
pub pointers_put : (first second : ℕ) (args env : List (List ℕ)) (old : List ℕ) →
    old ++ little_bytes 8 (length args)
    ++ flat_map (little_bytes 8) (addresses first args ++ 0 ∷ [])
    ++ flat_map (little_bytes 8) (addresses second env ++ 0 ∷ [])
    ≡ old ++ flat_map (little_bytes 8) (pointer_words first second args env)
unfolding pointer_words
pointers_put first second args env old =
    let f = little_bytes 8 in
    let c : List ℕ = length args ∷ [] in
    let z : List ℕ = 0 ∷ [] in
    let v = addresses first args in
    let e = addresses second env in
    let grouped : c ++ v ++ z ++ e ++ z ≡ c ++ (v ++ z) ++ (e ++ z) =
    ap (λ x. x ++ e ++ z) (append_assoc c v z) ∙ append_assoc (c ++ (v ++ z)) e z in
    let flat : flat_map f (c ++ v ++ z ++ e ++ z) ≡ f (length args) ++ flat_map f (v ++ z) ++ flat_map f (e ++ z) =
    ap (flat_map f) grouped ∙ flat_map-append f (c ++ (v ++ z)) (e ++ z)
    ∙ ap (λ x. x ++ flat_map f (e ++ z)) (flat_map-append f c (v ++ z))
    ∙ ap (λ x. x ++ flat_map f (v ++ z) ++ flat_map f (e ++ z)) (word_alone (length args)) in
    let regrouped : old ++ f (length args) ++ flat_map f (v ++ z) ++ flat_map f (e ++ z)
    ≡ old ++ (f (length args) ++ flat_map f (v ++ z) ++ flat_map f (e ++ z)) =
    ap (λ x. x ++ flat_map f (e ++ z)) (append_assoc old (f (length args)) (flat_map f (v ++ z)))
    ∙ append_assoc old (f (length args) ++ flat_map f (v ++ z)) (flat_map f (e ++ z)) in
    regrouped ∙ ap (λ x. old ++ x) (sym flat)

-- a few zeros
pub some_zeros : (count : ℕ) → count ≤ 16 → take count (replicate {A = ℕ} 16 0) ≡ replicate count 0
some_zeros count few = take-replicate count 16 0 few

-- the bytes from the stack pointer up, put one part after another
pub stack_laid : (start : ProgramStart) (first second gap : ℕ) (b0 b1 b2 b3 b4 b5 b6 : List ℕ) →
    first ≡ args_address start → second ≡ env_address start →
    gap ≡ args_address start - words_length start - stack_pointer start →
    b0 ≡ [] → b1 ≡ b0 ++ flat_map (little_bytes 8) (pointer_words first second start.args start.env) →
    b2 ≡ b1 ++ flat_map (little_bytes 8) (auxiliary_vector start.auxiliary) → b3 ≡ b2 ++ replicate gap 0 →
    b4 ≡ b3 ++ strings_bytes start.args → b5 ≡ b4 ++ strings_bytes start.env → b6 ≡ b5 ++ start.random →
    b6 ≡ stack_bytes start
unfolding stack_words stack_bytes
stack_laid start first second gap b0 b1 b2 b3 b4 b5 b6 at behind zeros e0 e1 e2 e3 e4 e5 e6 =
    let f = little_bytes 8 in
    let p = pointer_words (args_address start) (env_address start) start.args start.env in
    let v = auxiliary_vector start.auxiliary in
    let words1 : b1 ≡ flat_map f p =
    e1 ∙ ap (λ b. b ++ flat_map f (pointer_words first second start.args start.env)) e0
    ∙ ap (λ a. flat_map f (pointer_words a second start.args start.env)) at
    ∙ ap (λ e. flat_map f (pointer_words (args_address start) e start.args start.env)) behind in
    let words2 : b2 ≡ flat_map f (p ++ v) = e2 ∙ ap (λ b. b ++ flat_map f v) words1 ∙ sym (flat_map-append f p v) in
    let gap_is = args_address start - words_length start - stack_pointer start in
    let s3 = e3 ∙ ap (λ g. b2 ++ replicate g 0) zeros ∙ ap (λ b. b ++ replicate gap_is 0) words2 in
    let s4 = e4 ∙ ap (λ b. b ++ strings_bytes start.args) s3 in
    let s5 = e5 ∙ ap (λ b. b ++ strings_bytes start.env) s4 in
    e6 ∙ ap (λ b. b ++ start.random) s5
