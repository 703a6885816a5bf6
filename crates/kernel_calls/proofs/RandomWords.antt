-- Random bytes by words of a stream: how many there are in so many words, and how few words have so many.
use Rattle.std.proofs.Common.{◌≡◌, ℕ, zero, suc, ◌+◌, ◌-◌, ◌*◌, ◌≤◌, List, [], ◌++◌, length, take, refl, ap, sym, ◌∙◌}
use Rattle.std.proofs.Common.{add-one, arith}
use Rattle.std.proofs.lemmas.List.{length-append, take-append-le}
use Rattle.std.specs.Int.{to_le_bytes, w32}
use Rattle.rand_chacha.specs.ChaCha.{word_at}
use Rattle.kernel_model.specs.machine.Random.{stream_words, word_bytes, random_at}
use Rattle.kernel_calls.proofs.Keys.{SameBytes, same_key}

-- none, and a word more
pub no_words : (seed : List ℕ) (stream : ℕ) → stream_words seed stream 0 ≡ []
unfolding stream_words
no_words seed stream = refl

pub words_more : (seed : List ℕ) (stream n : ℕ)
    → stream_words seed stream (n + 1) ≡ stream_words seed stream n ++ word_bytes seed stream n
unfolding stream_words
words_more seed stream n = ap (stream_words seed stream) (add-one n)

-- each word has four bytes
pub len_words : (seed : List ℕ) (stream n : ℕ) → length (stream_words seed stream n) ≡ 4 * n
unfolding stream_words
len_words seed stream zero = refl
len_words seed stream (suc n) =
    omega (arith, len_words seed stream n, length-append (stream_words seed stream n) (word_bytes seed stream n))

-- bytes that are there already stay with more words
words_begin : (seed : List ℕ) (stream n more count : ℕ) → count ≤ 4 * n
    → take count (stream_words seed stream (n + more)) ≡ take count (stream_words seed stream n)
unfolding stream_words
words_begin seed stream n zero count few =
    let same : n + 0 ≡ n = omega arith in ap (λ x. take count (stream_words seed stream x)) same
words_begin seed stream n (suc more) count few =
    let next : n + suc more ≡ suc (n + more) = omega arith in
    let there : count ≤ length (stream_words seed stream (n + more)) = omega
    (arith, len_words seed stream (n + more)) in
    ap (λ x. take count (stream_words seed stream x)) next
    ∙ take-append-le count (stream_words seed stream (n + more)) (word_bytes seed stream (n + more)) there
    ∙ words_begin seed stream n more count few

-- the same words of a seed that has the same 32 bytes
same_words : (seed other : List ℕ) (stream n : ℕ) → SameBytes seed other
    → stream_words seed stream n ≡ stream_words other stream n
unfolding stream_words
same_words seed other stream zero same = refl
same_words seed other stream (suc n) same =
    ap (λ x. x ++ word_bytes seed stream n) (same_words seed other stream n same)
    ∙ ap (λ k. stream_words other stream n ++ to_le_bytes w32 (word_at 10 k stream n)) (same_key seed other same)

-- the random bytes of a seed, from as many words of its key as have them
pub random_by_words : (key seed : List ℕ) (place n count : ℕ) → SameBytes key seed → n ≤ 64 → count ≤ 4 * n
    → take count (stream_words key place n) ≡ random_at seed place count
random_by_words key seed place n count same within few =
    let all : n + (64 - n) ≡ 64 = omega arith in
    ap (take count) (same_words key seed place n same)
    ∙ sym (words_begin seed place n (64 - n) count few)
    ∙ ap (λ x. take count (stream_words seed place x)) all
