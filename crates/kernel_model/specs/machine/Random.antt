-- Random bytes: words of the ChaCha20 stream whose key is the mount file's seed.
use Rattle.std.specs.Prelude.{ℕ, zero, suc, ◌+◌, ◌^◌, List, [], ◌∷◌, ◌++◌, take}
use Rattle.std.specs.List.{flat_map}
use Rattle.std.specs.Int.{to_le_bytes, w32}
use Rattle.rand_chacha.specs.ChaCha.{key_of, word_at}

-- a word of a stream, with its lowest byte first
-- ChaCha20 of D. J. Bernstein, with counter and stream number of 64 bits; a seed of fewer than 32 bytes is filled up
-- with zeros: profile
abbrev pub word_bytes : (seed : List ℕ) → (stream place : ℕ) → List ℕ
word_bytes seed stream place = to_le_bytes w32 (word_at 10 (key_of seed) stream place)

-- the first sixteen bytes of a stream
-- the same
abbrev pub random_bytes : (seed : List ℕ) → (stream : ℕ) → List ℕ
random_bytes seed stream = flat_map (word_bytes seed stream) (0 ∷ 1 ∷ 2 ∷ 3 ∷ [])

-- the stream of an opening task
-- profile
abbrev pub opening_stream : (task : ℕ) → ℕ
opening_stream task = 2 ^ 32 + task

-- the random bytes of an opening task
-- getauxval(3), AT_RANDOM
abbrev pub opening_random : (seed : List ℕ) → (task : ℕ) → List ℕ
opening_random seed task = random_bytes seed (opening_stream task)

-- so many words of a stream, from its first on
-- the same
unfoldable pub stream_words : (seed : List ℕ) → (stream count : ℕ) → List ℕ
stream_words seed stream zero = []
stream_words seed stream (suc n) = stream_words seed stream n ++ word_bytes seed stream n

-- so many random bytes for the entry of a place, at most 256: the first of the stream whose number is that place
-- getrandom(2); that the stream is the place's: profile
abbrev pub random_at : (seed : List ℕ) → (place count : ℕ) → List ℕ
random_at seed place count = take count (stream_words seed place 64)
