-- How many words there are so far, of which key and stream.
use Rattle.std.proofs.Common.{◌≡◌}
use Rattle.rand_chacha.specs.ChaCha.{key_of}
use Rattle.kernel_model.specs.machine.Random.{stream_words}
use Rattle.kernel_calls.proofs.random.words_of.Given as goal

abbrev pub invariant-loop-word : goal.invariant-loop-word
invariant-loop-word l = record {
  have : l.bytes ≡ stream_words l.seed l.stream l._word;
  key : l.words.key ≡ key_of l.seed;
  stream : l.words.stream ≡ l.stream;
  place : l.words.word_pos ≡ l._word;
}
