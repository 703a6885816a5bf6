-- So many words have so many bytes.
use Rattle.std.proofs.Common.{◌≡◌, ◌*◌, length, ap, sym, ◌∙◌, arith}
use Rattle.std.proofs.lemmas.List.{length-take-le}
use Rattle.kernel_model.specs.machine.Random.{stream_words}
use Rattle.kernel_calls.proofs.RandomWords.{len_words}
use Rattle.kernel_calls.proofs.random.random_at.Goals as goal

pub slice_bounds-from_slice-end : goal.slice_bounds-from_slice-end
slice_bounds-from_slice-end c =
    let has : c.as_slice.result.now ≡ stream_words c.key_of.result c.args.place c.div_ceil.result
    = c.as_slice.ensures ∙ c.in_ok-words.ensures in
    let len : length c.as_slice.result.now ≡ 4 * c.div_ceil.result
    = ap length has ∙ len_words c.key_of.result c.args.place c.div_ceil.result in
    sym (length-take-le c.args.count c.as_slice.result.now (omega arith))
