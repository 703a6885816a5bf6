-- A word that is put over areas that were left so before.
use Rattle.std.proofs.lemmas.Result.{IfOk-weaker}
use Rattle.kernel_calls.proofs.ClonedWords.{word_unasked, word_written}
use Rattle.kernel_calls.proofs.clone.set_word.Goals as goal

pub returns-then-not-asked : goal.returns-then-not-asked
returns-then-not-asked c =
    let a = c.args in word_unasked a.task a.asked a.space.now a.areas.now a.address a.number c.if-not-asked.true

pub returns : goal.returns
returns c =
    let a = c.args in
    IfOk-weaker c.write.result _ _ (λ set wrote.
    word_written a.task a.asked a.space.now c.write.new.space a.areas.now c.write.new.areas a.address a.number set
    c.to_le_bytes.result c.if-not-asked.false c.to_le_bytes.ensures wrote) c.write.ensures.wrote
