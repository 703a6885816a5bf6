-- A reply, and nothing else.
use Rattle.std.proofs.Common.{[], rules}
use Rattle.std.specs.Prelude.{pos}
use Rattle.kernel_model.specs.calls.Answers.{replies}
use Rattle.kernel_model.specs.entries.Parts.{done}
use Rattle.call_fs.proofs.Transferring.{answers_nothing}
use Rattle.call_fs.proofs.transfers.told.Goals as goal

pub returns-clause-row : goal.returns-clause-row
returns-clause-row c caller k own shared has =
    answers_nothing (done (replies (pos c.args.value) [])) _ caller k own shared has (search rules)

pub returns-clause-lean : goal.returns-clause-lean
returns-clause-lean c lacks = lacks
