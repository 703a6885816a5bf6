-- That the row of a call on what is open comes to what was prepared.
use Rattle.std.specs.Prelude.{◌≡◌, List}
use Rattle.kernel_model.specs.declared.caller.Caller.{Caller}
use Rattle.kernel_model.specs.declared.kernel.Kernel.{Kernel}
use Rattle.kernel_model.specs.calls.Answers.{Answer, replies}
use Rattle.kernel_model.specs.entries.Parts.{Change, Prog, changed, outcome_in, parts}
use Rattle.file_changes.specs.Changes.{files_after}
use Rattle.call_fs.specs.declared.prepared.FilePrepared.{FilePrepared}

-- a row comes to what a call prepared: the same reply, and what is open after its change
-- syscall(2)
pub record AnswersFiles (row : Prog Answer) (p : FilePrepared) (c : Caller) (k : Kernel) : Type 0 where
  pub changes : List Change
  pub row_is : outcome_in (parts k) row ≡ replies p.reply changes
  pub done_is : changed changes k ≡ record k { files = files_after p.change c.table k.files }
