-- Calls on what is open, as the table of all calls has them.
use Rattle.std.proofs.Common.{◌≡◌, ℕ, Some, ap, refl, ◌∙◌}
use Rattle.sn_errno.specs.Calls.{call_numbered}
use Rattle.sn_base.specs.declared.made.Made.{Made}
use Rattle.mm_space.specs.Handed.{AreaState}
use Rattle.mm_space.specs.Spaces.{AddressSpace}
use Rattle.futex_core.specs.Waiters.{FutexList}
use Rattle.task_table.specs.Table.{TaskTable}
use Rattle.kernel_model.specs.Names.{NamedMap}
use Rattle.kernel_model.specs.declared.caller.Caller.{Caller}
use Rattle.kernel_model.specs.declared.entry.Args.{Args}
use Rattle.kernel_model.specs.declared.kernel.Kernel.{Kernel}
use Rattle.kernel_model.specs.declared.open_files.OpenFiles.{OpenFiles}
use Rattle.kernel_model.specs.calls.Answers.{Answer}
use Rattle.kernel_model.specs.calls.Callers.{Context as RowContext}
use Rattle.kernel_model.specs.calls.Table.{call_row, row_if_known, row_of_call}
use Rattle.kernel_model.specs.entries.Parts.{Parts, Prog, outcome_in}
use Rattle.file_changes.specs.Changes.{files_after}
use Rattle.kernel_calls.specs.Prepared.{AnswersKept, IfWaits, IsCalling, WaitsWith}
use Rattle.kernel_calls.specs.declared.context.Context.{Context}
use Rattle.kernel_calls.specs.declared.prepared.Awaited.{Awaited}
use Rattle.kernel_calls.specs.declared.prepared.Called.{Called as AKept}
use Rattle.kernel_calls.specs.declared.prepared.Called.TheVariants.{Replies, Makes, Sleeps, Waits}
use Rattle.kernel_calls.specs.declared.prepared.Effect.TheVariants.{ChangesFiles}
use Rattle.kernel_calls.proofs.Coming.{goes_on_so}
use Rattle.call_fs.specs.Asked.{read_call, read_row_by, write_call, write_row_by}
use Rattle.call_fs.specs.CallEnd.{IfOf}
use Rattle.call_fs.specs.Prepared.{AnswersFiles}
use Rattle.call_fs.specs.Transfers.{IsMoving}
use Rattle.call_fs.specs.declared.call_end.CallEnd.{CallEnd}
use Rattle.call_fs.specs.declared.call_end.CallEnd.TheVariants.{Of, Moves, MakesPipe}
use Rattle.call_fs.specs.declared.moving.By.{By}
use Rattle.call_fs.specs.declared.moving.By.TheVariants.{Buffer, Records}
use Rattle.call_fs.specs.declared.prepared.FilePrepared.{FilePrepared}

-- a task that calls moves bytes with what it has
pub moving : (c : Caller) (k : Kernel) (context : Context) (space : AddressSpace) (areas : NamedMap AreaState)
    (list : TaskTable) (waiting : FutexList) (console : ℕ) (files : OpenFiles)
    → IsCalling c k context space areas list waiting console → k.files ≡ files
    → IsMoving c k context space areas files console
moving c k context space areas list waiting console files calling same = record {
  task = calling.task;
  table = calling.table;
  memory = record { space = calling.space; there = calling.there; areas = calling.areas };
  files = same;
  console = calling.console;
}

-- what was prepared of what is open is an effect that leaves memory as it is
pub answers_changes : (row : Prog Answer) (p : FilePrepared) (c : Caller) (k : Kernel) (group : ℕ) (table : Made)
    → c.table ≡ table → AnswersFiles row p c k
    → AnswersKept row (record { reply = p.reply; effect = ChangesFiles table p.change }) group k
answers_changes row p c k group table same answers = record {
  changes = answers.changes;
  row_is = answers.row_is;
  done_is = answers.done_is ∙ ap (λ t. record k { files = files_after p.change t k.files }) same;
}

-- what holds of a call that waits, of one that doesn't
pub never_waits : (d : CallEnd) (fact : Awaited → Type 0) → IfOf d (λ o. IfWaits o (λ awaited. ⊥))
    → IfOf d (λ o. IfWaits o fact)
never_waits (Of d) fact goes = goes_on_so d fact goes
never_waits (Moves reply transfer) fact goes = tt
never_waits (MakesPipe new) fact goes = tt

-- the rows of calls that read and that write, as the table has them
read_is : (context : RowContext) (c : Caller) (args : Args) (by : By)
    → row_of_call context c args (read_call by) ≡ read_row_by by args.a0 args.a1 args.a2 c
read_is context c args Buffer = refl
read_is context c args Records = refl

write_is : (context : RowContext) (c : Caller) (args : Args) (by : By)
    → row_of_call context c args (write_call by) ≡ write_row_by by args.a0 args.a1 args.a2 c
write_is context c args Buffer = refl
write_is context c args Records = refl

pub called_read : (context : RowContext) (c : Caller) (number : ℕ) (args : Args) (by : By)
    → call_numbered number ≡ Some (read_call by) → call_row context c number args
    ≡ read_row_by by args.a0 args.a1 args.a2 c
called_read context c number args by is = ap (row_if_known context c args) is ∙ read_is context c args by

pub called_write : (context : RowContext) (c : Caller) (number : ℕ) (args : Args) (by : By)
    → call_numbered number ≡ Some (write_call by)
    → call_row context c number args ≡ write_row_by by args.a0 args.a1 args.a2 c
called_write context c number args by is = ap (row_if_known context c args) is ∙ write_is context c args by

-- what waits by a row, by another that is the same in each context
waits_so : (d : AKept) (table : Made) (s : Parts) (row other : RowContext → Prog Answer)
    → ((context : RowContext) → other context ≡ row context)
    → IfWaits d (λ awaited. WaitsWith awaited table s row) → IfWaits d (λ awaited. WaitsWith awaited table s other)
waits_so (Replies p) table s row other same waits = tt
waits_so (Makes child) table s row other same waits = tt
waits_so (Sleeps key) table s row other same waits = tt
waits_so (Waits awaited) table s row other same waits =
    λ context those agrees. ap (outcome_in those) (same context) ∙ waits context those agrees

pub waits_alike : (d : CallEnd) (table : Made) (s : Parts) (row other : RowContext → Prog Answer)
    → ((context : RowContext) → other context ≡ row context)
    → IfOf d (λ o. IfWaits o (λ awaited. WaitsWith awaited table s row))
    → IfOf d (λ o. IfWaits o (λ awaited. WaitsWith awaited table s other))
waits_alike (Of d) table s row other same waits = waits_so d table s row other same waits
waits_alike (Moves reply transfer) table s row other same waits = tt
waits_alike (MakesPipe new) table s row other same waits = tt
