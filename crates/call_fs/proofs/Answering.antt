-- What calls on descriptors come to, as their rows have it: by what a register's descriptor stands for.
use Rattle.std.proofs.Common.{◌≡◌, ℕ, Option, Some, None, refl, ap, sym, ◌∙◌}
use Rattle.std.specs.Prelude.{option_and_then}
use Rattle.std.specs.FinMap as map
use Rattle.sn_errno.specs.declared.errno.Errno.TheVariants.{EBADF}
use Rattle.fd_table.specs.Tables.{Table}
use Rattle.fd_table.specs.declared.descriptor.Descriptor.{Descriptor}
use Rattle.sn_base.specs.declared.made.Made.{Made}
use Rattle.kernel_model.specs.Names.{get_named}
use Rattle.kernel_model.specs.declared.caller.Caller.{Caller}
use Rattle.kernel_model.specs.declared.kernel.Kernel.{Kernel}
use Rattle.kernel_model.specs.declared.open_files.OpenFile.{OpenFile}
use Rattle.kernel_model.specs.calls.Answers.{Answer, refuses}
use Rattle.kernel_model.specs.calls.Lookups.{descriptor}
use Rattle.kernel_model.specs.calls.Lookups.{or_refuse, with_descriptor, with_file}
use Rattle.kernel_model.specs.entries.Parts.{Prog, done, outcome_in, parts}
use Rattle.kernel_calls.specs.Prepared.{HasTable}
use Rattle.call_fs.specs.Lookups.{IsOpen, file_at, file_in, descriptor_at}
use Rattle.call_fs.specs.Prepared.{AnswersFiles}
use Rattle.call_fs.specs.declared.lookups.Looked.{Looked}
use Rattle.call_fs.specs.declared.prepared.FilePrepared.{FilePrepared}
use Rattle.call_fs.proofs.Opened.{outcome_by_file}

-- two rows that come to the same are answered alike
pub answers_alike : (row other : Prog Answer) (p : FilePrepared) (c : Caller) (k : Kernel)
    → outcome_in (parts k) row ≡ outcome_in (parts k) other → AnswersFiles other p c k → AnswersFiles row p c k
answers_alike row other p c k is answers =
    record { changes = answers.changes; row_is = is ∙ answers.row_is; done_is = answers.done_is }

-- ---- a register's descriptor

module _ (row : Table → Descriptor → Prog Answer) (p : FilePrepared) (c : Caller) (k : Kernel) (fd : ℕ) where
  -- it is not open
  missing : (t : Option Table) → option_and_then (λ t. map.get t (descriptor fd)) t ≡ None
      → outcome_in (parts k) (or_refuse EBADF (λ table. or_refuse EBADF (row table) (map.get table (descriptor fd))) t)
      ≡ refuses EBADF
  missing None none = refl
  missing (Some t) none = ap (λ o. outcome_in (parts k) (or_refuse EBADF (row t) o)) none

  pub answers_missing : (table : Option Table) → HasTable c k table → descriptor_at table (descriptor fd) ≡ None
      → AnswersFiles (done (refuses EBADF)) p c k → AnswersFiles (with_descriptor c fd row) p c k
  answers_missing table has none refused =
      answers_alike (with_descriptor c fd row) (done (refuses EBADF)) p c k
      (missing (get_named k.files.tables c.table.place c.table.index)
      (ap (λ t. descriptor_at t (descriptor fd)) has ∙ none)) refused

  -- it is open
  found : (l : Looked) → IsOpen l c k → l.number ≡ descriptor fd
      → outcome_in (parts k) (with_descriptor c fd row) ≡ outcome_in (parts k) (row l.numbers.now l.descriptor)
  found l is number =
      ap (λ t. outcome_in (parts k)
      (or_refuse EBADF (λ table. or_refuse EBADF (row table) (map.get table (descriptor fd))) t)) is.there
      ∙ ap (λ n. outcome_in (parts k) (or_refuse EBADF (row l.numbers.now) (map.get l.numbers.now n))) (sym number)
      ∙ ap (λ o. outcome_in (parts k) (or_refuse EBADF (row l.numbers.now) o)) is.has

  pub answers_found : (l : Looked) → IsOpen l c k → l.number ≡ descriptor fd
      → AnswersFiles (row l.numbers.now l.descriptor) p c k → AnswersFiles (with_descriptor c fd row) p c k
  answers_found l is number answers =
      answers_alike (with_descriptor c fd row) (row l.numbers.now l.descriptor) p c k (found l is number) answers

-- ---- the open file description of one

pub answers_at_file : (row : OpenFile → Prog Answer) (p : FilePrepared) (c : Caller) (k : Kernel) (name : Made)
    (file : Option OpenFile) → get_named k.files.descriptions name.place name.index ≡ file
    → AnswersFiles (or_refuse EBADF row file) p c k → AnswersFiles (with_file name row) p c k
answers_at_file row p c k name file is answers =
    answers_alike (with_file name row) (or_refuse EBADF row file) p c k
    (ap (λ o. outcome_in (parts k) (or_refuse EBADF row o)) is) answers

-- what a register's descriptor has open
pub answers_by_file : (row : OpenFile → Prog Answer) (p : FilePrepared) (c : Caller) (k : Kernel) (fd : ℕ)
    (file : Option OpenFile) → file_in k.files c.table (descriptor fd) ≡ file
    → AnswersFiles (or_refuse EBADF row file) p c k
    → AnswersFiles (with_descriptor c fd (λ t d. with_file d.description row)) p c k
answers_by_file row p c k fd file is answers =
    answers_alike (with_descriptor c fd (λ t d. with_file d.description row)) (or_refuse EBADF row file) p c k
    (outcome_by_file row c k fd file is) answers

-- the same of a number that is open
pub file_looked : (l : Looked) (c : Caller) (k : Kernel) (fd : ℕ) → IsOpen l c k → l.number ≡ descriptor fd
    → file_in k.files c.table (descriptor fd) ≡ file_at k.files l.descriptor
file_looked l c k fd is number =
    ap (λ t. option_and_then (file_at k.files) (descriptor_at t (descriptor fd))) is.there
    ∙ ap (λ n. option_and_then (file_at k.files) (map.get l.numbers.now n)) (sym number)
    ∙ ap (option_and_then (file_at k.files)) is.has
