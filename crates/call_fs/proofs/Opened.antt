-- What rows of open files and of buffers come to, by what is there, and what was handed in of that.
use Rattle.std.proofs.Common.{◌≡◌, ℕ, true, false, List, [], ◌∷◌, Option, Some, None, refl, ap, sym, subst, ◌∙◌}
use Rattle.std.specs.Prelude.{option_and_then, is_some, if◌then◌else◌}
use Rattle.std.specs.FinMap as map
use Rattle.sn_errno.specs.declared.errno.Errno.TheVariants.{EBADF}
use Rattle.fd_table.specs.Tables.{Table}
use Rattle.fd_table.specs.declared.description.Object.{Object}
use Rattle.fd_table.specs.declared.description.Object.TheVariants.{PipeEnd}
use Rattle.fd_table.specs.declared.description.PipeSide.{PipeSide}
use Rattle.fd_table.specs.declared.descriptor.Descriptor.{Descriptor}
use Rattle.pipe_core.specs.Pipes.{PipeState}
use Rattle.sn_base.specs.declared.made.Made.{Made}
use Rattle.mm_areas.specs.declared.rights.Rights.{Rights}
use Rattle.mm_space.specs.Handed.{InHand}
use Rattle.mm_space.specs.Spaces.{AddressSpace}
use Rattle.stat_layout.specs.declared.iovec.IoVec.{IoVec}
use Rattle.kernel_model.specs.Names.{get_named}
use Rattle.kernel_model.specs.declared.caller.Caller.{Caller}
use Rattle.kernel_model.specs.declared.kernel.Kernel.{Kernel}
use Rattle.kernel_model.specs.declared.open_files.OpenFile.{OpenFile}
use Rattle.kernel_model.specs.declared.open_files.OpenFiles.{OpenFiles}
use Rattle.kernel_model.specs.calls.Answers.{Answer}
use Rattle.kernel_model.specs.calls.Lookups.{descriptor, or_refuse, with_descriptor, with_file}
use Rattle.kernel_model.specs.calls.Vectors.{are_accessible}
use Rattle.kernel_model.specs.entries.Areas.{access_row}
use Rattle.kernel_model.specs.entries.Parts.{Parts, Prog, done, outcome_in, parts}
use Rattle.kernel_model.proofs.Trees.{outcome-bind}
use Rattle.kernel_calls.specs.Prepared.{HasTable}
use Rattle.call_fs.specs.Lookups.{HasPipe, IsInHand, StandsFor, descriptor_in, end_by, end_in, file_at, file_in}
use Rattle.call_fs.specs.Lookups.{used_end_at}
use Rattle.call_fs.specs.Transfers.{HasPipeOf}
use Rattle.call_fs.specs.declared.lookups.FileInHand.{FileInHand}

-- ---- a register's open file

module _ (row : OpenFile → Prog Answer) (c : Caller) (k : Kernel) (fd : ℕ) where
  by_descriptor : (d : Option Descriptor)
      → outcome_in (parts k) (or_refuse EBADF (λ e. with_file e.description row) d)
      ≡ outcome_in (parts k) (or_refuse EBADF row (option_and_then (file_at k.files) d))
  by_descriptor None = refl
  by_descriptor (Some d) = refl

  by_table : (t : Option Table)
      → outcome_in (parts k) (or_refuse EBADF (λ table. or_refuse EBADF (λ e. with_file e.description row)
      (map.get table (descriptor fd))) t) ≡ outcome_in (parts k)
      (or_refuse EBADF row (option_and_then (file_at k.files) (option_and_then (λ t. map.get t (descriptor fd)) t)))
  by_table None = refl
  by_table (Some t) = by_descriptor (map.get t (descriptor fd))

  pub outcome_by_file : (file : Option OpenFile) → file_in k.files c.table (descriptor fd) ≡ file
      → outcome_in (parts k) (with_descriptor c fd (λ t d. with_file d.description row))
      ≡ outcome_in (parts k) (or_refuse EBADF row file)
  outcome_by_file file is =
      by_table (get_named k.files.tables c.table.place c.table.index)
      ∙ ap (λ o. outcome_in (parts k) (or_refuse EBADF row o)) is

-- ---- what was handed in

-- an open file that a number stands for
pub file_opened : (files : OpenFiles) (table : Made) (number : ℕ) (opened : FileInHand)
    → IsInHand files table number opened → file_in files table number ≡ Some opened.file
file_opened files table number opened is = ap (option_and_then (file_at files)) is.has ∙ is.there

-- its pipe
pub pipe_at : (object : Object) (name : Made) (side : PipeSide) (files : OpenFiles) (pipe told : Option PipeState)
    → object ≡ PipeEnd name side → pipe ≡ told → HasPipe object files pipe
    → get_named files.pipes name.place name.index ≡ told
pipe_at object name side files pipe told is same has = subst (λ o. HasPipe o files pipe) is has ∙ same

pub pipe_of_opened : (files : OpenFiles) (table : Made) (number : ℕ) (opened : Option FileInHand)
    → StandsFor files table number opened → HasPipeOf opened files
pipe_of_opened files table number None stands = tt
pipe_of_opened files table number (Some opened) is = is.pipe

-- the end of that which it is
no_end : (files : OpenFiles) (d : Option Descriptor) → option_and_then (file_at files) d ≡ None
    → None ≡ option_and_then (used_end_at files) d
no_end files None none = refl
no_end files (Some d) none =
    sym (ap (option_and_then (λ (file : OpenFile). end_by d.description file.description.object)) none)

pub end_of_none : (files : OpenFiles) (table : Made) (number : ℕ) → StandsFor files table number None
    → None ≡ end_in files table number
end_of_none files table number none = no_end files (descriptor_in files table number) none

pub end_of_opened : (files : OpenFiles) (table : Made) (number : ℕ) (opened : FileInHand)
    → IsInHand files table number opened
    → end_by opened.descriptor.description opened.file.description.object ≡ end_in files table number
end_of_opened files table number opened is =
    sym (ap (option_and_then (used_end_at files)) is.has
    ∙ ap (option_and_then (λ (file : OpenFile). end_by opened.descriptor.description file.description.object)) is.there)

-- ---- by the name of the caller's table

module _ (c : Caller) (k : Kernel) (table : Made) (files : OpenFiles) (same : c.table ≡ table)
    (files_are : k.files ≡ files) where
  pub table_so : (numbers : Option Table) → numbers ≡ get_named files.tables table.place table.index
      → HasTable c k numbers
  table_so numbers is =
      ap (λ (n : Made). get_named k.files.tables n.place n.index) same
      ∙ ap (λ (f : OpenFiles). get_named f.tables table.place table.index) files_are ∙ sym is

  pub file_so : (number : ℕ) (file : Option OpenFile) → file ≡ file_in files table number
      → file_in k.files c.table number ≡ file
  file_so number file is =
      ap (λ (n : Made). file_in k.files n number) same ∙ ap (λ f. file_in f table number) files_are ∙ sym is

  pub stands_so : (number : ℕ) (opened : Option FileInHand) → StandsFor files table number opened
      → StandsFor k.files c.table number opened
  stands_so number opened stands =
      subst (λ (n : Made). StandsFor k.files n number opened) (sym same)
      (subst (λ f. StandsFor f table number opened) (sym files_are) stands)

-- ---- one buffer

-- whether each of its bytes may be accessed
granted : (s : Parts) (o : Option (List InHand))
    → outcome_in s (if is_some o then done true else done false) ≡ is_some o
granted s None = refl
granted s (Some hand) = refl

pub accessible_one : (s : Parts) (right : Rights) (space : AddressSpace) (b : IoVec)
    → outcome_in s (are_accessible right space (b ∷ []))
    ≡ is_some (outcome_in s (access_row right space b.base b.length))
accessible_one s right space b =
    outcome-bind s (access_row right space b.base b.length)
    (λ hand. if is_some hand then are_accessible right space [] else done false)
    ∙ granted s (outcome_in s (access_row right space b.base b.length))
