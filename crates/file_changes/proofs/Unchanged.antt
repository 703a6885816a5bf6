-- Changes of a table that come to nothing: a number that is not open, or may not be given.
use Rattle.std.proofs.Common.{◌≡◌, ℕ, Bool, Option, Some, None, Result, Err, refl, ap, sym, ◌∙◌}
use Rattle.std.specs.Prelude.{ok_or}
use Rattle.std.specs.FinMap as map
use Rattle.std.specs.Option.{option_map_or}
use Rattle.fd_table.specs.Tables.{Table, dup3_fault}
use Rattle.fd_table.specs.declared.descriptor.Descriptor.{Descriptor}
use Rattle.fd_table.specs.declared.descriptor.FdErr.{FdErr}
use Rattle.fd_table.specs.declared.descriptor.FdErr.TheVariants.{BadFd}
use Rattle.sn_base.specs.declared.made.Made.{Made}
use Rattle.kernel_model.specs.Names.{get_named}
use Rattle.kernel_model.specs.declared.open_files.OpenFiles.{OpenFiles}
use Rattle.kernel_model.proofs.NamedMaps.{with_same}
use Rattle.kernel_model.specs.laws.Files.{with_one_fewer}
use Rattle.file_changes.specs.Changes.{by_descriptor, by_table, closed, given, given_to, with_table}

module _ (name : Made) (files : OpenFiles) (table after : Table)
    (there : get_named files.tables name.place name.index ≡ Some table) (same : after ≡ table) where
  -- a table that is as it was, where the change is none
  unchanged : (change : Table → OpenFiles → OpenFiles) → change table files ≡ files
      → with_table name after files ≡ by_table change name files
  unchanged change is =
      ap (λ t. with_table name t files) same
      ∙ ap (λ m. record files { tables = m }) (with_same files.tables name.place name.index table there)
      ∙ sym (ap (λ o. option_map_or (λ t. change t files) o files) there ∙ is)

  not_open : (d : Option Descriptor) (e : FdErr) (r : Result Descriptor FdErr) → r ≡ Err e → r ≡ ok_or d BadFd
      → d ≡ None
  not_open None e r is answer = refl
  not_open (Some d) e r is answer = absurd (cc (is, answer))

  -- a number that is not open is not closed,
  pub not_closed : (number : ℕ) (e : FdErr) (r : Result Descriptor FdErr) → r ≡ Err e
      → r ≡ ok_or (map.get table number) BadFd → with_table name after files ≡ by_table (closed number name) name files
  not_closed number e r is answer =
      unchanged (closed number name)
      (ap (λ o. by_descriptor (λ d rest. with_one_fewer d.description (with_table name (map.remove table number) rest))
      o files) (not_open (map.get table number) e r is answer))

  -- and stands for nothing that another could get,
  either : (fault : Option FdErr) → option_map_or (λ e. files) fault files ≡ files
  either None = refl
  either (Some e) = refl

  pub not_had : (from number : ℕ) (cloexec : Bool) → map.get table from ≡ None
      → with_table name after files ≡ by_table (given from number cloexec name) name files
  not_had from number cloexec none =
      unchanged (given from number cloexec name)
      (ap (λ o. option_map_or (λ e. files) (dup3_fault table from number)
      (by_descriptor (given_to number cloexec name table) o files)) none
      ∙ either (dup3_fault table from number))

  -- and a number that may not be given is not
  pub not_given : (from number : ℕ) (cloexec : Bool) (e : FdErr) → Some e ≡ dup3_fault table from number
      → with_table name after files ≡ by_table (given from number cloexec name) name files
  not_given from number cloexec e fault =
      unchanged (given from number cloexec name)
      (ap (λ o. option_map_or (λ f. files) o
      (by_descriptor (given_to number cloexec name table) (map.get table from) files)) (sym fault))
