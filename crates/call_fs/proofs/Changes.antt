-- What is open after the changes of a call on descriptors.
use Rattle.std.proofs.Common.{◌≡◌, ℕ, Bool, true, false, cond, List, [], ◌∷◌, ◌++◌, Option, Some, None, refl, ap, sym}
use Rattle.std.proofs.Common.{◌∙◌}
use Rattle.std.specs.Prelude.{ℤ, nat_le, pos, ◌-◌}
use Rattle.std.specs.FinMap as map
use Rattle.std.specs.Option.{option_map_or}
use Rattle.fd_table.specs.Descriptions.{with_status}
use Rattle.fd_table.specs.Tables.{Table, dup3_fault, marked, with_mark}
use Rattle.fd_table.specs.declared.description.Object.{Object}
use Rattle.fd_table.specs.declared.description.Object.TheVariants as object
use Rattle.fd_table.specs.declared.descriptor.Descriptor.{Descriptor}
use Rattle.sn_base.specs.declared.made.Made.{Made}
use Rattle.kernel_model.specs.Names.{NamedMap, get_named, with_named}
use Rattle.kernel_model.specs.declared.caller.Caller.{Caller}
use Rattle.kernel_model.specs.declared.kernel.Kernel.{Kernel}
use Rattle.kernel_model.specs.declared.kernel.Part.TheVariants.{OfTable, OfDescription}
use Rattle.kernel_model.specs.declared.open_files.OpenFile.{OpenFile}
use Rattle.kernel_model.specs.calls.Answers.{replies}
use Rattle.kernel_model.specs.calls.Descriptors.{gives, leaves_table, replaced, sets_status}
use Rattle.kernel_model.specs.descriptors.Counts.{counted, dropped, file_dropped, object_closed}
use Rattle.kernel_model.specs.entries.InTurn.{followed}
use Rattle.kernel_model.specs.entries.Parts.{Change, Prog, done, ◌>>=◌, changed, outcome_in, parts}
use Rattle.kernel_model.specs.laws.InPlace.{kernel_left}
use Rattle.kernel_model.specs.laws.Files.{with_one_fewer, with_one_more}
use Rattle.kernel_model.proofs.FileChanges.{dropped_one}
use Rattle.kernel_model.proofs.Trees.{outcome-bind}
use Rattle.kernel_model.proofs.Turns.{done_followed, outcome_changed, outcome_followed}
use Rattle.file_changes.specs.Changes.{by_descriptor, closed, freed, given, given_to, with_table}
use Rattle.file_changes.specs.declared.change.FileChange.TheVariants.{Gives, Marks, SetsStatus, Closes}
use Rattle.call_fs.specs.Lookups.{IsOpen}
use Rattle.call_fs.specs.Prepared.{AnswersFiles}
use Rattle.call_fs.specs.declared.lookups.Looked.{Looked}

-- a kernel with other tables
abbrev retabled : Kernel → NamedMap Table → Kernel
retabled k tables = record k { files = record k.files { tables = tables } }

-- ---- no table is looked at where descriptors are counted

dropped_alike : (name : Made) (k : Kernel) (tables : NamedMap Table)
    → outcome_in (parts k) (dropped name) ≡ outcome_in (parts (retabled k tables)) (dropped name)
dropped_alike name k tables = by (get_named k.files.descriptions name.place name.index)
  where
    by_object : (object : Object) → outcome_in (parts k) (object_closed object)
        ≡ outcome_in (parts (retabled k tables)) (object_closed object)
    by_object (object.Node ino) = refl
    by_object (object.PipeEnd pipe side) = refl
    by_object object.Console = refl
    by_object object.EmptyInput = refl

    by_count : (file : OpenFile) (b : Bool) → outcome_in (parts k) (cond b
        (done ((OfDescription name, Some (record file { descriptors = file.descriptors - 1 })) ∷ []))
        (object_closed file.description.object >>= λ changes. done ((OfDescription name, None) ∷ changes)))
        ≡ outcome_in (parts (retabled k tables)) (cond b
        (done ((OfDescription name, Some (record file { descriptors = file.descriptors - 1 })) ∷ []))
        (object_closed file.description.object >>= λ changes. done ((OfDescription name, None) ∷ changes)))
    by_count file true = refl
    by_count file false =
        outcome-bind (parts k) (object_closed file.description.object)
        (λ changes. done ((OfDescription name, None) ∷ changes))
        ∙ ap (λ (changes : List Change). (OfDescription name, None) ∷ changes) (by_object file.description.object)
        ∙ sym (outcome-bind (parts (retabled k tables)) (object_closed file.description.object)
        (λ changes. done ((OfDescription name, None) ∷ changes)))

    by : (file : Option OpenFile) → outcome_in (parts k) (file_dropped name file)
        ≡ outcome_in (parts (retabled k tables)) (file_dropped name file)
    by None = refl
    by (Some file) = by_count file (nat_le 2 file.descriptors)

replaced_alike : (d : Option Descriptor) (k : Kernel) (tables : NamedMap Table)
    → outcome_in (parts k) (replaced d) ≡ outcome_in (parts (retabled k tables)) (replaced d)
replaced_alike None k tables = refl
replaced_alike (Some d) k tables = dropped_alike d.description k tables

-- a description with a descriptor more, and what had its number with one fewer
abbrev pub counts : Made → Option Descriptor → Prog (List Change)
counts name before = followed (counted name) (replaced before)

counts_are : (name : Made) (before : Option Descriptor) (k : Kernel) → outcome_in (parts k) (counts name before)
    ≡ outcome_in (parts k) (counted name)
    ++ outcome_in (parts (changed (outcome_in (parts k) (counted name)) k)) (replaced before)
counts_are name before k =
    outcome_followed (parts k) (counted name) (replaced before)
    ∙ ap (λ after. outcome_in (parts k) (counted name) ++ after)
    (outcome_changed k (outcome_in (parts k) (counted name)) (replaced before))

counts_alike : (name : Made) (before : Option Descriptor) (k : Kernel) (tables : NamedMap Table)
    → outcome_in (parts k) (counts name before) ≡ outcome_in (parts (retabled k tables)) (counts name before)
counts_alike name before k tables =
    counts_are name before k
    ∙ ap (λ after. outcome_in (parts k) (counted name) ++ after)
    (replaced_alike before (changed (outcome_in (parts k) (counted name)) k) tables)
    ∙ sym (counts_are name before (retabled k tables))

-- ---- what they leave

replaced_leaves : (d : Option Descriptor) (k : Kernel) → kernel_left (replaced d) k
    ≡ record k { files = freed d k.files }
replaced_leaves None k = refl
replaced_leaves (Some d) k = dropped_one d.description k

counts_leave : (name : Made) (before : Option Descriptor) (k : Kernel) → kernel_left (counts name before) k
    ≡ record k { files = freed before (record k.files { descriptions = with_one_more name k.files.descriptions }) }
counts_leave name before k =
    done_followed k (counted name) (replaced before)
    ∙ replaced_leaves before
    (record k { files = record k.files { descriptions = with_one_more name k.files.descriptions } })

-- ---- calls that are answered so

module _ (l : Looked) (c : Caller) (k : Kernel) (is : IsOpen l c k) where
  -- a number gets what another stands for
  pub answers_gives : (number : ℕ) (cloexec : Bool) (reply : ℤ) → reply ≡ pos number
      → dup3_fault l.numbers.now l.number number ≡ None
      → AnswersFiles (gives c cloexec l.numbers.now l.descriptor number)
      (record { reply = reply; change = Gives l.number number cloexec }) c k
  answers_gives number cloexec reply told free =
      let t = l.numbers.now in
      let d = l.descriptor in
      let before = map.get t number in
      let after = map.insert t number (with_mark d cloexec) in
      let files = with_table c.table after k.files in
      record {
        changes = (OfTable c.table, Some after) ∷ outcome_in (parts k) (counts d.description before);
        row_is =
            outcome-bind (parts k) (counts d.description before) (λ changes. done (leaves_table c number after changes))
            ∙ ap (λ v. replies v ((OfTable c.table, Some after) ∷ outcome_in (parts k) (counts d.description before)))
            (sym told);
        done_is =
            ap (λ changes. changed changes (record k { files = files }))
            (counts_alike d.description before k files.tables)
            ∙ counts_leave d.description before (record k { files = files })
            ∙ ap (λ f. record k { files = f })
            (sym (ap (λ o. option_map_or (λ table. given l.number number cloexec c.table table k.files) o k.files)
            is.there
            ∙ ap (λ o. option_map_or (λ fault. k.files) o
            (by_descriptor (given_to number cloexec c.table t) (map.get t l.number) k.files)) free
            ∙ ap (λ o. by_descriptor (given_to number cloexec c.table t) o k.files) is.has));
      }

  -- execve(2) closes it, or does not
  pub answers_marks : (cloexec : Bool) → AnswersFiles (done (leaves_table c 0
      (marked l.numbers.now l.number cloexec) []))
      (record { reply = pos 0; change = Marks l.number cloexec }) c k
  answers_marks cloexec = record {
    changes = (OfTable c.table, Some (marked l.numbers.now l.number cloexec)) ∷ [];
    row_is = refl;
    done_is =
        ap (λ f. record k { files = f })
        (sym (ap (λ o. option_map_or (λ t. with_table c.table (marked t l.number cloexec) k.files) o k.files)
        is.there));
  }

  -- it is closed
  pub answers_closes : (number : ℕ) → l.number ≡ number → AnswersFiles
      (dropped l.descriptor.description
      >>= λ changes. done (leaves_table c 0 (map.remove l.numbers.now number) changes))
      (record { reply = pos 0; change = Closes l.number }) c k
  answers_closes number same =
      let t = l.numbers.now in
      let d = l.descriptor in
      let after = map.remove t number in
      let files = with_table c.table after k.files in
      record {
        changes = (OfTable c.table, Some after) ∷ outcome_in (parts k) (dropped d.description);
        row_is = outcome-bind (parts k) (dropped d.description) (λ changes. done (leaves_table c 0 after changes));
        done_is =
            ap (λ changes. changed changes (record k { files = files })) (dropped_alike d.description k files.tables)
            ∙ dropped_one d.description (record k { files = files })
            ∙ ap (λ f. record k { files = f })
            (sym (ap (λ o. option_map_or (λ table. closed l.number c.table table k.files) o k.files) is.there
            ∙ ap (λ n. closed n c.table t k.files) same
            ∙ ap (λ o. option_map_or (λ (e : Descriptor). with_one_fewer e.description files) o k.files)
            (ap (map.get t) (sym same) ∙ is.has)));
      }

-- an open file description has other status flags
pub answers_status : (d : Descriptor) (flags : ℕ) (file : OpenFile) (c : Caller) (k : Kernel)
    → get_named k.files.descriptions d.description.place d.description.index ≡ Some file
    → AnswersFiles (sets_status d flags file)
    (record { reply = pos 0; change = SetsStatus d.description flags }) c k
answers_status d flags file c k is = record {
  changes = (OfDescription d.description, Some (record file { description = with_status file.description flags }))
      ∷ [];
  row_is = refl;
  done_is =
      ap (λ f. record k { files = f })
      (sym (ap (λ o. option_map_or (λ (f : OpenFile). record k.files {
        descriptions = with_named k.files.descriptions d.description.place d.description.index
            (record f { description = with_status f.description flags });
      }) o k.files) is));
}
