-- What changes of what is open leave as it was.
use Rattle.std.proofs.Common.{◌≡◌, ◌≢◌, ◌==◌, ◌&&◌, ◌||◌, ◌-◌, ℕ, Bool, true, false, cond, Option, Some, None, refl, ap}
use Rattle.std.proofs.Common.{sym, ◌∙◌, subst}
use Rattle.std.specs.Prelude.{nat_le, option_and_then, option_map}
use Rattle.std.specs.Option.{option_map_or}
use Rattle.std.specs.FinMap as map
use Rattle.std.proofs.lemmas.Bool.{eq-eqb}
use Rattle.fd_table.specs.Descriptions.{with_status}
use Rattle.fd_table.specs.Tables.{Table, dup3_fault, marked, with_mark}
use Rattle.fd_table.specs.declared.description.Object.{Object}
use Rattle.fd_table.specs.declared.description.Object.TheVariants as object
use Rattle.fd_table.specs.declared.descriptor.Descriptor.{Descriptor}
use Rattle.fd_table.specs.declared.descriptor.FdErr.{FdErr}
use Rattle.sn_base.specs.declared.made.Made.{Made}
use Rattle.kernel_model.specs.Names.{NamedMap, get_named, with_named}
use Rattle.kernel_model.specs.declared.open_files.OpenFile.{OpenFile}
use Rattle.kernel_model.specs.declared.open_files.OpenFiles.{OpenFiles}
use Rattle.kernel_model.specs.descriptors.Counts.{end_closed, one_more}
use Rattle.kernel_model.specs.entries.Parts.{set_named}
use Rattle.kernel_model.specs.laws.Files.{dropped_by, with_one_fewer, with_one_more, without_object}
use Rattle.kernel_model.proofs.NamedMaps.{get-set_other, get-set_same}
use Rattle.file_changes.specs.Changes.{by_descriptor, closed, files_after, freed, given, given_to}
use Rattle.file_changes.specs.Changes.{with_table}
use Rattle.file_changes.specs.declared.change.FileChange.TheVariants.{Gives, Marks, SetsStatus, Closes}
use Rattle.parked_tasks.specs.Untouched.{AreUntouched}
use Rattle.parked_tasks.specs.Touched.{description_at, is_that_name, pipe_at, pipe_in, touched_with}
use Rattle.parked_tasks.specs.Used.{same_made}
use Rattle.parked_tasks.proofs.UserLists.{made_same}

-- ---- names that differ

itself : (name : Made) → same_made name name ≡ true
itself name = ap (λ b. b && (name.index == name.index)) (eq-eqb name.place name.place refl)
    ∙ eq-eqb name.index name.index refl

differs : (q name : Made) → same_made q name ≡ false → name ≢ q
differs q name apart e = cc (ap (same_made q) (sym e) ∙ apart, itself q)

-- a thing of another name stays
pub other_stays : {V : Type 0} (name q : Made) (content : Option V) (m : NamedMap V) → same_made q name ≡ false
    → get_named (set_named name content m) q.place q.index ≡ get_named m q.place q.index
other_stays name q content m apart = get-set_other name q content m (differs q name apart)

pub none_of : (a b : Bool) → (a || b) ≡ false → (a ≡ false) × (b ≡ false)
none_of false false e = (refl, refl)
none_of true b e = absurd (cc e)
none_of false true e = absurd (cc e)

-- ---- a descriptor fewer

module _ (name : Made) (files : OpenFiles) where
  abbrev fewer : Option OpenFile → OpenFiles
  fewer o = dropped_by name o files

  object_tables : (o : Object) (rest : OpenFiles) → (without_object o rest).tables ≡ rest.tables
  object_tables (object.Node ino) rest = refl
  object_tables (object.PipeEnd pipe side) rest = refl
  object_tables object.Console rest = refl
  object_tables object.EmptyInput rest = refl

  object_descriptions : (o : Object) (rest : OpenFiles) → (without_object o rest).descriptions ≡ rest.descriptions
  object_descriptions (object.Node ino) rest = refl
  object_descriptions (object.PipeEnd pipe side) rest = refl
  object_descriptions object.Console rest = refl
  object_descriptions object.EmptyInput rest = refl

  object_pipes : (o : Object) (rest : OpenFiles) (q : Made) → is_that_name (pipe_in o) q ≡ false
      → get_named (without_object o rest).pipes q.place q.index ≡ get_named rest.pipes q.place q.index
  object_pipes (object.Node ino) rest q apart = refl
  object_pipes (object.PipeEnd pipe side) rest q apart =
      other_stays pipe q (end_closed side (get_named rest.pipes pipe.place pipe.index)) rest.pipes apart
  object_pipes object.Console rest q apart = refl
  object_pipes object.EmptyInput rest q apart = refl

  -- the descriptions with another of that name, or none
  abbrev left : Option OpenFile → OpenFiles
  left content = record files { descriptions = set_named name content files.descriptions }

  tables_by : (file : OpenFile) (b : Bool) → (cond b
      (left (Some (record file { descriptors = file.descriptors - 1 })))
      (without_object file.description.object (left None))).tables ≡ files.tables
  tables_by file true = refl
  tables_by file false = object_tables file.description.object (left None)

  tables_in : (o : Option OpenFile) → (fewer o).tables ≡ files.tables
  tables_in None = refl
  tables_in (Some file) = tables_by file (nat_le 2 file.descriptors)

  pub fewer_tables : (with_one_fewer name files).tables ≡ files.tables
  fewer_tables = tables_in (get_named files.descriptions name.place name.index)

  module _ (q : Made) where
    descriptions_by : same_made q name ≡ false → (file : OpenFile) (b : Bool) → get_named (cond b
        (left (Some (record file { descriptors = file.descriptors - 1 })))
        (without_object file.description.object (left None))).descriptions q.place q.index
        ≡ get_named files.descriptions q.place q.index
    descriptions_by apart file true =
        other_stays name q (Some (record file { descriptors = file.descriptors - 1 })) files.descriptions apart
    descriptions_by apart file false =
        ap (λ m. get_named m q.place q.index) (object_descriptions file.description.object (left None))
        ∙ other_stays name q None files.descriptions apart

    descriptions_in : same_made q name ≡ false → (o : Option OpenFile)
        → get_named (fewer o).descriptions q.place q.index ≡ get_named files.descriptions q.place q.index
    descriptions_in apart None = refl
    descriptions_in apart (Some file) = descriptions_by apart file (nat_le 2 file.descriptors)

    pub fewer_descriptions : same_made q name ≡ false
        → get_named (with_one_fewer name files).descriptions q.place q.index
        ≡ get_named files.descriptions q.place q.index
    fewer_descriptions apart = descriptions_in apart (get_named files.descriptions name.place name.index)

    pipes_by : (file : OpenFile) → is_that_name (pipe_in file.description.object) q ≡ false → (b : Bool)
        → get_named (cond b
        (left (Some (record file { descriptors = file.descriptors - 1 })))
        (without_object file.description.object (left None))).pipes q.place q.index
        ≡ get_named files.pipes q.place q.index
    pipes_by file apart true = refl
    pipes_by file apart false = object_pipes file.description.object (left None) q apart

    pipes_in : (o : Option OpenFile)
        → is_that_name (option_and_then (λ (file : OpenFile). pipe_in file.description.object) o) q ≡ false
        → get_named (fewer o).pipes q.place q.index ≡ get_named files.pipes q.place q.index
    pipes_in None apart = refl
    pipes_in (Some file) apart = pipes_by file apart (nat_le 2 file.descriptors)

    pub fewer_pipes : is_that_name (pipe_at files name) q ≡ false
        → get_named (with_one_fewer name files).pipes q.place q.index ≡ get_named files.pipes q.place q.index
    fewer_pipes apart = pipes_in (get_named files.descriptions name.place name.index) apart

-- ---- a descriptor more: another description stays, and none is an end of another pipe

pipe_counted : (o : Option OpenFile) → option_and_then (λ (file : OpenFile). pipe_in file.description.object)
    (option_map one_more o) ≡ option_and_then (λ (file : OpenFile). pipe_in file.description.object) o
pipe_counted None = refl
pipe_counted (Some file) = refl

module _ (counted name : Made) (files : OpenFiles) (tables : NamedMap Table) where
  abbrev more : OpenFiles
  more = record files { tables = tables; descriptions = with_one_more counted files.descriptions }

  pipe_by : (b : Bool) → same_made name counted ≡ b → pipe_at more name ≡ pipe_at files name
  pipe_by false apart =
      ap (option_and_then (λ (file : OpenFile). pipe_in file.description.object))
      (other_stays counted name _ files.descriptions apart)
  pipe_by true same =
      let content = get_named files.descriptions counted.place counted.index in
      ap (λ (m : Made). option_and_then (λ (file : OpenFile). pipe_in file.description.object)
      (get_named (with_one_more counted files.descriptions) m.place m.index)) is
      ∙ ap (option_and_then (λ (file : OpenFile). pipe_in file.description.object))
      (get-set_same counted (option_map one_more content) files.descriptions)
      ∙ pipe_counted content
      ∙ ap (λ (m : Made). pipe_at files m) (sym is)
    where
      is : name ≡ counted
      is = made_same name counted same

  pub pipe_more : pipe_at more name ≡ pipe_at files name
  pipe_more = pipe_by (same_made name counted) refl

-- ---- changes of a caller's table

untouched : (table : Made) (changed dropped : Option Made) (files after : OpenFiles) → after ≡ files
    → AreUntouched (touched_with table changed dropped files) files after
untouched table changed dropped files after same = record {
  tables = λ q apart. ap (λ (f : OpenFiles). get_named f.tables q.place q.index) same;
  descriptions = λ q apart. ap (λ (f : OpenFiles). get_named f.descriptions q.place q.index) same;
  pipes = λ q apart. ap (λ (f : OpenFiles). get_named f.pipes q.place q.index) same;
}

module _ (table : Made) (files : OpenFiles) where
  abbrev described : Option Descriptor → Option Made
  described d = option_map (λ (e : Descriptor). e.description) d

  -- a table of that name
  table_other : (t : Table) (q : Made) → same_made q table ≡ false
      → get_named (with_named files.tables table.place table.index t) q.place q.index
      ≡ get_named files.tables q.place q.index
  table_other t q apart = other_stays table q (Some t) files.tables apart

  -- a number that is closed
  closes_by : (number : ℕ) (t : Table) (d : Option Descriptor)
      → AreUntouched (touched_with table None (described d) files) files
      (by_descriptor (λ e rest. with_one_fewer e.description (with_table table (map.remove t number) rest)) d files)
  closes_by number t None = untouched table None None files files refl
  closes_by number t (Some d) =
      let after = with_table table (map.remove t number) files in
      record {
        tables = λ q apart.
            ap (λ m. get_named m q.place q.index) (fewer_tables d.description after)
            ∙ table_other (map.remove t number) q apart;
        descriptions = λ q apart.
            fewer_descriptions d.description after q (none_of false (same_made q d.description) apart).1;
        pipes = λ q apart.
            fewer_pipes d.description after q
            (none_of (is_that_name (pipe_at files d.description) q) false apart).0;
      }

  pub closes_touched : (number : ℕ) → AreUntouched
      (touched_with table None (description_at table number files) files) files
      (files_after (Closes number) table files)
  closes_touched number = by (get_named files.tables table.place table.index)
    where
      by : (o : Option Table) → AreUntouched
          (touched_with table None (described (option_and_then (λ t. map.get t number) o)) files) files
          (option_map_or (λ t. closed number table t files) o files)
      by None = untouched table None None files files refl
      by (Some t) = closes_by number t (map.get t number)

  -- a number that gets what another stands for
  given_by : (number : ℕ) (cloexec : Bool) (t : Table) (d : Descriptor) (before : Option Descriptor)
      → AreUntouched (touched_with table (Some d.description) (described before) files) files
      (freed before (with_table table (map.insert t number (with_mark d cloexec))
      (record files { descriptions = with_one_more d.description files.descriptions })))
  given_by number cloexec t d None = record {
    tables = λ q apart. table_other (map.insert t number (with_mark d cloexec)) q apart;
    descriptions = λ q apart.
        other_stays d.description q _ files.descriptions (none_of (same_made q d.description) false apart).0;
    pipes = λ q apart. refl;
  }
  given_by number cloexec t d (Some b) =
      let tables = with_named files.tables table.place table.index (map.insert t number (with_mark d cloexec)) in
      let after = more d.description b.description files tables in
      record {
        tables = λ q apart.
            ap (λ m. get_named m q.place q.index) (fewer_tables b.description after)
            ∙ table_other (map.insert t number (with_mark d cloexec)) q apart;
        descriptions = λ q apart.
            let both = none_of (same_made q d.description) (same_made q b.description) apart in
            fewer_descriptions b.description after q both.1
            ∙ other_stays d.description q _ files.descriptions both.0;
        pipes = λ q apart.
            fewer_pipes b.description after q
            (ap (λ o. is_that_name o q) (pipe_more d.description b.description files tables)
            ∙ (none_of (is_that_name (pipe_at files b.description) q) false apart).0);
      }

  gives_by : (number : ℕ) (cloexec : Bool) (t : Table) (fault : Option FdErr) (d before : Option Descriptor)
      → map.get t number ≡ before
      → AreUntouched (touched_with table (described d) (described before) files) files
      (option_map_or (λ e. files) fault (by_descriptor (given_to number cloexec table t) d files))
  gives_by number cloexec t (Some e) d before is = untouched table _ _ files files refl
  gives_by number cloexec t None None before is = untouched table _ _ files files refl
  gives_by number cloexec t None (Some d) before is =
      subst (λ o. AreUntouched (touched_with table (Some d.description) (described before) files) files
      (freed o (with_table table (map.insert t number (with_mark d cloexec))
      (record files { descriptions = with_one_more d.description files.descriptions })))) (sym is)
      (given_by number cloexec t d before)

  pub gives_touched : (from number : ℕ) (cloexec : Bool) → AreUntouched
      (touched_with table (description_at table from files) (description_at table number files) files) files
      (files_after (Gives from number cloexec) table files)
  gives_touched from number cloexec = by (get_named files.tables table.place table.index)
    where
      by : (o : Option Table) → AreUntouched (touched_with table
          (described (option_and_then (λ t. map.get t from) o)) (described (option_and_then (λ t. map.get t number) o))
          files) files (option_map_or (λ t. given from number cloexec table t files) o files)
      by None = untouched table None None files files refl
      by (Some t) = gives_by number cloexec t (dup3_fault t from number) (map.get t from) (map.get t number) refl

  -- a number that is marked
  pub marks_touched : (number : ℕ) (cloexec : Bool)
      → AreUntouched (touched_with table None None files) files (files_after (Marks number cloexec) table files)
  marks_touched number cloexec = by (get_named files.tables table.place table.index)
    where
      by : (o : Option Table) → AreUntouched (touched_with table None None files) files
          (option_map_or (λ t. with_table table (marked t number cloexec) files) o files)
      by None = untouched table None None files files refl
      by (Some t) = record {
        tables = λ q apart. table_other (marked t number cloexec) q apart;
        descriptions = λ q apart. refl;
        pipes = λ q apart. refl;
      }

  -- a description with other status flags
  pub sets_touched : (description : Made) (flags : ℕ) → AreUntouched
      (touched_with table (Some description) None files) files (files_after (SetsStatus description flags) table files)
  sets_touched description flags = by (get_named files.descriptions description.place description.index)
    where
      by : (o : Option OpenFile) → AreUntouched (touched_with table (Some description) None files) files
          (option_map_or (λ (file : OpenFile). record files {
            descriptions = with_named files.descriptions description.place description.index
                (record file { description = with_status file.description flags });
          }) o files)
      by None = untouched table (Some description) None files files refl
      by (Some file) = record {
        tables = λ q apart. refl;
        descriptions = λ q apart.
            other_stays description q (Some (record file { description = with_status file.description flags }))
            files.descriptions (none_of (same_made q description) false apart).0;
        pipes = λ q apart. refl;
      }
