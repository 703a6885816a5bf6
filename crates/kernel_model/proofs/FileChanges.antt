-- Changes of nothing but what is open: descriptor tables, open file descriptions and pipes.
use Rattle.std.proofs.Common.{◌≡◌, ℕ, Bool, true, false, cond, List, [], ◌∷◌, ◌++◌, Option, Some, None, refl, ap, sym}
use Rattle.std.proofs.Common.{◌∙◌, inl, inr, subst}
use Rattle.std.specs.Prelude.{⊤, nat_le, ◌-◌}
use Rattle.fd_table.specs.Tables.{Table, descriptions_of}
use Rattle.fd_table.specs.declared.description.Object.{Object}
use Rattle.fd_table.specs.declared.description.Object.TheVariants as object
use Rattle.sn_base.specs.declared.made.Made.{Made}
use Rattle.kernel_model.specs.Names.{NamedMap, get_named, with_named, without_named}
use Rattle.kernel_model.specs.declared.kernel.Kernel.{Kernel}
use Rattle.kernel_model.specs.declared.kernel.Part.{Part}
use Rattle.kernel_model.specs.declared.kernel.Part.TheVariants.{OfTasks, OfTask, OfSpace, OfArea, OfTable}
use Rattle.kernel_model.specs.declared.kernel.Part.TheVariants.{OfDescription}
use Rattle.kernel_model.specs.declared.kernel.Part.TheVariants.{OfPipe, OfNode, OfSleepers, OfConsole, OfFaults}
use Rattle.kernel_model.specs.declared.open_files.OpenFile.{OpenFile}
use Rattle.kernel_model.specs.declared.open_files.OpenFiles.{OpenFiles}
use Rattle.kernel_model.specs.descriptors.Counts.{closed_as, copied_as, counted, dropped, file_dropped}
use Rattle.kernel_model.specs.descriptors.Counts.{object_closed, table_closed, table_copied}
use Rattle.kernel_model.specs.entries.InTurn.{followed, in_turn}
use Rattle.kernel_model.specs.entries.Parts.{Holds, Parts, parts, Prog, done, outcome_in, ◌>>=◌, IsIn, Change}
use Rattle.kernel_model.specs.entries.Parts.{set_named, put, changed, parts_changed}
use Rattle.kernel_model.specs.laws.Files.{all_counted, all_dropped, closed_by, copied_by, dropped_by, with_copy}
use Rattle.kernel_model.specs.laws.Files.{with_one_fewer, with_one_more, without_object, without_table}
use Rattle.kernel_model.specs.laws.InPlace.{kernel_left}
use Rattle.kernel_model.proofs.ChildLaws.{changed-append}
use Rattle.kernel_model.proofs.Trees.{outcome-bind}
use Rattle.kernel_model.proofs.Turns.{done_in_turn, done_none, outcome_followed, outcome_over, state_after}

-- a part is of what is open, and each that changes change is
abbrev pub IsOpenPart : Part → Type 0
IsOpenPart OfTasks = ⊥
IsOpenPart (OfTask task) = ⊥
IsOpenPart (OfSpace name) = ⊥
IsOpenPart (OfArea name) = ⊥
IsOpenPart (OfTable name) = ⊤
IsOpenPart (OfDescription name) = ⊤
IsOpenPart (OfPipe name) = ⊤
IsOpenPart (OfNode ino) = ⊥
IsOpenPart OfSleepers = ⊥
IsOpenPart OfConsole = ⊥
IsOpenPart OfFaults = ⊥

abbrev pub AreOpenParts : List Change → Type 0
AreOpenParts [] = ⊤
AreOpenParts (c ∷ changes) = IsOpenPart c.0 × AreOpenParts changes

both_open : (xs ys : List Change) → AreOpenParts xs → AreOpenParts ys → AreOpenParts (xs ++ ys)
both_open [] ys these those = those
both_open (x ∷ xs) ys these those = (these.0, both_open xs ys these.1 those)

-- they change no node
pub open_leaves : (changes : List Change) → AreOpenParts changes → (ino : ℕ)
    → ¬ IsIn (OfNode ino) (parts_changed changes)
open_leaves [] are ino is = is
open_leaves (c ∷ changes) are ino (inl e) = subst IsOpenPart (sym e) are.0
open_leaves (c ∷ changes) are ino (inr is) = open_leaves changes are.1 ino is

-- and nothing of a kernel but what is open
abbrev put_open : (part : Part) → Holds part → OpenFiles → OpenFiles
put_open OfTasks content files = files
put_open (OfTask task) content files = files
put_open (OfSpace name) content files = files
put_open (OfArea name) content files = files
put_open (OfTable name) content files = record files { tables = set_named name content files.tables }
put_open (OfDescription name) content files = record files { descriptions = set_named name content files.descriptions }
put_open (OfPipe name) content files = record files { pipes = set_named name content files.pipes }
put_open (OfNode ino) content files = files
put_open OfSleepers content files = files
put_open OfConsole content files = files
put_open OfFaults content files = files

abbrev open_after : List Change → OpenFiles → OpenFiles
open_after [] files = files
open_after (c ∷ changes) files = open_after changes (put_open c.0 c.1 files)

put_is : (p : Part) (content : Holds p) (k : Kernel) → IsOpenPart p
    → put p content k ≡ record k { files = put_open p content k.files }
put_is (OfTable name) content k is = refl
put_is (OfDescription name) content k is = refl
put_is (OfPipe name) content k is = refl
put_is OfTasks content k is = absurd is
put_is (OfTask task) content k is = absurd is
put_is (OfSpace name) content k is = absurd is
put_is (OfArea name) content k is = absurd is
put_is (OfNode ino) content k is = absurd is
put_is OfSleepers content k is = absurd is
put_is OfConsole content k is = absurd is
put_is OfFaults content k is = absurd is

changed_is : (changes : List Change) (k : Kernel) → AreOpenParts changes
    → changed changes k ≡ record k { files = open_after changes k.files }
changed_is [] k are = refl
changed_is (c ∷ changes) k are =
    ap (changed changes) (put_is c.0 c.1 k are.0)
    ∙ changed_is changes (record k { files = put_open c.0 c.1 k.files }) are.1

-- so that they leave the same of what is open behind changes of other parts
pub changed_behind : (changes : List Change) (k other : Kernel) (files : OpenFiles) → AreOpenParts changes
    → other.files ≡ k.files → changed changes k ≡ record k { files = files }
    → changed changes other ≡ record other { files = files }
changed_behind changes k other files are same leaves =
    changed_is changes other are
    ∙ ap (λ f. record other { files = open_after changes f }) same
    ∙ ap (λ f. record other { files = f })
    (ap (λ (x : Kernel). x.files) (sym (changed_is changes k are) ∙ leaves))

-- ---- pieces that count descriptors

abbrev pub AllOpen : Prog (List Change) → Type 0
AllOpen piece = (s : Parts) → AreOpenParts (outcome_in s piece)

pub followed_open : (first second : Prog (List Change)) → AllOpen first → AllOpen second
    → AllOpen (followed first second)
followed_open first second here there s =
    subst AreOpenParts
    (sym (outcome_followed s first second
    ∙ ap (λ after. outcome_in s first ++ after) (outcome_over s (outcome_in s first) second)))
    (both_open (outcome_in s first) _ (here s) (there (state_after (outcome_in s first) s)))

turn_open : {A : Type 0} (piece : A → Prog (List Change)) → ((x : A) → AllOpen (piece x)) → (xs : List A)
    → AllOpen (in_turn piece xs)
unfolding in_turn
turn_open piece each [] s = tt
turn_open piece each (x ∷ xs) s = followed_open (piece x) (in_turn piece xs) (each x) (turn_open piece each xs) s

pub counted_open : (name : Made) → AllOpen (counted name)
counted_open name s = (tt, tt)

object_open : (object : Object) → AllOpen (object_closed object)
object_open (object.Node n) s = tt
object_open (object.PipeEnd name side) s = (tt, tt)
object_open object.Console s = tt
object_open object.EmptyInput s = tt

pub dropped_open : (name : Made) → AllOpen (dropped name)
dropped_open name s = by (s (OfDescription name))
  where
    by_count : (file : OpenFile) (b : Bool) → AreOpenParts (outcome_in s (cond b
        (done ((OfDescription name, Some (record file { descriptors = file.descriptors - 1 })) ∷ []))
        (object_closed file.description.object >>= λ changes. done ((OfDescription name, None) ∷ changes))))
    by_count file true = (tt, tt)
    by_count file false =
        subst AreOpenParts
        (sym (outcome-bind s (object_closed file.description.object)
        (λ changes. done ((OfDescription name, None) ∷ changes)))) (tt, object_open file.description.object s)

    by : (file : Option OpenFile) → AreOpenParts (outcome_in s (file_dropped name file))
    by None = tt
    by (Some file) = by_count file (nat_le 2 file.descriptors)

-- whole tables
behind_table : (s : Parts) (name : Made) (content : Option Table) (piece : Made → Prog (List Change))
    → ((x : Made) → AllOpen (piece x)) → (names : List Made)
    → AreOpenParts (outcome_in s (in_turn piece names >>= λ changes. done (changes ++ (OfTable name, content) ∷ [])))
behind_table s name content piece each names =
    subst AreOpenParts
    (sym (outcome-bind s (in_turn piece names) (λ changes. done (changes ++ (OfTable name, content) ∷ []))))
    (both_open (outcome_in s (in_turn piece names)) _ (turn_open piece each names s) (tt, tt))

pub copied_open : (name copy : Made) → AllOpen (table_copied name copy)
copied_open name copy s = by (s (OfTable name))
  where
    by : (table : Option Table) → AreOpenParts (outcome_in s (copied_as copy table))
    by None = tt
    by (Some table) = behind_table s copy (Some table) counted counted_open (descriptions_of table)

pub closed_open : (name : Made) → AllOpen (table_closed name)
closed_open name s = by (s (OfTable name))
  where
    by : (table : Option Table) → AreOpenParts (outcome_in s (closed_as name table))
    by None = tt
    by (Some table) = behind_table s name None dropped dropped_open (descriptions_of table)

-- ---- what they leave

counted_in_turn : (names : List Made) (k : Kernel) → kernel_left (in_turn counted names) k
    ≡ record k { files = record k.files { descriptions = all_counted names k.files.descriptions } }
counted_in_turn [] k = done_none k counted
counted_in_turn (name ∷ names) k =
    done_in_turn k counted name names
    ∙ counted_in_turn names
    (record k { files = record k.files { descriptions = with_one_more name k.files.descriptions } })

closed_object : (object : Object) (k : Kernel)
    → kernel_left (object_closed object) k ≡ record k { files = without_object object k.files }
closed_object (object.Node ino) k = refl
closed_object (object.PipeEnd name side) k = refl
closed_object object.Console k = refl
closed_object object.EmptyInput k = refl

pub dropped_one : (name : Made) (k : Kernel)
    → kernel_left (dropped name) k ≡ record k { files = with_one_fewer name k.files }
dropped_one name k = by (parts k (OfDescription name))
  where
    by_count : (file : OpenFile) (b : Bool) → changed (outcome_in (parts k) (cond b
        (done ((OfDescription name, Some (record file { descriptors = file.descriptors - 1 })) ∷ []))
        (object_closed file.description.object >>= λ changes. done ((OfDescription name, None) ∷ changes)))) k
        ≡ record k {
          files = cond b
              (record k.files {
                descriptions = set_named name (Some (record file { descriptors = file.descriptors - 1 }))
                    k.files.descriptions;
              })
              (without_object file.description.object
              (record k.files { descriptions = set_named name None k.files.descriptions }));
        }
    by_count file true = refl
    by_count file false =
        ap (λ changes. changed changes k)
        (outcome-bind (parts k) (object_closed file.description.object)
        (λ changes. done ((OfDescription name, None) ∷ changes)))
        ∙ by_object file.description.object
      where
        by_object : (object : Object)
            → changed ((OfDescription name, None) ∷ outcome_in (parts k) (object_closed object)) k
            ≡ record k {
              files = without_object object
                  (record k.files { descriptions = set_named name None k.files.descriptions });
            }
        by_object (object.Node ino) = refl
        by_object (object.PipeEnd pipe side) = refl
        by_object object.Console = refl
        by_object object.EmptyInput = refl

    by : (file : Option OpenFile) → changed (outcome_in (parts k) (file_dropped name file)) k
        ≡ record k { files = dropped_by name file k.files }
    by None = refl
    by (Some file) = by_count file (nat_le 2 file.descriptors)

dropped_in_turn : (names : List Made) (k : Kernel)
    → kernel_left (in_turn dropped names) k ≡ record k { files = all_dropped names k.files }
dropped_in_turn [] k = done_none k dropped
dropped_in_turn (name ∷ names) k =
    done_in_turn k dropped name names
    ∙ ap (kernel_left (in_turn dropped names)) (dropped_one name k)
    ∙ dropped_in_turn names (record k { files = with_one_fewer name k.files })

-- the tables stay where descriptors are dropped,
one_beside : (name : Made) (files : OpenFiles) (tables : NamedMap Table)
    → with_one_fewer name (record files { tables = tables }) ≡ record (with_one_fewer name files) { tables = tables }
one_beside name files tables = by (get_named files.descriptions name.place name.index)
  where
    by_object : (object : Object) (rest : OpenFiles)
        → without_object object (record rest { tables = tables })
        ≡ record (without_object object rest) { tables = tables }
    by_object (object.Node ino) rest = refl
    by_object (object.PipeEnd pipe side) rest = refl
    by_object object.Console rest = refl
    by_object object.EmptyInput rest = refl

    by : (file : Option OpenFile) → dropped_by name file (record files { tables = tables })
        ≡ record (dropped_by name file files) { tables = tables }
    by None = refl
    by (Some file) =
        elim (nat_le 2 file.descriptors)
        as (λ b. cond b
        (record files {
          tables = tables;
          descriptions = with_named files.descriptions name.place name.index
              (record file { descriptors = file.descriptors - 1 });
        })
        (without_object file.description.object (record files {
          tables = tables;
          descriptions = without_named files.descriptions name.place name.index;
        }))
        ≡ record (cond b
        (record files {
          descriptions = with_named files.descriptions name.place name.index
              (record file { descriptors = file.descriptors - 1 });
        })
        (without_object file.description.object
        (record files { descriptions = without_named files.descriptions name.place name.index })))
        { tables = tables }) [
          | true ↦ refl
          | false ↦
              by_object file.description.object
              (record files { descriptions = without_named files.descriptions name.place name.index })
        ]

all_beside : (names : List Made) (files : OpenFiles) (tables : NamedMap Table)
    → all_dropped names (record files { tables = tables }) ≡ record (all_dropped names files) { tables = tables }
all_beside [] files tables = refl
all_beside (name ∷ names) files tables =
    ap (all_dropped names) (one_beside name files tables)
    ∙ all_beside names (with_one_fewer name files) tables

tables_stay : (names : List Made) (files : OpenFiles) → (all_dropped names files).tables ≡ files.tables
tables_stay names files = ap (λ (f : OpenFiles). f.tables) (all_beside names files files.tables)

-- what copies and closes of whole tables leave
copied_table : (name copy : Made) (k : Kernel)
    → kernel_left (table_copied name copy) k ≡ record k { files = with_copy name copy k.files }
copied_table name copy k = by (parts k (OfTable name))
  where
    by : (table : Option Table) → changed (outcome_in (parts k) (copied_as copy table)) k
        ≡ record k { files = copied_by copy table k.files }
    by None = refl
    by (Some table) =
        ap (λ changes. changed changes k)
        (outcome-bind (parts k) (in_turn counted (descriptions_of table))
        (λ changes. done (changes ++ (OfTable copy, Some table) ∷ [])))
        ∙ changed-append (outcome_in (parts k) (in_turn counted (descriptions_of table))) _ k
        ∙ ap (put (OfTable copy) (Some table)) (counted_in_turn (descriptions_of table) k)

closed_table : (name : Made) (k : Kernel)
    → kernel_left (table_closed name) k ≡ record k { files = without_table name k.files }
closed_table name k = by (parts k (OfTable name))
  where
    by : (table : Option Table) → changed (outcome_in (parts k) (closed_as name table)) k
        ≡ record k { files = closed_by name table k.files }
    by None = refl
    by (Some table) =
        let names = descriptions_of table in
        ap (λ changes. changed changes k)
        (outcome-bind (parts k) (in_turn dropped names) (λ changes. done (changes ++ (OfTable name, None) ∷ [])))
        ∙ changed-append (outcome_in (parts k) (in_turn dropped names)) _ k
        ∙ ap (put (OfTable name) None) (dropped_in_turn names k)
        ∙ ap (λ t. record k {
          files = record (all_dropped names k.files) { tables = without_named t name.place name.index };
        }) (tables_stay names k.files)
        ∙ ap (λ f. record k { files = f })
        (sym (all_beside names k.files (without_named k.files.tables name.place name.index)))

-- ---- and behind changes of other parts

pub copied_behind : (name copy : Made) (k other : Kernel) → other.files ≡ k.files
    → changed (outcome_in (parts k) (table_copied name copy)) other
    ≡ record other { files = with_copy name copy k.files }
copied_behind name copy k other same =
    changed_behind _ k other (with_copy name copy k.files) (copied_open name copy (parts k)) same
    (copied_table name copy k)

pub closed_behind : (name : Made) (k other : Kernel) → other.files ≡ k.files
    → changed (outcome_in (parts k) (table_closed name)) other ≡ record other { files = without_table name k.files }
closed_behind name k other same =
    changed_behind _ k other (without_table name k.files) (closed_open name (parts k)) same (closed_table name k)
