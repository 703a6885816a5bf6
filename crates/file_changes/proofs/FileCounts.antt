-- Descriptors that are counted, number by number, and pipes whose ends are closed.
use Rattle.std.proofs.Common.{◌≡◌, ℕ, suc, ◌+◌, ◌-◌, ◌<◌, ◌≤◌, ◌==◌, ◌&&◌, cond, List, [], ◌∷◌, Option, Some}
use Rattle.std.proofs.Common.{None, ap, sym, ◌∙◌, arith}
use Rattle.std.specs.Prelude.{filter_map, option_map, unwrap_or}
use Rattle.std.specs.List.{cons_option, range_with_len}
use Rattle.std.specs.FinMap as map
use Rattle.std.proofs.lemmas.Bool.{eq-eqb}
use Rattle.fd_table.specs.declared.description.PipeSide.{PipeSide}
use Rattle.fd_table.specs.declared.descriptor.Descriptor.{Descriptor}
use Rattle.fd_table.specs.declared.table.TheConstants.{OPEN_MAX}
use Rattle.fd_table.specs.Tables.{Table, descriptions_of}
use Rattle.pipe_core.specs.Pipes.{PipeState}
use Rattle.sn_base.specs.declared.made.Made.{Made}
use Rattle.kernel_model.specs.Names.{NamedMap, get_named, with_named, without_named}
use Rattle.kernel_model.specs.declared.open_files.OpenFile.{OpenFile}
use Rattle.kernel_model.specs.declared.open_files.OpenFiles.{OpenFiles}
use Rattle.kernel_model.specs.descriptors.Counts.{end_closed, if_held, one_more, without_end}
use Rattle.kernel_model.specs.entries.Parts.{set_named}
use Rattle.kernel_model.specs.laws.Files.{all_counted, closed_by, copied_by, with_copy, with_one_more, without_table}
use Rattle.kernel_model.proofs.NamedMaps.{get-with_same, without_absent, without-with}

-- ---- the numbers of a table, one by one

-- the open file descriptions of the numbers of a table from one on
abbrev pub descriptions_at : Table → List ℕ → List Made
descriptions_at table numbers =
    filter_map (λ n. option_map (λ (d : Descriptor). d.description) (map.get table n)) numbers

abbrev pub numbers_from : (fd : ℕ) → List ℕ
numbers_from fd = range_with_len fd (OPEN_MAX - fd)

first_number : (fd : ℕ) → fd < OPEN_MAX → numbers_from fd ≡ fd ∷ numbers_from (fd + 1)
first_number fd below =
    let more : OPEN_MAX - fd ≡ suc (OPEN_MAX - (fd + 1)) = omega arith in
    ap (range_with_len fd) more

-- what those from one on have, with and without the first
abbrev with_first : Table → (fd : ℕ) → Option Descriptor → List Made
with_first table fd o =
    cons_option (option_map (λ (d : Descriptor). d.description) o) (descriptions_at table (numbers_from (fd + 1)))

closed_number : (table : Table) (fd : ℕ) → fd < OPEN_MAX → map.get table fd ≡ None
    → descriptions_at table (numbers_from fd) ≡ descriptions_at table (numbers_from (fd + 1))
closed_number table fd below e = ap (descriptions_at table) (first_number fd below) ∙ ap (with_first table fd) e

open_number : (table : Table) (fd : ℕ) (d : Descriptor) → fd < OPEN_MAX → map.get table fd ≡ Some d
    → descriptions_at table (numbers_from fd) ≡ d.description ∷ descriptions_at table (numbers_from (fd + 1))
open_number table fd d below e = ap (descriptions_at table) (first_number fd below) ∙ ap (with_first table fd) e

no_number : (table : Table) (fd : ℕ) → OPEN_MAX ≤ fd → descriptions_at table (numbers_from fd) ≡ []
no_number table fd past =
    let none : OPEN_MAX - fd ≡ 0 = omega arith in
    ap (λ n. descriptions_at table (range_with_len fd n)) none

-- what is done for each of them, one after another, is done for one number and then for those behind it
module _ {A : Type 0} (all : List Made → A → A) (one : Made → A → A)
    (each : (name : Made) (names : List Made) (a : A) → all (name ∷ names) a ≡ all names (one name a))
    (none : (a : A) → all [] a ≡ a) (table : Table) (fd : ℕ) (now whole : A)
    (so_far : all (descriptions_at table (numbers_from fd)) now ≡ whole) where
  pub next_open : (d : Descriptor) → fd < OPEN_MAX → map.get table fd ≡ Some d
      → all (descriptions_at table (numbers_from (fd + 1))) (one d.description now) ≡ whole
  next_open d below e =
      sym (each d.description (descriptions_at table (numbers_from (fd + 1))) now)
      ∙ ap (λ names. all names now) (sym (open_number table fd d below e)) ∙ so_far

  pub next_closed : fd < OPEN_MAX → map.get table fd ≡ None
      → all (descriptions_at table (numbers_from (fd + 1))) now ≡ whole
  next_closed below e = ap (λ names. all names now) (sym (closed_number table fd below e)) ∙ so_far

  pub at_last : OPEN_MAX ≤ fd → now ≡ whole
  at_last past = sym (none now) ∙ ap (λ names. all names now) (sym (no_number table fd past)) ∙ so_far

-- ---- descriptions by name

pub not_counted : (name : Made) (files : NamedMap OpenFile) → get_named files name.place name.index ≡ None
    → files ≡ with_one_more name files
not_counted name files e =
    sym (ap (λ o. set_named name (option_map one_more o) files) e ∙ without_absent files name.place name.index e)

-- ---- pipes by name

pub no_end : (side : PipeSide) (name : Made) (pipes : NamedMap PipeState)
    → get_named pipes name.place name.index ≡ None
    → pipes ≡ set_named name (end_closed side (get_named pipes name.place name.index)) pipes
no_end side name pipes e =
    sym (ap (λ o. set_named name (end_closed side o) pipes) e ∙ without_absent pipes name.place name.index e)

pub last_end : (side : PipeSide) (name : Made) (pipes : NamedMap PipeState) (pipe after : PipeState)
    → get_named pipes name.place name.index ≡ Some pipe → after ≡ without_end side pipe
    → after.readers ≡ 0 → after.writers ≡ 0
    → without_named (with_named pipes name.place name.index after) name.place name.index
    ≡ set_named name (end_closed side (get_named pipes name.place name.index)) pipes
last_end side name pipes pipe after e is readers writers =
    without-with pipes name.place name.index after pipe e
    ∙ sym (ap (λ o. set_named name (end_closed side o) pipes) e
    ∙ ap (λ q. set_named name (if_held q) pipes) (sym is)
    ∙ ap (λ b. set_named name (cond (b && (after.writers == 0)) None (Some after)) pipes)
    (eq-eqb after.readers 0 readers)
    ∙ ap (λ b. set_named name (cond b None (Some after)) pipes) (eq-eqb after.writers 0 writers))

-- ---- tables by name

pub no_table : (name : Made) (files : OpenFiles) (tables : NamedMap Table)
    → get_named files.tables name.place name.index ≡ None
    → tables ≡ without_named files.tables name.place name.index
    → record files { tables = tables } ≡ without_table name files
no_table name files tables e is =
    ap (λ t. record files { tables = t }) (is ∙ without_absent files.tables name.place name.index e)
    ∙ sym (ap (λ o. closed_by name o files) e)

module _ (name copy : Made) (files : OpenFiles) (table made : Table) (tables : NamedMap Table)
    (there : get_named files.tables name.place name.index ≡ Some table) (same : made ≡ table)
    (placed : tables ≡ with_named files.tables copy.place copy.index made) where
  has_copy : get_named tables copy.place copy.index ≡ Some table
  has_copy =
      ap (λ t. get_named t copy.place copy.index) placed
      ∙ get-with_same files.tables copy.place copy.index made ∙ ap Some same

  pub copy_there : get_named tables copy.place copy.index ≡ None → ⊥
  copy_there none = cc (has_copy, none)

  pub copied : (again : Table) (descriptions : NamedMap OpenFile)
      → get_named tables copy.place copy.index ≡ Some again
      → descriptions ≡ all_counted (descriptions_of again) files.descriptions
      → record files { tables = tables; descriptions = descriptions } ≡ with_copy name copy files
  copied again descriptions found counted =
      let is : again ≡ table = ap (λ o. unwrap_or o again) (sym found ∙ has_copy) in
      ap (λ t. record files { tables = t; descriptions = descriptions })
      (placed ∙ ap (with_named files.tables copy.place copy.index) same)
      ∙ ap (λ d. record files { tables = with_named files.tables copy.place copy.index table; descriptions = d })
      (counted ∙ ap (λ t. all_counted (descriptions_of t) files.descriptions) is)
      ∙ sym (ap (λ o. copied_by copy o files) there)
