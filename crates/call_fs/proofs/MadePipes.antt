-- What pipe2 comes to, and a pipe that is made.
use Rattle.std.proofs.Common.{◌≡◌, ℕ, ◌+◌, ◌<◌, ◌≤◌, Bool, true, false, cond, List, length, Option, Some}
use Rattle.std.proofs.Common.{None, Result, Ok, Err, OnOk, refl, ap, sym, subst, ◌∙◌, arith, option_map}
use Rattle.std.specs.Prelude.{is_some, not, option_and_then}
use Rattle.std.specs.FinMap as map
use Rattle.sn_base.proofs.Maps.{get-insert_other}
use Rattle.sn_errno.specs.declared.errno.Errno.TheVariants.{EBADF, EFAULT, EINVAL, EMFILE}
use Rattle.fd_table.specs.Tables.{Table}
use Rattle.fd_table.specs.declared.descriptor.Descriptor.{Descriptor}
use Rattle.pipe_core.specs.Pipes.{new_pipe}
use Rattle.mm_space.specs.Accesses.{writable}
use Rattle.mm_space.specs.Handed.{AreaState, InHand}
use Rattle.mm_space.specs.Spaces.{AddressSpace, Reach}
use Rattle.kernel_model.specs.Names.{NamedMap, get_named, with_named}
use Rattle.kernel_model.specs.declared.caller.Caller.{Caller}
use Rattle.kernel_model.specs.declared.kernel.Kernel.{Kernel}
use Rattle.kernel_model.specs.declared.open_files.OpenFiles.{OpenFiles}
use Rattle.kernel_model.specs.calls.Answers.{Answer, refuses}
use Rattle.kernel_model.specs.calls.Callers.{Context as RowContext}
use Rattle.kernel_model.specs.calls.Lookups.{lowest_free, or_refuse, with_callers_table}
use Rattle.kernel_model.specs.calls.Pipes.{are_pipe_flags, pipe2_of, pipe_made, two_free, with_ends_of}
use Rattle.kernel_model.specs.entries.Areas.{access_row, bytes_written, written_with}
use Rattle.kernel_model.specs.entries.Parts.{Parts, Prog, changed, done, ◌>>=◌, outcome_in, parts}
use Rattle.kernel_model.proofs.Trees.{outcome-bind}
use Rattle.guest_access.specs.Lending.{with_hand}
use Rattle.guest_access.specs.Memories.{with_memory}
use Rattle.guest_access.specs.Trying.{Wrote}
use Rattle.kernel_calls.specs.declared.context.Context.{Context}
use Rattle.guest_access.proofs.KernelAreas.{are_those, areas_changed}
use Rattle.call_fs.specs.Pipes.{MakesPipe, PutsInts, ints_put, read_file, write_file}
use Rattle.call_fs.specs.Transfers.{IsMoving}
use Rattle.call_fs.specs.declared.pipes.NewPipe.{NewPipe}
use Rattle.call_fs.proofs.Lowest.{free_there}

-- ---- something, or nothing

pub something : {A : Type 0} (o : Option A) → is_some o ≡ true → (x : A) × (o ≡ Some x)
something None is = absurd (cc is)
something (Some x) is = (x, refl)

pub nothing : {A : Type 0} (o : Option A) → is_some o ≡ false → o ≡ None
nothing None is = refl
nothing (Some x) is = absurd (cc is)

pub on_ok_all : {A E : Type 0} (r : Result A E) {P Q R S T : Type 0} → (P → Q → R → S → T) → OnOk r P → OnOk r Q
    → OnOk r R → OnOk r S → OnOk r T
on_ok_all (Ok a) all p q r s = all p q r s
on_ok_all (Err e) all p q r s = tt

-- ---- the row

module _ (context : RowContext) (c : Caller) (k : Kernel) (buffer flags : ℕ) where
  abbrev with_table_of : List InHand → Table → Prog Answer
  with_table_of hand table =
      or_refuse EMFILE (λ fds. done (pipe_made context c buffer flags hand table fds)) (two_free table)

  abbrev with_hand_of : List InHand → Prog Answer
  with_hand_of hand = with_callers_table c (with_table_of hand)

  module _ (own : AddressSpace) (hand : Option (List InHand)) (allowed : are_pipe_flags flags ≡ true)
      (same : c.space ≡ own) (is : outcome_in (parts k) (access_row writable own buffer 8) ≡ hand) where
    pub tested : outcome_in (parts k) (pipe2_of context c buffer flags)
        ≡ outcome_in (parts k) (or_refuse EFAULT with_hand_of hand)
    tested =
        ap (λ b. outcome_in (parts k) (cond (not b) (done (refuses EINVAL))
        (access_row writable c.space buffer 8 >>= or_refuse EFAULT with_hand_of))) allowed
        ∙ outcome-bind (parts k) (access_row writable c.space buffer 8) (or_refuse EFAULT with_hand_of)
        ∙ ap (λ o. outcome_in (parts k) (or_refuse EFAULT with_hand_of o))
        (ap (λ s. outcome_in (parts k) (access_row writable s buffer 8)) same ∙ is)

  pub of_table : (hand : List InHand) (table : Option Table)
      → get_named k.files.tables c.table.place c.table.index ≡ table
      → outcome_in (parts k) (with_hand_of hand) ≡ outcome_in (parts k) (or_refuse EBADF (with_table_of hand) table)
  of_table hand table is = ap (λ o. outcome_in (parts k) (or_refuse EBADF (with_table_of hand) o)) is

  pub of_fds : (hand : List InHand) (table : Table) (fds : Option (ℕ × ℕ)) → two_free table ≡ fds
      → outcome_in (parts k) (with_table_of hand table)
      ≡ outcome_in (parts k)
      (or_refuse EMFILE (λ fds. done (pipe_made context c buffer flags hand table fds)) fds)
  of_fds hand table fds is =
      ap (λ o. outcome_in (parts k)
      (or_refuse EMFILE (λ fds. done (pipe_made context c buffer flags hand table fds)) o)) is

-- ---- the numbers of the ends

abbrev with_first : (a b : ℕ) → ℕ × ℕ
with_first a b = (a, b)

module _ (table : Table) (first second : ℕ) where
  second_by : (a : ℕ) (o : Option ℕ) → lowest_free table (a + 1) ≡ o → Some a ≡ lowest_free table 0
      → option_map (with_first a) o ≡ Some (with_first first second)
      → (Some first ≡ lowest_free table 0) × (Some second ≡ lowest_free table (first + 1))
  second_by a None is at found = absurd (cc found)
  second_by a (Some b) is at found =
      let pair : with_first a b ≡ with_first first second = cc found in
      let one : a ≡ first = ap (λ (p : ℕ × ℕ). p.0) pair in
      let two : b ≡ second = ap (λ (p : ℕ × ℕ). p.1) pair in
      (ap Some (sym one) ∙ at, ap Some (sym two) ∙ sym is ∙ ap (λ n. lowest_free table (n + 1)) one)

  first_by : (o : Option ℕ) → lowest_free table 0 ≡ o
      → option_and_then (λ a. option_map (with_first a) (lowest_free table (a + 1))) o
      ≡ Some (with_first first second)
      → (Some first ≡ lowest_free table 0) × (Some second ≡ lowest_free table (first + 1))
  first_by None is found = absurd (cc found)
  first_by (Some a) is found = second_by a (lowest_free table (a + 1)) refl (sym is) found

  pub two_found : two_free table ≡ Some (first, second)
      → (Some first ≡ lowest_free table 0) × (Some second ≡ lowest_free table (first + 1))
  two_found is = first_by (lowest_free table 0) refl is

  -- both are open, one after the other
  pub ends_open : (numbers one two : Table) (d e : Descriptor) → two_free table ≡ Some (first, second)
      → numbers ≡ table
      → (map.get numbers first ≡ None → first < 256 → one ≡ map.insert numbers first d)
      → (map.get one second ≡ None → second < 256 → two ≡ map.insert one second e)
      → two ≡ map.insert (map.insert table first d) second e
  ends_open numbers one two d e free same opens opens_too =
      opens_too
      (ap (λ m. map.get m second) opened
      ∙ get-insert_other table first second d (omega (arith, at_second.1)) ∙ at_second.0) at_second.2
      ∙ ap (λ m. map.insert m second e) opened
    where
      found : (Some first ≡ lowest_free table 0) × (Some second ≡ lowest_free table (first + 1))
      found = two_found free

      at_first : (map.get table first ≡ None) × (0 ≤ first) × (first < 256)
      at_first = free_there table 0 first found.0

      at_second : (map.get table second ≡ None) × (first + 1 ≤ second) × (second < 256)
      at_second = free_there table (first + 1) second found.1

      opened : one ≡ map.insert table first d
      opened =
          opens (ap (λ m. map.get m first) same ∙ at_first.0) at_first.2 ∙ ap (λ m. map.insert m first d) same

-- ---- what is put and placed

-- bytes that were put where each may be written
pub ints_by : (task : ℕ) (own space : AddressSpace) (shared areas : NamedMap AreaState) (at : ℕ) (bytes : List ℕ)
    (hand : List InHand) (wrote : Bool) (s : Parts)
    → outcome_in s (access_row writable own at (length bytes)) ≡ Some hand
    → Wrote (outcome_in s (bytes_written task own at bytes)) wrote own space shared areas
    → (space ≡ (written_with task own at bytes hand).space)
    × (areas ≡ with_hand (written_with task own at bytes hand).hand shared)
ints_by task own space shared areas at bytes hand wrote s granted w = (there.1, there.2)
  where
    there : Wrote (Some (written_with task own at bytes hand)) wrote own space shared areas
    there =
        subst (λ o. Wrote o wrote own space shared areas)
        (outcome-bind s (access_row writable own at (length bytes))
        (λ hand. done (option_map (written_with task own at bytes) hand))
        ∙ ap (option_map (written_with task own at bytes)) granted) w

module _ (row : Prog Answer) (new : NewPipe) (of_row : RowContext) (c : Caller) (k : Kernel) (console : ℕ)
    (context : Context) (own space : AddressSpace) (shared areas : NamedMap AreaState) (files files' : OpenFiles)
    (makes : MakesPipe row new of_row c k) (place : of_row.place ≡ context.place)
    (moving : IsMoving c k context own shared files console)
    (placed : files'.pipes ≡ with_named files.pipes context.place 0 new.pipe)
    (made : files'.descriptions ≡ with_named
    (with_named files.descriptions context.place 0 (read_file context.place new.ends.flags)) context.place 1
    (write_file context.place new.ends.flags))
    (opened : (table : Table) → get_named files.tables context.table.place context.table.index ≡ Some table
    → two_free table ≡ Some (new.ends.first, new.ends.second)
    → files'.tables ≡ with_named files.tables context.table.place context.table.index
    (with_ends_of context.place new.ends.flags (new.ends.first, new.ends.second) table))
    (wrote : PutsInts context.task new.ends own space shared areas) where
  abbrev put_there : Reach
  put_there = ints_put c.task c.space new.ends makes.hand

  same_ints : put_there ≡ ints_put context.task own new.ends makes.hand
  same_ints =
      ap (λ t. ints_put t c.space new.ends makes.hand) moving.task
      ∙ ap (λ s. ints_put context.task s new.ends makes.hand) moving.memory.space

  are_put : (space ≡ (ints_put context.task own new.ends makes.hand).space)
      × (areas ≡ with_hand (ints_put context.task own new.ends makes.hand).hand shared)
  are_put =
      wrote (parts k) makes.hand (are_those k shared moving.memory.areas)
      (ap (λ s. outcome_in (parts k) (access_row writable s new.ends.buffer 8)) (sym moving.memory.space)
      ∙ makes.granted)

  abbrev files_of : (place : ℕ) → OpenFiles → Caller → OpenFiles
  files_of place f caller = record {
    tables = with_named f.tables caller.table.place caller.table.index
        (with_ends_of place new.ends.flags (new.ends.first, new.ends.second) makes.table);
    descriptions = with_named (with_named f.descriptions place 0 (read_file place new.ends.flags)) place 1
        (write_file place new.ends.flags);
    pipes = with_named f.pipes place 0 new.pipe;
  }

  abbrev told : OpenFiles → AddressSpace → NamedMap AreaState → Kernel
  told f s a = with_memory c s a (record k { files = f })

  tables_are : files'.tables ≡ with_named files.tables c.table.place c.table.index
      (with_ends_of context.place new.ends.flags (new.ends.first, new.ends.second) makes.table)
  tables_are =
      opened makes.table
      (ap (λ (f : OpenFiles). get_named f.tables context.table.place context.table.index) (sym moving.files)
      ∙ ap (λ n. get_named k.files.tables n.place n.index) (sym moving.table) ∙ makes.there) makes.free
      ∙ ap (λ n. with_named files.tables n.place n.index
      (with_ends_of context.place new.ends.flags (new.ends.first, new.ends.second) makes.table)) (sym moving.table)

  files_are : files_of of_row.place k.files c ≡ files'
  files_are =
      ap (λ p. files_of p k.files c) place
      ∙ ap (λ f. files_of context.place f c) moving.files
      ∙ ap (λ t. record (files_of context.place files c) { tables = t }) (sym tables_are)
      ∙ ap (λ d. record (files_of context.place files c) { tables = files'.tables; descriptions = d }) (sym made)
      ∙ ap (λ p. record files' { pipes = p }) (sym placed)

  pub all_made : changed (pipe_made of_row c new.ends.buffer new.ends.flags makes.hand makes.table
      (new.ends.first, new.ends.second)).changes k ≡ told files' space areas
  all_made =
      areas_changed put_there.hand (told (record (files_of of_row.place k.files c) {
        pipes = with_named k.files.pipes of_row.place 0 new_pipe;
      }) put_there.space k.areas)
      ∙ ap (λ p. told (record (files_of of_row.place k.files c) {
        pipes = with_named k.files.pipes of_row.place 0 p;
      }) put_there.space (with_hand put_there.hand k.areas)) (sym makes.empty)
      ∙ ap (λ f. told f put_there.space (with_hand put_there.hand k.areas)) files_are
      ∙ ap (λ m. told files' put_there.space (with_hand put_there.hand m)) moving.memory.areas
      ∙ ap (λ (r : Reach). told files' r.space (with_hand r.hand shared)) same_ints
      ∙ ap (λ s. told files' s (with_hand (ints_put context.task own new.ends makes.hand).hand shared)) (sym are_put.0)
      ∙ ap (λ a. told files' space a) (sym are_put.1)
