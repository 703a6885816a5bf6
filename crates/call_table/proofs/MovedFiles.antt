-- What calls that move bytes, or make a pipe, leave of what is open as it was.
use Rattle.std.proofs.Common.{◌≡◌, ℕ, false, List, refl, ap, sym, ◌∙◌, subst}
use Rattle.std.specs.Prelude.{Option, Some, None, take}
use Rattle.std.specs.Option.{option_map_or}
use Rattle.fd_table.specs.Tables.{Table}
use Rattle.pipe_core.specs.Pipes.{PipeState, after_read, after_write, new_pipe}
use Rattle.sn_base.specs.declared.made.Made.{Made}
use Rattle.mm_space.specs.Handed.{AreaState, InHand}
use Rattle.mm_space.specs.Spaces.{AddressSpace, Reach}
use Rattle.kernel_model.specs.Names.{NamedMap, get_named, with_named}
use Rattle.kernel_model.specs.declared.caller.Caller.{Caller}
use Rattle.kernel_model.specs.declared.kernel.Kernel.{Kernel}
use Rattle.kernel_model.specs.declared.open_files.OpenFiles.{OpenFiles}
use Rattle.kernel_model.specs.calls.Answers.{Answer}
use Rattle.kernel_model.specs.calls.Callers.{Context as RowContext}
use Rattle.kernel_model.specs.calls.Vectors.{gathered}
use Rattle.kernel_model.specs.calls.Pipes.{pipe_made, read_end_at, two_ints, with_ends_of, write_end_at}
use Rattle.kernel_model.specs.entries.Areas.{written_with}
use Rattle.kernel_model.specs.entries.Parts.{Prog, changed, outcome_in, parts}
use Rattle.guest_access.specs.Memories.{with_memory}
use Rattle.kernel_calls.specs.declared.context.Context.{Context}
use Rattle.guest_access.proofs.KernelAreas.{areas_changed}
use Rattle.call_fs.specs.CallEnd.{MayLack}
use Rattle.call_fs.specs.Pipes.{MakesPipe, read_file, write_file}
use Rattle.call_fs.specs.Transfers.{IsMoving, after_transfer, appended_by, by_bytes, put_by, with_pipe}
use Rattle.call_fs.specs.Records.{buffers_in}
use Rattle.call_fs.specs.declared.pipes.NewPipe.{NewPipe}
use Rattle.call_fs.specs.declared.transfers.Transfer.{Transfer}
use Rattle.call_fs.specs.declared.transfers.Transfer.TheVariants.{Nothing, Takes, Puts, Appends}
use Rattle.parked_tasks.specs.Untouched.{AreUntouched, FilesMove}
use Rattle.parked_tasks.specs.Used.{same_made}
use Rattle.parked_tasks.specs.declared.touched.Touched.{Touched}
use Rattle.parked_tasks.proofs.TouchedFiles.{none_of, other_stays}
use Rattle.call_table.specs.Moving.{may_have_read, one_pipe, touched_by_pipe, touched_by_transfer}

-- ---- bytes that are moved

all_left : (touched : Touched) (files : OpenFiles) → AreUntouched touched files files
all_left touched files = record {
  tables = λ q apart. refl;
  descriptions = λ q apart. refl;
  pipes = λ q apart. refl;
}

-- a pipe that is another, where one is there
pipe_alone : (change : PipeState → PipeState) (name : Made) (files : OpenFiles)
    → AreUntouched (one_pipe name) files (with_pipe change name files)
pipe_alone change name files = by (get_named files.pipes name.place name.index)
  where
    by : (o : Option PipeState) → AreUntouched (one_pipe name) files
        (option_map_or (λ pipe. record files {
          pipes = with_named files.pipes name.place name.index (change pipe);
        }) o files)
    by None = all_left (one_pipe name) files
    by (Some pipe) = record {
      tables = λ q apart. refl;
      descriptions = λ q apart. refl;
      pipes = λ q apart.
          other_stays name q (Some (change pipe)) files.pipes (none_of (same_made q name) false apart).0;
    }

put_alone : (pipe : Made) (taken : ℕ) (k : Kernel) (bytes : Option (List ℕ))
    → AreUntouched (one_pipe pipe) k.files (by_bytes (put_by pipe taken) bytes k).files
put_alone pipe taken k None = all_left (one_pipe pipe) k.files
put_alone pipe taken k (Some bytes) = pipe_alone (λ p. after_write p (take taken bytes)) pipe k.files

console_alone : (k : Kernel) (bytes : Option (List ℕ)) → (by_bytes appended_by bytes k).files ≡ k.files
console_alone k None = refl
console_alone k (Some bytes) = refl

pub transfer_leaves : (transfer : Transfer) (space : AddressSpace) (k : Kernel)
    → FilesMove (touched_by_transfer transfer) k.files (after_transfer transfer space k).files
transfer_leaves Nothing space k = refl
transfer_leaves (Takes pipe count) space k = pipe_alone (λ p. after_read p count) pipe k.files
transfer_leaves (Puts pipe from taken) space k =
    put_alone pipe taken k (outcome_in (parts k) (gathered space (buffers_in from)))
transfer_leaves (Appends from) space k =
    console_alone k (outcome_in (parts k) (gathered space (buffers_in from)))

-- what may have changed no area takes memory
pub only_read : (transfer : Transfer) → may_have_read transfer ≡ false → MayLack transfer
only_read Nothing e = absurd (cc e)
only_read (Takes pipe count) e = absurd (cc e)
only_read (Puts pipe from taken) e = tt
only_read (Appends from) e = tt

-- ---- a pipe that is made

module _ (of_row : RowContext) (c : Caller) (buffer flags : ℕ) (hand : List InHand) (table : Table) (fds : ℕ × ℕ)
    (k : Kernel) where
  abbrev reach : Reach
  reach = written_with c.task c.space buffer (two_ints fds) hand

  abbrev made_files : OpenFiles
  made_files = record {
    tables = with_named k.files.tables c.table.place c.table.index (with_ends_of of_row.place flags fds table);
    descriptions =
        with_named (with_named k.files.descriptions of_row.place 0 (read_file of_row.place flags)) of_row.place 1
        (write_file of_row.place flags);
    pipes = with_named k.files.pipes of_row.place 0 new_pipe;
  }

  files_are : (changed (pipe_made of_row c buffer flags hand table fds).changes k).files ≡ made_files
  files_are =
      ap (λ (m : Kernel). m.files) (areas_changed reach.hand (record k {
        files = made_files;
        spaces = with_named k.spaces c.memory.place c.memory.index reach.space;
      }))

  ends_alone : AreUntouched (touched_by_pipe c.table of_row.place) k.files made_files
  ends_alone = record {
    tables = λ q apart.
        other_stays c.table q (Some (with_ends_of of_row.place flags fds table)) k.files.tables apart;
    descriptions = λ q apart.
        let both = none_of (same_made q (read_end_at of_row.place)) (same_made q (write_end_at of_row.place)) apart in
        other_stays (write_end_at of_row.place) q (Some (write_file of_row.place flags))
        (with_named k.files.descriptions of_row.place 0 (read_file of_row.place flags)) both.1
        ∙ other_stays (read_end_at of_row.place) q (Some (read_file of_row.place flags)) k.files.descriptions both.0;
    pipes = λ q apart.
        other_stays (read_end_at of_row.place) q (Some new_pipe) k.files.pipes
        (none_of (same_made q (read_end_at of_row.place)) false apart).0;
  }

  pub pipe_leaves : (name : Made) (place : ℕ) (before after : OpenFiles) → c.table ≡ name → of_row.place ≡ place
      → k.files ≡ before → (changed (pipe_made of_row c buffer flags hand table fds).changes k).files ≡ after
      → AreUntouched (touched_by_pipe name place) before after
  pipe_leaves name place before after named placed was is =
      subst (λ n. AreUntouched (touched_by_pipe n place) before after) named
      (subst (λ p. AreUntouched (touched_by_pipe c.table p) before after) placed
      (subst (λ f. AreUntouched (touched_by_pipe c.table of_row.place) f after) was
      (subst (λ f. AreUntouched (touched_by_pipe c.table of_row.place) k.files f) (sym files_are ∙ is) ends_alone)))

-- what was done to make a pipe
abbrev pub PipeDone : NewPipe → Context → (own space : AddressSpace) → (shared areas : NamedMap AreaState)
    → (before after : OpenFiles) → Type 0
PipeDone new context own space shared areas before after =
    (row : Prog Answer) (c : Caller) (k : Kernel) (console : ℕ) (of_row : RowContext)
    (makes : MakesPipe row new of_row c k) → of_row.place ≡ context.place
    → IsMoving c k context own shared before console
    → changed (pipe_made of_row c new.ends.buffer new.ends.flags makes.hand makes.table
    (new.ends.first, new.ends.second)).changes k
    ≡ with_memory c space areas (record k { files = after })
