-- What reads into buffers come to.
use Rattle.std.proofs.Common.{◌≡◌, ℕ, ℤ, Bool, true, false, List, [], ◌∷◌, ◌++◌, length, take, Option, Some}
use Rattle.std.proofs.Common.{None, refl, ap, sym, subst, ◌∙◌}
use Rattle.std.specs.Prelude.{pos, if◌then◌else◌}
use Rattle.std.specs.Option.{option_map_or}
use Rattle.sn_errno.specs.declared.errno.Errno.TheVariants.{EBADF, EFAULT}
use Rattle.sn_base.specs.declared.made.Made.{Made}
use Rattle.fd_table.specs.declared.description.Description.{Description}
use Rattle.fd_table.specs.declared.description.Object.{Object}
use Rattle.fd_table.specs.declared.description.Object.TheVariants.{PipeEnd}
use Rattle.fd_table.specs.declared.description.PipeSide.{PipeSide}
use Rattle.pipe_core.specs.Pipes.{PipeState, after_read}
use Rattle.mm_space.specs.Accesses.{writable}
use Rattle.mm_space.specs.Handed.{AreaState}
use Rattle.mm_space.specs.Spaces.{AddressSpace, Reach}
use Rattle.stat_layout.specs.IoVecs.{total_of}
use Rattle.stat_layout.specs.declared.iovec.IoVec.{IoVec}
use Rattle.kernel_model.specs.Names.{NamedMap, get_named, with_named}
use Rattle.kernel_model.specs.declared.caller.Caller.{Caller}
use Rattle.kernel_model.specs.declared.kernel.Kernel.{Kernel}
use Rattle.kernel_model.specs.declared.kernel.Part.TheVariants.{OfPipe}
use Rattle.kernel_model.specs.declared.open_files.OpenFiles.{OpenFiles}
use Rattle.kernel_model.specs.calls.Answers.{Answer, refuses, replies}
use Rattle.kernel_model.specs.calls.Lookups.{or_refuse}
use Rattle.kernel_model.specs.calls.ReadWrite.{from_pipe, moved, put_into, reads_into, reads_of}
use Rattle.kernel_model.specs.calls.Vectors.{are_accessible, scattered}
use Rattle.kernel_model.specs.entries.Areas.{reach_changes}
use Rattle.kernel_model.specs.entries.Parts.{Change, Prog, done, outcome_in, parts}
use Rattle.kernel_model.proofs.Trees.{outcome-bind}
use Rattle.guest_access.specs.Lending.{with_hand}
use Rattle.guest_access.specs.Memories.{with_memory}
use Rattle.guest_access.specs.Trying.{Wrote}
use Rattle.kernel_calls.specs.declared.context.Context.{Context}
use Rattle.guest_access.proofs.KernelAreas.{areas_changed}
use Rattle.call_fs.specs.Transfers.{AnswersTransfer, HasMemory, IsReading}
use Rattle.call_fs.specs.declared.lookups.FileInHand.{FileInHand}
use Rattle.call_fs.specs.declared.transfers.Transfer.TheVariants.{Takes}

-- a task at a call, with areas that are the same
pub reading_on : (c : Caller) (k : Kernel) (context : Context) (own : AddressSpace) (shared other : NamedMap AreaState)
    (opened : FileInHand) → other ≡ shared → IsReading c k context own shared opened
    → IsReading c k context own other opened
reading_on c k context own shared other opened same reading =
    subst (λ m. IsReading c k context own m opened) (sym same) reading

-- ---- whether it is tested

pub into_by : (c : Caller) (k : Kernel) (own : AddressSpace) (d : Description) (buffers : List IoVec) (allowed : Bool)
    → c.space ≡ own → outcome_in (parts k) (are_accessible writable own buffers) ≡ allowed
    → outcome_in (parts k) (reads_into c d buffers)
    ≡ outcome_in (parts k) (if allowed then reads_of c d.nonblock buffers d.object else done (refuses EFAULT))
into_by c k own d buffers allowed same is =
    outcome-bind (parts k) (are_accessible writable c.space buffers)
    (λ all. if all then reads_of c d.nonblock buffers d.object else done (refuses EFAULT))
    ∙ ap (λ all. outcome_in (parts k)
    (if all then reads_of c d.nonblock buffers d.object else done (refuses EFAULT)))
    (ap (λ s. outcome_in (parts k) (are_accessible writable s buffers)) same ∙ is)

-- ---- which pipe it is

pub of_pipe : (c : Caller) (k : Kernel) (nonblock : Bool) (buffers : List IoVec) (object : Object) (name : Made)
    (side : PipeSide) (pipe : Option PipeState) → object ≡ PipeEnd name side
    → get_named k.files.pipes name.place name.index ≡ pipe
    → outcome_in (parts k) (reads_of c nonblock buffers object)
    ≡ outcome_in (parts k) (or_refuse EBADF (from_pipe c nonblock buffers name) pipe)
of_pipe c k nonblock buffers object name side pipe is there =
    ap (λ o. outcome_in (parts k) (reads_of c nonblock buffers o)) is
    ∙ ap (λ o. outcome_in (parts k) (or_refuse EBADF (from_pipe c nonblock buffers name) o)) there

-- ---- what is put

module _ (c : Caller) (k : Kernel) (task : ℕ) (own space : AddressSpace) (shared areas : NamedMap AreaState)
    (name : Made) (pipe : PipeState) (buffers : List IoVec) (count : ℕ) (runs : List ℕ) (same : c.task ≡ task)
    (has : HasMemory c k own shared) (there : get_named k.files.pipes name.place name.index ≡ Some pipe)
    (all : count ≡ total_of buffers) (are : runs ≡ take count pipe.bytes) where
  abbrev reached : Option Reach
  reached = outcome_in (parts k) (scattered task own runs buffers)

  abbrev taking : (count : ℕ) → List Change
  taking count = (OfPipe name, Some (after_read pipe count)) ∷ []

  abbrev puts : (count : ℕ) → Prog Answer
  puts count = put_into c buffers (take count pipe.bytes) (taking count)

  comes : outcome_in (parts k) (puts (total_of buffers)) ≡ moved c (length runs) (taking count) reached
  comes =
      ap (λ n. outcome_in (parts k) (puts n)) (sym all)
      ∙ outcome-bind (parts k) (scattered c.task c.space (take count pipe.bytes) buffers)
      (λ reach. done (moved c (length (take count pipe.bytes)) (taking count) reach))
      ∙ ap (λ t. moved c (length (take count pipe.bytes)) (taking count)
      (outcome_in (parts k) (scattered t c.space (take count pipe.bytes) buffers))) same
      ∙ ap (λ s. moved c (length (take count pipe.bytes)) (taking count)
      (outcome_in (parts k) (scattered task s (take count pipe.bytes) buffers))) has.space
      ∙ ap (λ bs. moved c (length bs) (taking count)
      (outcome_in (parts k) (scattered task own bs buffers))) (sym are)

  abbrev with_it : PipeState → OpenFiles
  with_it p = record k.files { pipes = with_named k.files.pipes name.place name.index p }

  abbrev put_back : Kernel
  put_back = record k { files = with_it (after_read pipe count) }

  refused_by : (o : Option Reach) (wrote : Bool) → reached ≡ o → Wrote o wrote own space shared areas
      → wrote ≡ false
      → (outcome_in (parts k) (puts (total_of buffers)) ≡ refuses EFAULT) × (space ≡ own) × (areas ≡ shared)
  refused_by None wrote is w so =
      (comes ∙ ap (λ o. moved c (length runs) (taking count) o) is, w.1, w.2)
  refused_by (Some r) wrote is w so = absurd (cc (w.0, so))

  -- nothing was put,
  pub take_refused : (wrote : Bool) → Wrote reached wrote own space shared areas → wrote ≡ false
      → (outcome_in (parts k) (puts (total_of buffers)) ≡ refuses EFAULT) × (space ≡ own) × (areas ≡ shared)
  take_refused wrote w so = refused_by reached wrote refl w so

  taken_by : (o : Option Reach) (wrote : Bool) (reply : ℤ) → reached ≡ o → Wrote o wrote own space shared areas
      → wrote ≡ true → reply ≡ pos (length runs)
      → AnswersTransfer (puts (total_of buffers)) reply (Takes name count) c k space areas
  taken_by None wrote reply is w so told = absurd (cc (w.0, so))
  taken_by (Some r) wrote reply is w so told = record {
    changes = taking count ++ reach_changes c.memory r;
    row_is =
        comes ∙ ap (λ o. moved c (length runs) (taking count) o) is
        ∙ ap (λ v. replies v (taking count ++ reach_changes c.memory r)) (sym told);
    done_is =
        areas_changed r.hand (with_memory c r.space k.areas put_back)
        ∙ ap (λ m. with_memory c r.space (with_hand r.hand m) put_back) has.areas
        ∙ ap (λ m. with_memory c r.space m put_back) (sym w.2)
        ∙ ap (λ s. with_memory c s areas put_back) (sym w.1)
        ∙ ap (λ o. with_memory c space areas (record k {
          files = option_map_or (λ p. with_it (after_read p count)) o k.files;
        })) (sym there);
  }

  -- and the bytes were put
  pub take_answers : (wrote : Bool) (reply : ℤ) → Wrote reached wrote own space shared areas → wrote ≡ true
      → reply ≡ pos (length runs)
      → AnswersTransfer (puts (total_of buffers)) reply (Takes name count) c k space areas
  take_answers wrote reply w so told = taken_by reached wrote reply refl w so told
