-- What writes from buffers come to.
use Rattle.std.proofs.Common.{◌≡◌, ℕ, ℤ, ◌≤◌, Bool, List, [], ◌∷◌, ◌++◌, length, take, min, Option}
use Rattle.std.proofs.Common.{Some, None, refl, ap, sym, ◌∙◌, arith, append-nil, option_map}
use Rattle.std.specs.Prelude.{pos}
use Rattle.std.specs.Option.{option_map_or}
use Rattle.std.proofs.lemmas.List.{take_min}
use Rattle.sn_errno.specs.declared.errno.Errno.TheVariants.{EBADF, EFAULT}
use Rattle.sn_base.specs.declared.made.Made.{Made}
use Rattle.fd_table.specs.declared.description.Description.{Description}
use Rattle.fd_table.specs.declared.description.Object.{Object}
use Rattle.fd_table.specs.declared.description.Object.TheVariants.{PipeEnd}
use Rattle.fd_table.specs.declared.description.PipeSide.{PipeSide}
use Rattle.pipe_core.specs.Pipes.{PipeState, after_write, room_in}
use Rattle.mm_space.specs.Handed.{AreaState}
use Rattle.mm_space.specs.Spaces.{AddressSpace}
use Rattle.stat_layout.specs.IoVecs.{total_of}
use Rattle.stat_layout.specs.declared.iovec.IoVec.{IoVec}
use Rattle.kernel_model.specs.Names.{NamedMap, get_named, with_named}
use Rattle.kernel_model.specs.declared.caller.Caller.{Caller}
use Rattle.kernel_model.specs.declared.kernel.Kernel.{Kernel}
use Rattle.kernel_model.specs.declared.kernel.Part.TheVariants.{OfConsole, OfPipe}
use Rattle.kernel_model.specs.declared.open_files.OpenFiles.{OpenFiles}
use Rattle.kernel_model.specs.calls.Answers.{replies}
use Rattle.kernel_model.specs.calls.Lookups.{or_refuse}
use Rattle.kernel_model.specs.calls.ReadWrite.{to_pipe, writes_of}
use Rattle.kernel_model.specs.calls.Vectors.{gathered, if_some}
use Rattle.kernel_model.specs.entries.Areas.{bytes_read}
use Rattle.kernel_model.specs.entries.Parts.{Parts, done, ◌>>=◌, outcome_in, parts}
use Rattle.kernel_model.proofs.Trees.{outcome-bind}
use Rattle.guest_access.specs.Memories.{with_memory}
use Rattle.kernel_calls.proofs.Answering.{kept_memory}
use Rattle.call_fs.specs.Records.{buffers_in}
use Rattle.call_fs.specs.Transfers.{AnswersTransfer, HasMemory, FitsPipe, IsGathered, after_transfer, appended_by}
use Rattle.call_fs.specs.Transfers.{by_bytes, put_by, writes_from}
use Rattle.call_fs.specs.declared.vectors.Buffers.{Buffers}
use Rattle.call_fs.specs.declared.transfers.Transfer.TheVariants.{Appends, Puts}

-- ---- the bytes of one buffer

behind_none : (s : Parts) (space : AddressSpace) (o : Option (List ℕ))
    → outcome_in s (if_some (λ first. gathered space []
    >>= λ rest. done (option_map (λ bytes. first ++ bytes) rest)) o) ≡ o
behind_none s space None = refl
behind_none s space (Some first) = ap Some (append-nil first)

pub gathered_one : (s : Parts) (space : AddressSpace) (b : IoVec)
    → outcome_in s (gathered space (b ∷ [])) ≡ outcome_in s (bytes_read space b.base b.length)
gathered_one s space b =
    outcome-bind s (bytes_read space b.base b.length)
    (if_some (λ first. gathered space [] >>= λ rest. done (option_map (λ bytes. first ++ bytes) rest)))
    ∙ behind_none s space (outcome_in s (bytes_read space b.base b.length))

-- what is written, by the bytes
pub writes_by : (c : Caller) (k : Kernel) (own : AddressSpace) (d : Description) (buffers : List IoVec)
    (bytes : Option (List ℕ)) → c.space ≡ own → outcome_in (parts k) (gathered own buffers) ≡ bytes
    → outcome_in (parts k) (writes_from c d buffers)
    ≡ outcome_in (parts k) (or_refuse EFAULT (λ bytes. writes_of d.nonblock bytes d.object) bytes)
writes_by c k own d buffers bytes same is =
    outcome-bind (parts k) (gathered c.space buffers) (or_refuse EFAULT (λ bytes. writes_of d.nonblock bytes d.object))
    ∙ ap (λ o. outcome_in (parts k) (or_refuse EFAULT (λ bytes. writes_of d.nonblock bytes d.object) o))
    (ap (λ s. outcome_in (parts k) (gathered s buffers)) same ∙ is)

-- ---- where they go

module _ (c : Caller) (k : Kernel) (own : AddressSpace) (shared : NamedMap AreaState) (from : Buffers)
    (count : ℕ) (bytes : List ℕ) (has : HasMemory c k own shared) (is : IsGathered (buffers_in from) own k bytes)
    (all : count ≡ total_of (buffers_in from)) where
  kept : with_memory c own shared k ≡ k
  kept = kept_memory c k own shared has.there (sym has.space) (sym has.areas)

  -- behind those of a pipe,
  pub put_answers : (name : Made) (pipe : PipeState) (reply : ℤ) (taken : ℕ)
      → get_named k.files.pipes name.place name.index ≡ Some pipe → taken ≡ min count (room_in pipe)
      → reply ≡ pos taken
      → AnswersTransfer (done (replies (pos (min (length bytes) (room_in pipe)))
      ((OfPipe name, Some (after_write pipe (take (room_in pipe) bytes))) ∷ [])))
      reply (Puts name from taken) c k own shared
  put_answers name pipe reply taken there so told = record {
    changes = (OfPipe name, Some (after_write pipe (take (room_in pipe) bytes))) ∷ [];
    row_is =
        ap (λ n. replies (pos n) ((OfPipe name, Some (after_write pipe (take (room_in pipe) bytes))) ∷ []))
        (omega (arith, so, is.1, all))
        ∙ ap (λ v. replies v ((OfPipe name, Some (after_write pipe (take (room_in pipe) bytes))) ∷ [])) (sym told);
    done_is =
        ap (λ bs. record k { files = with_it (after_write pipe bs) }) (sym front)
        ∙ ap (λ o. record k { files = option_map_or (λ p. with_it (after_write p (take taken bytes))) o k.files })
        (sym there)
        ∙ ap (λ o. by_bytes (put_by name taken) o k) (sym is.0)
        ∙ ap (after_transfer (Puts name from taken) own) (sym kept);
  }
    where
      with_it : PipeState → OpenFiles
      with_it p = record k.files { pipes = with_named k.files.pipes name.place name.index p }

      front : take taken bytes ≡ take (room_in pipe) bytes
      front =
          ap (λ n. take n bytes) (omega (arith, so, is.1, all)) ∙ take_min (room_in pipe) bytes

  -- or of the console
  pub append_answers : (reply : ℤ) → reply ≡ pos count
      → AnswersTransfer (done (replies (pos (length bytes)) ((OfConsole, k.console ++ bytes) ∷ []))) reply
      (Appends from) c k own shared
  append_answers reply told = record {
    changes = (OfConsole, k.console ++ bytes) ∷ [];
    row_is =
        ap (λ n. replies (pos n) ((OfConsole, k.console ++ bytes) ∷ [])) (is.1 ∙ sym all)
        ∙ ap (λ v. replies v ((OfConsole, k.console ++ bytes) ∷ [])) (sym told);
    done_is =
        ap (λ o. by_bytes appended_by o k) (sym is.0) ∙ ap (after_transfer (Appends from) own) (sym kept);
  }

-- there is room for them
pub put_sure : (files : OpenFiles) (name : Made) (pipe : PipeState) (from : Buffers) (count taken : ℕ)
    → count ≡ total_of (buffers_in from) → get_named files.pipes name.place name.index ≡ Some pipe
    → length pipe.bytes ≤ 65536 → taken ≡ min count (room_in pipe) → FitsPipe (Puts name from taken) files
put_sure files name pipe from count taken all there within so = (
  omega (arith, so, all),
  λ p is. let same : length p.bytes ≡ length pipe.bytes = cc (there, is) in
      omega (arith, so, within, same),
)

-- which object it is
pub written_to : (k : Kernel) (nonblock : Bool) (bytes : List ℕ) (object other : Object) → object ≡ other
    → outcome_in (parts k) (writes_of nonblock bytes object) ≡ outcome_in (parts k) (writes_of nonblock bytes other)
written_to k nonblock bytes object other is = ap (λ o. outcome_in (parts k) (writes_of nonblock bytes o)) is

pub to_pipe_of : (k : Kernel) (nonblock : Bool) (bytes : List ℕ) (object : Object) (name : Made) (side : PipeSide)
    (pipe : Option PipeState) → object ≡ PipeEnd name side → get_named k.files.pipes name.place name.index ≡ pipe
    → outcome_in (parts k) (writes_of nonblock bytes object)
    ≡ outcome_in (parts k) (or_refuse EBADF (λ pipe. done (to_pipe nonblock bytes name pipe)) pipe)
to_pipe_of k nonblock bytes object name side pipe is there =
    written_to k nonblock bytes object (PipeEnd name side) is
    ∙ ap (λ o. outcome_in (parts k) (or_refuse EBADF (λ pipe. done (to_pipe nonblock bytes name pipe)) o)) there
