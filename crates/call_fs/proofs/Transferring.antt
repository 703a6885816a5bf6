-- What is open, and the console, after a transfer.
use Rattle.std.proofs.Common.{◌≡◌, ℕ, ℤ, Bool, List, [], take, Option, Some, None, Result, Ok, Err}
use Rattle.std.proofs.Common.{OnOk, OnErr, ap, sym, ◌∙◌}
use Rattle.std.specs.Option.{option_map_or}
use Rattle.pipe_core.specs.Pipes.{PipeState, after_write}
use Rattle.sn_base.specs.declared.made.Made.{Made}
use Rattle.mm_space.specs.Handed.{AreaState}
use Rattle.mm_space.specs.Spaces.{AddressSpace}
use Rattle.kernel_model.specs.Names.{NamedMap, get_named, with_named}
use Rattle.kernel_model.specs.declared.caller.Caller.{Caller}
use Rattle.kernel_model.specs.declared.kernel.Kernel.{Kernel}
use Rattle.kernel_model.specs.declared.open_files.OpenFiles.{OpenFiles}
use Rattle.kernel_model.specs.calls.Answers.{Answer, replies}
use Rattle.kernel_model.specs.entries.Parts.{Prog, outcome_in, parts}
use Rattle.kernel_model.proofs.NamedMaps.{with_same}
use Rattle.guest_access.specs.Sending.{Sent}
use Rattle.kernel_calls.proofs.Answering.{kept_memory}
use Rattle.call_fs.specs.Transfers.{AnswersTransfer, HasMemory, Moves, after_transfer, by_bytes, put_by}
use Rattle.call_fs.specs.declared.transfers.Transfer.{Transfer}
use Rattle.call_fs.specs.declared.transfers.Transfer.TheVariants.{Nothing}
use Rattle.call_fs.specs.declared.transfers.Transferred.{Transferred}
use Rattle.call_fs.specs.declared.transfers.Transferred.TheVariants.{Replies, Waits}

-- ---- results

pub on_err : {A E : Type 0} (r : Result A E) {P : Type 0} → P → OnErr r P
on_err (Ok a) fact = tt
on_err (Err e) fact = fact

pub on_ok : {A E : Type 0} (r : Result A E) {P Q : Type 0} → (P → Q) → OnOk r P → OnOk r Q
on_ok (Ok a) more fact = more fact
on_ok (Err e) more fact = tt

-- ---- what a call comes to

-- a call that changes nothing
pub answers_nothing : (row : Prog Answer) (reply : ℤ) (c : Caller) (k : Kernel) (own : AddressSpace)
    (shared : NamedMap AreaState) → HasMemory c k own shared → outcome_in (parts k) row ≡ replies reply []
    → AnswersTransfer row reply Nothing c k own shared
answers_nothing row reply c k own shared has is = record {
  changes = [];
  row_is = is;
  done_is = sym (kept_memory c k own shared has.there (sym has.space) (sym has.areas));
}

-- two rows that come to the same are answered alike
pub moves_alike : (row other : Prog Answer) (t : Transferred) (c : Caller) (k : Kernel) (space : AddressSpace)
    (areas : NamedMap AreaState) → outcome_in (parts k) row ≡ outcome_in (parts k) other
    → Moves other t c k space areas → Moves row t c k space areas
moves_alike row other (Replies reply transfer) c k space areas is answers =
    record { changes = answers.changes; row_is = is ∙ answers.row_is; done_is = answers.done_is }
moves_alike row other (Waits pipe) c k space areas is answers = (is ∙ answers.0, answers.1, answers.2)

-- memory with areas that are the same
pub memory_on : (c : Caller) (k : Kernel) (own : AddressSpace) (shared other : NamedMap AreaState) → other ≡ shared
    → HasMemory c k own shared → HasMemory c k own other
memory_on c k own shared other same has =
    record { space = has.space; there = has.there; areas = has.areas ∙ sym same }

-- ---- what is done

module _ (name : Made) (files : OpenFiles) (p p' : PipeState)
    (there : get_named files.pipes name.place name.index ≡ Some p) where
  abbrev with_it : PipeState → OpenFiles
  with_it q = record files { pipes = with_named files.pipes name.place name.index q }

  -- a pipe that is as it was
  pub same_pipe : p' ≡ p → with_it p' ≡ files
  same_pipe same =
      ap with_it same ∙ ap (λ m. record files { pipes = m }) (with_same files.pipes name.place name.index p there)

  -- bytes that were put, or a buffer that could not be read
  pub bytes_put : (k : Kernel) (taken : ℕ) (o : Option (List ℕ)) (sent : Bool) → k.files ≡ files
      → Sent o sent taken p p' → by_bytes (put_by name taken) o k ≡ record k { files = with_it p' }
  bytes_put k taken None sent same is = sym (ap (λ f. record k { files = f }) (same_pipe is.1 ∙ sym same))
  bytes_put k taken (Some bytes) sent same is =
      ap (λ f. put_by name taken bytes (record k { files = f })) same
      ∙ ap (λ o. record k {
        files = option_map_or (λ q. with_it (after_write q (take taken bytes))) o files;
      }) there
      ∙ ap (λ q. record k { files = with_it q }) (sym is.1)

-- what was done to what is open alone, or to the console alone
pub files_done : (transfer told : Transfer) (space : AddressSpace) (k : Kernel) (files : OpenFiles) (console : List ℕ)
    → transfer ≡ told → k.console ≡ console → after_transfer told space k ≡ record k { files = files }
    → after_transfer transfer space k ≡ record k { files = files; console = console }
files_done transfer told space k files console is same does =
    ap (λ t. after_transfer t space k) is ∙ does ∙ ap (λ b. record k { files = files; console = b }) same

pub console_done : (transfer told : Transfer) (space : AddressSpace) (k : Kernel) (files : OpenFiles)
    (console : List ℕ) → transfer ≡ told → k.files ≡ files
    → after_transfer told space k ≡ record k { console = console }
    → after_transfer transfer space k ≡ record k { files = files; console = console }
console_done transfer told space k files console is same does =
    ap (λ t. after_transfer t space k) is ∙ does ∙ ap (λ f. record k { files = f; console = console }) same
