-- What the row of getrandom comes to.
use Rattle.std.proofs.Common.{◌≡◌, ℕ, ◌+◌, ◌<◌, ◌≤◌, ◌%◌, ◌^◌, nat_lt, min, true, false, List, refl, ap, sym, ◌∙◌}
use Rattle.std.proofs.Common.{subst}
use Rattle.std.proofs.lemmas.Bool.{lt-ltb, le-ltb}
use Rattle.sn_errno.specs.declared.errno.Errno.TheVariants.{EINVAL}
use Rattle.futex_core.specs.Waiters.{FutexList}
use Rattle.task_table.specs.Table.{TaskTable}
use Rattle.mm_space.specs.Handed.{AreaState}
use Rattle.mm_space.specs.Spaces.{AddressSpace}
use Rattle.kernel_model.specs.Names.{NamedMap}
use Rattle.kernel_model.specs.declared.caller.Caller.{Caller}
use Rattle.kernel_model.specs.declared.kernel.Kernel.{Kernel}
use Rattle.kernel_model.specs.machine.Random.{random_at}
use Rattle.kernel_model.specs.calls.Answers.{refuses}
use Rattle.kernel_model.specs.calls.Buffers.{fills}
use Rattle.kernel_model.specs.calls.Callers.{Context as RowContext, context_of}
use Rattle.kernel_model.specs.declared.limits.TheConstants.{MOST_RANDOM}
use Rattle.kernel_model.specs.calls.RandomBytes.{getrandom_row}
use Rattle.kernel_model.specs.entries.Parts.{done}
use Rattle.kernel_calls.specs.Prepared.{Answers, IsCalling}
use Rattle.kernel_calls.specs.declared.context.Context.{Context}
use Rattle.kernel_calls.specs.declared.prepared.Prepared.{Prepared}

-- flags that are refused, and those that are not
pub row_refused : (context : RowContext) (buffer count flags : ℕ) (c : Caller) → 7 < flags % 2 ^ 32
    → getrandom_row context buffer count flags c ≡ done (refuses EINVAL)
row_refused context buffer count flags c more =
    let is : nat_lt 7 (flags % 2 ^ 32) ≡ true = lt-ltb 7 (flags % 2 ^ 32) more in rw is refl

row_taken : (context : RowContext) (buffer count flags : ℕ) (c : Caller) → flags % 2 ^ 32 ≤ 7
    → getrandom_row context buffer count flags c
    ≡ fills c buffer (random_at context.seed context.place (min count MOST_RANDOM)) (min count MOST_RANDOM)
row_taken context buffer count flags c few =
    let is : nat_lt 7 (flags % 2 ^ 32) ≡ false = le-ltb 7 (flags % 2 ^ 32) few in rw is refl

-- the bytes of the code's place and seed are those of the row
pub random_filled : (p : Prepared) (c : Caller) (k : Kernel) (context : Context) (own space : AddressSpace)
    (shared areas : NamedMap AreaState) (list : TaskTable) (waiting : FutexList) (console buffer count flags : ℕ)
    → IsCalling c k context own shared list waiting console → flags % 2 ^ 32 ≤ 7 → (n reply : ℕ) (bytes : List ℕ)
    → n ≡ min count MOST_RANDOM → reply ≡ n → bytes ≡ random_at context.seed.now context.place n
    → Answers (fills c buffer bytes reply) p c k space areas
    → Answers (getrandom_row (context_of k) buffer count flags c) p c k space areas
random_filled p c k context own space shared areas list waiting console buffer count flags calling few n reply bytes
    least same are answers =
    subst (λ row. Answers row p c k space areas) (sym (
    row_taken (context_of k) buffer count flags c few
    ∙ ap (λ m. fills c buffer (random_at k.seed (k.entries + 1) m) m) (sym least)
    ∙ ap (λ s. fills c buffer (random_at s (k.entries + 1) n) n) calling.seed
    ∙ ap (λ i. fills c buffer (random_at context.seed.now i n) n) calling.place
    ∙ ap (λ bs. fills c buffer bs n) (sym are)
    ∙ ap (fills c buffer bytes) (sym same))) answers
