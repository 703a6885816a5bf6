-- What the row of clock_gettime comes to.
use Rattle.std.proofs.Common.{◌≡◌, ℕ, ◌*◌, ◌/◌, ◌%◌, ◌<◌, ◌≤◌, nat_lt, true, false, List, refl, ap, sym, ◌∙◌}
use Rattle.std.proofs.Common.{subst, arith}
use Rattle.std.proofs.lemmas.Bool.{lt-ltb, le-ltb}
use Rattle.sn_errno.specs.declared.errno.Errno.TheVariants.{EINVAL}
use Rattle.futex_core.specs.Waiters.{FutexList}
use Rattle.task_table.specs.Table.{TaskTable}
use Rattle.mm_space.specs.Handed.{AreaState}
use Rattle.mm_space.specs.Spaces.{AddressSpace}
use Rattle.kernel_model.specs.Names.{NamedMap}
use Rattle.kernel_model.specs.declared.caller.Caller.{Caller}
use Rattle.kernel_model.specs.declared.kernel.Kernel.{Kernel}
use Rattle.kernel_model.specs.calls.Answers.{refuses}
use Rattle.kernel_model.specs.calls.Buffers.{fills}
use Rattle.kernel_model.specs.calls.Callers.{Context as RowContext, context_of}
use Rattle.kernel_model.specs.calls.Time.{clock_gettime_row, time_at, timespec}
use Rattle.kernel_model.specs.entries.Parts.{done}
use Rattle.kernel_calls.specs.Prepared.{Answers, IsCalling}
use Rattle.kernel_calls.specs.declared.context.Context.{Context}
use Rattle.kernel_calls.specs.declared.prepared.Prepared.{Prepared}

-- 1,000,000 entries are a second
pub seconds_of : (place : ℕ) → 1000 * place / 1000000000 ≡ place / 1000000
seconds_of place = omega arith

pub nanoseconds_of : (place : ℕ) → 1000 * place % 1000000000 ≡ place % 1000000 * 1000
nanoseconds_of place = omega arith

-- a clock that there isn't
pub clock_refused : (context : RowContext) (id buffer : ℕ) (c : Caller) → 1 < id
    → clock_gettime_row context id buffer c ≡ done (refuses EINVAL)
clock_refused context id buffer c more = let is : nat_lt 1 id ≡ true = lt-ltb 1 id more in rw is refl

clock_taken : (context : RowContext) (id buffer : ℕ) (c : Caller) → id ≤ 1
    → clock_gettime_row context id buffer c ≡ fills c buffer (timespec (time_at context.place)) 0
clock_taken context id buffer c few = let is : nat_lt 1 id ≡ false = le-ltb 1 id few in rw is refl

-- the time of the code's place is that of the row
pub clock_filled : (p : Prepared) (c : Caller) (k : Kernel) (context : Context) (own space : AddressSpace)
    (shared areas : NamedMap AreaState) (list : TaskTable) (waiting : FutexList) (console id buffer : ℕ)
    → IsCalling c k context own shared list waiting console → id ≤ 1 → (bytes : List ℕ)
    → bytes ≡ timespec (time_at context.place) → Answers (fills c buffer bytes 0) p c k space areas
    → Answers (clock_gettime_row (context_of k) id buffer c) p c k space areas
clock_filled p c k context own space shared areas list waiting console id buffer calling few bytes are answers =
    subst (λ row. Answers row p c k space areas) (sym (
    clock_taken (context_of k) id buffer c few
    ∙ ap (λ i. fills c buffer (timespec (time_at i)) 0) calling.place
    ∙ ap (λ bs. fills c buffer bs 0) (sym are))) answers
