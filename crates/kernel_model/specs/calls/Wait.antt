-- wait4: a parent learns how a child ended.
use Rattle.std.specs.Prelude.{ℕ, ◌-◌, ◌%◌, ◌^◌, ◌==◌, ◌&&◌, ◌||◌, nat_lt, [], ◌∷◌, Bool, Option, Some, None}
use Rattle.std.specs.Prelude.{pos, if◌then◌else◌}
use Rattle.std.specs.Int.{to_le_bytes, w32}
use Rattle.sn_errno.specs.declared.errno.Errno.TheVariants.{ECHILD, EFAULT, EINVAL}
use Rattle.mm_space.specs.Spaces.{Reach}
use Rattle.task_table.specs.declared.task.ReapEnd.{ReapEnd}
use Rattle.task_table.specs.declared.task.ReapEnd.TheVariants.{Reaped, NotYet, NoChild}
use Rattle.task_table.specs.declared.task.Status.{Status}
use Rattle.task_table.specs.Reaps.{after_reap, reap_end}
use Rattle.task_table.specs.Status.{status_number}
use Rattle.task_table.specs.Table.{TaskTable}
use Rattle.kernel_model.specs.declared.caller.Caller.{Caller}
use Rattle.kernel_model.specs.declared.kernel.Part.TheVariants.{OfTasks}
use Rattle.kernel_model.specs.calls.Answers.{Answer, replies, refuses, not_ready}
use Rattle.kernel_model.specs.entries.Areas.{bytes_written, reach_changes}
use Rattle.kernel_model.specs.entries.Parts.{Prog, done, look, ◌>>=◌}

-- which child is asked for, by the low 32 bits of a register: any by -1, one by its number, which is above 0
-- wait4(2), pid; that 0 and the numbers of process groups are refused: profile
abbrev pub any_child : ℕ
any_child = 2 ^ 32 - 1

abbrev pub is_child_asked : (child : ℕ) → Bool
is_child_asked child = (child == any_child) || (nat_lt 0 child && nat_lt child (2 ^ 31))

abbrev pub asked_child : (child : ℕ) → Option ℕ
asked_child child = if child == any_child then None else Some child

-- the options: none, or WNOHANG, which is 1
-- wait4(2), options; that no other is taken: profile
abbrev pub is_option : (options : ℕ) → Bool
is_option options = (options == 0) || (options == 1)

-- a child that has ended is nobody's child any more, and its number is the reply
-- wait4(2), RETURN VALUE
abbrev pub reaps : Caller → TaskTable → (child : ℕ) → Status → Option Reach → Answer
reaps c list child status None = refuses EFAULT
reaps c list child status (Some reach) =
    replies (pos child) ((OfTasks, after_reap list (Reaped child status)) ∷ reach_changes c.memory reach)

-- its status is put at an address, or nowhere where that is 0; where it may not be put there nothing is done
-- wait4(2), wstatus; EFAULT
abbrev pub reaps_at : Caller → TaskTable → (address child : ℕ) → Status → Prog Answer
reaps_at c list address child status =
    if address == 0
    then done (replies (pos child) ((OfTasks, after_reap list (Reaped child status)) ∷ []))
    else bytes_written c.task c.space address (to_le_bytes w32 (status_number status))
    >>= λ reach. done (reaps c list child status reach)

-- by what waiting for a child comes to
-- wait4(2), ERRORS: ECHILD; WNOHANG
abbrev pub by_child : Caller → TaskTable → (address options : ℕ) → ReapEnd → Prog Answer
by_child c list address options NoChild = done (refuses ECHILD)
by_child c list address options NotYet = if options == 1 then done (replies (pos 0) []) else done not_ready
by_child c list address options (Reaped child status) = reaps_at c list address child status

-- wait4(child, address, options, usage): a child of the caller's thread group that has ended, of lowest number; child
-- and options are the low 32 bits, and no usage is told
-- wait4(2), ERRORS: EINVAL, ECHILD, EFAULT; their order: profile
abbrev pub wait4_of : (child address options usage : ℕ) → Caller → Prog Answer
wait4_of child address options usage c =
    if is_child_asked child && is_option options && (usage == 0)
    then look OfTasks (λ list. by_child c list address options (reap_end list.groups c.group (asked_child child)))
    else done (refuses EINVAL)

abbrev pub wait4_row : (child address options usage : ℕ) → Caller → Prog Answer
wait4_row child address options usage c = wait4_of (child % 2 ^ 32) address (options % 2 ^ 32) usage c
