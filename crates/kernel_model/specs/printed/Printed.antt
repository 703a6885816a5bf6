-- The text of a run: the console, the groups, and where it is asked for the trace.
use Rattle.std.specs.Prelude.{ℕ, ◌+◌, ◌==◌, ℤ, List, [], ◌∷◌, ◌++◌, Bool, true, Option, Some, None, codes}
use Rattle.std.specs.Prelude.{if◌then◌else◌}
use Rattle.std.specs.Int.{cast_signed, w64}
use Rattle.std.specs.Fmt.{decimal, signed_decimal}
use Rattle.std.specs.List.{flat_map}
use Rattle.std.specs.FinMap as map
use Rattle.kernel_model.specs.declared.kernel.Kernel.{Kernel}
use Rattle.task_table.specs.declared.task.Group.{Group}
use Rattle.task_table.specs.declared.task.Status.{Status}
use Rattle.task_table.specs.declared.task.Status.TheVariants.{Exited, Killed}
use Rattle.kernel_model.specs.declared.entry.Entry.{Entry}
use Rattle.kernel_model.specs.declared.entry.Entry.TheVariants.{Run, Call, Sleep, End}
use Rattle.kernel_model.specs.declared.entry.Args.{Args}
use Rattle.sn_errno.specs.declared.calls.CallNo.{CallNo}
use Rattle.sn_errno.specs.declared.calls.CallNo.TheVariants.{Exit, ExitGroup}
use Rattle.sn_errno.specs.Calls.{call_numbered, call_name}

-- the bytes end with a newline, or there are none
-- profile
abbrev pub is_closed : List ℕ → Bool
is_closed [] = true
is_closed (c ∷ []) = c == 10
is_closed (c ∷ d ∷ cs) = is_closed (d ∷ cs)

-- the console's bytes, and a newline where they do not end with one
-- profile
abbrev pub console_text : List ℕ → List ℕ
console_text console = if is_closed console then console else console ++ 10 ∷ []

-- how a group stands: it lives, or ended by a code or a signal
-- profile
abbrev pub status_text : Option Status → List ℕ
status_text None = codes "live"
status_text (Some (Exited code)) = codes "exit " ++ decimal code
status_text (Some (Killed signal)) = codes "signal " ++ decimal signal

-- the line of a group
-- profile
abbrev pub group_text : ℕ × Group → List ℕ
group_text entry = codes "group " ++ decimal entry.0 ++ codes " " ++ status_text entry.1.ended ++ codes "\n"

-- the lines of the groups, ascending
-- profile
abbrev pub groups_text : List (ℕ × Group) → List ℕ
groups_text groups = flat_map group_text groups

-- an argument as a signed number of 64 bits
-- profile
abbrev pub argument_text : ℕ → List ℕ
argument_text a = codes " " ++ signed_decimal (cast_signed w64 a)

abbrev pub arguments_text : Args → List ℕ
arguments_text args =
    argument_text args.a0 ++ argument_text args.a1 ++ argument_text args.a2
    ++ argument_text args.a3 ++ argument_text args.a4 ++ argument_text args.a5

-- the reply of a call; exit and exit_group have none
-- exit_group(2), RETURN VALUE; profile
abbrev pub reply_by : Option CallNo → ℤ → List ℕ
reply_by (Some Exit) reply = codes "?"
reply_by (Some ExitGroup) reply = codes "?"
reply_by _ reply = signed_decimal reply

abbrev pub reply_text : (number : ℕ) → ℤ → List ℕ
reply_text number reply = reply_by (call_numbered number) reply

-- the line of an entry at a place, where it has one
-- profile
abbrev pub entry_text : ℕ → Entry → List ℕ
entry_text place (Run task n) = []
entry_text place (Call task number args given reply) =
    decimal place ++ codes " " ++ decimal task ++ codes " " ++ call_name number ++ arguments_text args
    ++ codes " = " ++ reply_text number reply ++ codes "\n"
entry_text place (Sleep task) = []
entry_text place (End task signal) =
    decimal place ++ codes " " ++ decimal task ++ codes " signal " ++ decimal signal ++ codes "\n"

-- the lines of a trace whose first entry has that place
-- profile
abbrev pub trace_text : ℕ → List Entry → List ℕ
trace_text place [] = []
trace_text place (entry ∷ entries) = entry_text place entry ++ trace_text (place + 1) entries

-- the text of a run
-- profile
abbrev pub printed : Kernel → List Entry → Bool → List ℕ
printed k trace flag =
    console_text k.console ++ groups_text (map.entries k.tasks.groups) ++ (if flag then trace_text 1 trace else [])
