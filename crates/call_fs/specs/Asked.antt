-- What a call asks for, as far as it is on what is open.
use Rattle.std.specs.Prelude.{◌≡◌, ⊤, ℕ, min, Bool, Option, Some, false, true, []}
use Rattle.sn_errno.specs.declared.calls.CallNo.{CallNo}
use Rattle.sn_errno.specs.declared.calls.CallNo.TheVariants.{Pipe2, Read, Readv, Write, Writev}
use Rattle.kernel_calls.specs.Families.{is_on_files}
use Rattle.kernel_calls.specs.declared.prepared.Prepared.{Prepared}
use Rattle.kernel_model.specs.declared.caller.Caller.{Caller}
use Rattle.kernel_model.specs.calls.Answers.{Answer}
use Rattle.kernel_model.specs.calls.ReadWrite.{read_row, readv_row, write_row, writev_row}
use Rattle.kernel_model.specs.declared.limits.TheConstants.{MOST_MOVED}
use Rattle.kernel_model.specs.entries.Areas.{access_row}
use Rattle.kernel_model.specs.entries.Parts.{Parts, Prog, uses}
use Rattle.mm_areas.specs.declared.rights.Rights.{Rights}
use Rattle.mm_space.specs.Spaces.{AddressSpace}
use Rattle.call_fs.specs.declared.moving.By.{By}
use Rattle.call_fs.specs.declared.moving.By.TheVariants.{Buffer, Records}
use Rattle.call_fs.specs.declared.calls.Asked.{Asked}
use Rattle.call_fs.specs.declared.calls.Asked.TheVariants as asked

-- the calls that read and that write, by one buffer or by records of several
-- read(2), write(2), readv(2)
abbrev pub read_call : By → CallNo
read_call Buffer = Read
read_call Records = Readv

abbrev pub write_call : By → CallNo
write_call Buffer = Write
write_call Records = Writev

-- their rows
-- read(2), write(2), readv(2)
abbrev pub read_row_by : By → (fd at count : ℕ) → Caller → Prog Answer
read_row_by Buffer fd at count c = read_row fd at count c
read_row_by Records fd at count c = readv_row fd at count c

abbrev pub write_row_by : By → (fd at count : ℕ) → Caller → Prog Answer
write_row_by Buffer fd at count c = write_row fd at count c
write_row_by Records fd at count c = writev_row fd at count c

-- which call it is that asks for a read, for a write or for a pipe; and one that is of another family is not on what is
-- open
-- read(2); write(2); readv(2); pipe(2)
abbrev pub IsAsked : Asked → Option CallNo → Type 0
IsAsked (asked.Reads by) call = call ≡ Some (read_call by)
IsAsked (asked.Writes by) call = call ≡ Some (write_call by)
IsAsked asked.Pipes call = call ≡ Some Pipe2
IsAsked (asked.Changes p) call = ⊤
IsAsked asked.Others call = is_on_files call ≡ false

-- a fact of what was prepared, where a call changes what is open
-- profile
abbrev pub IfChanges : Asked → (Prepared → Type 0) → Type 0
IfChanges (asked.Reads by) fact = ⊤
IfChanges (asked.Writes by) fact = ⊤
IfChanges asked.Pipes fact = ⊤
IfChanges (asked.Changes p) fact = fact p
IfChanges asked.Others fact = ⊤

-- a call that waits has told that it looked at shared areas where it may have: where its buffer asked for one, as far
-- as it is moved, or where it looked for records
-- read(2); readv(2); mmap(2), MAP_SHARED
abbrev pub LooksNowhereElse : By → (told : Bool) → Rights → AddressSpace → (at count : ℕ) → Type 0
LooksNowhereElse Buffer told right space at count =
    told ≡ false → (s : Parts) → uses s (access_row right space at (min count MOST_MOVED)) ≡ []
LooksNowhereElse Records told right space at count = told ≡ true
