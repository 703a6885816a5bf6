-- Reading messages from left to right, with the first fault that is met.
use Rattle.std.specs.Prelude.{◌≡◌, ⊤, ℕ, zero, suc, ◌==◌, ◌&&◌, not, nat_lt, Bool, List, [], ◌∷◌, length}
use Rattle.std.specs.Prelude.{take, drop, slice_range, Option, Some, None, is_some, Result, Ok, Err, if◌then◌else◌}
use Rattle.sn_bytes.specs.Fields.{field, field_at}
use Rattle.sn_text.specs.Names.{name_fault_of}
use Rattle.lisafs_wire.specs.declared.fault.WireFault.{WireFault}
use Rattle.lisafs_wire.specs.declared.fault.WireFault.TheVariants as faults
use Rattle.lisafs_wire.specs.declared.fault.DecodeError.{DecodeError}
use Rattle.lisafs_wire.specs.declared.fault.DecodeError.TheVariants as errors
use Rattle.lisafs_wire.specs.Fields.{Field, Number, Name, Data, Value, Num, Bytes}
use Rattle.lisafs_wire.specs.Grammar.{Groups, Without, Counted, Layout, layout_of}
use Rattle.lisafs_wire.specs.Spelling.{Message}

-- what is read, and the bytes behind it; or the first fault
-- profile
abbrev pub Read : Type 0 → Type 0
Read A = Result (A × List ℕ) WireFault

infixl 10 ◌>>=◌
abbrev pub ◌>>=◌ : {A B : Type 0} → Result A WireFault → (A → Result B WireFault) → Result B WireFault
(Ok x) >>= f = f x
(Err e) >>= f = Err e

-- what a function answered, seen by a view, is what reading gives
-- profile
abbrev pub Gives : {A B : Type 0} → (A → B) → Result A WireFault → Result B WireFault → Type 0
Gives view (Ok x) read = read ≡ Ok (view x)
Gives view (Err fault) read = read ≡ Err fault

-- the same, unless memory ran out
-- malloc(3), ENOMEM
abbrev pub Fails : {B : Type 0} → DecodeError → Result B WireFault → Type 0
Fails (errors.Fault fault) read = read ≡ Err fault
Fails errors.Memory read = ⊤

abbrev pub GivesIfRoom : {A B : Type 0} → (A → B) → Result A DecodeError → Result B WireFault → Type 0
GivesIfRoom view (Ok x) read = read ≡ Ok (view x)
GivesIfRoom view (Err e) read = Fails e read

-- so many bytes of the front, where they are there: else a field passes the message's length
-- profile
abbrev pub bytes_at : ℕ → List ℕ → Read (List ℕ)
bytes_at count bytes =
    if nat_lt (length bytes) count then Err faults.Length else Ok (take count bytes, drop count bytes)

-- a number in so many bytes of the front
-- profile
abbrev pub known : Option ℕ → ℕ → List ℕ → Read ℕ
known None width bytes = Err faults.Length
known (Some n) width bytes = Ok (n, drop width bytes)

abbrev pub number_at : ℕ → List ℕ → Read ℕ
number_at width bytes = known (field_at width 0 bytes) width bytes

-- bytes are no name
-- path_resolution(7); NAME_MAX
abbrev pub is_name : List ℕ → Bool
is_name bytes = not (is_some (name_fault_of bytes))

-- the value of a field at the front; a number out of its range, data that is too long and bytes that are no name are
-- the fault of the field, and data's length is looked at before its bytes
-- gVisor package lisafs; order of faults: profile
unfoldable pub value_at : Field → List ℕ → Read Value
value_at (Number width is_allowed) bytes = do
  n ← number_at width bytes
  if is_allowed n.0 then Ok (Num n.0, n.1) else Err faults.Field
value_at Name bytes = do
  size ← number_at 2 bytes
  name ← bytes_at size.0 size.1
  if is_name name.0 then Ok (Bytes name.0, name.1) else Err faults.Field
value_at (Data most) bytes = do
  size ← number_at 4 bytes
  found ← if nat_lt most size.0 then Err faults.Field else bytes_at size.0 size.1
  Ok (Bytes found.0, found.1)

-- the values of fields, one after another
-- profile
abbrev pub values_at : List Field → List ℕ → Read (List Value)
values_at [] bytes = Ok ([], bytes)
values_at (field ∷ fields) bytes = do
  value ← value_at field bytes
  values ← values_at fields value.1
  Ok (value.0 ∷ values.0, values.1)

-- so many groups of fields, one after another
-- profile
unfoldable pub groups_at : List Field → ℕ → List ℕ → Read (List (List Value))
groups_at fields zero bytes = Ok ([], bytes)
groups_at fields (suc count) bytes = do
  group ← values_at fields bytes
  groups ← groups_at fields count group.1
  Ok (group.0 ∷ groups.0, groups.1)

-- what stands behind the fields
-- profile
abbrev pub behind_at : Groups → List ℕ → Read (List (List Value))
behind_at Without bytes = Ok ([], bytes)
behind_at (Counted is_allowed fields) bytes = do
  count ← number_at 2 bytes
  if is_allowed count.0 then groups_at fields count.0 count.1 else Err faults.Field

-- all that stands behind a header, where a table has that number
-- profile
abbrev pub body_at : ℕ → Layout → List ℕ → Read Message
body_at number layout bytes = do
  values ← values_at layout.fields bytes
  groups ← behind_at layout.groups values.1
  Ok (record { number = number; values = values.0; groups = groups.0 }, groups.1)

-- the body of a message with that number, where a table has it
-- profile
abbrev pub laid_out_at : ℕ → Option Layout → List ℕ → Read Message
laid_out_at number None bytes = Err faults.Unknown
laid_out_at number (Some layout) bytes = body_at number layout bytes

abbrev pub numbered_at : List (ℕ × Layout) → ℕ → List ℕ → Read Message
numbered_at table number bytes = laid_out_at number (layout_of table number) bytes

-- the front of a message: its number, the zero, the bytes of its body, and those behind the message
-- gVisor package lisafs, sockHeader
pub record Front : Type 0 where
  pub number : ℕ
  pub zero_field : ℕ
  pub body : List ℕ
  pub more : List ℕ

-- the front of the bytes: the length is looked at by itself, and then beside the bytes that are there
-- gVisor package lisafs, sockHeader; order of faults: profile
unfoldable pub front_at : List ℕ → Result Front WireFault
front_at bytes =
    let size = field 4 0 bytes in
    if nat_lt (length bytes) 8 then Err faults.Short
    else if nat_lt size 8 then Err faults.Length
    else if nat_lt (length bytes) size then Err faults.Short
    else Ok (
    record {
      number = field 2 4 bytes;
      zero_field = field 2 6 bytes;
      body = slice_range bytes 8 size;
      more = drop size bytes;
    }
    )

-- a front whose number is known, and whose zero is one
-- gVisor package lisafs, sockHeader; order of faults: profile
abbrev pub checked_front : Bool → Front → Result Front WireFault
checked_front is_known front =
    if not is_known then Err faults.Unknown else if not (front.zero_field == 0) then Err faults.Field else Ok front

-- the front of the bytes, where a table has its number
-- profile
abbrev pub header_at : List (ℕ × Layout) → List ℕ → Result Front WireFault
header_at table bytes = do
  front ← front_at bytes
  checked_front (is_some (layout_of table front.number)) front

-- nothing is left of a body, and nothing stands behind the message
-- profile
abbrev pub is_all : (rest more : List ℕ) → Bool
is_all rest more = length rest == 0 && (length more == 0)

-- a message of the table that is all of the bytes, or their first fault
-- gVisor package lisafs; order of faults: profile
unfoldable pub message_at : List (ℕ × Layout) → List ℕ → Result Message WireFault
message_at table bytes = do
  front ← header_at table bytes
  found ← numbered_at table front.number front.body
  if is_all found.1 front.more then Ok found.0 else Err faults.Trailing
