-- Memory byte by byte, as accesses see it.
use Rattle.std.specs.Prelude.{◌≡◌, ⊤, ℕ, zero, suc, ◌+◌, ◌*◌, ◌%◌, ◌^◌, Bool, Option, Some, None, Result, Ok, Err}
use Rattle.rv_table.specs.declared.error.Area.{Area}
use Rattle.rv_table.specs.declared.error.MemErr.{MemErr}
use Rattle.rv_table.specs.declared.error.MemErr.TheVariants as refusals

-- what a byte is to an access: it has a value, it may not be accessed, or it lies in a shared area not handed in
-- mmap(2), PROT_READ, PROT_WRITE and PROT_EXEC; shared areas: profile
pub data Byte : Type 0 where
  Holds : ℕ → Byte
  Barred : Byte
  InArea : Area → Byte

-- memory as a task has it: what the byte at each address is to a fetch, to a load and to a store; and whether the task
-- has a reservation of that address and so many bytes
-- RISC-V Unprivileged ISA 20191213, 1.4, Memory; 8.2, Load-Reserved/Store-Conditional Instructions
pub record SeenMemory : Type 0 where
  pub code : ℕ → Byte
  pub data_ : ℕ → Byte
  pub room : ℕ → Byte
  pub reserves : (address width : ℕ) → Bool

-- the address behind another: addresses go round at 2^64
-- RISC-V Unprivileged ISA 20191213, 1.4, Memory
abbrev pub behind : ℕ → ℕ
behind address = (address + 1) % 2 ^ 64

-- the first of so many bytes from an address on that may not be accessed
-- profile
abbrev pub or_barred : Byte → ℕ → Option ℕ → Option ℕ
or_barred Barred address rest = Some address
or_barred (Holds value) address rest = rest
or_barred (InArea area) address rest = rest

unfoldable pub first_barred : (ℕ → Byte) → (address count : ℕ) → Option ℕ
first_barred byte address zero = None
first_barred byte address (suc n) = or_barred (byte address) address (first_barred byte (behind address) n)

-- the area of the first of so many bytes that lie in one
-- profile
abbrev pub or_area : Byte → Option Area → Option Area
or_area (InArea area) rest = Some area
or_area Barred rest = rest
or_area (Holds value) rest = rest

unfoldable pub first_area : (ℕ → Byte) → (address count : ℕ) → Option Area
first_area byte address zero = None
first_area byte address (suc n) = or_area (byte address) (first_area byte (behind address) n)

-- the number of so many bytes, the lowest first
-- RISC-V Unprivileged ISA 20191213, 1.4: little-endian
abbrev pub value_in : Byte → ℕ
value_in (Holds value) = value
value_in Barred = 0
value_in (InArea area) = 0

unfoldable pub number_from : (ℕ → Byte) → (address count : ℕ) → ℕ
number_from byte address zero = 0
number_from byte address (suc n) = value_in (byte address) + 256 * number_from byte (behind address) n

-- what an access to so many bytes comes to: each of them is tested before any is looked at
-- RISC-V Unprivileged ISA 20191213, 2.6, Load and Store Instructions; that a byte without the right goes first: profile
pub data Accessed : Type 0 where
  Value : ℕ → Accessed
  Fault : ℕ → Accessed
  Shared : Area → Accessed

abbrev pub by_area : Option Area → ℕ → Accessed
by_area None value = Value value
by_area (Some area) value = Shared area

abbrev pub by_barred : Option ℕ → Accessed → Accessed
by_barred None accessed = accessed
by_barred (Some address) accessed = Fault address

unfoldable pub loaded : (ℕ → Byte) → (address width : ℕ) → Accessed
loaded byte address width =
    by_barred (first_barred byte address width)
    (by_area (first_area byte address width) (number_from byte address width))

-- an answer of memory is what the access comes to, or want of memory
-- profile
abbrev pub AnswersAs : Accessed → Result ℕ MemErr → Type 0
AnswersAs accessed (Ok value) = accessed ≡ Value value
AnswersAs accessed (Err (refusals.Fault address)) = accessed ≡ Fault address
AnswersAs accessed (Err (refusals.Shared area)) = accessed ≡ Shared area
AnswersAs accessed (Err refusals.Memory) = ⊤

-- the answer of an access that only tests bytes, or stores, is what the access comes to, or want of memory
-- profile
abbrev pub AllowsAs : Accessed → Result ⊤ MemErr → Type 0
AllowsAs (Value value) (Ok done) = ⊤
AllowsAs (Fault address) (Err (refusals.Fault told)) = told ≡ address
AllowsAs (Shared area) (Err (refusals.Shared told)) = told ≡ area
AllowsAs accessed (Err refusals.Memory) = ⊤
AllowsAs _ _ = ⊥
