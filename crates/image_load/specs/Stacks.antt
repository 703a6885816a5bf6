-- The end of an opening task's stack: what stands from the stack pointer up, word by word and byte by byte.
use Rattle.std.specs.Prelude.{◌≡◌, ◌⊎◌, ℕ, ◌+◌, ◌-◌, ◌*◌, ◌/◌, ◌^◌, ◌<◌, ◌≤◌, List, [], ◌∷◌, ◌++◌, length, map, take}
use Rattle.std.specs.Prelude.{replicate, sum_by, slice_get, slice_index, slice_range, Some}
use Rattle.std.specs.List.{flat_map, range_with_len}
use Rattle.sn_bytes.specs.Fields.{field, little_bytes}
use Rattle.elf_image.specs.declared.header.TheConstants.{PROGRAM_HEADER_SIZE}
use Rattle.image_load.specs.declared.stack.Auxiliary.{Auxiliary}
use Rattle.image_load.specs.declared.stack.OpeningStack.{OpeningStack}
use Rattle.image_load.specs.declared.stack.LoadErr.{LoadErr}
use Rattle.image_load.specs.declared.stack.LoadErr.TheVariants.{TooBig, Limit, Memory}
use Rattle.image_load.specs.declared.strings.TheConstants.{MOST_STRINGS, MOST_STRING_BYTES}

-- what a program is started with: its strings, sixteen random bytes, and what the auxiliary vector tells of its image
-- execve(2); getauxval(3)
pub record ProgramStart : Type 0 where
  pub args : List (List ℕ)
  pub env : List (List ℕ)
  pub random : List ℕ
  pub auxiliary : Auxiliary

-- what a program is given: its strings, and sixteen random bytes
-- execve(2); getauxval(3), AT_RANDOM
pub record ProgramGiven : Type 0 where
  pub args : List (List ℕ)
  pub env : List (List ℕ)
  pub random : List ℕ

-- what it is started with, by what it's given and what it's told of its image
-- execve(2); getauxval(3)
abbrev pub started : ProgramGiven → Auxiliary → ProgramStart
started given auxiliary =
    record { args = given.args; env = given.env; random = given.random; auxiliary = auxiliary }

-- the bytes of strings that stand one after another, each with its NUL
-- execve(2): null-terminated strings
abbrev pub strings_bytes : List (List ℕ) → List ℕ
strings_bytes strings = flat_map (λ string. string ++ 0 ∷ []) strings

-- how many bytes they take
-- execve(2): null-terminated strings
abbrev pub strings_length : List (List ℕ) → ℕ
strings_length strings = sum_by (λ string. length string + 1) strings

-- how many bytes they take with the pointer to each
-- execve(2), Limits on size of arguments and environment; that no other pointer counts: profile
abbrev pub strings_room : List (List ℕ) → ℕ
strings_room strings = strings_length strings + 8 * length strings

-- there are more strings than there may be, or they take more bytes with their pointers than they may
-- execve(2), E2BIG; the two numbers: profile
abbrev pub IsTooBig : (args env : List (List ℕ)) → Type 0
IsTooBig args env =
    (MOST_STRINGS < length args + length env) ⊎ (MOST_STRING_BYTES < strings_room args + strings_room env)

-- they are few enough, and short enough
-- execve(2), E2BIG; the two numbers: profile
abbrev pub AreShort : (args env : List (List ℕ)) → Type 0
AreShort args env =
    (length args + length env ≤ MOST_STRINGS) × (strings_room args + strings_room env ≤ MOST_STRING_BYTES)

-- what a refusal may tell of strings: that they are too big, or want of memory where they aren't
-- execve(2), E2BIG and ENOMEM; order of the errors: profile
abbrev pub IsStackFaultOf : (args env : List (List ℕ)) → LoadErr → Type 0
IsStackFaultOf args env TooBig = IsTooBig args env
IsStackFaultOf args env Limit = ⊥
IsStackFaultOf args env Memory = AreShort args env

-- the first address above the stack
-- profile
abbrev pub stack_top : ℕ
stack_top = 2 ^ 38

-- where the random bytes stand
-- getauxval(3), AT_RANDOM; that it is there: profile
abbrev pub random_address : ℕ
random_address = stack_top - 16

-- where the strings begin, which end below the random bytes, those of the environment behind the arguments
-- execve(2); that they end there: profile
abbrev pub args_address : ProgramStart → ℕ
args_address start = random_address - (strings_length start.args + strings_length start.env)

-- where the strings of the environment begin
-- execve(2); that they stand behind the arguments: profile
abbrev pub env_address : ProgramStart → ℕ
env_address start = args_address start + strings_length start.args

-- where the first so many strings stand, one behind the other: each behind all those before it
-- execve(2), argv and envp
abbrev pub first_addresses : (first : ℕ) → List (List ℕ) → (count : ℕ) → List ℕ
first_addresses first strings count = map (λ k. first + strings_length (take k strings)) (range_with_len 0 count)

-- where all of them stand
-- execve(2), argv and envp
abbrev pub addresses : (first : ℕ) → List (List ℕ) → List ℕ
addresses first strings = first_addresses first strings (length strings)

-- the auxiliary vector, an entry a line: its type and its value
-- getauxval(3); RISC-V ELF psABI and Linux's auxvec.h: the numbers; which entries there are: profile
abbrev pub auxiliary_vector : Auxiliary → List ℕ
auxiliary_vector auxiliary =
    (3 ∷ auxiliary.headers ∷ [])  -- AT_PHDR
    ++ (4 ∷ PROGRAM_HEADER_SIZE ∷ [])  -- AT_PHENT
    ++ (5 ∷ auxiliary.header_count ∷ [])  -- AT_PHNUM
    ++ (6 ∷ 4096 ∷ [])  -- AT_PAGESZ
    ++ (9 ∷ auxiliary.entry ∷ [])  -- AT_ENTRY
    ++ (25 ∷ random_address ∷ [])  -- AT_RANDOM
    ++ (0 ∷ 0 ∷ [])  -- AT_NULL

-- the words that tell where strings stand: how many arguments there are, and two lists of pointers that a 0 ends
-- RISC-V ELF psABI and System V ABI, Process Initialization
unfoldable pub pointer_words : (args_first env_first : ℕ) → (args env : List (List ℕ)) → List ℕ
pointer_words args_first env_first args env =
    (length args ∷ [])  -- argc
    ++ addresses args_first args  -- argv
    ++ (0 ∷ [])  -- its end
    ++ addresses env_first env  -- envp
    ++ (0 ∷ [])  -- its end

-- the words from the stack pointer up
-- RISC-V ELF psABI and System V ABI, Process Initialization
unfoldable pub stack_words : ProgramStart → List ℕ
stack_words start =
    pointer_words (args_address start) (env_address start) start.args start.env
    ++ auxiliary_vector start.auxiliary

-- how many bytes the words take
-- RISC-V ELF psABI: words of 8 bytes
abbrev pub words_length : ProgramStart → ℕ
words_length start = 8 * (length start.args + length start.env + 17)

-- the stack pointer: the greatest multiple of 16 that leaves room for the words below the strings
-- RISC-V ELF psABI, Integer Calling Convention: the stack is aligned to 16 bytes
abbrev pub stack_pointer : ProgramStart → ℕ
stack_pointer start = (args_address start - words_length start) / 16 * 16

-- the bytes from the stack pointer to the top
-- System V ABI, Process Initialization; zeros between, and what stands at the end: profile
unfoldable pub stack_bytes : ProgramStart → List ℕ
stack_bytes start =
    flat_map (little_bytes 8) (stack_words start)
    ++ replicate (args_address start - words_length start - stack_pointer start) 0
    ++ strings_bytes start.args
    ++ strings_bytes start.env
    ++ start.random

-- the word at an index, from the stack pointer up
-- RISC-V ELF psABI: words of 8 bytes, the lowest byte first
abbrev pub word_at : OpeningStack → (index : ℕ) → ℕ
word_at stack index = field 8 (8 * index) stack.bytes

-- who follows an address finds these bytes
-- memcpy(3)
abbrev pub AreBytesAt : OpeningStack → (address : ℕ) → List ℕ → Type 0
AreBytesAt stack address bytes =
    (stack.sp ≤ address) × (slice_range stack.bytes (address - stack.sp) (address - stack.sp + length bytes) ≡ bytes)

-- what a program finds that reads the words where they stand, and follows each address
-- System V ABI, Process Initialization; getauxval(3)
pub record IsStackOf (start : ProgramStart) (stack : OpeningStack) : Type 0 where
  pub argc : word_at stack 0 ≡ length start.args
  pub argv : (k : ℕ) (string : List ℕ) → slice_get start.args k ≡ Some string →
      AreBytesAt stack (word_at stack (1 + k)) (string ++ 0 ∷ [])
  pub argv_end : word_at stack (1 + length start.args) ≡ 0
  pub envp : (k : ℕ) (string : List ℕ) → slice_get start.env k ≡ Some string →
      AreBytesAt stack (word_at stack (2 + length start.args + k)) (string ++ 0 ∷ [])
  pub envp_end : word_at stack (2 + length start.args + length start.env) ≡ 0
  pub auxv : (k : ℕ) → k < 14 →
      word_at stack (3 + length start.args + length start.env + k) ≡ slice_index (auxiliary_vector start.auxiliary) k
  pub random : AreBytesAt stack (word_at stack (3 + length start.args + length start.env + 11)) start.random
