-- What is done over shared areas: those that it asks for are handed in, one after another.
use Rattle.std.specs.Prelude.{ℕ, zero, suc, List, [], ◌∷◌, ◌++◌, length, Option, Some, None, option_map, is_some}
use Rattle.std.specs.Prelude.{if◌then◌else◌}
use Rattle.rv_table.specs.declared.error.Area.{Area}
use Rattle.rv_table.specs.Bytes.{Accessed, Value, Fault, Shared, loaded}
use Rattle.sn_base.specs.declared.made.Made.{Made}
use Rattle.mm_areas.specs.declared.rights.Rights.{Rights}
use Rattle.mm_space.specs.Accesses.{byte_at, readable, writable}
use Rattle.mm_space.specs.Handed.{AreaState, InHand, area_in}
use Rattle.mm_space.specs.Puts.{after_run_stored}
use Rattle.mm_space.specs.Runs.{bytes_from}
use Rattle.mm_space.specs.Spaces.{AddressSpace, Reach}
use Rattle.kernel_model.specs.declared.caller.Caller.{Caller}
use Rattle.kernel_model.specs.declared.kernel.Part.TheVariants.{OfTasks, OfTask, OfSpace, OfArea, OfTable}
use Rattle.kernel_model.specs.declared.kernel.Part.TheVariants.{OfDescription}
use Rattle.kernel_model.specs.declared.kernel.Part.TheVariants.{OfPipe, OfNode, OfSleepers, OfConsole, OfFaults}
use Rattle.kernel_model.specs.declared.traps.Next.{Next}
use Rattle.kernel_model.specs.declared.traps.Next.TheVariants.{Goes, Calls, Traps, Touches}
use Rattle.kernel_model.specs.machine.Instructions.{next_of}
use Rattle.kernel_model.specs.machine.Spaces.{reach_with, acting_with}
use Rattle.kernel_model.specs.entries.Parts.{Prog, done, look, ◌>>=◌, Change}

-- what is tried with some areas in hand comes to something, or asks for an area that is not in hand
-- mmap(2), MAP_SHARED; profile
pub data Tried (A : Type 0) : Type 0 where
  Comes : A → Tried A
  Asks : Area → Tried A

-- it goes on with an area more in hand; where the area is not there, or in hand already, it comes to what is said for
-- that
-- profile
abbrev pub handed_in : {A : Type 0} → A → (List InHand → Prog A) → List InHand → Area → Option AreaState
    → Prog A
handed_in lacking rest hand area None = done lacking
handed_in lacking rest hand area (Some state) = rest (hand ++ record { name = area; state = state } ∷ [])

abbrev pub asked : {A : Type 0} → A → (List InHand → Prog A) → List InHand → Tried A → Prog A
asked lacking rest hand (Comes a) = done a
asked lacking rest hand (Asks area) =
    if is_some (area_in area hand) then done lacking else look (OfArea area) (handed_in lacking rest hand area)

-- what it comes to with no more areas than are in hand
-- profile
abbrev pub comes_to : {A : Type 0} → A → Tried A → A
comes_to lacking (Comes a) = a
comes_to lacking (Asks area) = lacking

-- it is tried with what is in hand, and again with each area that it asks for, so many at most
-- profile
unfoldable pub tried_with : {A : Type 0} → (List InHand → Tried A) → A → (most : ℕ) → List InHand → Prog A
tried_with try lacking zero hand = done (comes_to lacking (try hand))
tried_with try lacking (suc n) hand = asked lacking (tried_with try lacking n) hand (try hand)

-- the most areas that are asked for: an instruction reaches four pages at most, and a buffer of 65,536 bytes 17
-- profile
abbrev pub most_areas : ℕ
most_areas = 17

abbrev pub trying : {A : Type 0} → (List InHand → Tried A) → A → Prog A
trying try lacking = tried_with try lacking most_areas []

-- ---- behind what has changed areas

-- an area as it was left in hand, or else as it is
-- profile
abbrev pub left_in : List InHand → Area → Option AreaState → Option AreaState
left_in hand name content = if is_some (area_in name hand) then area_in name hand else content

-- what is done where these areas have been left so
-- profile
abbrev pub over : {A : Type 0} → List InHand → Prog A → Prog A
over hand (done a) = done a
over hand (look (OfArea name) next) = look (OfArea name) (λ content. over hand (next (left_in hand name content)))
over hand (look OfTasks next) = look OfTasks (λ content. over hand (next content))
over hand (look (OfTask task) next) = look (OfTask task) (λ content. over hand (next content))
over hand (look (OfSpace name) next) = look (OfSpace name) (λ content. over hand (next content))
over hand (look (OfTable name) next) = look (OfTable name) (λ content. over hand (next content))
over hand (look (OfDescription name) next) = look (OfDescription name) (λ content. over hand (next content))
over hand (look (OfPipe name) next) = look (OfPipe name) (λ content. over hand (next content))
over hand (look (OfNode ino) next) = look (OfNode ino) (λ content. over hand (next content))
over hand (look OfSleepers next) = look OfSleepers (λ content. over hand (next content))
over hand (look OfConsole next) = look OfConsole (λ content. over hand (next content))
over hand (look OfFaults next) = look OfFaults (λ content. over hand (next content))

-- ---- an instruction

-- what the next instruction of a task does, and the shared areas that it needs for that
-- RISC-V Unprivileged ISA 20191213, 1.2; areas in hand: profile
pub record Stands : Type 0 where
  pub next : Next
  pub hand : List InHand

abbrev pub stands_by : List InHand → Next → Tried Stands
stands_by hand Goes = Comes (record { next = Goes; hand = hand })
stands_by hand Calls = Comes (record { next = Calls; hand = hand })
stands_by hand (Traps signal) = Comes (record { next = Traps signal; hand = hand })
stands_by hand (Touches area) = Asks area

abbrev pub next_tried : Caller → List InHand → Tried Stands
next_tried c hand = stands_by hand (next_of (acting_with c.task c.space hand) c.registers)

-- an area that is not there can't be accessed
-- signal(7), SIGSEGV 11
abbrev pub stands_lacking : Stands
stands_lacking = record { next = Traps 11; hand = [] }

abbrev pub next_row : Caller → Prog Stands
next_row c = trying (next_tried c) stands_lacking

-- ---- a buffer

-- the shared areas that an access to so many bytes by a right needs, or None where one of them may not be accessed so
-- read(2), write(2), EFAULT
abbrev pub if_allowed : List InHand → Accessed → Tried (Option (List InHand))
if_allowed hand (Value number) = Comes (Some hand)
if_allowed hand (Fault address) = Comes None
if_allowed hand (Shared area) = Asks area

abbrev pub access_tried : Rights → AddressSpace → (at count : ℕ) → List InHand → Tried (Option (List InHand))
access_tried right space at count hand = if_allowed hand (loaded (byte_at right (reach_with space hand)) at count)

abbrev pub access_row : Rights → AddressSpace → (at count : ℕ) → Prog (Option (List InHand))
access_row right space at count = trying (access_tried right space at count) None

-- so many bytes from an address on, where each of them may be read
-- write(2), EFAULT
abbrev pub bytes_with : AddressSpace → (at count : ℕ) → List InHand → List ℕ
bytes_with space at count hand = bytes_from (byte_at readable (reach_with space hand)) at count

abbrev pub bytes_read : AddressSpace → (at count : ℕ) → Prog (Option (List ℕ))
bytes_read space at count =
    access_row readable space at count >>= λ hand. done (option_map (bytes_with space at count) hand)

-- what is reached once a task has put bytes from an address on, where each of them may be written
-- read(2), EFAULT
abbrev pub written_with : (task : ℕ) → AddressSpace → (at : ℕ) → List ℕ → List InHand → Reach
written_with task space at bytes hand = after_run_stored task at bytes (reach_with space hand)

abbrev pub bytes_written : (task : ℕ) → AddressSpace → (at : ℕ) → List ℕ → Prog (Option Reach)
bytes_written task space at bytes =
    access_row writable space at (length bytes) >>= λ hand. done (option_map (written_with task space at bytes) hand)

-- what is reached, where areas were left so before and others have been since
-- profile
abbrev pub reach_over : List InHand → Reach → Reach
reach_over hand r = reach_with r.space (r.hand ++ hand)

-- the same where areas have been left so: what is reached then has these too
-- read(2), EFAULT
abbrev pub bytes_written_over : (task : ℕ) → AddressSpace → List InHand → (at : ℕ) → List ℕ
    → Prog (Option Reach)
bytes_written_over task space hand at bytes =
    over hand (bytes_written task space at bytes) >>= λ reach. done (option_map (reach_over hand) reach)

-- ---- what is left

-- the areas in hand as changes, the last of them first, and with them the address space
-- profile
abbrev pub area_changes : List InHand → List Change
area_changes [] = []
area_changes (h ∷ hand) = area_changes hand ++ (OfArea h.name, Some h.state) ∷ []

abbrev pub reach_changes : (memory : Made) → Reach → List Change
reach_changes memory r = (OfSpace memory, Some r.space) ∷ area_changes r.hand
