-- What a task used whose call waits, and which tasks are listed with it.
use Rattle.std.specs.Prelude.{◌≡◌, ℕ, ◌==◌, ◌&&◌, ◌||◌, Bool, true, false}
use Rattle.std.specs.Option.{option_map_or}
use Rattle.std.specs.FinMap as map
use Rattle.sn_base.specs.declared.made.Made.{Made}
use Rattle.kernel_calls.specs.declared.prepared.UsedEnd.{UsedEnd}
use Rattle.parked_tasks.specs.Users.{is_listed}
use Rattle.parked_tasks.specs.declared.index.Index.{Index}
use Rattle.parked_tasks.specs.declared.used.Spot.{Spot}
use Rattle.parked_tasks.specs.declared.used.Used.{Used}
use Rattle.parked_tasks.specs.declared.used.Used.TheVariants.{Memory, Table, Description, Pipe, Areas}

-- whether two names are of one thing
-- profile: a made thing is named by the place of its log entry, and by which of that entry's it is
abbrev pub same_made : Made → Made → Bool
same_made m n = (m.place == n.place) && (m.index == n.index)

-- whether a call that waits, or its instruction, used shared areas
-- mmap(2), MAP_SHARED
abbrev pub uses_areas : Spot → Bool
uses_areas spot = spot.in_area || spot.awaited.areas

-- whether it used an end of a pipe by a descriptor of that table, and one whose description, or pipe, passes a test
-- read(2); write(2); pipe(7)
abbrev pub has_table : Made → Spot → Bool
has_table name spot = option_map_or (λ (end : UsedEnd). same_made spot.table name) spot.awaited.end false

abbrev pub has_description : (test : Made → Bool) → Spot → Bool
has_description test spot = option_map_or (λ (end : UsedEnd). test end.description) spot.awaited.end false

abbrev pub has_pipe : (test : Made → Bool) → Spot → Bool
has_pipe test spot = option_map_or (λ (end : UsedEnd). test end.pipe) spot.awaited.end false

-- whether it used that
-- profile
abbrev pub has_used : Spot → Used → Bool
has_used spot (Memory name) = same_made spot.memory name
has_used spot (Table name) = has_table name spot
has_used spot (Description name) = has_description (λ m. same_made m name) spot
has_used spot (Pipe name) = has_pipe (λ m. same_made m name) spot
has_used spot Areas = uses_areas spot

-- whether a task is listed with that
-- profile
abbrev pub is_listed_in : Index → Used → (task : ℕ) → Bool
is_listed_in index (Memory name) task = is_listed index.by_memory.by_name name task
is_listed_in index (Table name) task = is_listed index.by_table.by_name name task
is_listed_in index (Description name) task = is_listed index.by_description.by_name name task
is_listed_in index (Pipe name) task = is_listed index.by_pipe.by_name name task
is_listed_in index Areas task = map.contains_key index.in_areas task

-- a task is listed with all that it used
-- profile
abbrev pub IsListedWith : Index → (task : ℕ) → Spot → Type 0
IsListedWith index task spot = (used : Used) → has_used spot used ≡ true → is_listed_in index used task ≡ true

-- with a descriptor table, and with the description and the pipe that it used by it
-- read(2); write(2); pipe(7)
pub record IsEndListed (index : Index) (task : ℕ) (name : Made) (end : UsedEnd) : Type 0 where
  pub table : is_listed_in index (Table name) task ≡ true
  pub description : is_listed_in index (Description end.description) task ≡ true
  pub pipe : is_listed_in index (Pipe end.pipe) task ≡ true

-- each task is listed with what it was
-- profile
abbrev pub AreMore : (before after : Index) → Type 0
AreMore before after =
    (used : Used) (task : ℕ) → is_listed_in before used task ≡ true → is_listed_in after used task ≡ true
