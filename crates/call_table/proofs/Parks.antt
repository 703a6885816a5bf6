-- Why the next step of a parked task is not ready, and that this stays so as long as nothing that it used changes.
use Rattle.std.proofs.Common.{◌≡◌, ◌≢◌, ℕ, ◌<◌, ◌-◌, Bool, true, false, List, length, refl, ap, sym, ◌∙◌, subst, arith}
use Rattle.std.specs.Prelude.{Option, Some, None, ◌&&◌, ◌||◌}
use Rattle.std.specs.Option.{option_map_or}
use Rattle.std.proofs.lemmas.Bool.{or_parts}
use Rattle.mm_space.specs.Handed.{AreaState}
use Rattle.mm_space.specs.Spaces.{AddressSpace}
use Rattle.sn_base.specs.declared.made.Made.{Made}
use Rattle.kernel_model.specs.Names.{NamedMap, get_named}
use Rattle.kernel_model.specs.declared.caller.Caller.{Caller}
use Rattle.kernel_model.specs.declared.entry.Args.{Args}
use Rattle.kernel_model.specs.declared.kernel.Kernel.{Kernel}
use Rattle.kernel_model.specs.declared.open_files.OpenFiles.{OpenFiles}
use Rattle.kernel_model.specs.declared.traps.Next.{Next}
use Rattle.kernel_model.specs.declared.traps.Next.TheVariants.{Calls}
use Rattle.kernel_model.specs.machine.Registers.{args_of, call_of}
use Rattle.kernel_model.specs.calls.Answers.{Answer, makes_entry}
use Rattle.kernel_model.specs.calls.Callers.{Context as RowContext, context_of}
use Rattle.kernel_model.specs.calls.Table.{call_row}
use Rattle.kernel_model.specs.entries.Areas.{Stands, next_row}
use Rattle.kernel_model.specs.entries.History.{touches_next}
use Rattle.kernel_model.specs.entries.Parts.{Parts, parts, Prog, done, outcome_in}
use Rattle.kernel_model.specs.entries.Ready.{is_ready, ready_as, ready_by}
use Rattle.kernel_model.specs.entries.Steps.{next_in}
use Rattle.kernel_model.specs.entries.Waiting.{Wait, Awake, wait_of}
use Rattle.kernel_model.proofs.Trees.{outcome-bind}
use Rattle.kernel_calls.specs.Prepared.{AgreesOn, AgreesOnEnd, IfWaits, IsCalling, WaitsWith}
use Rattle.kernel_calls.specs.declared.context.Context.{Context}
use Rattle.kernel_calls.specs.declared.prepared.Awaited.{Awaited}
use Rattle.call_fs.specs.CallEnd.{IfOf}
use Rattle.call_fs.specs.declared.call_end.CallEnd.{CallEnd}
use Rattle.call_fs.specs.declared.call_end.CallEnd.TheVariants.{Of}
use Rattle.kernel_calls.specs.declared.prepared.Called.TheVariants.{Waits}
use Rattle.kernel_calls.specs.declared.prepared.UsedEnd.{UsedEnd}
use Rattle.guest_access.proofs.Runs.{stands_alone}
use Rattle.proc_cells.specs.declared.cells.Cells.{Cells}
use Rattle.proc_cells.specs.declared.cells.Standing.{Standing}
use Rattle.proc_cells.specs.Beside.{Beside, found_in, nothing_beside}
use Rattle.proc_cells.specs.Cells.{AreKept, IsAwake, StandsAs, caller_in, caller_with, held_by, kernel_of}
use Rattle.proc_cells.proofs.Found.{Parted, found_by, parted}
use Rattle.parked_tasks.specs.Untouched.{AreUntouched, FilesMove}
use Rattle.parked_tasks.specs.Touched.{are_named, is_that_name, is_touched}
use Rattle.parked_tasks.specs.Used.{same_made, uses_areas}
use Rattle.parked_tasks.specs.declared.touched.Touched.{Touched}
use Rattle.parked_tasks.specs.declared.used.Spot.{Spot}
use Rattle.call_table.specs.Entries.{IsNextOf, IsOf, NextIn, ReadyIs, is_touching}
use Rattle.call_table.specs.Moves.{LeavesRest}
use Rattle.call_table.specs.Parks.{Parks}
use Rattle.call_table.specs.declared.entered.Entered.{Entered}
use Rattle.call_table.proofs.Kept.{caller_kept, kept_back}
use Rattle.call_table.proofs.Steps.{calling_here, found_beside, ready_found}

-- ---- why it is not ready

-- whether a task's step is ready, by whether it is on the futex list
pub ready_by_wait : (p : Cells) (task : ℕ) (c : Caller) (wait : Wait) → caller_in p task ≡ Some c
    → wait_of p.sleepers task ≡ wait → (beside : Beside) (n : ℕ) → is_ready (kernel_of p beside n) task
    ≡ outcome_in (parts (kernel_of p beside n)) (ready_as (context_of (kernel_of p beside n)) c wait)
ready_by_wait p task c wait found is beside n =
    ready_found (kernel_of p beside n) task c wait (found_beside (held_by p) beside n task ∙ found)
    (ap (wait_of p.sleepers) (ap (λ (x : Caller). x.task) its.is) ∙ is)
  where
    its : Parted p.tasks p.registers p.spaces task c
    its = parted p.tasks p.registers p.spaces task c found

-- ---- states that hold the same in what a call used

-- two kernels where the same is open
end_same : (end : Option UsedEnd) (table : Made) (k m : Kernel) → m.files ≡ k.files
    → AgreesOnEnd end table (parts k) (parts m)
end_same None table k m same = tt
end_same (Some e) table k m same = (
  ap (λ (f : OpenFiles). get_named f.tables table.place table.index) same,
  ap (λ (f : OpenFiles). get_named f.descriptions e.description.place e.description.index) same,
  ap (λ (f : OpenFiles). get_named f.pipes e.pipe.place e.pipe.index) same,
)

pub agree_same : (awaited : Awaited) (table : Made) (k m : Kernel) → m.tasks ≡ k.tasks → m.files ≡ k.files
    → m.areas ≡ k.areas → AgreesOn awaited table (parts k) (parts m)
agree_same awaited table k m tasks files areas = record {
  tasks = tasks;
  end = end_same awaited.end table k m files;
  areas = λ uses name. ap (λ (a : NamedMap AreaState). get_named a name.place name.index) areas;
}

end_both : (end : Option UsedEnd) (table : Made) (first second third : Parts) → AgreesOnEnd end table first second
    → AgreesOnEnd end table second third → AgreesOnEnd end table first third
end_both None table first second third near far = tt
end_both (Some e) table first second third near far = (far.0 ∙ near.0, far.1 ∙ near.1, far.2 ∙ near.2)

-- a call that waits in one waits in the other
pub waits_on : (awaited : Awaited) (table : Made) (these those : Parts) (row : RowContext → Prog Answer)
    → AgreesOn awaited table these those → WaitsWith awaited table these row → WaitsWith awaited table those row
waits_on awaited table these those row near waits = λ context s far.
    waits context s (record {
      tasks = far.tasks ∙ near.tasks;
      end = end_both awaited.end table these those s near.end far.end;
      areas = λ uses name. far.areas uses name ∙ near.areas uses name;
    })

-- ---- a task whose call waits

-- the kernel that cells are at a place, with that seed
abbrev at_place : Cells → (seed : List ℕ) → (place : ℕ) → Kernel
at_place p seed place = kernel_of p (record nothing_beside { seed = seed }) (place - 1)

pub parks_of : (p : Cells) (task : ℕ) (standing : Standing) (number : ℕ) (args : Args) (context : Context)
    (own : AddressSpace) (taken : ℕ) (called : CallEnd) (awaited : Awaited) (in_area : Bool)
    → StandsAs p task standing → IsAwake p task → NextIn p task Calls → in_area ≡ is_touching p task
    → context.task ≡ task → IsOf context standing → 0 < context.place
    → get_named p.spaces standing.memory.place standing.memory.index ≡ Some own → taken ≡ length p.console
    → number ≡ call_of standing.registers → args ≡ args_of standing.registers
    → ((c : Caller) (k : Kernel) → IsCalling c k context own p.areas p.tasks p.sleepers taken → k.files ≡ p.files
    → IfOf called (λ o. IfWaits o (λ a. WaitsWith a c.table (parts k) (λ x. call_row x c number args))))
    → called ≡ Of (Waits awaited)
    → Parks p task (record {
      memory = standing.memory;
      table = standing.table;
      in_area = in_area;
      awaited = awaited;
    })
parks_of p task standing number args context own taken called awaited in_area stands awake calls told is known later
    there count numbered same waits become = record {
      caller = c;
      found = stands.found;
      in_memory = refl;
      at_table = refl;
      in_area = ap touches_next (sym stands.found) ∙ sym told;
      awake = awake;
      calls = subst (λ o. IsNextOf p.areas o Calls) stands.found calls;
      waits =
          waits_on awaited standing.table (parts k) (parts (kernel_of p nothing_beside 0))
          (row (call_of standing.registers) (args_of standing.registers))
          (agree_same awaited standing.table k (kernel_of p nothing_beside 0) refl refl refl)
          (subst (λ n. WaitsWith awaited standing.table (parts k) (row n (args_of standing.registers))) numbered
          (subst (λ a. WaitsWith awaited standing.table (parts k) (row number a)) same
          (subst (λ d. IfOf d (λ o. IfWaits o (λ a. WaitsWith a standing.table (parts k) (row number args)))) become
          (waits c k (calling_here p task standing stands context own taken (record nothing_beside {
            seed = context.seed.now;
          }) (context.place - 1) is known there count refl (omega (arith, later))) refl))));
    }
  where
    c : Caller
    c = caller_with task standing stands.space

    k : Kernel
    k = at_place p context.seed.now context.place

    row : ℕ → Args → RowContext → Prog Answer
    row n a x = call_row x (caller_with task standing stands.space) n a

-- so its step is not ready
pub parks_wait : (p : Cells) (task : ℕ) (spot : Spot) → Parks p task spot → ReadyIs p task false
parks_wait p task spot parks = λ beside n.
    let c = parks.caller in
    let k : Kernel = kernel_of p beside n in
    ready_by_wait p task c Awake parks.found parks.awake beside n
    ∙ outcome-bind (parts k) (next_row c) (λ (x : Stands). ready_by (context_of k) c x.next)
    ∙ ap (λ (next : Next). outcome_in (parts k) (ready_by (context_of k) c next)) (parks.calls k refl)
    ∙ outcome-bind (parts k) (call_row (context_of k) c (call_of c.registers) (args_of c.registers))
    (λ (answer : Answer). done (makes_entry answer.reply))
    ∙ ap (λ (answer : Answer). makes_entry answer.reply) (parks.waits (context_of k) (parts k)
    (agree_same spot.awaited c.table (kernel_of p nothing_beside 0) k refl refl refl))

-- ---- where nothing has changed

pub parks_kept : (p b : Cells) (task : ℕ) (spot : Spot) → AreKept p b → Parks b task spot → Parks p task spot
parks_kept p b task spot kept parks = record {
  caller = parks.caller;
  found = sym (caller_kept p b task kept) ∙ parks.found;
  in_memory = parks.in_memory;
  at_table = parks.at_table;
  in_area = parks.in_area;
  awake = ap (λ list. wait_of list task) (sym kept.sleepers) ∙ parks.awake;
  calls = λ k areas. parks.calls k (areas ∙ sym kept.areas);
  waits =
      waits_on spot.awaited parks.caller.table (parts (kernel_of b nothing_beside 0))
      (parts (kernel_of p nothing_beside 0)) (λ x. call_row x parks.caller (call_of parks.caller.registers)
      (args_of parks.caller.registers))
      (agree_same spot.awaited parks.caller.table (kernel_of b nothing_beside 0) (kernel_of p nothing_beside 0)
      (sym kept.tasks) (sym kept.files) (sym kept.areas)) parks.waits;
}

pub parks_still : (p q : Cells) (task : ℕ) (spot : Spot) → AreKept p q → Parks p task spot → Parks q task spot
parks_still p q task spot kept = parks_kept q p task spot (kept_back p q kept)

pub touching_kept : (p b : Cells) (task : ℕ) → AreKept p b → is_touching b task ≡ is_touching p task
touching_kept p b task kept = ap touches_next (caller_kept p b task kept)

-- ---- behind an entry of another task

-- an instruction in the task's own memory calls whatever areas there are, and one in an area as long as none changes
calls_on : (before : Cells) (after : NamedMap AreaState) (c : Caller) (in_area changed : Bool)
    → touches_next (Some c) ≡ in_area → (changed ≡ false → after ≡ before.areas) → (in_area && changed) ≡ false
    → IsNextOf before.areas (Some c) Calls → IsNextOf after (Some c) Calls
calls_on before after c true true lies stays e calls = absurd (cc e)
calls_on before after c true false lies stays e calls = λ k areas. calls k (areas ∙ stays refl)
calls_on before after c false changed alone stays e calls = λ k areas.
    told k ∙ sym (told (kernel_of before nothing_beside 0)) ∙ calls (kernel_of before nothing_beside 0) refl
  where
    told : (k : Kernel) → (outcome_in (parts k) (next_row c)).next ≡ next_in c
    told k = ap (λ (x : Stands). x.next) (stands_alone c (parts k) (next_in c) refl alone)

-- an entry that told nothing that a call used left it as it was
end_left : (end : Option UsedEnd) (table : Made) (touched : Touched) (k m : Kernel)
    → AreUntouched touched k.files m.files
    → (option_map_or (λ (e : UsedEnd). is_that_name touched.table table) end false
    || (option_map_or (λ (e : UsedEnd). are_named touched.descriptions e.description) end false
    || option_map_or (λ (e : UsedEnd). are_named touched.pipes e.pipe) end false)) ≡ false
    → AgreesOnEnd end table (parts k) (parts m)
end_left None table touched k m left apart = tt
end_left (Some e) table touched k m left apart =
    let first = or_parts (is_that_name touched.table table)
    (are_named touched.descriptions e.description || are_named touched.pipes e.pipe) apart in
    let others = or_parts (are_named touched.descriptions e.description) (are_named touched.pipes e.pipe) first.1 in
    (left.tables table first.0, left.descriptions e.description others.0, left.pipes e.pipe others.1)

end_on : (spot : Spot) (table : Made) (touched : Option Touched) (k m : Kernel) → table ≡ spot.table
    → FilesMove touched k.files m.files → is_touched touched spot ≡ false
    → AgreesOnEnd spot.awaited.end table (parts k) (parts m)
end_on spot table None k m at files apart = end_same spot.awaited.end table k m files
end_on spot table (Some touched) k m at files apart =
    subst (λ t. AgreesOnEnd spot.awaited.end t (parts k) (parts m)) (sym at)
    (end_left spot.awaited.end spot.table touched k m files apart)

-- where the areas that a call used have not changed
areas_on : (uses changed : Bool) (before after : NamedMap AreaState) → (uses && changed) ≡ false
    → (changed ≡ false → after ≡ before) → uses ≡ true → after ≡ before
areas_on true true before after unchanged stays used = absurd (cc unchanged)
areas_on true false before after unchanged stays used = stays refl
areas_on false changed before after unchanged stays used = absurd (cc used)

pub parks_on : (task : ℕ) (memory : Made) (made : Entered) (before after : Cells) (other : ℕ) (spot : Spot)
    → LeavesRest task memory made before after → made.tasks ≡ false → task ≢ other
    → (uses_areas spot && made.areas) ≡ false → same_made spot.memory memory ≡ false
    → is_touched made.touched spot ≡ false → Parks before other spot → Parks after other spot
parks_on task memory made before after other spot moves same apart unchanged elsewhere untouched parks =
    let c = parks.caller in
    let its = parted before.tasks before.registers before.spaces other c parks.found in
    let group_memory : c.memory ≡ its.group.memory = ap (λ (x : Caller). x.memory) its.is in
    let is : spot.memory ≡ its.group.memory = sym parks.in_memory ∙ group_memory in
    let lists = moves.tasks same in
    let k : Kernel = kernel_of before nothing_beside 0 in
    let m : Kernel = kernel_of after nothing_beside 0 in
    let uses = used_either spot.in_area spot.awaited.areas made.areas unchanged in
    record {
      caller = c;
      found =
          ap (λ x. found_in x after.registers after.spaces other) lists
          ∙ found_by before.tasks after.registers after.spaces other its.group c.registers c.space its.live its.grouped
          (moves.registers same other apart ∙ its.registered)
          (moves.spaces same its.group.memory (subst (λ (m : Made). same_made m memory ≡ false) is elsewhere)
          ∙ ap (λ (m : Made). get_named before.spaces m.place m.index) (sym group_memory) ∙ its.remembered)
          ∙ ap Some (sym its.is);
      in_memory = parks.in_memory;
      at_table = parks.at_table;
      in_area = parks.in_area;
      awake = moves.off other apart parks.awake;
      calls = calls_on before after.areas c spot.in_area made.areas parks.in_area moves.areas uses.0 parks.calls;
      waits =
          waits_on spot.awaited c.table (parts k) (parts m)
          (λ x. call_row x c (call_of c.registers) (args_of c.registers)) (record {
            tasks = lists;
            end = end_on spot c.table made.touched k m parks.at_table (moves.files same) untouched;
            areas = λ used name.
                ap (λ (a : NamedMap AreaState). get_named a name.place name.index)
                (areas_on spot.awaited.areas made.areas before.areas after.areas uses.1 moves.areas used);
          }) parks.waits;
    }
  where
    used_either : (a b changed : Bool) → ((a || b) && changed) ≡ false
        → ((a && changed) ≡ false) × ((b && changed) ≡ false)
    used_either true true changed e = (e, e)
    used_either true false changed e = (e, refl)
    used_either false true changed e = (refl, e)
    used_either false false changed e = (refl, refl)
