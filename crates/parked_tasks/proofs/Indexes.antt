-- Laws of tasks by each of the things that they used.
use Rattle.std.proofs.Common.{◌≡◌, ℕ, ◌⊎◌, true, false, refl, ap, sym, ◌∙◌, subst, inl, inr}
use Rattle.std.specs.Prelude.{Option, Some, None, is_some}
use Rattle.std.specs.Option.{option_map_or}
use Rattle.std.specs.Ordering.{nat_cmp}
use Rattle.std.specs.FinMap as map
use Rattle.sn_base.proofs.Maps.{get-insert_same, get-insert_other}
use Rattle.sn_base.specs.declared.made.Made.{Made}
use Rattle.kernel_model.specs.Names.{without_named}
use Rattle.kernel_model.proofs.NamedMaps.{same_or_other}
use Rattle.kernel_calls.specs.declared.prepared.UsedEnd.{UsedEnd}
use Rattle.parked_tasks.specs.Used.{AreMore, IsEndListed, IsListedWith, has_used, is_listed_in, same_made, uses_areas}
use Rattle.parked_tasks.specs.Users.{is_listed, with_listed}
use Rattle.parked_tasks.specs.declared.index.Index.{Index}
use Rattle.parked_tasks.specs.declared.used.Spot.{Spot}
use Rattle.parked_tasks.specs.declared.used.Used.{Used}
use Rattle.parked_tasks.specs.declared.used.Used.TheVariants.{Memory, Table, Description, Pipe, Areas}
use Rattle.parked_tasks.specs.declared.users.Users.{Users}
use Rattle.parked_tasks.proofs.UserLists.{forgotten, kept_or_forgotten, listed_itself, listed_more, made_same}

-- ---- what stays listed

pub more_same : (index : Index) → AreMore index index
more_same index used task listed = listed

pub more_both : (first second third : Index) → AreMore first second → AreMore second third → AreMore first third
more_both first second third more further used task listed = further used task (more used task listed)

pub listed_with_more : (before after : Index) (task : ℕ) (spot : Spot) → AreMore before after
    → IsListedWith before task spot → IsListedWith after task spot
listed_with_more before after task spot more listed used has = more used task (listed used has)

-- ---- one list is another

-- where one more is listed, or the list is as it was
abbrev pub Grows : (task : ℕ) → (name : Made) → (before after : Users) → Type 0
Grows task name before after =
    (after.by_name ≡ with_listed before.by_name name task tt) ⊎ (after.by_name ≡ before.by_name)

grown : (task : ℕ) (name : Made) (before after : Users) → Grows task name before after → (n : Made) (other : ℕ)
    → is_listed before.by_name n other ≡ true → is_listed after.by_name n other ≡ true
grown task name before after (inl more) n other listed =
    ap (λ m. is_listed m n other) more ∙ listed_more before.by_name name task tt n other listed
grown task name before after (inr same) n other listed = ap (λ m. is_listed m n other) same ∙ listed

pub is_there : (task : ℕ) (name : Made) (before after : Users)
    → after.by_name ≡ with_listed before.by_name name task tt → is_listed after.by_name name task ≡ true
is_there task name before after more =
    ap (λ m. is_listed m name task) more ∙ listed_itself before.by_name name task tt

module _ (i : Index) (task : ℕ) (name : Made) (after : Users) where
  pub more_memory : Grows task name i.by_memory after → AreMore i (record i { by_memory = after })
  more_memory grows (Memory n) other listed = grown task name i.by_memory after grows n other listed
  more_memory grows (Table n) other listed = listed
  more_memory grows (Description n) other listed = listed
  more_memory grows (Pipe n) other listed = listed
  more_memory grows Areas other listed = listed

  pub more_table : Grows task name i.by_table after → AreMore i (record i { by_table = after })
  more_table grows (Memory n) other listed = listed
  more_table grows (Table n) other listed = grown task name i.by_table after grows n other listed
  more_table grows (Description n) other listed = listed
  more_table grows (Pipe n) other listed = listed
  more_table grows Areas other listed = listed

  pub more_description : Grows task name i.by_description after → AreMore i (record i { by_description = after })
  more_description grows (Memory n) other listed = listed
  more_description grows (Table n) other listed = listed
  more_description grows (Description n) other listed = grown task name i.by_description after grows n other listed
  more_description grows (Pipe n) other listed = listed
  more_description grows Areas other listed = listed

  pub more_pipe : Grows task name i.by_pipe after → AreMore i (record i { by_pipe = after })
  more_pipe grows (Memory n) other listed = listed
  more_pipe grows (Table n) other listed = listed
  more_pipe grows (Description n) other listed = listed
  more_pipe grows (Pipe n) other listed = grown task name i.by_pipe after grows n other listed
  more_pipe grows Areas other listed = listed

-- and the same of the shared areas
pub more_areas : (i : Index) (task : ℕ) (after : map.FinMap nat_cmp (Unit {0}))
    → (after ≡ map.insert i.in_areas task tt) ⊎ (after ≡ i.in_areas) → AreMore i (record i { in_areas = after })
more_areas i task after grows (Memory n) other listed = listed
more_areas i task after grows (Table n) other listed = listed
more_areas i task after grows (Description n) other listed = listed
more_areas i task after grows (Pipe n) other listed = listed
more_areas i task after (inr same) Areas other listed = ap (λ m. map.contains_key m other) same ∙ listed
more_areas i task after (inl more) Areas other listed =
    ap (λ m. map.contains_key m other) more
    ∙ elim (same_or_other task other) [
      | inl e ↦ ap (map.contains_key (map.insert i.in_areas task tt)) (sym e)
          ∙ ap is_some (get-insert_same i.in_areas task tt)
      | inr d ↦ ap is_some (get-insert_other i.in_areas task other tt d) ∙ listed
    ]

-- ---- all that a task used

-- what of an end is listed
abbrev pub MayBeListed : Index → (task : ℕ) → (table : Made) → Option UsedEnd → Type 0
MayBeListed index task table None = Unit {0}
MayBeListed index task table (Some end) = IsEndListed index task table end

pub all_listed : (index : Index) (task : ℕ) (spot : Spot) → is_listed_in index (Memory spot.memory) task ≡ true
    → (uses_areas spot ≡ true → is_listed_in index Areas task ≡ true)
    → MayBeListed index task spot.table spot.awaited.end → IsListedWith index task spot
all_listed index task spot memory areas ends used has = by used spot.awaited.end refl ends has
  where
    named : (f : Made → Used) (m n : Made) → same_made m n ≡ true → is_listed_in index (f m) task ≡ true
        → is_listed_in index (f n) task ≡ true
    named f m n same listed = ap (λ x. is_listed_in index (f x) task) (sym (made_same m n same)) ∙ listed

    at_end : (end : Option UsedEnd) (f : Made → Used) (n : Made) (part : UsedEnd → Made) → spot.awaited.end ≡ end
        → ((e : UsedEnd) → IsEndListed index task spot.table e → is_listed_in index (f (part e)) task ≡ true)
        → MayBeListed index task spot.table end
        → option_map_or (λ (e : UsedEnd). same_made (part e) n) spot.awaited.end false ≡ true
        → is_listed_in index (f n) task ≡ true
    at_end None f n part is listed ends has =
        absurd (cc (sym (ap (λ o. option_map_or (λ (e : UsedEnd). same_made (part e) n) o false) is) ∙ has))
    at_end (Some e) f n part is listed ends has =
        named f (part e) n (sym (ap (λ o. option_map_or (λ (e : UsedEnd). same_made (part e) n) o false) is) ∙ has)
        (listed e ends)

    by : (used : Used) (end : Option UsedEnd) → spot.awaited.end ≡ end → MayBeListed index task spot.table end
        → has_used spot used ≡ true → is_listed_in index used task ≡ true
    by (Memory n) end is ends has = named Memory spot.memory n has memory
    by Areas end is ends has = areas has
    by (Table n) end is ends has = at_end end Table n (λ e. spot.table) is (λ e listed. listed.table) ends has
    by (Description n) end is ends has =
        at_end end Description n (λ e. e.description) is (λ e listed. listed.description) ends has
    by (Pipe n) end is ends has = at_end end Pipe n (λ e. e.pipe) is (λ e listed. listed.pipe) ends has

-- ---- one thing is forgotten

abbrev pub Forgets : Index → Index → Used → Type 0
Forgets before after used = (other : Used) (task : ℕ) → is_listed_in before other task ≡ true
    → (is_listed_in after other task ≡ true) ⊎ (other ≡ used)

-- where it is that
pub gone_as : (index : Index) (used is : Used) → used ≡ is → ((task : ℕ) → is_listed_in index is task ≡ false)
    → (task : ℕ) → is_listed_in index used task ≡ false
gone_as index used is same gone task = ap (λ u. is_listed_in index u task) same ∙ gone task

pub forgets_as : (before after : Index) (used is : Used) → used ≡ is → Forgets before after is
    → Forgets before after used
forgets_as before after used is same = subst (Forgets before after) (sym same)

module _ (i : Index) (name : Made) (after : Users) where
  abbrev Loses : Users → Type 0
  Loses before = after.by_name ≡ without_named before.by_name name.place name.index

  pub lost : (before : Users) → Loses before → (task : ℕ) → is_listed after.by_name name task ≡ false
  lost before less task =
      ap (λ m. is_listed m name task) less ∙ forgotten before.by_name name task

  left : (before : Users) → Loses before → (f : Made → Used) (n : Made) (task : ℕ)
      → is_listed before.by_name n task ≡ true → (is_listed after.by_name n task ≡ true) ⊎ (f n ≡ f name)
  left before less f n task listed =
      elim (kept_or_forgotten before.by_name name n task listed) [
        | inl kept ↦ inl (ap (λ m. is_listed m n task) less ∙ kept)
        | inr same ↦ inr (ap f same)
      ]

  pub forgets_memory : Loses i.by_memory → Forgets i (record i { by_memory = after }) (Memory name)
  forgets_memory less (Memory n) task listed = left i.by_memory less Memory n task listed
  forgets_memory less (Table n) task listed = inl listed
  forgets_memory less (Description n) task listed = inl listed
  forgets_memory less (Pipe n) task listed = inl listed
  forgets_memory less Areas task listed = inl listed

  pub forgets_table : Loses i.by_table → Forgets i (record i { by_table = after }) (Table name)
  forgets_table less (Memory n) task listed = inl listed
  forgets_table less (Table n) task listed = left i.by_table less Table n task listed
  forgets_table less (Description n) task listed = inl listed
  forgets_table less (Pipe n) task listed = inl listed
  forgets_table less Areas task listed = inl listed

  pub forgets_description : Loses i.by_description
      → Forgets i (record i { by_description = after }) (Description name)
  forgets_description less (Memory n) task listed = inl listed
  forgets_description less (Table n) task listed = inl listed
  forgets_description less (Description n) task listed = left i.by_description less Description n task listed
  forgets_description less (Pipe n) task listed = inl listed
  forgets_description less Areas task listed = inl listed

  pub forgets_pipe : Loses i.by_pipe → Forgets i (record i { by_pipe = after }) (Pipe name)
  forgets_pipe less (Memory n) task listed = inl listed
  forgets_pipe less (Table n) task listed = inl listed
  forgets_pipe less (Description n) task listed = inl listed
  forgets_pipe less (Pipe n) task listed = left i.by_pipe less Pipe n task listed
  forgets_pipe less Areas task listed = inl listed

pub forgets_areas : (i : Index) (after : map.FinMap nat_cmp (Unit {0}))
    → Forgets i (record i { in_areas = after }) Areas
forgets_areas i after (Memory n) task listed = inl listed
forgets_areas i after (Table n) task listed = inl listed
forgets_areas i after (Description n) task listed = inl listed
forgets_areas i after (Pipe n) task listed = inl listed
forgets_areas i after Areas task listed = inr refl
