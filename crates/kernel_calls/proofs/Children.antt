-- Laws of children that a call makes: a memory that is placed before the words that the call set.
use Rattle.std.proofs.Common.{◌≡◌, ◌≢◌, ℕ, true, false, nat_eq, ◌&&◌, ◌⊎◌, inl, inr, refl, ap, sym, ◌∙◌, arith}
use Rattle.std.specs.Prelude.{Option, Some, None, is_some, unwrap_or}
use Rattle.std.specs.FinMap.{FinMap, get, insert, empty}
use Rattle.std.specs.Ordering.{nat_cmp}
use Rattle.std.proofs.lemmas.Bool.Decides.{nat_tests}
use Rattle.sn_base.proofs.Maps.{same_by_get, get-insert_same, get-insert_other}
use Rattle.mm_space.specs.Handed.{AreaState}
use Rattle.mm_space.specs.Spaces.{AddressSpace}
use Rattle.task_table.specs.Clones.{forked}
use Rattle.task_table.specs.Table.{TaskTable}
use Rattle.kernel_model.specs.Names.{NamedMap, has_named, with_named}
use Rattle.kernel_model.specs.calls.Clone.{made_for_child}
use Rattle.kernel_model.specs.declared.caller.Caller.{Caller}
use Rattle.kernel_model.specs.declared.kernel.Kernel.{Kernel}
use Rattle.kernel_model.specs.declared.open_files.OpenFiles.{OpenFiles}
use Rattle.kernel_model.specs.laws.Files.{with_copy}
use Rattle.kernel_model.proofs.NamedMaps.{same_or_other, get-with, both_set, with-with}
use Rattle.kernel_calls.specs.Making.{with_new_task, with_words}
use Rattle.kernel_calls.specs.declared.clone.Words.{Words}

-- ---- two changes of a map

module _ {V : Type 0} where
  -- what a key has that isn't the one set last
  get_swapped : (m : FinMap nat_cmp V) (k q p : ℕ) (v w : V) → q ≢ p
      → get (insert (insert m k v) q w) p ≡ get (insert (insert m q w) k v) p
  get_swapped m k q p v w d =
      get-insert_other (insert m k v) q p w d
      ∙ elim (same_or_other k p) [
        | inl e ↦ ap (get (insert m k v)) (sym e) ∙ get-insert_same m k v
            ∙ sym (get-insert_same (insert m q w) k v) ∙ ap (get (insert (insert m q w) k v)) e
        | inr e ↦ get-insert_other m k p v e ∙ sym (get-insert_other m q p w d)
            ∙ sym (get-insert_other (insert m q w) k p v e)
      ]

  -- of two keys, either may be set first
  pub insert_swapped : (m : FinMap nat_cmp V) (k q : ℕ) (v w : V) → k ≢ q
      → insert (insert m k v) q w ≡ insert (insert m q w) k v
  insert_swapped m k q v w d =
      same_by_get _ _ (λ p. elim (same_or_other q p) [
        | inl e ↦ ap (get (insert (insert m k v) q w)) (sym e) ∙ get-insert_same (insert m k v) q w
            ∙ sym (get-insert_other (insert m q w) k q v d ∙ get-insert_same m q w)
            ∙ ap (get (insert (insert m q w) k v)) e
        | inr e ↦ get_swapped m k q p v w e
      ])

-- ---- two changes of a map by name

module _ {V : Type 0} where
  apart_places : (m : NamedMap V) (p i q j : ℕ) (v w : V) → p ≢ q
      → with_named (with_named m p i v) q j w ≡ insert (with_named m p i v) q (insert (unwrap_or (get m q) empty) j w)
  apart_places m p i q j v w d =
      ap (λ o. insert (with_named m p i v) q (insert (unwrap_or o empty) j w)) (get-insert_other m p q _ d)

  -- of two names, either may be set first
  pub with_swapped : (m : NamedMap V) (p i q j : ℕ) (v w : V) → (p ≢ q) ⊎ ((p ≡ q) × (i ≢ j))
      → with_named (with_named m p i v) q j w ≡ with_named (with_named m q j w) p i v
  with_swapped m p i q j v w (inl d) =
      apart_places m p i q j v w d
      ∙ insert_swapped m p q _ _ d
      ∙ sym (apart_places m q j p i w v (λ e. d (sym e)))
  with_swapped m p i q j v w (inr d) =
      ap (λ x. with_named (with_named m p i v) x j w) (sym d.0)
      ∙ both_set m p i j v w
      ∙ ap (insert m p) (insert_swapped (unwrap_or (get m p) empty) i j v w d.1)
      ∙ sym (both_set m p j i w v)
      ∙ ap (λ x. with_named (with_named m x j w) p i v) d.0

  -- a name that has a value has one, whatever name gets one
  pub has_still : (m : NamedMap V) (p i q j : ℕ) (v : V) → has_named m q j ≡ true
      → has_named (with_named m p i v) q j ≡ true
  has_still m p i q j v h =
      elim (get-with m p i q j v) [
        | inl a ↦ ap is_some a.1
        | inr a ↦ ap is_some a.1 ∙ h
      ]

-- ---- two names, compared by their numbers

pub same_name : (p i q j : ℕ) → nat_eq p q && nat_eq i j ≡ true → (p ≡ q) × (i ≡ j)
same_name p i q j h = grind (arith, nat_tests)

pub other_name : (p i q j : ℕ) → nat_eq p q && nat_eq i j ≡ false → (p ≢ q) ⊎ ((p ≡ q) × (i ≢ j))
other_name p i q j h =
    elim (same_or_other p q) [
      | inl e ↦ inr (e, λ f. absurd (grind (arith, nat_tests)))
      | inr d ↦ inl d
    ]

-- ---- a child's memory placed before the words

module _ (c : Caller) (k : Kernel) (place clear : ℕ) (memory : AddressSpace) (words : Option Words) where
  -- the kernel with the child's task and memory alone, where those are such
  abbrev with_process : TaskTable → NamedMap AddressSpace → OpenFiles → Kernel
  with_process tasks spaces files = record k { tasks = tasks; spaces = spaces; files = files }

  process_as : (tasks : TaskTable) (spaces : NamedMap AddressSpace) (files : OpenFiles)
      → tasks ≡ forked k.tasks c.task (made_for_child place) (made_for_child place) clear
      → spaces ≡ with_named k.spaces place 0 memory → files ≡ with_copy c.table (made_for_child place) k.files
      → with_new_task place (Some memory) clear c k ≡ with_process tasks spaces files
  process_as tasks spaces files e f g =
      let copy : OpenFiles = with_copy c.table (made_for_child place) k.files in
      ap (λ t. with_process t (with_named k.spaces place 0 memory) copy) (sym e)
      ∙ ap (λ s. with_process tasks s copy) (sym f) ∙ ap (with_process tasks spaces) (sym g)

  -- where the caller's memory has the child's name, its words are lost
  hidden : (words : Option Words) → (c.memory.place ≡ place) × (c.memory.index ≡ 0)
      → with_new_task place (Some memory) clear c (with_words words c k)
      ≡ record (with_new_task place (Some memory) clear c k) { areas = (with_words words c k).areas }
  hidden None same = refl
  hidden (Some words) same =
      ap (λ s. record (with_new_task place (Some memory) clear c k) { spaces = s; areas = words.areas })
      (ap (λ p. with_named (with_named k.spaces p c.memory.index words.space) place 0 memory) same.0
      ∙ ap (λ i. with_named (with_named k.spaces place i words.space) place 0 memory) same.1
      ∙ with-with k.spaces place 0 words.space memory)

  pub words_hidden : (tasks : TaskTable) (spaces : NamedMap AddressSpace) (areas : NamedMap AreaState)
      (files : OpenFiles)
      → (c.memory.place ≡ place) × (c.memory.index ≡ 0)
      → tasks ≡ forked k.tasks c.task (made_for_child place) (made_for_child place) clear
      → spaces ≡ with_named k.spaces place 0 memory → files ≡ with_copy c.table (made_for_child place) k.files
      → (with_words words c k).areas ≡ areas
      → with_new_task place (Some memory) clear c (with_words words c k)
      ≡ record k { tasks = tasks; spaces = spaces; areas = areas; files = files }
  words_hidden tasks spaces areas files same e f h g =
      hidden words same
      ∙ ap (λ (k' : Kernel). record k' { areas = (with_words words c k).areas }) (process_as tasks spaces files e f h)
      ∙ ap (λ a. record k { tasks = tasks; spaces = spaces; areas = a; files = files }) g

  -- where it has another, either may be placed first
  apart : (words : Option Words) → (c.memory.place ≢ place) ⊎ ((c.memory.place ≡ place) × (c.memory.index ≢ 0))
      → with_new_task place (Some memory) clear c (with_words words c k)
      ≡ with_words words c (with_new_task place (Some memory) clear c k)
  apart None other = refl
  apart (Some words) other =
      ap (λ s. record (with_new_task place (Some memory) clear c k) { spaces = s; areas = words.areas })
      (with_swapped k.spaces c.memory.place c.memory.index place 0 words.space memory other)

  pub words_behind : (tasks : TaskTable) (spaces left : NamedMap AddressSpace) (areas : NamedMap AreaState)
      (files : OpenFiles)
      → (c.memory.place ≢ place) ⊎ ((c.memory.place ≡ place) × (c.memory.index ≢ 0))
      → tasks ≡ forked k.tasks c.task (made_for_child place) (made_for_child place) clear
      → spaces ≡ with_named k.spaces place 0 memory → files ≡ with_copy c.table (made_for_child place) k.files
      → with_words words c (with_process tasks spaces files)
      ≡ record (with_process tasks spaces files) { spaces = left; areas = areas }
      → with_new_task place (Some memory) clear c (with_words words c k)
      ≡ record k { tasks = tasks; spaces = left; areas = areas; files = files }
  words_behind tasks spaces left areas files other e f h g =
      apart words other ∙ ap (with_words words c) (process_as tasks spaces files e f h) ∙ g
