-- One opening task more begins, or its execve refuses the opening.
use Rattle.std.proofs.Common.{◌≡◌, ℕ, suc, ◌+◌, ◌<◌, ◌≤◌, Bool, true, false, List, [], ◌∷◌, ◌++◌, length, drop, refl}
use Rattle.std.proofs.Common.{ap, sym, ◌∙◌, ◌⊎◌, inl, inr}
use Rattle.std.proofs.Common.{subst, arith, length-append}
use Rattle.std.specs.Prelude.{Option, Some, None, Result, Ok, Err, IfOk, IfErr, IsErrAnd, slice_get, ⊤}
use Rattle.std.specs.Prelude.{IfSome, IsSomeAnd, if◌then◌else◌, option_map}
use Rattle.std.proofs.lemmas.List.{drop_more}
use Rattle.std.proofs.lemmas.Option.{get_or_from_slice_get, slice_get_within}
use Rattle.host_node.specs.Tree.{Shape}
use Rattle.sn_errno.specs.declared.errno.Errno.{Errno}
use Rattle.elf_image.specs.declared.image.Image.{Image as Executable}
use Rattle.mount_file.specs.Form.{HasForm}
use Rattle.mount_file.specs.declared.rules.TheConstants.{MOST_MOUNTS}
use Rattle.mount_file.specs.declared.mounts.Mounts.{Mounts}
use Rattle.mount_file.specs.declared.mounts.Program.{Program}
use Rattle.task_table.specs.Table.{TaskTable}
use Rattle.kernel_model.specs.declared.limits.TheConstants.{LAST_NUMBER}
use Rattle.kernel_model.specs.declared.kernel.Kernel.{Kernel}
use Rattle.kernel_model.specs.declared.opening.Given.{Given}
use Rattle.kernel_model.specs.declared.opening.OpenedTask.{OpenedTask}
use Rattle.kernel_model.specs.declared.opening.Rise.{Rise}
use Rattle.kernel_model.specs.entries.Given.{may_meet}
use Rattle.kernel_model.specs.entries.Parts.{parts, outcome_in, changed}
use Rattle.kernel_model.specs.files.FileTree.{Nodes}
use Rattle.kernel_model.specs.opening.Arguments.{is_too_long}
use Rattle.kernel_model.specs.opening.Opening.{Misfits, Refuses, Walked, execve_of}
use Rattle.kernel_model.specs.opening.Opening.{made_by, root_of}
use Rattle.kernel_model.specs.opening.Opening.{task_begun, tasks_begun, with_task}
use Rattle.kernel_model.proofs.OpenedTasks.{AreOpened, opened_more}
use Rattle.image_walk.specs.declared.granted.TheConstants.{MOST_ROOTS}
use Rattle.image_walk.specs.declared.granted.Numbering.{Numbering}
use Rattle.image_walk.specs.declared.loading.ImageAnswer.{ImageAnswer}
use Rattle.image_walk.specs.declared.loading.ImageAnswer.TheVariants as answers
use Rattle.image_walk.specs.Executing.{AnswersExecve, Executes, named_then, walked_among}
use Rattle.image_walk.specs.Granted.{LentChild}
use Rattle.image_walk.specs.Standing.{IsNumbering, StandsLent, lent_from}
use Rattle.image_walk.specs.Walking.{IsGrant}
use Rattle.image_walk.proofs.KernelAnswers.{Started, Failed, execve_starts, execve_fails, stands_on}
use Rattle.call_table.specs.declared.processes.Processes.{Processes}
use Rattle.proc_cells.specs.Beside.{Beside}
use Rattle.call_table.specs.Processes.{kernel_of_processes}
use Rattle.run_opening.specs.declared.opening.OpenErr.{OpenErr}
use Rattle.run_opening.specs.declared.opening.OpenErr.TheVariants.{Image, Memory}
use Rattle.run_opening.specs.Begun.{GoesOn, HasBegun, IsOpeningRefused, Stops}
use Rattle.run_opening.specs.Openings.{Begins, IsStanding, MayLackMemory, StandsAfter, StandsStill, beside_of, numbering_of}
use Rattle.run_opening.specs.Told.{kernel_told, trees_told}
use Rattle.run_opening.specs.Trees.{AreOthers, Others}
use Rattle.run_opening.proofs.Roots.{have_trees, root_within}
use Rattle.run_opening.proofs.Telling.{Tells, tells, told_nodes}

-- ---- the numbers

pub are_numbering : (m : Mounts) → HasForm m → IsNumbering (numbering_of m.mounts)
are_numbering m form =
    let within = root_within 1 m.mounts form.rooted in
    let few : length m.mounts ≤ MOST_MOUNTS = form.few_mounts in
    (omega arith, omega arith, omega arith)

-- a granted tree has a child for each name
lent_each : (n : ℕ) (t : Shape) (names : List (List ℕ)) (rises : List Rise)
    → length (lent_from n t names rises) ≡ length names
lent_each n t [] rises = refl
lent_each n t (name ∷ names) rises = ap suc (lent_each (n + 1) t names rises)

length_standing : (num : Numbering) (t : Shape) (names : List (List ℕ)) (root : Option Shape)
    (children : List LentChild)
    → StandsLent num t names [] root children → length children ≡ length names
length_standing num t names root children s = ap length s.children_tell ∙ lent_each num.first t names []

-- nothing is asked of what may be told
if_any : {A : Type 0} (o : Option A) → IfSome o (λ _. ⊤)
if_any None = tt
if_any (Some a) = tt

-- ---- an execve

-- what an execve did, for each tree that its nodes may tell
abbrev pub ExecutesFor : Numbering → Program → Given → ImageAnswer → (root root' : Option Shape)
    → (children children' : List LentChild) → Type 0
ExecutesFor num program given answer root root' children children' =
    (t : Shape) (names : List (List ℕ)) → StandsLent num t names [] root children
    → Executes num (is_too_long program.args program.env) t names program.name given answer root' children'

-- the numbers of the names that an execve leaves
named_few : (drawn : Bool) (names : List (List ℕ)) (name : List ℕ) → length (named_then drawn names name)
    ≤ length names + 1
named_few true names name = let longer = length-append names (name ∷ []) in omega (arith, longer)
named_few false names name = omega arith

-- the programs from one on
next_programs : (programs : List Program) (i : ℕ) (p : Program) → slice_get programs i ≡ Some p
    → drop i programs ≡ p ∷ drop (i + 1) programs
next_programs programs i p e =
    drop_more programs i p (slice_get_within programs i p e)
    ∙ ap (λ q. q ∷ drop (i + 1) programs) (get_or_from_slice_get programs i p p e)

-- where nothing is told of a state, nothing is said of what comes after it
none_told : (m : Mounts) (others : Others) (p : Processes) (root : Option Shape) (children : List LentChild)
    (fact : Kernel → Type 0) → root ≡ None → IfSome (kernel_told m (trees_told others root children) p 0) fact
none_told m others p root children fact e =
    subst (λ (o : Option Shape). IfSome (kernel_told m (trees_told others o children) p 0) fact) (sym e) tt

module _ (m : Mounts) (others : Others) (is : AreOthers m.mounts others) (t : Shape) (names : List (List ℕ)) (i : ℕ)
    (tasks tasks' : List OpenedTask) (p : Processes) (program : Program) (o : OpenedTask)
    (root root' : Option Shape) (children children' : List LentChild)
    (s : StandsLent (numbering_of m.mounts) t names [] root children) (at : slice_get m.tasks i ≡ Some program)
    (drawn : length children ≤ i) (few : i < 64) (pushed : tasks' ≡ tasks ++ o ∷ [])
    (facts : IsNumbering (numbering_of m.mounts)) where
  abbrev num : Numbering
  num = numbering_of m.mounts

  h : Tells num others t names root children
  h = tells m.mounts others is t names root children s

  abbrev k : Kernel
  k = kernel_of_processes p (beside_of m h.nodes) 0

  tells_k : kernel_told m (trees_told others root children) p 0 ≡ Some k
  tells_k = ap (option_map (λ nodes. kernel_of_processes p (beside_of m nodes) 0)) h.told

  room : length names + num.first ≤ LAST_NUMBER
  room =
      let named : length names ≤ i = subst (λ (n : ℕ). n ≤ i) (length_standing num t names root children s) drawn in
      let low : num.first ≤ MOST_ROOTS + 1 = facts.2 in
      omega arith

  -- what is left comes to what the next execve does, where what it drew and met may be
  next : (rest : List OpenedTask) → may_meet h.nodes o.given ≡ true
      → tasks_begun (i + 1) (drop i m.tasks) (o ∷ rest) k
      ≡ task_begun (tasks_begun (i + 1 + 1) (drop (i + 1) m.tasks) rest) (with_task (i + 1) program) (i + 1) k
      (outcome_in (parts k) (execve_of num.root program o.given))
  next rest may =
      ap (λ ps. tasks_begun (i + 1) ps (o ∷ rest) k) (next_programs m.tasks i program at)
      ∙ ap (λ b. if b
      then task_begun (tasks_begun (i + 1 + 1) (drop (i + 1) m.tasks) rest) (with_task (i + 1) program) (i + 1) k
      (outcome_in (parts k) (execve_of num.root program o.given))
      else Misfits (i + 1)) may

  -- ---- it starts an image

  module _ (image : Executable) (more : Processes)
      (e : Executes num (is_too_long program.args program.env) t names program.name o.given (answers.Starts image)
      root' children')
      (last : p.cells.tasks.last ≡ i)
      (begun : (beside : Beside) (n : ℕ) → beside.seed ≡ m.seed → root_of beside.mounts ≡ root_of m.mounts
      → kernel_of_processes more beside n ≡ with_task (p.cells.tasks.last + 1) program image
      (kernel_of_processes p beside n)) where
    started : Started num k t (named_then e.drawn names program.name) program o.given image
    started =
        execve_starts num facts k t names o.given (answers.Starts image) root' children' program h.are refl room e
        image refl

    abbrev nodes' : Nodes
    nodes' = (changed started.changes k).nodes

    abbrev k' : Kernel
    k' = kernel_of_processes more (beside_of m nodes') 0

    after : with_task (i + 1) program image (changed started.changes k) ≡ k'
    after =
        ap (with_task (i + 1) program image) started.rest
        ∙ ap (λ n. with_task (n + 1) program image (kernel_of_processes p (beside_of m nodes') 0)) (sym last)
        ∙ sym (begun (beside_of m nodes') 0 refl refl)

    tells_after : kernel_told m (trees_told others root' children') more 0 ≡ Some k'
    tells_after =
        ap (option_map (λ nodes. kernel_of_processes more (beside_of m nodes) 0))
        (told_nodes m.mounts others is t (named_then e.drawn names program.name) nodes' root' children'
        (stands_on num (is_too_long program.args program.env) t names program.name o.given image root' children' e)
        started.nodes (λ ino differs low. started.others ino differs low ∙ h.kept ino differs low))

    begins : HasBegun m i (i + 1) tasks tasks' k k'
    begins = record {
      opened = o ∷ [];
      added = pushed;
      begun = λ rest.
          next rest started.may
          ∙ ap (task_begun (tasks_begun (i + 1 + 1) (drop (i + 1) m.tasks) rest) (with_task (i + 1) program) (i + 1) k)
          started.comes
          ∙ ap (tasks_begun (i + 1 + 1) (drop (i + 1) m.tasks) rest) after;
    }

    pub task_begins : GoesOn m i (i + 1) tasks tasks' (kernel_told m (trees_told others root children) p 0)
        (kernel_told m (trees_told others root' children') more 0)
    task_begins =
        subst (λ (x : Option Kernel). GoesOn m i (i + 1) tasks tasks' x
        (kernel_told m (trees_told others root' children') more 0)) (sym tells_k)
        (subst (λ (x : Option Kernel). IsSomeAnd x (HasBegun m i (i + 1) tasks tasks' k)) (sym tells_after) begins)

  -- ---- it fails

  module _ (errno : Errno)
      (e : Executes num (is_too_long program.args program.env) t names program.name o.given (answers.Refuses errno)
      root' children') where
    failed : Failed num k program o.given errno root' children'
    failed =
        execve_fails num facts k t names o.given (answers.Refuses errno) root' children' program h.are refl room e
        errno refl

    refused : (task : ℕ) → task ≡ i + 1
        → IsOpeningRefused m i tasks tasks' task errno (trees_told others root' children') k
    refused task same = record {
      opened = o ∷ [];
      added = pushed;
      left = changed failed.changes k;
      refuses =
          next [] failed.may
          ∙ ap (task_begun (tasks_begun (i + 1 + 1) (drop (i + 1) m.tasks) []) (with_task (i + 1) program) (i + 1) k)
          failed.comes
          ∙ ap (λ n. Refuses (changed failed.changes k) n errno) (sym same);
      settles = failed.settles;
      others_keep = λ after tree.
          have_trees m.mounts others t after (changed failed.changes k) is
          (λ ino differs low. failed.others ino differs low ∙ h.kept ino differs low) failed.still tree;
    }

    pub task_refused : (task : ℕ) → task ≡ i + 1 → IfSome (kernel_told m (trees_told others root children) p 0)
        (IsOpeningRefused m i tasks tasks' task errno (trees_told others root' children'))
    task_refused task same =
        subst (λ (x : Option Kernel). IfSome x
        (IsOpeningRefused m i tasks tasks' task errno (trees_told others root' children'))) (sym tells_k)
        (refused task same)

-- the folder stands, whatever an execve answers,
pub standing : (num : Numbering) (long : Bool) (t : Shape) (names : List (List ℕ)) (name : List ℕ) (given : Given)
    (answer : ImageAnswer)
    (root : Option Shape) (children : List LentChild)
    → Executes num long t names name given answer root children → IsStanding num t root children
standing num long t names name given answer root children e =
    record { names = named_then e.drawn names name; rises = given.rises; stands = e.stands }

-- and no count has risen where an image begins,
stands_then : (num : Numbering) (long : Bool) (t : Shape) (names : List (List ℕ)) (name : List ℕ) (given : Given)
    (image : Executable) (answer : ImageAnswer) (root : Option Shape) (children : List LentChild)
    → answer ≡ answers.Starts image
    → Executes num long t names name given answer root children → StandsStill num t root children
stands_then num long t names name given image answer root children is e =
    let started = subst (λ (x : ImageAnswer). Executes num long t names name given x root children) is e in
    record {
      names = named_then started.drawn names name;
      stands = stands_on num long t names name given image root children started;
    }

-- or where memory is wanting
still_by : (num : Numbering) (long : Bool) (walked : Walked) (drawn : Bool) (count : ℕ) (t : Shape)
    (names : List (List ℕ)) (rises : List Rise) (root : Option Shape) (children : List LentChild)
    → StandsLent num t names rises root children → AnswersExecve num long walked drawn count rises answers.Memory
    → StandsLent num t names [] root children
still_by num true walked drawn count t names rises root children s a = absurd (cc a.2)
still_by num false walked drawn count t names [] root children s a = s
still_by num false walked drawn count t names (rise ∷ []) root children s a = absurd (cc a.0)
still_by num false walked drawn count t names (rise ∷ other ∷ rises) root children s a = absurd a

lacks_then : (num : Numbering) (long : Bool) (t : Shape) (names : List (List ℕ)) (name : List ℕ) (given : Given)
    (answer : ImageAnswer) (root : Option Shape) (children : List LentChild) → MayLackMemory answer
    → Executes num long t names name given answer root children → StandsStill num t root children
lacks_then num long t names name given answer root children (inl starts) e =
    stands_then num long t names name given starts.0 answer root children starts.1 e
lacks_then num long t names name given answer root children (inr lacks) e =
    let lacking = subst (λ (x : ImageAnswer). Executes num long t names name given x root children) lacks e in
    record {
      names = named_then lacking.drawn names name;
      stands =
          still_by num long (walked_among num t names name) lacking.drawn
          (length (named_then lacking.drawn names name)) t (named_then lacking.drawn names name) given.rises root
          children lacking.stands lacking.answers;
    }

-- ---- what comes of the answer

-- what is told by the numbers of the folder, by those of the mount file
pub executes_as : (m : Mounts) (num : Numbering) (program : Program) (given : Given) (answer : ImageAnswer)
    (root root' : Option Shape) (children children' : List LentChild) → num ≡ numbering_of m.mounts
    → ExecutesFor num program given answer root root' children children'
    → ExecutesFor (numbering_of m.mounts) program given answer root root' children children'
executes_as m num program given answer root root' children children' numbered e =
    subst (λ (x : Numbering). ExecutesFor x program given answer root root' children children') numbered e

pub begins_as : (m : Mounts) (num : Numbering) (seed : List ℕ) (program : Program) (answer : ImageAnswer)
    (p : Processes)
    (result : Result Processes OpenErr) → num ≡ numbering_of m.mounts → seed ≡ m.seed
    → Begins seed num.root program answer p result → Begins m.seed (root_of m.mounts) program answer p result
begins_as m num seed program answer p result numbered same b =
    subst (λ (s : List ℕ). Begins s (root_of m.mounts) program answer p result) same
    (subst (λ (x : Numbering). Begins seed x.root program answer p result) numbered b)

-- the folder before an execve tells nothing, or it stands
before : (num : Numbering) (root : Option Shape) (children : List LentChild) → IsGrant num root children
    → (root ≡ None) ⊎ ((t : Shape) × (names : List (List ℕ)) × StandsLent num t names [] root children)
before num None children g = inl refl
before num (Some r) children g = inr (g.0, g.1, g.3)

-- an execve of the program of an index, and what came of its answer
pub record Deed (m : Mounts) (i : ℕ) (tasks tasks' : List OpenedTask) (p : Processes) (root root' : Option Shape)
    (children children' : List LentChild) (result : Result Processes OpenErr) : Type 0 where
  pub program : Program
  pub at : slice_get m.tasks i ≡ Some program
  pub opened : OpenedTask
  pub pushed : tasks' ≡ tasks ++ opened ∷ []
  pub answer : ImageAnswer
  pub executes : ExecutesFor (numbering_of m.mounts) program opened.given answer root root' children children'
  pub begins : Begins m.seed (root_of m.mounts) program answer p result
  pub last : p.cells.tasks.last ≡ i
  pub few : i < 64
  pub drawn : length children ≤ i
  pub facts : IsNumbering (numbering_of m.mounts)
  pub grant : IsGrant (numbering_of m.mounts) root children

module _ (m : Mounts) (i : ℕ) (tasks tasks' : List OpenedTask) (p : Processes) (root root' : Option Shape)
    (children children' : List LentChild) where
  abbrev numbers : Numbering
  numbers = numbering_of m.mounts

  pub begun_then : (result : Result Processes OpenErr)
      → Deed m i tasks tasks' p root root' children children' result
      → IfOk result (λ q. (others : Others) → AreOthers m.mounts others
      → GoesOn m i (i + 1) tasks tasks' (kernel_told m (trees_told others root children) p 0)
      (kernel_told m (trees_told others root' children') q 0))
  begun_then (Err e) d = tt
  begun_then (Ok q) d = λ others is. elim (before numbers root children d.grant) [
    | inl none ↦ none_told m others p root children _ none
    | inr g ↦
        task_begins m others is g.0 g.1 i tasks tasks' p d.program d.opened root root' children children' g.2
        d.at d.drawn d.few d.pushed d.facts d.begins.0 q
        (subst (λ (x : ImageAnswer). Executes numbers (is_too_long d.program.args d.program.env) g.0 g.1 d.program.name
        d.opened.given x root' children') d.begins.1 (d.executes g.0 g.1 g.2)) d.last d.begins.3
  ]

  pub stopped_then : (result : Result Processes OpenErr)
      → Deed m i tasks tasks' p root root' children children' result
      → IfErr result (λ e. (others : Others) → AreOthers m.mounts others
      → IfSome (kernel_told m (trees_told others root children) p 0)
      (Stops m i tasks tasks' e (trees_told others root' children')))
  stopped_then (Ok q) d = tt
  stopped_then (Err (Image task errno)) d = λ others is. elim (before numbers root children d.grant) [
    | inl none ↦ none_told m others p root children _ none
    | inr g ↦
        task_refused m others is g.0 g.1 i tasks tasks' p d.program d.opened root root' children children' g.2
        d.at d.drawn d.few d.pushed d.facts errno
        (subst (λ (x : ImageAnswer). Executes numbers (is_too_long d.program.args d.program.env) g.0 g.1 d.program.name
        d.opened.given x root' children') d.begins.1 (d.executes g.0 g.1 g.2)) task
        (d.begins.0 ∙ ap (λ n. n + 1) d.last)
  ]
  stopped_then (Err Memory) d = λ others is. if_any _

  pub stands_still : (result : Result Processes OpenErr)
      → Deed m i tasks tasks' p root root' children children' result
      → IfOk result (λ q. (t : Shape) → StandsStill numbers t root children → StandsStill numbers t root' children')
  stands_still (Err e) d = tt
  stands_still (Ok q) d = λ t s.
      stands_then numbers (is_too_long d.program.args d.program.env) t s.names d.program.name d.opened.given
      d.begins.0 d.answer root' children' d.begins.1 (d.executes t s.names s.stands)

-- what an execve that did not begin leaves of the folder
pub stands_err : (m : Mounts) (seed : List ℕ) (at : ℕ) (program : Program) (given : Given) (answer : ImageAnswer)
    (p : Processes) (root root' : Option Shape) (children children' : List LentChild)
    → ExecutesFor (numbering_of m.mounts) program given answer root root' children children'
    → (result : Result Processes OpenErr) → Begins seed at program answer p result
    → IfErr result (λ e. (t : Shape) → StandsStill (numbering_of m.mounts) t root children
    → StandsAfter e (numbering_of m.mounts) t root' children')
stands_err m seed at program given answer p root root' children children' executes (Ok q) b = tt
stands_err m seed at program given answer p root root' children children' executes (Err (Image task errno)) b =
    λ t s.
    standing (numbering_of m.mounts) (is_too_long program.args program.env) t s.names program.name given answer root'
    children' (executes t s.names s.stands)
stands_err m seed at program given answer p root root' children children' executes (Err Memory) b = λ t s.
    lacks_then (numbering_of m.mounts) (is_too_long program.args program.env) t s.names program.name given answer root'
    children' b (executes t s.names s.stands)

-- a folder that is as it was stands as it did
pub stands_kept : (num : Numbering) (root root' : Option Shape) (children children' : List LentChild)
    (result : Result Processes OpenErr) → root' ≡ root → children' ≡ children
    → IsErrAnd result (λ e. e ≡ Memory)
    → IfErr result (λ e. (t : Shape) → StandsStill num t root children → StandsAfter e num t root' children')
stands_kept num root root' children children' (Ok q) same alike is = tt
stands_kept num root root' children children' (Err e) same alike is = λ t s.
    subst (λ (x : OpenErr). StandsAfter x num t root' children') (sym is)
    (subst (λ (o : Option Shape). StandsStill num t o children') (sym same)
    (subst (λ (cs : List LentChild). StandsStill num t root cs) (sym alike) s))

-- so many tasks live, and there is room for more
pub opened_then : (seed : List ℕ) (root : ℕ) (program : Program) (answer : ImageAnswer) (i : ℕ) (p : Processes)
    (result : Result Processes OpenErr) → AreOpened i p.cells.tasks → i < 64 → Begins seed root program answer p result
    → IfOk result (λ q. AreOpened (i + 1) q.cells.tasks)
opened_then seed root program answer i p (Err e) o few b = tt
opened_then seed root program answer i p (Ok q) o few b =
    subst (λ (list : TaskTable). AreOpened (i + 1) list) (sym b.2)
    (opened_more i p.cells.tasks (made_by (p.cells.tasks.last + 1)) (made_by (p.cells.tasks.last + 1)) root few o)
