-- An opening execve, piece by piece.
use Rattle.std.proofs.Common.{◌≡◌, ℕ, Bool, true, false, cond, List, [], ◌∷◌, Option, Some, None, Result, refl}
use Rattle.std.proofs.Common.{ap, sym, ◌∙◌, subst, option_map}
use Rattle.std.specs.Prelude.{Ok, Err, not, IfOk, ◌&&◌}
use Rattle.sn_base.specs.declared.memory.Memory.{Memory}
use Rattle.std.specs.List.{list_any}
use Rattle.std.proofs.lemmas.Bool.{and_parts}
use Rattle.sn_errno.specs.declared.errno.Errno.{Errno}
use Rattle.sn_errno.specs.declared.errno.Errno.TheVariants.{EIO, ENFILE}
use Rattle.elf_image.specs.declared.image.Image.{Image}
use Rattle.kernel_model.specs.declared.kernel.Kernel.{Kernel}
use Rattle.kernel_model.specs.declared.opening.Fresh.{Fresh}
use Rattle.kernel_model.specs.declared.opening.Given.{Given}
use Rattle.kernel_model.specs.entries.Given.{Nodes_so_far, has_any, is_in_order, above_last, number_all, node_changes}
use Rattle.kernel_model.specs.entries.Given.{faulted, may_meet, ascend_from, numbers_of}
use Rattle.kernel_model.specs.opening.Opening.{Walked, walk_of, by_walk, draws_just, Executed, Starts, Fails, Unfit}
use Rattle.kernel_model.specs.opening.Opening.{failed_by, by_image, by_numbers, execve, execve_of, root_of, unwalked}
use Rattle.kernel_model.specs.opening.Arguments.{is_too_long}
use Rattle.mount_file.specs.declared.mounts.Program.{Program}
use Rattle.kernel_model.specs.entries.Parts.{Parts, parts, done, outcome_in, ◌>>=◌, Change, changed}
use Rattle.kernel_model.specs.laws.InPlace.{with_nodes, numbered, changed_by}
use Rattle.plain_kernel.specs.declared.walking.Execved.{Execved}
use Rattle.plain_kernel.specs.declared.walking.Execved.TheVariants as answers
use Rattle.kernel_model.specs.laws.Room.{fits}
use Rattle.plain_kernel.specs.OpeningTasks.{ExecutesInPlace, IsByImage, IsFrom, MayStart}
use Rattle.node_numbers.specs.Unused.{AreUnused}
use Rattle.kernel_model.proofs.Trees.{outcome-bind}
use Rattle.node_numbers.proofs.NodesSoFar.{with_nodes_first, all_numbered_is}

-- the number of the root of the mount at `/`, and what an execve of a name comes to that walked there
abbrev slash : Kernel → ℕ
slash k = root_of k.mounts

abbrev goes : Kernel → List ℕ → Given → Walked → Executed
goes k name given walked = outcome_in (parts k) (by_walk (slash k) name given walked)

-- an execve that is not refused before it walks does as its walk comes out
pub execve_is : (k : Kernel) (program : Program) (given : Given) (draws : Bool) (image : Result Image Errno)
    → is_too_long program.args program.env ≡ false
    → outcome_in (parts k) (walk_of (slash k) program.name) ≡ record { draws = draws; image = image }
    → outcome_in (parts k) (execve_of (slash k) program given)
    ≡ goes k program.name given (record { draws = draws; image = image })
execve_is k program given draws image short walks =
    ap (λ b. outcome_in (parts k) (cond b (by_walk (slash k) program.name given unwalked)
    (execve (slash k) program.name given))) short
    ∙ outcome-bind (parts k) (walk_of (slash k) program.name) (by_walk (slash k) program.name given)
    ∙ ap (λ w. goes k program.name given w) walks

-- one that is refused before does as if it had walked to nothing
pub execve_long : (k : Kernel) (program : Program) (given : Given) → is_too_long program.args program.env ≡ true
    → outcome_in (parts k) (execve_of (slash k) program given) ≡ goes k program.name given unwalked
execve_long k program given long =
    ap (λ b. outcome_in (parts k) (cond b (by_walk (slash k) program.name given unwalked)
    (execve (slash k) program.name given))) long

-- the numbers that a walk draws ascend: there is at most one
just_ascend : (root : ℕ) (draws : Bool) (name : List ℕ) (fresh : List Fresh) → draws_just root draws name fresh ≡ true
    → ascend_from 0 (numbers_of fresh) ≡ true
just_ascend root false name [] just = refl
just_ascend root false name (f ∷ fresh) just = absurd (cc just)
just_ascend root true name [] just = absurd (cc just)
just_ascend root true name (f ∷ []) just = ap (λ b. b && true) (and_parts _ _ just).1
just_ascend root true name (f ∷ g ∷ fresh) just = absurd (cc just)

module _ (k : Kernel) (name : List ℕ) (given : Given) (draws : Bool) (image : Result Image Errno) where
  -- ---- with a rise

  module _ (met : has_any given.rises ≡ true) (order : is_in_order given ≡ true) where
    by_failing : goes k name given (record { draws = draws; image = image })
        ≡ failed_by (outcome_in (parts k) (faulted given))
    by_failing =
        ap (λ b. outcome_in (parts k)
        (cond b (cond (is_in_order given) (faulted given >>= λ changes. done (failed_by changes)) (done Unfit))
        (cond (not (draws_just (slash k) draws name given.fresh)) (done Unfit)
        (cond (list_any above_last given.fresh) (done (Fails ENFILE [])) (number_all given.fresh []
        >>= λ nodes. done (by_numbers image nodes)))))) met
        ∙ ap (λ b. outcome_in (parts k) (cond b (faulted given >>= λ changes. done (failed_by changes)) (done Unfit)))
        order
        ∙ outcome-bind (parts k) (faulted given) (λ changes. done (failed_by changes))

    pub rises_unfit : outcome_in (parts k) (faulted given) ≡ None
        → goes k name given (record { draws = draws; image = image }) ≡ Unfit
    rises_unfit none = by_failing ∙ ap failed_by none

    pub rises_fail : (m : Kernel) → changed_by (outcome_in (parts k) (faulted given)) k ≡ Some m
        → (changes : List Change) × (goes k name given (record { draws = draws; image = image })
        ≡ Fails EIO changes) × (m ≡ changed changes k)
    rises_fail m some = by (outcome_in (parts k) (faulted given)) some by_failing
      where
        by : (o : Option (List Change)) → changed_by o k ≡ Some m
            → goes k name given (record { draws = draws; image = image }) ≡ failed_by o
            → (changes : List Change)
            × (goes k name given (record { draws = draws; image = image })
            ≡ Fails EIO changes) × (m ≡ changed changes k)
        by None e is = absurd (cc e)
        by (Some cs) e is = (cs, is, cc e)

  -- ---- without a rise

  module _ (met : has_any given.rises ≡ false) (just : draws_just (slash k) draws name given.fresh ≡ true)
      (small : list_any above_last given.fresh ≡ false) where
    by_drawing : goes k name given (record { draws = draws; image = image })
        ≡ by_numbers image (outcome_in (parts k) (number_all given.fresh []))
    by_drawing =
        ap (λ b. outcome_in (parts k)
        (cond b (cond (is_in_order given) (faulted given >>= λ changes. done (failed_by changes)) (done Unfit))
        (cond (not (draws_just (slash k) draws name given.fresh)) (done Unfit)
        (cond (list_any above_last given.fresh) (done (Fails ENFILE [])) (number_all given.fresh []
        >>= λ nodes. done (by_numbers image nodes)))))) met
        ∙ ap
        (λ b. outcome_in (parts k)
        (cond (not b) (done Unfit) (cond (list_any above_last given.fresh) (done (Fails ENFILE []))
        (number_all given.fresh [] >>= λ nodes. done (by_numbers image nodes))))) just
        ∙ ap (λ b. outcome_in (parts k) (cond b (done (Fails ENFILE [])) (number_all given.fresh []
        >>= λ nodes. done (by_numbers image nodes)))) small
        ∙ outcome-bind (parts k) (number_all given.fresh []) (λ nodes. done (by_numbers image nodes))

    -- the numbers that it draws are unused
    drawn_unused : may_meet k.nodes given ≡ true → AreUnused given.fresh k
    drawn_unused may = record {
      ascend = just_ascend (slash k) draws name given.fresh just;
      unused = (and_parts _ _ may).0;
    }

    pub numbers_unfit : may_meet k.nodes given ≡ true → numbered given.fresh k ≡ None
        → goes k name given (record { draws = draws; image = image }) ≡ Unfit
    numbers_unfit may none =
        by_drawing
        ∙ by (outcome_in (parts k) (number_all given.fresh []))
        (all_numbered_is given.fresh k (drawn_unused may) ∙ none)
      where
        by : (o : Option Nodes_so_far) → option_map (λ ns. with_nodes ns k) o ≡ None → by_numbers image o ≡ Unfit
        by None e = refl
        by (Some ns) e = absurd (cc e)

    pub numbers_fit : may_meet k.nodes given ≡ true → (m : Kernel) → numbered given.fresh k ≡ Some m
        → (changes : List Change) × (goes k name given (record { draws = draws; image = image })
        ≡ by_image image changes) × (m ≡ changed changes k)
    numbers_fit may m some =
        by (outcome_in (parts k) (number_all given.fresh []))
        (all_numbered_is given.fresh k (drawn_unused may) ∙ some) by_drawing
      where
        by : (o : Option Nodes_so_far) → option_map (λ ns. with_nodes ns k) o ≡ Some m
            → goes k name given (record { draws = draws; image = image }) ≡ by_numbers image o
            → (changes : List Change)
            × (goes k name given (record { draws = draws; image = image })
            ≡ by_image image changes) × (m ≡ changed changes k)
        by None e is = absurd (cc e)
        by (Some ns) e is = (node_changes ns, is, cc e)

-- what an execve in place answers by its image is what it does
pub executes_by : (does : Executed) (before after : Kernel) (image : Result Image Errno) (answer : Execved)
    → IsByImage image answer → (changes : List Change) × (does ≡ by_image image changes)
    × (after ≡ changed changes before) → ExecutesInPlace does before after answer
executes_by does before after image (answers.Starts elf) is (changes, e, a) =
    (changes, e ∙ ap (λ i. by_image i changes) is, a)
executes_by does before after image (answers.Fails errno) is (changes, e, a) =
    (changes, e ∙ ap (λ i. by_image i changes) is, a)
executes_by does before after image answers.Unfit is c = absurd is

-- what an execve starts where its strings are too long: nothing
pub none_starts : (program : Program) (errno : Errno) (image : Result Image Errno) (r : Result Execved Memory)
    → image ≡ Err errno
    → IfOk r (IsFrom image) → IfOk r (MayStart program)
none_starts program errno image (Err e) refused from = tt
none_starts program errno image (Ok (answers.Starts elf)) refused from = absurd (cc (refused, from))
none_starts program errno image (Ok (answers.Fails e)) refused from = tt
none_starts program errno image (Ok answers.Unfit) refused from = tt

-- and where they are not: an image that may be mapped
pub fitting_starts : (program : Program) (image : Result Image Errno) (r : Result Execved Memory)
    → is_too_long program.args program.env ≡ false → fits image ≡ true → IfOk r (IsFrom image)
    → IfOk r (MayStart program)
fitting_starts program image (Err e) short room from = tt
fitting_starts program image (Ok (answers.Starts elf)) short room from = (short, sym (ap fits from) ∙ room)
fitting_starts program image (Ok (answers.Fails e)) short room from = tt
fitting_starts program image (Ok answers.Unfit) short room from = tt

-- what an execve in place does where its strings are too long
pub as_refused : (k after : Kernel) (program : Program) (name : List ℕ) (given : Given) (draws : Bool)
    (image : Result Image Errno) (r : Result Execved Memory) → is_too_long program.args program.env ≡ true
    → name ≡ program.name
    → record { draws = draws; image = image } ≡ unwalked
    → IfOk r (ExecutesInPlace (goes k name given (record { draws = draws; image = image })) k after)
    → IfOk r (ExecutesInPlace (outcome_in (parts k) (execve_of (slash k) program given)) k after)
as_refused k after program name given draws image r long named walk does =
    subst (λ (d : Executed). IfOk r (ExecutesInPlace d k after)) (sym (execve_long k program given long))
    (subst (λ (w : Walked). IfOk r (ExecutesInPlace (goes k program.name given w) k after)) walk
    (subst
    (λ (n : List ℕ). IfOk r (ExecutesInPlace (goes k n given (record { draws = draws; image = image }))
    k after)) named does))

-- and where they are not
pub as_walked : (k after : Kernel) (program : Program) (name : List ℕ) (given : Given) (draws : Bool)
    (image : Result Image Errno) (r : Result Execved Memory) → is_too_long program.args program.env ≡ false
    → name ≡ program.name
    → outcome_in (parts k) (walk_of (slash k) name) ≡ record { draws = draws; image = image }
    → IfOk r (ExecutesInPlace (goes k name given (record { draws = draws; image = image })) k after)
    → IfOk r (ExecutesInPlace (outcome_in (parts k) (execve_of (slash k) program given)) k after)
as_walked k after program name given draws image r short named walks does =
    subst (λ (d : Executed). IfOk r (ExecutesInPlace d k after))
    (sym
    (execve_is k program given draws image short (subst (λ (n : List ℕ). outcome_in (parts k) (walk_of (slash k) n)
    ≡ record { draws = draws; image = image }) named walks)))
    (subst
    (λ (n : List ℕ). IfOk r (ExecutesInPlace (goes k n given (record { draws = draws; image = image }))
    k after)) named does)

-- ---- what an execve that starts leaves

tasks_with_nodes : (nodes : Nodes_so_far) (k : Kernel) → (with_nodes nodes k).tasks ≡ k.tasks
tasks_with_nodes [] k = refl
tasks_with_nodes (n ∷ ns) k = ap (λ (m : Kernel). m.tasks) (with_nodes_first n ns k) ∙ tasks_with_nodes ns k

-- the changes of an execve that starts are nodes, which leave the tasks
module _ (s : Parts) (k : Kernel) (elf : Image) (changes : List Change) where
  started_by : (image : Result Image Errno) (o : Option Nodes_so_far) → by_numbers image o ≡ Starts elf changes
      → (changed changes k).tasks ≡ k.tasks
  started_by image None e = absurd (cc e)
  started_by (Ok i) (Some nodes) e =
      let is : changes ≡ node_changes nodes = cc e in
      ap (λ cs. (changed cs k).tasks) is ∙ tasks_with_nodes nodes k
  started_by (Err errno) (Some nodes) e = absurd (cc e)

  failed_starts : (o : Option (List Change)) → failed_by o ≡ Starts elf changes → ⊥
  failed_starts None e = cc e
  failed_starts (Some cs) e = cc e

  walk_starts : (name : List ℕ) (given : Given) (w : Walked)
      → outcome_in s (by_walk (slash k) name given w) ≡ Starts elf changes
      → (changed changes k).tasks ≡ k.tasks
  walk_starts name given w =
      by (has_any given.rises) (is_in_order given) (draws_just (slash k) w.draws name given.fresh)
      (list_any above_last given.fresh)
    where
      by : (rises order just above : Bool)
          → outcome_in s (cond rises (cond order (faulted given >>= λ changes. done (failed_by changes)) (done Unfit))
          (cond (not just) (done Unfit) (cond above (done (Fails ENFILE []))
          (number_all given.fresh [] >>= λ nodes. done (by_numbers w.image nodes))))) ≡ Starts elf changes
          → (changed changes k).tasks ≡ k.tasks
      by true true just above e =
          absurd (failed_starts (outcome_in s (faulted given))
          (sym (outcome-bind s (faulted given) (λ changes. done (failed_by changes))) ∙ e))
      by true false just above e = absurd (cc e)
      by false order false above e = absurd (cc e)
      by false order true true e = absurd (cc e)
      by false order true false e =
          started_by w.image (outcome_in s (number_all given.fresh []))
          (sym (outcome-bind s (number_all given.fresh []) (λ nodes. done (by_numbers w.image nodes))) ∙ e)

  execve_starts : (program : Program) (given : Given)
      → outcome_in s (execve_of (slash k) program given) ≡ Starts elf changes
      → (changed changes k).tasks ≡ k.tasks
  execve_starts program given = by (is_too_long program.args program.env)
    where
      by : (long : Bool)
          → outcome_in s (cond long (by_walk (slash k) program.name given unwalked)
          (execve (slash k) program.name given)) ≡ Starts elf changes
          → (changed changes k).tasks ≡ k.tasks
      by true e = walk_starts program.name given unwalked e
      by false e =
          walk_starts program.name given (outcome_in s (walk_of (slash k) program.name))
          (sym (outcome-bind s (walk_of (slash k) program.name) (by_walk (slash k) program.name given)) ∙ e)

-- so the tasks are those before, after an execve in place that starts
pub tasks_stay : (k after : Kernel) (program : Program) (given : Given) (answer : Execved) (image : Image)
    → answer ≡ answers.Starts image
    → ExecutesInPlace (outcome_in (parts k) (execve_of (slash k) program given)) k after answer
    → after.tasks ≡ k.tasks
tasks_stay k after program given answer image is does =
    let (changes, starts, left) =
    subst (ExecutesInPlace (outcome_in (parts k) (execve_of (slash k) program given)) k after) is does in
    ap (λ (m : Kernel). m.tasks) left ∙ execve_starts (parts k) k image changes program given starts
