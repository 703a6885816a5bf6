-- Opening tasks, one after another.
use Rattle.std.proofs.Common.{◌≡◌, ℕ, ◌+◌, ◌-◌, ◌<◌, ◌≤◌, true, false, cond, List, [], ◌∷◌, length, drop, get_or, refl}
use Rattle.std.proofs.Common.{ap, sym, ◌∙◌, subst, arith, length-drop}
use Rattle.std.proofs.lemmas.List.{drop_more, drop_all}
use Rattle.sn_errno.specs.declared.errno.Errno.{Errno}
use Rattle.kernel_model.specs.declared.kernel.Kernel.{Kernel}
use Rattle.mount_file.specs.declared.mounts.Mounts.{Mounts}
use Rattle.mount_file.specs.declared.mounts.Program.{Program}
use Rattle.kernel_model.specs.declared.opening.Opening.{Opening}
use Rattle.kernel_model.specs.declared.opening.OpenedTask.{OpenedTask}
use Rattle.plain_kernel.specs.declared.plain.OpeningErr.{OpeningErr}
use Rattle.plain_kernel.specs.declared.walking.Execved.{Execved}
use Rattle.plain_kernel.specs.declared.walking.Execved.TheVariants as answers
use Rattle.host_node.specs.Tree.{Shape}
use Rattle.elf_image.specs.declared.image.Image.{Image}
use Rattle.kernel_model.specs.opening.Opening.{Executed, execve_of, root_of, bare, Begun, Refuses, Misfits, with_task}
use Rattle.kernel_model.specs.opening.Opening.{task_begun}
use Rattle.kernel_model.specs.opening.Opening.{tasks_begun, opening_of}
use Rattle.kernel_model.specs.opening.Records.{is_of}
use Rattle.kernel_model.specs.entries.Given.{may_meet}
use Rattle.kernel_model.specs.entries.Parts.{parts, outcome_in, changed}
use Rattle.plain_kernel.specs.OpeningTasks.{ExecutesInPlace, IsRefusedBy}

-- an execve that failed refuses the opening
pub fails_refused : (does : Executed) (before after : Kernel) (answer : Execved) (errno : Errno) (rest : Kernel
    → Begun) (begin : Image → Kernel → Kernel) (number : ℕ) → ExecutesInPlace does before after answer
    → answer ≡ answers.Fails errno
    → (k : Kernel) × (task_begun rest begin number before does ≡ Refuses k number errno)
fails_refused does before after answer errno rest begin number e is =
    let (changes, fails, left) = subst (ExecutesInPlace does before after) is e in
    (changed changes before, ap (task_begun rest begin number before) fails)

-- and one that started goes on from the kernel that has its task
pub starts_begun : (does : Executed) (before after left : Kernel) (answer : Execved) (image : Image) (rest : Kernel
    → Begun) (begin : Image → Kernel → Kernel) (number : ℕ) → ExecutesInPlace does before after answer
    → answer ≡ answers.Starts image → left ≡ begin image after → task_begun rest begin number before does ≡ rest left
starts_begun does before after left answer image rest begin number e is adds =
    let (changes, starts, stays) = subst (ExecutesInPlace does before after) is e in
    ap (task_begun rest begin number before) starts ∙ ap (λ k. rest (begin image k)) (sym stays) ∙ ap rest (sym adds)

-- an opening that begins with a task of one number begins with it by another that is the same
pub begun_at : (m n : ℕ) (program : Program) (k : Kernel) (does : Executed) (rest : Kernel → Begun) → m ≡ n
    → task_begun rest (with_task m program) m k does ≡ task_begun rest (with_task n program) n k does
begun_at m n program k does rest same = ap (λ i. task_begun rest (with_task i program) i k does) same

module _ (n : ℕ) (programs : List Program) (opened : List OpenedTask) (k : Kernel) (i : ℕ) where
  -- a program with no record of its opening
  pub no_record : i < length programs → length opened ≤ i → tasks_begun n (drop i programs) (drop i opened) k
      ≡ Misfits n
  no_record inside short =
      ap (λ os. tasks_begun n (drop i programs) os k) (drop_all i opened short)
      ∙ by (drop i programs) (length-drop i programs)
    where
      by : (ps : List Program) → length ps ≡ length programs - i → tasks_begun n ps [] k ≡ Misfits n
      by [] e = absurd (omega arith)
      by (p ∷ ps) e = refl

  -- the next program, by what it may meet
  module _ (p : Program) (o : OpenedTask) (inside : i < length programs) (program : p ≡ get_or programs i p)
      (within : i < length opened) (record_of : o ≡ get_or opened i o) where
    next_begun : tasks_begun n (drop i programs) (drop i opened) k
        ≡ cond (may_meet k.nodes o.given)
        (task_begun (tasks_begun (n + 1) (drop (i + 1) programs) (drop (i + 1) opened)) (with_task n p) n k
        (outcome_in (parts k) (execve_of (root_of k.mounts) p o.given))) (Misfits n)
    next_begun =
        ap (λ ps. tasks_begun n ps (drop i opened) k) (drop_more programs i p inside
        ∙ ap (λ q. q ∷ drop (i + 1) programs) (sym program))
        ∙ ap (λ os. tasks_begun n (p ∷ drop (i + 1) programs) os k) (drop_more opened i o within
        ∙ ap (λ q. q ∷ drop (i + 1) opened) (sym record_of))

    -- it begins by its execve,
    pub next_may : may_meet k.nodes o.given ≡ true
        → tasks_begun n (drop i programs) (drop i opened) k
        ≡ task_begun (tasks_begun (n + 1) (drop (i + 1) programs) (drop (i + 1) opened)) (with_task n p) n k
        (outcome_in (parts k) (execve_of (root_of k.mounts) p o.given))
    next_may may =
        next_begun
        ∙ ap (λ b. cond b
        (task_begun (tasks_begun (n + 1) (drop (i + 1) programs) (drop (i + 1) opened)) (with_task n p) n k
        (outcome_in (parts k) (execve_of (root_of k.mounts) p o.given))) (Misfits n)) may

    -- or its record does not fit
    pub next_misfits : may_meet k.nodes o.given ≡ false → tasks_begun n (drop i programs) (drop i opened) k ≡ Misfits n
    next_misfits may_not =
        next_begun
        ∙ ap (λ b. cond b
        (task_begun (tasks_begun (n + 1) (drop (i + 1) programs) (drop (i + 1) opened)) (with_task n p) n k
        (outcome_in (parts k) (execve_of (root_of k.mounts) p o.given))) (Misfits n)) may_not

-- a record of other mounts or tasks
pub opening_misfit : (mounts : Mounts) (trees : List Shape) (opening : Opening) → is_of mounts opening ≡ false
    → opening_of mounts trees opening ≡ Misfits 0
unfolding opening_of
opening_misfit mounts trees opening other =
    ap (λ b. cond b (tasks_begun 1 mounts.tasks opening.tasks (bare mounts trees)) (Misfits 0)) other

pub opening_begun : (mounts : Mounts) (trees : List Shape) (opening : Opening) → is_of mounts opening ≡ true
    → opening_of mounts trees opening ≡ tasks_begun 1 mounts.tasks opening.tasks (bare mounts trees)
unfolding opening_of
opening_begun mounts trees opening same =
    ap (λ b. cond b (tasks_begun 1 mounts.tasks opening.tasks (bare mounts trees)) (Misfits 0)) same

-- what refuses one opening refuses another that is the same
pub refused_same : (a b : Begun) (e : OpeningErr) → a ≡ b → IsRefusedBy b e → IsRefusedBy a e
refused_same a b e same refused = subst (λ x. IsRefusedBy x e) (sym same) refused

-- the tasks of an opening, begun from the kernel before them
pub begun_from : (mounts : Mounts) (trees : List Shape) (opening : Opening) → is_of mounts opening ≡ true
    → (programs : List Program) (opened : List OpenedTask) (shapes : List Shape) (k : Kernel)
    → programs ≡ mounts.tasks → opened ≡ opening.tasks → shapes ≡ trees → k ≡ bare mounts shapes
    → opening_of mounts trees opening ≡ tasks_begun 1 programs opened k
begun_from mounts trees opening same programs opened shapes k p o t b =
    opening_begun mounts trees opening same
    ∙ sym (ap (λ ps. tasks_begun 1 ps opened k) p ∙ ap (λ os. tasks_begun 1 mounts.tasks os k) o
    ∙ ap (tasks_begun 1 mounts.tasks opening.tasks) (b ∙ ap (bare mounts) t))
