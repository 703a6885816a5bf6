-- The record of an opening is of its mount file, and its numbers have no gap.
use Rattle.std.proofs.Common.{◌≡◌, ℕ, zero, suc, ◌+◌, Bool, true, false, List, [], ◌∷◌, ◌++◌, length, take, refl, ap}
use Rattle.std.proofs.Common.{sym, ◌∙◌, subst, arith}
use Rattle.std.specs.Prelude.{Option, Some, None, if◌then◌else◌, ◌&&◌, map, nat_eq}
use Rattle.std.specs.Str.{bytes_eq}
use Rattle.std.proofs.lemmas.Bool.{eq-eqb}
use Rattle.std.proofs.lemmas.Slice.Eq.{bytes_eq-Decides}
use Rattle.host_node.specs.Tree.{Shape}
use Rattle.sn_text.specs.Folders.{FolderPath}
use Rattle.mount_file.specs.declared.mounts.Mounts.{Mounts}
use Rattle.mount_file.specs.declared.mounts.Mount.{Mount}
use Rattle.mount_file.specs.declared.mounts.Program.{Program}
use Rattle.mount_file.specs.Rules.{is_same_place}
use Rattle.kernel_model.specs.declared.opening.Opening.{Opening}
use Rattle.kernel_model.specs.declared.opening.OpenedTask.{OpenedTask}
use Rattle.kernel_model.specs.files.Numbers.{IsGapless, numbers_opened, count_up}
use Rattle.kernel_model.specs.opening.Opening.{Misfits, bare, opening_of}
use Rattle.kernel_model.specs.opening.Records.{begins, is_of, same_flag, same_folder}
use lib.Pointwise.{pointwise}
use Rattle.kernel_model.specs.opening.Opening.{tasks_begun}
use Rattle.kernel_model.specs.opening.Records.{same_mount}
use Rattle.run_opening.specs.Records.{IsRecorded}
use Rattle.sentry_run.specs.Played.{first_of, nothing_opened}

-- ---- what is the same as itself

same_bytes : (name : List ℕ) → bytes_eq name name ≡ true
same_bytes name = (bytes_eq-Decides name name).1 refl

same_flags : (b : Bool) → same_flag b b ≡ true
same_flags true = refl
same_flags false = refl

same_places : (at : Option (List ℕ)) → is_same_place at at ≡ true
same_places None = refl
same_places (Some name) = same_bytes name

both : {a b : Bool} → a ≡ true → b ≡ true → (a && b) ≡ true
both {a} {b} p q = ap (λ x. x && b) p ∙ q

same_lists : {A : Type 0} (same : A → A → Bool) → ((x : A) → same x x ≡ true) → (xs : List A)
    → pointwise same xs xs ≡ true
same_lists same each [] = refl
same_lists same each (x ∷ xs) = both (each x) (same_lists same each xs)

same_folders : (f : FolderPath) → same_folder f f ≡ true
same_folders f = both (same_flags f.rooted) (same_lists bytes_eq same_bytes f.names)

same_mounts : (m : Mount) → same_mount m m ≡ true
same_mounts m = both (both (same_places m.at) (same_folders m.folder)) (same_flags m.write)

-- the words of the first so many programs begin those of all
begin_words : (programs : List Program) (n : ℕ)
    → begins (pointwise bytes_eq) (map (λ (p : Program). p.args) (take n programs))
    (map (λ (p : Program). p.args) programs) ≡ true
begin_words programs zero = refl
begin_words [] (suc n) = refl
begin_words (p ∷ programs) (suc n) = both (same_lists bytes_eq same_bytes p.args) (begin_words programs n)

-- ---- a record with the words of the first programs

-- the record of an opening with these tasks so far
abbrev pub record_with : Mounts → List OpenedTask → Opening
record_with m tasks = record (first_of m) { tasks = tasks }

record_fits : (m : Mounts) (tasks : List OpenedTask) → IsRecorded m tasks → is_of m (record_with m tasks) ≡ true
record_fits m tasks r =
    both (both (same_lists same_mount same_mounts m.mounts) roots) words
  where
    roots : pointwise nat_eq (count_up 1 (length m.mounts)) (count_up 1 (length m.mounts)) ≡ true
    roots = same_lists nat_eq (λ n. eq-eqb n n refl) (count_up 1 (length m.mounts))

    words : begins (pointwise bytes_eq) (map (λ (o : OpenedTask). o.words) tasks)
        (map (λ (p : Program). p.args) m.tasks) ≡ true
    words =
        ap (λ ws. begins (pointwise bytes_eq) ws (map (λ (p : Program). p.args) m.tasks)) r.is.words
        ∙ begin_words m.tasks r.count

-- the opening by such a record is that of its tasks in order
pub opened_by : (m : Mounts) (trees : List Shape) (tasks : List OpenedTask) → IsRecorded m tasks
    → opening_of m trees (record_with m tasks) ≡ tasks_begun 1 m.tasks tasks (bare m trees)
unfolding opening_of
opened_by m trees tasks r =
    ap (λ b. if b then tasks_begun 1 m.tasks tasks (bare m trees) else Misfits 0) (record_fits m tasks r)

-- ---- numbers

-- so many numbers, and more behind them
count_up-append : (first n k : ℕ) → count_up first n ++ count_up (n + first) k ≡ count_up first (n + k)
unfolding count_up
count_up-append first zero k =
    let same : 0 + first ≡ first = omega arith in
    let long : k ≡ 0 + k = omega arith in
    ap (λ x. count_up x k) same ∙ ap (count_up first) long
count_up-append first (suc n) k =
    let same : suc n + first ≡ n + (first + 1) = omega arith in
    let long : suc (n + k) ≡ suc n + k = omega arith in
    ap (λ x. first ∷ (count_up (first + 1) n ++ count_up x k)) same
    ∙ ap (λ (ns : List ℕ). first ∷ ns) (count_up-append (first + 1) n k) ∙ ap (count_up first) long

counted : (first n : ℕ) → length (count_up first n) ≡ n
unfolding count_up
counted first zero = refl
counted first (suc n) = ap suc (counted (first + 1) n)

pub gapless : (m : Mounts) (tasks : List OpenedTask) (opening : Opening) → opening ≡ record_with m tasks
    → IsRecorded m tasks → IsGapless (numbers_opened opening)
gapless m tasks opening o r =
    let all : numbers_opened opening ≡ count_up 1 (length m.mounts + r.drawn) =
    ap numbers_opened o ∙ ap (λ ns. count_up 1 (length m.mounts) ++ ns) r.is.numbers
    ∙ count_up-append 1 (length m.mounts) r.drawn in
    all ∙ ap (count_up 1) (sym (counted 1 (length m.mounts + r.drawn)) ∙ sym (ap length all))

-- an opening that did not come to be has no numbers
pub gapless_nothing : (opening : Opening) → opening ≡ nothing_opened → IsGapless (numbers_opened opening)
unfolding count_up
gapless_nothing opening o = subst (λ (x : Opening). IsGapless (numbers_opened x)) (sym o) refl
