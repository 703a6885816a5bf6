-- The record of an opening grows by one task.
use Rattle.std.proofs.Common.{◌≡◌, ℕ, ◌+◌, ◌<◌, ◌≤◌, List, [], ◌∷◌, ◌++◌, map, take, length, refl}
use Rattle.std.proofs.Common.{ap, sym, ◌∙◌}
use Rattle.std.proofs.Common.{subst, arith}
use Rattle.std.specs.Prelude.{Some, Result, Ok, Err, IfOk, slice_get}
use Rattle.std.proofs.lemmas.Grind.{flat_map-append}
use Rattle.std.proofs.lemmas.List.{map-append, take_more, append-nil}
use Rattle.std.proofs.lemmas.Option.{get_or_from_slice_get, slice_get_within}
use Rattle.mount_file.specs.declared.mounts.Mounts.{Mounts}
use Rattle.mount_file.specs.declared.mounts.Program.{Program}
use Rattle.kernel_model.specs.declared.opening.OpenedTask.{OpenedTask}
use Rattle.kernel_model.specs.entries.Given.{numbers_of}
use Rattle.kernel_model.specs.files.Numbers.{count_up}
use Rattle.image_walk.specs.declared.granted.Numbering.{Numbering}
use Rattle.image_walk.specs.Walking.{NumbersNext}
use Rattle.image_walk.proofs.Firsts.{count_up-more}
use Rattle.run_opening.specs.Openings.{numbering_of}
use Rattle.run_opening.specs.Records.{IsRecord, IsRecorded, numbers_of_tasks}

-- the programs up to one more
pub taken_more : (programs : List Program) (i : ℕ) (p : Program) → slice_get programs i ≡ Some p
    → take (i + 1) programs ≡ take i programs ++ p ∷ []
taken_more programs i p e =
    take_more programs i p (slice_get_within programs i p e)
    ∙ ap (λ q. take i programs ++ q ∷ []) (get_or_from_slice_get programs i p p e)

numbers_more : (tasks : List OpenedTask) (o : OpenedTask) → numbers_of_tasks (tasks ++ o ∷ [])
    ≡ numbers_of_tasks tasks ++ numbers_of o.given.fresh
numbers_more tasks o =
    flat_map-append (λ (x : OpenedTask). numbers_of x.given.fresh) tasks (o ∷ [])
    ∙ ap (λ ns. numbers_of_tasks tasks ++ ns) (append-nil (numbers_of o.given.fresh))

counted : (num : Numbering) (numbers : List ℕ) (drawn drawn' : ℕ) → NumbersNext num numbers drawn drawn'
    → count_up num.first drawn ++ numbers ≡ count_up num.first drawn'
counted num [] drawn drawn' h = append-nil (count_up num.first drawn) ∙ ap (count_up num.first) (sym h)
counted num (n ∷ []) drawn drawn' h =
    ap (λ m. count_up num.first drawn ++ m ∷ []) h.0 ∙ sym (count_up-more num.first drawn)
    ∙ ap (count_up num.first) (sym h.1)
counted num (n ∷ m ∷ numbers) drawn drawn' h = absurd h

one_more : (num : Numbering) (numbers : List ℕ) (drawn drawn' : ℕ) → NumbersNext num numbers drawn drawn'
    → drawn' ≤ drawn + 1
one_more num [] drawn drawn' h = omega (arith, h)
one_more num (n ∷ []) drawn drawn' h = omega (arith, h.1)
one_more num (n ∷ m ∷ numbers) drawn drawn' h = absurd h

pub record_more : (m : Mounts) (num : Numbering) (tasks tasks' : List OpenedTask) (i drawn drawn' : ℕ) (p : Program)
    (o : OpenedTask)
    → num ≡ numbering_of m.mounts → IsRecord m tasks i drawn → slice_get m.tasks i ≡ Some p → o.words ≡ p.args
    → NumbersNext num (numbers_of o.given.fresh) drawn drawn' → tasks' ≡ tasks ++ o ∷ []
    → IsRecord m tasks' (i + 1) drawn'
record_more m num tasks tasks' i drawn drawn' p o numbered r e w n pushed = record {
  words =
      ap (map (λ (x : OpenedTask). x.words)) pushed ∙ map-append (λ (x : OpenedTask). x.words) tasks (o ∷ [])
      ∙ ap (λ ws. ws ++ o.words ∷ []) r.words ∙ ap (λ v. map (λ (q : Program). q.args) (take i m.tasks) ++ v ∷ []) w
      ∙ sym (map-append (λ (q : Program). q.args) (take i m.tasks) (p ∷ []))
      ∙ ap (map (λ (q : Program). q.args)) (sym (taken_more m.tasks i p e));
  few = let within : i < length m.tasks = slice_get_within m.tasks i p e in omega arith;
  numbers =
      ap numbers_of_tasks pushed ∙ numbers_more tasks o ∙ ap (λ ns. ns ++ numbers_of o.given.fresh) r.numbers
      ∙ counted (numbering_of m.mounts) (numbers_of o.given.fresh) drawn drawn'
      (subst (λ (x : Numbering). NumbersNext x (numbers_of o.given.fresh) drawn drawn') numbered n);
  one_each =
      let next : drawn' ≤ drawn + 1 = one_more num (numbers_of o.given.fresh) drawn drawn' n in
      let before : drawn ≤ i = r.one_each in
      omega arith;
}

pub recorded : (m : Mounts) (tasks : List OpenedTask) (count drawn : ℕ) → IsRecord m tasks count drawn
    → IsRecorded m tasks
recorded m tasks count drawn r = record { count = count; drawn = drawn; is = r }

-- before the first
pub record_none : (m : Mounts) (tasks : List OpenedTask) (n : ℕ) → tasks ≡ [] → n ≡ 0
    → IsRecord m tasks 0 n
unfolding count_up
record_none m tasks n e z =
    subst (λ (ts : List OpenedTask). IsRecord m ts 0 n) (sym e)
    (subst (λ (x : ℕ). IsRecord m [] 0 x) (sym z)
    (record { words = refl; few = omega arith; numbers = refl; one_each = omega arith }))

-- what holds in any case holds on an `Ok`
pub any_ok : {A E P : Type 0} (result : Result A E) → P → IfOk result (λ _. P)
any_ok (Ok x) p = p
any_ok (Err e) p = tt
