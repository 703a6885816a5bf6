-- A task's instructions leave it the same task.
use Rattle.std.proofs.Common.{◌≡◌, ℕ, zero, suc, Option, Some, None, List, [], ◌∷◌, refl, ap, sym, ◌∙◌}
use Rattle.std.specs.Prelude.{option_and_then}
use Rattle.std.proofs.lemmas.Option.{none-some}
use Rattle.rv_exec.specs.Courses as courses
use Rattle.rv_exec.specs.Execution.{Done, Goes, Calls, Traps, Touches, exec}
use Rattle.rv_exec.specs.Writes.{Write, Stores, Reserves, Releases, all_after}
use Rattle.rv_exec.proofs.Courses.{ran_suc, ran_zero}
use Rattle.quantum.specs.Acting.{Acting, acting_after_write, memory_of}
use Rattle.quantum.specs.Instructions.{GoingTask, ran}

wrote : (write : Write) (a : Acting) → (acting_after_write write a).task ≡ a.task
wrote (Stores at width value) a = refl
wrote (Reserves at width) a = refl
wrote (Releases at) a = refl

all_wrote : (writes : List Write) (a : Acting) → (all_after acting_after_write writes a).task ≡ a.task
all_wrote [] a = refl
all_wrote (w ∷ ws) a = all_wrote ws (acting_after_write w a) ∙ wrote w a

-- the number of a task that may not be there
abbrev number_of : Option GoingTask → ℕ
number_of None = 0
number_of (Some g) = g.acting.task

went : (done : Done) (a : Acting) (h : GoingTask) → courses.went_by acting_after_write a done ≡ Some h → h.acting.task
    ≡ a.task
went (Goes r ws) a h is = sym (ap number_of is) ∙ all_wrote ws a
went Calls a h is = absurd (none-some h is)
went (Traps signal) a h is = absurd (none-some h is)
went (Touches area) a h is = absurd (none-some h is)

pub ran_same : (n : ℕ) (g h : GoingTask) → ran n g ≡ Some h → h.acting.task ≡ g.acting.task
ran_same zero g h is = sym (ap number_of (sym (ran_zero memory_of acting_after_write g) ∙ is))
ran_same (suc n) g h is = by (λ between. ran_same n g between) (ran n g) refl
  where
    by : ((between : GoingTask) → ran n g ≡ Some between → between.acting.task ≡ g.acting.task) → (o : Option GoingTask)
        → ran n g ≡ o → h.acting.task ≡ g.acting.task
    by rest None at =
        absurd (none-some h
        (sym (ran_suc memory_of acting_after_write n g ∙ ap (option_and_then
        (courses.one_instruction_more memory_of acting_after_write)) at)
        ∙ is))
    by rest (Some between) at =
        went (exec (memory_of between.acting) between.registers) between.acting h
        (sym (ran_suc memory_of acting_after_write n g ∙ ap (option_and_then
        (courses.one_instruction_more memory_of acting_after_write)) at)
        ∙ is)
        ∙ rest between at
