-- Instructions one after another: none, and so many behind others.
use Rattle.std.proofs.Common.{◌≡◌, ℕ, zero, suc, ◌+◌, ◌-◌, ◌≤◌, Option, Some, None, refl, ap, sym, ◌∙◌, arith}
use Rattle.std.specs.Prelude.{option_and_then}
use Rattle.std.proofs.lemmas.Option.{none-some}
use Rattle.rv_table.specs.declared.registers.Regs.{Regs}
use Rattle.rv_table.specs.Bytes.{SeenMemory}
use Rattle.rv_exec.specs.Courses.{EndsBy, Going, going, one_instruction_more, after_instructions}
use Rattle.rv_exec.specs.Execution.{Done}
use Rattle.rv_exec.specs.Writes.{Write}
use Rattle.rv_exec.specs.declared.flow.Flow.{Flow}
use Rattle.rv_exec.specs.declared.flow.Flow.TheVariants as flows

module _ {State : Type 0} (seen : State → SeenMemory) (write : Write → State → State) where
  pub ran_zero : (start : Going State) → after_instructions seen write zero start ≡ Some start
  unfolding after_instructions
  ran_zero start = refl

  pub ran_suc : (n : ℕ) (start : Going State)
      → after_instructions seen write (suc n) start ≡ option_and_then (one_instruction_more seen write)
      (after_instructions seen write n start)
  unfolding after_instructions
  ran_suc n start = refl

  -- so many instructions behind others
  pub ran_add : (n m : ℕ) (start between end : Going State) → after_instructions seen write n start ≡ Some between
      → after_instructions seen write m between ≡ Some end
      → after_instructions seen write (n + m) start ≡ Some end
  ran_add n zero start between end first then_ =
      ap (λ k. after_instructions seen write k start) (omega arith) ∙ first ∙ sym (ran_zero between) ∙ then_
  ran_add n (suc m) start between end first then_ =
      by (λ g. ran_add n m start between g first) (after_instructions seen write m between) refl
    where
      by : ((g : Going State) → after_instructions seen write m between ≡ Some g
          → after_instructions seen write (n + m) start ≡ Some g)
          → (o : Option (Going State)) → after_instructions seen write m between ≡ o
          → after_instructions seen write (n + suc m) start ≡ Some end
      by rest None is =
          absurd (none-some end (sym (ran_suc m between ∙ ap (option_and_then (one_instruction_more seen write)) is)
          ∙ then_))
      by rest (Some g) is =
          ap (λ k. after_instructions seen write k start) (omega arith)
          ∙ ran_suc (n + m) start
          ∙ ap (option_and_then (one_instruction_more seen write)) (rest g is ∙ sym is)
          ∙ sym (ran_suc m between)
          ∙ then_

  -- none, where the same is told
  pub ran_still : (n : ℕ) (r : Regs) (old new : State) → n ≡ 0 → new ≡ old
      → after_instructions seen write n (going old r) ≡ Some (going new r)
  ran_still n r old new is same =
      ap (λ k. after_instructions seen write k (going old r)) is ∙ ran_zero (going old r)
      ∙ ap (λ (s : State). Some (going s r)) (sym same)

-- a run behind others ends as all of them do
pub ends_behind : (done : Done) (n m most : ℕ) (flow : Flow) → n ≤ most → EndsBy done m (most - n) flow
    → EndsBy done (n + m) most flow
ends_behind done n m most flows.Next before end = tt
ends_behind done n m most flows.Jump before end = end
ends_behind done n m most flows.Call before end = (omega (arith, before, end.0), end.1)
ends_behind done n m most (flows.Trap signal) before end = (omega (arith, before, end.0), end.1)
ends_behind done n m most flows.Refused before end = omega (arith, before, end)
