-- A pipe that a call makes, where it stands in the kernel.
use Rattle.std.proofs.Common.{◌≡◌, ℤ, true, false, cond, List, ◌++◌, Some, None, pos, ap, ◌∙◌, subst}
use Rattle.std.specs.Ordering.{int_eq}
use Rattle.kernel_model.specs.declared.caller.Caller.{Caller}
use Rattle.kernel_model.specs.declared.kernel.Kernel.{Kernel}
use Rattle.kernel_model.specs.declared.kernel.Part.TheVariants.{OfTask}
use Rattle.kernel_model.specs.calls.Answers.{Answer, Replies}
use Rattle.kernel_model.specs.calls.Callers.{context_of}
use Rattle.kernel_model.specs.calls.Pipes.{pipe_made}
use Rattle.kernel_model.specs.entries.Parts.{Change, Prog, changed, put}
use Rattle.kernel_model.specs.entries.Steps.{going_on, replied_by}
use Rattle.kernel_model.specs.laws.InPlace.{changed_by}
use Rattle.kernel_model.specs.machine.Registers.{replied}
use Rattle.call_fs.specs.Pipes.{MakesPipe}
use Rattle.call_fs.specs.declared.pipes.NewPipe.{NewPipe}
use Rattle.plain_steps.proofs.CallLemmas.{call_done}

-- what a row changes that comes to a pipe that is made
abbrev pub made_by : (c : Caller) (k : Kernel) (new : NewPipe) (row : Prog Answer)
    → MakesPipe row new (context_of k) c k → List Change
made_by c k new row makes =
    (pipe_made (context_of k) c new.ends.buffer new.ends.flags makes.hand makes.table
    (new.ends.first, new.ends.second)).changes

-- each row that comes to it leaves that
abbrev pub MakesBy : Caller → Kernel → NewPipe → Kernel → Type 0
MakesBy c k new made =
    (row : Prog Answer) (makes : MakesPipe row new (context_of k) c k) → changed (made_by c k new row makes) k ≡ made

-- it replies nothing but 0,
pub replies_else : (c : Caller) (reply value : ℤ) (changes : List Change) → int_eq reply value ≡ false
    → replied_by c reply changes (Replies value) ≡ None
replies_else c reply value changes differs = ap (λ b. cond b (Some (changes ++ going_on c value)) None) differs

pub pipe_refused : (c : Caller) (k : Kernel) (new : NewPipe) (reply : ℤ) (row : Prog Answer)
    (makes : MakesPipe row new (context_of k) c k) → int_eq reply (pos 0) ≡ false
    → replied_by c reply (made_by c k new row makes) (Replies (pos 0)) ≡ None
pipe_refused c k new reply row makes differs = replies_else c reply (pos 0) (made_by c k new row makes) differs

-- and then the pipe is there, and its task behind the call
pub pipe_opened : (c : Caller) (k : Kernel) (new same : NewPipe) (reply : ℤ) (made after left : Kernel) → same ≡ new
    → MakesBy c k same made → int_eq reply (pos 0) ≡ true → made ≡ after
    → left ≡ put (OfTask c.task) (Some (replied c.registers (pos 0))) after
    → (row : Prog Answer) (makes : MakesPipe row new (context_of k) c k)
    → changed_by (replied_by c reply (made_by c k new row makes) (Replies (pos 0))) k ≡ Some left
pipe_opened c k new same reply made after left is does agrees placed goes row makes =
    let there : MakesBy c k new made = subst (λ n. MakesBy c k n made) is does in
    call_done k c reply (pos 0) (made_by c k new row makes) after left agrees (there row makes ∙ placed) goes
