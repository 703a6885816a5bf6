use Rattle.std.proofs.Common.{◌∙◌}
use Rattle.tied_cells.proofs.log.Log.leave.Goals as goal

pub invariant_of-self : goal.invariant_of-self
invariant_of-self g c =
    let s = c.front.ensures.same in
    let now = c.let_go.new.self in
    record {
      same = s ∙ now.same;
      history = rw s now.history;
      tied = λ k x at. rw s (now.tied k x at);
      counted = λ k small. rw s (now.counted k small);
      had = rw s now.had;
    }
