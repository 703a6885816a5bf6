-- A task's own reservation goes, and no other.
use Rattle.std.proofs.Common.{rules, ap, ◌∙◌, ◌==◌, not, length}
use Rattle.std.proofs.lemmas.Fn.{filter_same}
use Rattle.rv_atomic.proofs.reservations.drop_own.Goals as goal

pub returns-clause-items : goal.returns-clause-items
returns-clause-items c =
    filter_same _ (λ r. not (r.task == c.args.task)) _ (λ r b f h. search rules) _ _ c.retain.ensures.filtered

pub returns-clause-len : goal.returns-clause-len
returns-clause-len c = c.retain.new.self.ok.0 ∙ ap length (returns-clause-items c)
