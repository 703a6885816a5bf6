-- What an entry does depends on the parts that it uses, and is to those that it touches.
use Rattle.std.proofs.Common.{sym, ◌∙◌}
use Rattle.kernel_model.proofs.LocalityLaws.{same_reads, rest_stays, touched_alike, fits_alike, ready_alike}
use Rattle.kernel_model.proofs.ChildSteps.{child_stays}
use Rattle.kernel_model.proofs.ReadySteps.{ready_steps, steps_ready}
use Rattle.kernel_model.proofs.WriteLaws.{write_reads}
use Rattle.kernel_model.proofs.laws.locality.Goals as goal

pub returns-clause-same : goal.returns-clause-same
returns-clause-same c = same_reads

pub returns-clause-rest : goal.returns-clause-rest
returns-clause-rest c = rest_stays

pub returns-clause-touched : goal.returns-clause-touched
returns-clause-touched c = touched_alike

pub returns-clause-fits : goal.returns-clause-fits
returns-clause-fits c = fits_alike

pub returns-clause-ready : goal.returns-clause-ready
returns-clause-ready c = ready_alike

pub returns-clause-steps : goal.returns-clause-steps
returns-clause-steps c = ready_steps

pub returns-clause-stepless : goal.returns-clause-stepless
returns-clause-stepless c k task unready has = absurd (cc (sym unready ∙ steps_ready k task has))

pub returns-clause-write : goal.returns-clause-write
returns-clause-write c = write_reads

pub returns-clause-unnumbered : goal.returns-clause-unnumbered
returns-clause-unnumbered c = child_stays
