-- An opening execve goes on where its strings are not too long.
use Rattle.std.proofs.Common.{sym}
use Rattle.plain_kernel.proofs.WalkLemmas.{as_walked, fitting_starts, none_starts}
use Rattle.plain_kernel.proofs.walking.execve.Goals as goal

pub returns-clause-does : goal.returns-clause-does
returns-clause-does c =
    as_walked c.args.kernel.now c.execve_walked-2.new.kernel c.args.program.now c.as_bytes-name.result.now
    c.args.given.now c.in_ok-walk.walk.draws c.in_ok-walk.walk.image c.execve_walked-2.result
    (sym c.if-is_too_long.ensures) c.as_bytes-name.ensures.value c.in_ok-walk.ensures c.execve_walked-2.ensures.does

pub returns-then-is_too_long-clause-may : goal.returns-then-is_too_long-clause-may
returns-then-is_too_long-clause-may c =
    none_starts c.args.program.now _ _ c.execve_walked.result c.refused.ensures.image c.execve_walked.ensures.from

pub returns-clause-may : goal.returns-clause-may
returns-clause-may c =
    fitting_starts c.args.program.now c.in_ok-walk.walk.image c.execve_walked-2.result (sym c.if-is_too_long.ensures)
    c.in_ok-walk.walk.pages c.execve_walked-2.ensures.from
