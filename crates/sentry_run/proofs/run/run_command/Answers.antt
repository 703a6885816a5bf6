-- A run over a mount file that was read is what was played over it, and how that was concluded.
use Rattle.std.proofs.Common.{inr, refl}
use Rattle.sentry_run.proofs.run.run_command.Goals as goal

pub returns-in-Ok : goal.returns-in-Ok
returns-in-Ok g c =
    let p = c.play-played in
    let r = c.conclude in (
      c.load_mounts.ensures.read,
      inr (record {
        mounts = c.in-Ok.mounts;
        reads = c.in-Ok.ensures.ok;
        same_count = c.in-Ok.ensures.cause.still refl;
        ran = record {
          status = r.ensures.status;
          read = r.ensures.mounts;
          left = r.ensures.left;
          form = c.in-Ok.ensures.form;
          end = p.result.end;
          played = rw (r.ensures.opening, r.ensures.trace) p.ensures.played;
          plays = rw (r.ensures.opening, r.ensures.trace) p.ensures.plays;
          concludes = rw r.ensures.trace r.ensures.concludes;
          sink_cause = r.ensures.cause;
        };
      }),
    )
