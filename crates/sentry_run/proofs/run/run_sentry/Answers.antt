-- Each clause of a run, from the way that it went.
use Rattle.sentry_run.proofs.Ways.{call_of, way_of}
use Rattle.sentry_run.proofs.Clauses as clauses
use Rattle.sentry_run.proofs.TraceClauses as traces
use Rattle.sentry_run.proofs.ExactClauses as exact
use Rattle.sentry_run.proofs.CauseClauses as causes
use Rattle.sentry_run.proofs.run.run_sentry.Goals as goal

pub returns : goal.returns
returns g c =
    let s = call_of c.run_words.ensures in
    let r = c.run_words.result in
    let way = way_of s r c.run_words.ensures in
    record {
      status = clauses.status s r way;
      usage = clauses.usage s r way;
      usage_exact = clauses.usage_exact s r way;
      source_fault = clauses.source_fault s r way;
      source_exact = causes.source_exact s r way;
      source_lacking = causes.source_lacking s r way;
      source_read = clauses.source_read s r way;
      mounts = clauses.mounts s r way;
      mounts_exact = exact.mounts_exact s r way;
      never_mounts_memory = clauses.never_mounts_memory s r way;
      read = clauses.read s r way;
      unread = clauses.unread s r way;
      form = clauses.form s r way;
      host_fault = clauses.host_fault s r way;
      host_exact = causes.host_exact s r way;
      grant = clauses.grant s r way;
      grant_number = clauses.grant_number s r way;
      grant_first = clauses.grant_first s r way;
      grant_exact = exact.grant_exact s r way;
      image = clauses.image s r way;
      image_exact = exact.image_exact s r way;
      sink_fault = clauses.sink_fault s r way;
      sink_exact = causes.sink_exact s r way;
      sink_short = causes.sink_short s r way;
      sink_over = traces.sink_over s r way;
      done = traces.done s r way;
      done_exact = causes.done_exact s r way;
      full = traces.full s r way;
      full_length = traces.full_length s r way;
      full_exact = causes.full_exact s r way;
      stuck = traces.stuck s r way;
      stuck_length = traces.stuck_length s r way;
      stuck_exact = causes.stuck_exact s r way;
      history = traces.history s r way;
      history_memory = traces.history_memory s r way;
      bound = traces.bound s r way;
      empty = traces.empty s r way;
      unread_empty = clauses.unread_empty s r way;
      gapless = traces.gapless s r way;
      below = traces.below s r way;
      left_over = traces.left_over s r way;
      left_tasks = traces.left_tasks s r way;
      left_none = traces.left_none s r way;
      text = traces.text s r way;
      text_front = traces.text_front s r way;
      text_none = traces.text_none s r way;
      unread_text = clauses.unread_text s r way;
      world = traces.world s r way;
      image_world = clauses.image_world s r way;
      image_alike = clauses.image_alike s r way;
      world_same = traces.world_same s r way;
      unread_world = clauses.unread_world s r way;
      outside = traces.outside s r way;
      inside = traces.inside s r way;
      complete = exact.complete s r way;
    }
