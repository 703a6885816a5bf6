-- One entry more is seen, and listed where it isn't hidden.
use Rattle.host_folder.proofs.EntryLemmas.{entries_push}
use Rattle.host_folder.proofs.entries.entries_from.Goals as goal

pub loop-one-preserved : goal.loop-one-preserved
loop-one-preserved c = record {
  entries =
      entries_push c.args.seen.now c.loop-one.one-index c.one-item.result c.loop-one.entries.items
      c.push_entry.new.entries.items c.loop-one-test.true c.one-item.is c.loop-one.invariant.entries
      c.in_ok-push_entry.ensures.entry;
  names = c.in_ok-push_entry.ensures.names c.loop-one.invariant.names;
}
