-- The entries so far are those of what was looked through, and have names.
use Rattle.std.proofs.Common.{◌≡◌, take, All}
use Rattle.sn_text.specs.Names.{IsName}
use Rattle.host_folder.specs.Entries.{entries_of}
use Rattle.host_folder.proofs.entries.entries_from.Given as goal

abbrev pub invariant-loop-one : goal.invariant-loop-one
invariant-loop-one l = record {
  entries : l.entries.items ≡ entries_of (take l.one-index l.seen);
  names : All (λ entry. IsName entry.name) l.entries.items;
}
