-- One entry more is seen.
use Rattle.std.proofs.Common.{[], ◌∷◌, ◌++◌, sym, subst}
use Rattle.std.specs.List.{AllZip}
use Rattle.host_folder.proofs.EntryLemmas.{zip_push}
use Rattle.host_folder.specs.Entries.{IsSeen}
use Rattle.host_folder.proofs.seen.see_all.Goals as goal

pub loop-entry-preserved : goal.loop-entry-preserved
loop-entry-preserved g c =
    let more = zip_push IsSeen c.loop-entry.yielded c.loop-entry.seen.items c.in-Some.entry c.in_ok-see.field-0
    c.loop-entry.invariant.2 c.in_ok-see.ensures.seen in (
      tt,
      tt,
      subst (AllZip IsSeen (c.loop-entry.yielded ++ c.in-Some.entry ∷ [])) (sym c.in_ok-push.ensures.items) more,
    )
