-- The path is one name longer with each name.
use Rattle.std.proofs.Common.{string_bytes}
use Rattle.host_folder.proofs.PathLemmas.{path_push}
use Rattle.host_folder.proofs.world.are_directories.Goals as goal

pub loop-name-preserved : goal.loop-name-preserved
loop-name-preserved g c =
    path_push (string_bytes c.args.path.now) c.args.names.now c.loop-name.name-index c.name-item.result
    (string_bytes c.loop-name.path) (string_bytes c.push_name.new.path) c.loop-name-test.true c.name-item.is
    c.loop-name.invariant c.in_ok-push_name.ensures.ok
