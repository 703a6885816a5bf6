-- F_SETFD and F_SETFL.
use Rattle.std.proofs.Common.{◌==◌, ◌%◌}
use Rattle.call_fs.proofs.Changes.{answers_marks}
use Rattle.call_fs.proofs.descriptors.by_command.Goals as goal

pub returns-then-command-eq2 : goal.returns-then-command-eq2
returns-then-command-eq2 c = record {
  row = λ caller k is file.
      rw c.if-command-eq2.true (answers_marks c.args.looked.now caller k is (c.args.argument % 2 == 1));
}

pub returns-then-command-eq4 : goal.returns-then-command-eq4
returns-then-command-eq4 c = record {
  row = λ caller k is file.
      rw c.if-command-eq4.true (c.sets_status.ensures.row caller k file);
}
