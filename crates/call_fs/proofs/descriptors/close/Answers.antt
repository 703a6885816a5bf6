-- A register's descriptor that isn't open, or is.
use Rattle.std.specs.FinMap as map
use Rattle.kernel_model.specs.calls.Lookups.{descriptor}
use Rattle.kernel_model.specs.calls.Descriptors.{leaves_table}
use Rattle.kernel_model.specs.descriptors.Counts.{dropped}
use Rattle.kernel_model.specs.entries.Parts.{done, ◌>>=◌}
use Rattle.call_fs.proofs.Answering.{answers_found, answers_missing}
use Rattle.call_fs.proofs.Changes.{answers_closes}
use Rattle.call_fs.proofs.descriptors.close.Goals as goal

pub returns-in-None : goal.returns-in-None
returns-in-None c = record {
  row = λ caller k table.
      answers_missing (λ table d. dropped d.description
      >>= λ changes. done (leaves_table caller 0 (map.remove table (descriptor c.args.fd)) changes))
      c.refused.result caller k c.args.fd _ table c.in-None.ensures.none (c.refused.ensures.row caller k);
}

pub returns-in-Some : goal.returns-in-Some
returns-in-Some c = record {
  row = λ caller k table.
      let is = c.in-Some.ensures.open caller k table in
      answers_found (λ table d. dropped d.description
      >>= λ changes. done (leaves_table caller 0 (map.remove table (descriptor c.args.fd)) changes))
      _ caller k c.args.fd c.in-Some.looked is c.in-Some.ensures.number
      (answers_closes c.in-Some.looked caller k is (descriptor c.args.fd) c.in-Some.ensures.number);
}
