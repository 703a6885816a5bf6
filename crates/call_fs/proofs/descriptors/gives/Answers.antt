-- A number gets what another stands for.
use Rattle.std.proofs.Common.{rules}
use Rattle.call_fs.proofs.Changes.{answers_gives}
use Rattle.call_fs.proofs.descriptors.gives.Goals as goal

pub returns : goal.returns
returns c = record {
  row = λ caller k is free.
      answers_gives c.args.looked.now caller k is c.args.number c.args.cloexec _ (search rules) free;
}
