-- A name not met yet has its number among those that are left.
use Rattle.std.proofs.Common.{◌≡◌, drop}
use Rattle.kernel_model.specs.files.FileTree.{number_in}
use Rattle.node_numbers.proofs.nodes.number_of.Given as goal

abbrev pub invariant-loop-entry : goal.invariant-loop-entry
invariant-loop-entry l =
    number_in l.name (drop l.entry-index l.fn.node.numbers) ≡ number_in l.name l.fn.node.numbers
