-- Fresh numbers that may be given one after another.
use Rattle.std.specs.Prelude.{◌≡◌, true, List}
use Rattle.std.specs.List.{list_all}
use Rattle.kernel_model.specs.declared.kernel.Kernel.{Kernel}
use Rattle.kernel_model.specs.declared.opening.Fresh.{Fresh}
use Rattle.kernel_model.specs.entries.Given.{ascend_from, numbers_of, is_unused}

-- the numbers ascend, so that no two are the same, and none is that of a node
-- inode(7), st_ino; profile
pub record AreUnused (fresh : List Fresh) (k : Kernel) : Type 0 where
  pub ascend : ascend_from 0 (numbers_of fresh) ≡ true
  pub unused : list_all (is_unused k.nodes) fresh ≡ true
