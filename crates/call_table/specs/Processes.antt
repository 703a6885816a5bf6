-- Processes as a kernel, with what stands beside them.
use Rattle.std.specs.Prelude.{ℕ}
use Rattle.kernel_model.specs.declared.kernel.Kernel.{Kernel}
use Rattle.proc_cells.specs.Beside.{Beside}
use Rattle.proc_cells.specs.Cells as cells
use Rattle.call_table.specs.declared.processes.Processes.{Processes}

-- the kernel that processes are with this beside them, after so many entries: that of their cells
-- profile
abbrev pub kernel_of_processes : Processes → Beside → (entries : ℕ) → Kernel
kernel_of_processes p beside entries = cells.kernel_of p.cells beside entries
