-- Cells with an opening task more are the kernel with it.
use Rattle.std.proofs.Common.{◌≡◌, ℕ, ◌+◌, List, ap, sym, ◌∙◌}
use Rattle.std.specs.FinMap as map
use Rattle.elf_image.specs.declared.image.Image.{Image}
use Rattle.mount_file.specs.declared.mounts.Program.{Program}
use Rattle.rv_table.specs.declared.registers.Regs.{Regs}
use Rattle.mm_space.specs.Spaces.{AddressSpace}
use Rattle.task_table.specs.Clones.{opened}
use Rattle.kernel_model.specs.Names.{with_named}
use Rattle.kernel_model.specs.opening.Opening.{files_opened, made_by, registers_opened, root_of, space_opened}
use Rattle.kernel_model.specs.opening.Opening.{with_task}
use Rattle.proc_cells.specs.declared.cells.Cells.{Cells}
use Rattle.proc_cells.specs.Beside.{Beside, HeldParts, kernel_with}
use Rattle.proc_cells.specs.Cells.{held_by, kernel_of}

-- what cells hold with a task more, of that number, that begins in that directory with this
abbrev held_with : Cells → (number root : ℕ) → Regs → AddressSpace → HeldParts
held_with p number root r space = record (held_by p) {
  tasks = opened p.tasks (made_by number) (made_by number) root;
  registers = map.insert p.registers number r;
  spaces = with_named p.spaces 0 number space;
  files = files_opened number p.files;
}

-- with the registers and the memory that the task opens with
with_these : (p : Cells) (number root : ℕ) (r : Regs) (space : AddressSpace) (program : Program) (image : Image)
    (beside : Beside) (n : ℕ) → root_of beside.mounts ≡ root → r ≡ registers_opened beside.seed number program image
    → space ≡ space_opened beside.seed number program image
    → kernel_with (held_with p number root r space) beside n ≡ with_task number program image (kernel_of p beside n)
with_these p number root r space program image beside n at e f =
    ap (λ x. kernel_with (held_with p number x r space) beside n) (sym at)
    ∙ ap (λ x. kernel_with (held_with p number (root_of beside.mounts) x space) beside n) e
    ∙ ap (λ x. kernel_with (held_with p number (root_of beside.mounts)
    (registers_opened beside.seed number program image) x) beside n) f

-- whose number is the next
pub with_next : (p : Cells) (number root : ℕ) (r : Regs) (space : AddressSpace) (program : Program) (image : Image)
    (seed : List ℕ) (beside : Beside) (n : ℕ) → number ≡ p.tasks.last + 1
    → r ≡ registers_opened seed number program image → space ≡ space_opened seed number program image
    → beside.seed ≡ seed → root_of beside.mounts ≡ root
    → kernel_with (held_with p number root r space) beside n
    ≡ with_task (p.tasks.last + 1) program image (kernel_of p beside n)
with_next p number root r space program image seed beside n next e f same at =
    with_these p number root r space program image beside n at
    (e ∙ ap (λ s. registers_opened s number program image) (sym same))
    (f ∙ ap (λ s. space_opened s number program image) (sym same))
    ∙ ap (λ k. with_task k program image (kernel_of p beside n)) next
