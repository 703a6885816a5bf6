-- A store inside a page leaves the instructions of the others.
use Rattle.std.proofs.Common.{ℕ, arith, ap, ◌∙◌}
use Rattle.rv_table.specs.Bytes.{Byte, SeenMemory}
use Rattle.machine_cases.specs.declared.memory.Small.{Small}
use Rattle.machine_cases.specs.Pages.{page_instrs}
use Rattle.machine_cases.specs.Places.{in_stretch, reached}
use Rattle.machine_cases.proofs.OtherPages.{page_apart}
use Rattle.machine_cases.proofs.memory.SmallMem.store_near.Goals as goal

abbrev code_of : Small → ℕ → Byte
code_of memory =
    reached memory.code.right
    (in_stretch memory.code.stretch.from 4096 memory.code.stretch.area memory.code.stretch.bytes)

pub returns-in-Ok-clause-rows : goal.returns-in-Ok-clause-rows
returns-in-Ok-clause-rows c = λ page apart.
    ap (λ (m : SeenMemory). page_instrs m.code page) c.put.ensures
    ∙ page_apart (code_of c.args.self.now) c.args.at c.args.width c.args.value page
    (omega arith) (omega arith) apart
