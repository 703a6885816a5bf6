-- What a call leaves that moves bytes.
use Rattle.std.proofs.Common.{◌≡◌, ap, sym, refl, ◌∙◌, subst}
use Rattle.std.specs.Prelude.{Some}
use Rattle.mm_space.specs.Spaces.{AddressSpace}
use Rattle.kernel_model.specs.declared.kernel.Kernel.{Kernel}
use Rattle.kernel_model.specs.Names.{get_named}
use Rattle.call_fs.specs.Transfers.{after_transfer}
use Rattle.proc_cells.specs.Beside.{kernel_with, nothing_beside, nothing_held}
use Rattle.parked_tasks.specs.Untouched.{FilesMove}
use Rattle.call_table.specs.Moves.{puts_to_sleep}
use Rattle.call_table.specs.Moving.{touched_by_transfer}
use Rattle.call_table.proofs.MovedFiles.{transfer_leaves}
use Rattle.call_table.proofs.Moves.{moves_alone, others_go_on}
use Rattle.call_table.proofs.moving.move_bytes.Goals as goal

pub returns-clause-does : goal.returns-clause-does
returns-clause-does c = λ space k there areas files console.
    let q = c.go_on.new.cells in
    let found : Some c.in-Some.space.now ≡ Some space = c.in-Some.ensures ∙ there in
    let is : c.in-Some.space.now ≡ space = cc found in
    ap (λ (s : AddressSpace). after_transfer c.args.moved.transfer s k) (sym is)
    ∙ c.in_ok-commit_transfer.ensures.ok k areas files console
    ∙ ap (λ f. record k { files = f; console = c.commit_transfer.new.console }) (sym c.go_on.ensures.files)
    ∙ ap (λ x. record k { files = q.files; console = x }) (sym c.go_on.ensures.console)

pub returns-clause-moves : goal.returns-clause-moves
returns-clause-moves c =
    let p = c.args.cells.now in
    let q = c.go_on.new.cells in
    let task = c.args.context.now.task in
    let transfer = c.args.moved.transfer in
    let space = c.in-Some.space.now in
    let k : Kernel =
    kernel_with (record nothing_held { areas = p.areas; files = p.files; console = p.console }) nothing_beside 0 in
    let does = c.in_ok-commit_transfer.ensures.ok k refl refl refl in
    moves_alone task c.args.context.now.memory _ p q c.go_on.ensures.tasks c.go_on.ensures.sleepers c.requires.awake
    (ap puts_to_sleep c.call_entry.ensures) (λ e. c.go_on.ensures.areas ∙ c.commit_transfer.ensures.kept)
    (subst (λ t. FilesMove t p.files q.files) (sym c.touched_by_transfer-touched.ensures)
    (subst (FilesMove (touched_by_transfer transfer) p.files)
    (ap (λ (m : Kernel). m.files) does ∙ sym c.go_on.ensures.files) (transfer_leaves transfer space k)))
    (record {
      registers = λ other apart.
          others_go_on p.registers q.registers task other _ c.go_on.ensures.registers apart;
      spaces = λ name apart. ap (λ m. get_named m name.place name.index) c.go_on.ensures.spaces;
    })
