-- What is read of a register, by its mask.
use Rattle.rv_table.proofs.Masks.{read_by}
use Rattle.rv_table.proofs.registers.masked.Goals as goal

pub returns : goal.returns
returns c = read_by c.args.value c.args.number c.requires c.ranges.value.fits
