-- What is tried comes to what it comes to over all areas.
use Rattle.area_laws.proofs.Buffers.{buffer, buffer_asks, suffices}
use Rattle.area_laws.proofs.Instructions.{instruction, instruction_asks}
use Rattle.area_laws.proofs.laws.trying.Goals as goal

pub returns-clause-buffer : goal.returns-clause-buffer
returns-clause-buffer c = buffer

pub returns-clause-suffices : goal.returns-clause-suffices
returns-clause-suffices c = suffices

pub returns-clause-buffer_asks : goal.returns-clause-buffer_asks
returns-clause-buffer_asks c s right space at count all lacking whole every few =
    buffer_asks s right space at count all whole every few lacking

pub returns-clause-instruction : goal.returns-clause-instruction
returns-clause-instruction c = instruction

pub returns-clause-instruction_asks : goal.returns-clause-instruction_asks
returns-clause-instruction_asks c s caller all lacking whole every = instruction_asks s caller all whole every lacking
