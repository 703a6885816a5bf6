-- How a node of a host in memory stands to its file.
use Rattle.host_node.specs.Told.{Opened, Closed, Reading, Writing}
use Rattle.host_memory.specs.declared.node.NodeAccess.{NodeAccess}
use Rattle.host_memory.specs.declared.node.NodeAccess.TheVariants.{Closed as NotOpened, Reading as ForReading}
use Rattle.host_memory.specs.declared.node.NodeAccess.TheVariants.{Writing as ForWriting}

-- the same, as the trait of nodes tells it
-- open(2), O_RDONLY and O_RDWR
abbrev pub opened_as : NodeAccess → Opened
opened_as NotOpened = Closed
opened_as ForReading = Reading
opened_as ForWriting = Writing
