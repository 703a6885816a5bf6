-- Fronts that were read, without where their bytes lie.
use Rattle.lisafs_wire.specs.declared.header.Header.{Header}
use Rattle.lisafs_wire.specs.Reading.{Front}

-- a header as the front of a message
-- profile
abbrev pub front_of : Header → Front
front_of header =
    record { number = header.number; zero_field = header.zero; body = header.body.now; more = header.more.now }
