-- Names of shared areas.
use Rattle.std.specs.Prelude.{◌==◌, ◌&&◌, Bool}
use Rattle.rv_table.specs.declared.error.Area.{Area}

-- whether two names are of one area
-- profile
abbrev pub is_area : Area → Area → Bool
is_area a b = (a.place == b.place) && (a.index == b.index)
