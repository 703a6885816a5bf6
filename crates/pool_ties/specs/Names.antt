-- The name of no table, and the note of nothing, for calls that pick none.
use Rattle.atomic_table.specs.Seated.{TableId}
use Rattle.std.specs.Prelude.{[]}
use Rattle.pool_ties.specs.declared.rule.Note.{Note}

abbrev pub no_table : TableId
no_table = record { words = 0; slots = 0; views_name = 0; atom = 0; block = 0; offset = 0; slot_names = [] }

abbrev pub no_note : Note
no_note = record { number = 0; forked = []; began = 0 }
