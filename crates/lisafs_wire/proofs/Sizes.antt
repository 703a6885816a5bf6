-- No message is longer than its length field can say, and each number fits its own: a test of each row of a table.
use Rattle.std.proofs.Common.{◌≡◌, ℕ, suc, ◌+◌, ◌*◌, ◌^◌, ◌<◌, ◌≤◌, Bool, true, false, ◌&&◌, cond, ltb, eqb, List, []}
use Rattle.std.proofs.Common.{◌∷◌, ◌++◌, length, Option, Some, None, refl, subst, arith}
use Rattle.std.specs.List.{list_all}
use Rattle.std.proofs.lemmas.Bool.{ltb-true, eqb-true}
use Rattle.std.proofs.lemmas.List.{length-append}
use Rattle.std.proofs.Math.Nat.{suc-mul}
use Rattle.sn_bytes.specs.Fields.{little_bytes}
use Rattle.lisafs_wire.specs.Fields.{Field, Number, Name, Data, Value, Num, Bytes, IsValueOf, spelled}
use Rattle.lisafs_wire.specs.Grammar.{Groups, Without, Counted, Layout, layout_of, request_table, answer_table}
use Rattle.lisafs_wire.specs.Spelling.{Message, AreValuesOf, AreGroupsOf, FitBehind, IsLaidOut, IsMessageOf}
use Rattle.lisafs_wire.specs.Spelling.{spelled_all, spelled_groups, spelled_behind, body_of}
use Rattle.lisafs_wire.proofs.Numbers.{length-little_bytes}
use Rattle.lisafs_wire.proofs.Values.{name_size}

-- how many bytes a field, and fields, take at the most
abbrev most_of : Field → ℕ
most_of (Number width is_allowed) = width
most_of Name = 257
most_of (Data most) = 4 + most

abbrev most_of_all : List Field → ℕ
most_of_all [] = 0
most_of_all (field ∷ fields) = most_of field + most_of_all fields

abbrev most_behind : Groups → ℕ
most_behind Without = 0
most_behind (Counted is_allowed fields) = 2 + 65536 * most_of_all fields

value_size : (field : Field) (value : Value) → IsValueOf field value → length (spelled field value) ≤ most_of field
value_size (Number width is_allowed) (Num n) h =
    let size : length (little_bytes width n) ≤ width = omega (arith, length-little_bytes width n) in
    size
value_size (Number width is_allowed) (Bytes bytes) h = absurd h
value_size Name (Num n) h = absurd h
value_size Name (Bytes bytes) h =
    let size : length (little_bytes 2 (length bytes) ++ bytes) ≤ 257
    = omega (
      arith,
      length-append (little_bytes 2 (length bytes)) bytes,
      length-little_bytes 2 (length bytes),
      name_size bytes h,
    ) in
    size
value_size (Data most) (Num n) h = absurd h
value_size (Data most) (Bytes bytes) h =
    let size : length (little_bytes 4 (length bytes) ++ bytes) ≤ 4 + most
    = omega (arith, length-append (little_bytes 4 (length bytes)) bytes, length-little_bytes 4 (length bytes), h.0) in
    size

values_size : (fields : List Field) (values : List Value) → AreValuesOf fields values
    → length (spelled_all fields values) ≤ most_of_all fields
values_size [] [] h = omega arith
values_size [] (value ∷ values) h = absurd h
values_size (field ∷ fields) [] h = absurd h
values_size (field ∷ fields) (value ∷ values) h =
    omega (
      arith,
      length-append (spelled field value) (spelled_all fields values),
      value_size field value h.0,
      values_size fields values h.1,
    )

groups_size : (fields : List Field) (groups : List (List Value)) → AreGroupsOf fields groups
    → length (spelled_groups fields groups) ≤ length groups * most_of_all fields
groups_size fields [] h = omega arith
groups_size fields (group ∷ groups) h =
    let here = values_size fields group h.0 in
    let rest = groups_size fields groups h.1 in
    let more : suc (length groups) * most_of_all fields ≡ length groups * most_of_all fields + most_of_all fields
    = suc-mul (length groups) (most_of_all fields) in
    omega (arith, length-append (spelled_all fields group) (spelled_groups fields groups), here, rest, more)

times_le : (a b c : ℕ) → a ≤ b → a * c ≤ b * c
times_le a b c h = grind (arith, h)

behind_size : (behind : Groups) (groups : List (List Value)) → FitBehind behind groups
    → length (spelled_behind behind groups) ≤ most_behind behind
behind_size Without groups h = omega arith
behind_size (Counted is_allowed fields) groups h =
    let count : length groups ≤ 65536 = omega (arith, h.0) in
    omega (
      arith,
      length-append (little_bytes 2 (length groups)) (spelled_groups fields groups),
      length-little_bytes 2
          (length groups),
      groups_size fields groups h.2,
      times_le (length groups) 65536 (most_of_all fields) count,
    )

some_is : (x y : Layout) → Some x ≡ Some y → x ≡ y
some_is x y e = cc

-- a row's number fits its field, and its longest message the length
abbrev row_fits : ℕ × Layout → Bool
row_fits row = ltb row.0 65536 && ltb (8 + (most_of_all row.1.fields + most_behind row.1.groups)) 4294967296

pub both : (a b : Bool) → (a && b) ≡ true → (a ≡ true) × (b ≡ true)
both true b h = (refl, h)
both false b h = absurd cc

found_row : (row : ℕ × Layout) (rest : Option Layout) (number : ℕ) (layout : Layout) (b : Bool) → eqb row.0 number ≡ b
    → row_fits row ≡ true
    → (rest ≡ Some layout → row_fits (number, layout) ≡ true) → cond b (Some row.1) rest ≡ Some layout
    → row_fits (number, layout) ≡ true
found_row row rest number layout true same fits others is =
    let named : row_fits (number, row.1) ≡ true
    = subst (λ (n : ℕ). row_fits (n, row.1) ≡ true) (eqb-true row.0 number same) fits in
    subst (λ (l : Layout). row_fits (number, l) ≡ true) (some_is row.1 layout is) named
found_row row rest number layout false other fits others is = others is

row_of : (table : List (ℕ × Layout)) (number : ℕ) (layout : Layout) → list_all row_fits table ≡ true
    → layout_of table number ≡ Some layout → row_fits (number, layout) ≡ true
row_of [] number layout fits is = absurd cc
row_of (row ∷ rows) number layout fits is =
    let parts = both (row_fits row) (list_all row_fits rows) fits in
    found_row row (layout_of rows number) number layout (eqb row.0 number) refl parts.0
    (row_of rows number layout parts.1) is

-- a table whose messages all fit
pub record IsSound (table : List (ℕ × Layout)) : Type 0 where
  pub number : (message : Message) → IsMessageOf table message → message.number < 256 ^ 2
  pub size : (message : Message) → IsMessageOf table message
      → 8 + length (body_of (layout_of table message.number) message) < 256 ^ 4

laid_out_size : (found : Option Layout) (message : Message)
    → ((layout : Layout) → found ≡ Some layout → row_fits (message.number, layout) ≡ true) → IsLaidOut found message
    → (message.number < 256 ^ 2) × (8 + length (body_of found message) < 256 ^ 4)
laid_out_size None message fits h = absurd h
laid_out_size (Some layout) message fits h =
    let most = most_of_all layout.fields + most_behind layout.groups in
    let row = both (ltb message.number 65536) (ltb (8 + most) 4294967296) (fits layout refl) in
    let number = ltb-true message.number 65536 row.0 in
    let size = ltb-true (8 + most) 4294967296 row.1 in
    let values = spelled_all layout.fields message.values in
    let behind = spelled_behind layout.groups message.groups in
    let long : 8 + length (values ++ behind) < 256 ^ 4
    = omega (
      arith,
      size,
      length-append values behind,
      values_size layout.fields message.values h.0,
      behind_size layout.groups message.groups h.1,
    ) in
    (omega (arith, number), long)

pub is_sound : (table : List (ℕ × Layout)) → list_all row_fits table ≡ true → IsSound table
is_sound table fits = record {
  number = λ message h. (laid_out_size (layout_of table message.number) message
      (λ layout. row_of table message.number layout fits) h).0;
  size = λ message h. (laid_out_size (layout_of table message.number) message
      (λ layout. row_of table message.number layout fits) h).1;
}

pub requests_sound : IsSound request_table
requests_sound = is_sound request_table refl

pub answers_sound : IsSound answer_table
answers_sound = is_sound answer_table refl
