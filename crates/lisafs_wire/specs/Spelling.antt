-- Messages as lists of values, and the one spelling of each.
use Rattle.std.specs.Prelude.{◌≡◌, ⊤, ℕ, ◌+◌, ◌^◌, ◌<◌, true, List, [], ◌∷◌, ◌++◌, length, Option, Some, None}
use Rattle.sn_bytes.specs.Fields.{little_bytes}
use Rattle.lisafs_wire.specs.Fields.{Field, Value, IsValueOf, spelled}
use Rattle.lisafs_wire.specs.Grammar.{Groups, Without, Counted, Layout, layout_of}

-- a message: its number, what stands in its fields, and the groups behind them
-- profile
pub record Message : Type 0 where
  pub number : ℕ
  pub values : List Value
  pub groups : List (List Value)

-- values may stand in these fields, one in each
-- profile
abbrev pub AreValuesOf : List Field → List Value → Type 0
AreValuesOf [] [] = ⊤
AreValuesOf (field ∷ fields) (value ∷ values) = IsValueOf field value × AreValuesOf fields values
AreValuesOf _ _ = ⊥

-- so many groups of the fields
-- profile
abbrev pub AreGroupsOf : List Field → List (List Value) → Type 0
AreGroupsOf fields [] = ⊤
AreGroupsOf fields (group ∷ groups) = AreValuesOf fields group × AreGroupsOf fields groups

-- groups may stand behind the fields
-- profile
abbrev pub FitBehind : Groups → List (List Value) → Type 0
FitBehind Without groups = groups ≡ []
FitBehind (Counted is_allowed fields) groups =
    (length groups < 2 ^ 16) × (is_allowed (length groups) ≡ true) × AreGroupsOf fields groups

-- a message is laid out so
-- profile
abbrev pub IsLaidOut : Option Layout → Message → Type 0
IsLaidOut None message = ⊥
IsLaidOut (Some layout) message = AreValuesOf layout.fields message.values × FitBehind layout.groups message.groups

-- a table has the message
-- gVisor package lisafs
abbrev pub IsMessageOf : List (ℕ × Layout) → Message → Type 0
IsMessageOf table message = IsLaidOut (layout_of table message.number) message

-- values spelled in their fields, one after another
-- profile
abbrev pub spelled_all : List Field → List Value → List ℕ
spelled_all (field ∷ fields) (value ∷ values) = spelled field value ++ spelled_all fields values
spelled_all _ _ = []

-- groups, one after another
-- profile
abbrev pub spelled_groups : List Field → List (List Value) → List ℕ
spelled_groups fields [] = []
spelled_groups fields (group ∷ groups) = spelled_all fields group ++ spelled_groups fields groups

-- what stands behind the fields: the count of the groups, and these
-- profile
abbrev pub spelled_behind : Groups → List (List Value) → List ℕ
spelled_behind Without groups = []
spelled_behind (Counted is_allowed fields) groups = little_bytes 2 (length groups) ++ spelled_groups fields groups

-- all that stands behind a message's header
-- profile
abbrev pub body_of : Option Layout → Message → List ℕ
body_of None message = []
body_of (Some layout) message = spelled_all layout.fields message.values ++ spelled_behind layout.groups message.groups

-- a header: the length of the whole message, its number, and a zero
-- gVisor package lisafs, sockHeader; widths: profile
abbrev pub header_of : ℕ → ℕ → List ℕ
header_of size number = little_bytes 4 (8 + size) ++ little_bytes 2 number ++ little_bytes 2 0

-- the one spelling of a message that a table has
-- gVisor package lisafs
unfoldable pub spelling : List (ℕ × Layout) → Message → List ℕ
spelling table message =
    let body = body_of (layout_of table message.number) message in
    header_of (length body) message.number ++ body
