-- What is put for fields, at the end of bytes.
use Rattle.std.specs.Prelude.{◌≡◌, ⊤, ℕ, ◌^◌, ◌<◌, List, [], ◌∷◌, ◌++◌, length}
use Rattle.sn_bytes.specs.Fields.{little_bytes}
use Rattle.lisafs_wire.specs.declared.piece.Piece.{Piece}
use Rattle.lisafs_wire.specs.declared.piece.Piece.TheVariants as pieces
use Rattle.lisafs_wire.specs.Grammar.{Layout, layout_of}
use Rattle.lisafs_wire.specs.Spelling.{Message, body_of}

-- the bytes that are put
-- profile
abbrev pub piece_bytes : Piece → List ℕ
piece_bytes pieces.Nothing = []
piece_bytes (pieces.Byte n) = little_bytes 1 n
piece_bytes (pieces.Word n) = little_bytes 4 n
piece_bytes (pieces.DoubleWord n) = little_bytes 8 n
piece_bytes (pieces.Name name) = little_bytes 2 (length name.now) ++ name.now
piece_bytes (pieces.Data bytes) = little_bytes 4 (length bytes.now) ++ bytes.now

-- a length fits its field
-- profile
abbrev pub DoesFit : Piece → Type 0
DoesFit pieces.Nothing = ⊤
DoesFit (pieces.Byte n) = ⊤
DoesFit (pieces.Word n) = ⊤
DoesFit (pieces.DoubleWord n) = ⊤
DoesFit (pieces.Name name) = ⊤
DoesFit (pieces.Data bytes) = length bytes.now < 2 ^ 32

-- the bytes of pieces, one after another
-- profile
abbrev pub pieces_bytes : List Piece → List ℕ
pieces_bytes [] = []
pieces_bytes (piece ∷ pieces) = piece_bytes piece ++ pieces_bytes pieces

-- each of them fits
-- profile
abbrev pub DoAllFit : List Piece → Type 0
DoAllFit [] = ⊤
DoAllFit (piece ∷ pieces) = DoesFit piece × DoAllFit pieces

-- a message whose length isn't put yet
-- profile
abbrev pub unsized : List (ℕ × Layout) → Message → List ℕ
unsized table message =
    (little_bytes 4 0 ++ little_bytes 2 message.number ++ little_bytes 2 0)
    ++ body_of (layout_of table message.number) message

-- bytes begin with what there was before
-- profile
abbrev pub Grows : (old new : List ℕ) → Type 0
Grows old new = (more : List ℕ) × (new ≡ old ++ more)
