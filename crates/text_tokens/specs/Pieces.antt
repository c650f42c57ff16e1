-- The pieces that the lexer finds.
use Rattle.std.specs.Prelude.{ℕ, ◌<◌, ◌≤◌}
use Rattle.text_tokens.specs.declared.piece.Piece.{Piece}
use Rattle.text_tokens.specs.declared.piece.Piece.TheVariants.{Blank, Token, Bad, Big}
use Rattle.text_tokens.specs.Lexis as lexis
use Rattle.text_tokens.specs.Tok.{token_of}

-- the piece without memory
abbrev pub piece_of : Piece → lexis.Piece
piece_of (Blank len) = lexis.blank len
piece_of (Token t len) = lexis.token (token_of t) len
piece_of Bad = lexis.bad
piece_of Big = lexis.big

-- a piece has a byte and is no longer than the text
abbrev pub PieceFits : ℕ → lexis.Piece → Type 0
PieceFits room (lexis.blank len) = (0 < len) × (len ≤ room)
PieceFits room (lexis.token t len) = (0 < len) × (len ≤ room)
PieceFits room lexis.bad = Unit {0}
PieceFits room lexis.big = Unit {0}
