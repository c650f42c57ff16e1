-- How a value is read.
use Rattle.std.specs.Prelude.{ℕ, if◌then◌else◌, List, [], ◌∷◌, Option, None, Some}
use Rattle.text_tokens.specs.Tok.{Tok, name, var, number, symbol}
use Rattle.text_tokens.specs.declared.sign.Symbol.TheVariants as s
use Rattle.text_forms.specs.Parse.{Parse, seen, tested, begins_with, is_value, number_at}
use Rattle.text_forms.specs.ReadLevels.{first, whole_at}
use Rattle.text_forms.specs.Tail.{tail}
use Rattle.cql_text.specs.Tree.{Scalar, Number, Field, ItemField}
use Rattle.cql_text.specs.Values.{ranked, syntax}
use Rattle.cql_text.specs.Words.{is_plain, plain_at}
use Rattle.cql_text.specs.declared.operator.Operator.{Operator}

-- the operator of this level that comes next
abbrev pub operator_at : ℕ → List Tok → Option Operator
operator_at rank ts = first (ranked rank) ts

-- a name, and a field behind a dot
unfoldable pub field_after : List ℕ → Parse Scalar
field_after text ts =
    if is_plain text then (if begins_with s.Dot ts then seen (ItemField text) plain_at (tail ts) else Some (Field text, ts)) else None

-- a number of at most 63 bits
unfoldable pub numeral_at : Parse ℕ
numeral_at ts = tested is_value number_at ts

abbrev pub leaf_at : Parse Scalar
leaf_at [] = None
leaf_at (name text ∷ ts) = field_after text ts
leaf_at (var text ∷ ts) = None
leaf_at (number v ∷ ts) = seen Number numeral_at (number v ∷ ts)
leaf_at (symbol x ∷ ts) = None

-- a leaf opens no brackets
abbrev pub leaf_in : ℕ → Parse Scalar
leaf_in n ts = leaf_at ts

-- a value at most 64 deep, where so many more brackets may be open
unfoldable pub scalar_at : ℕ → Parse Scalar
scalar_at n ts = whole_at syntax leaf_in n ts
