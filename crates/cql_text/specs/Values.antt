-- The grammar of values, a ladder of seven levels:
--
--     or   = and { "Or" and }
--     and  = not { "And" not }
--     not  = "Not" not | cmp
--     cmp  = sum [ ("=" | "<>" | "!=" | "<" | "<=" | ">" | ">=") sum ]
--     sum  = prod { ("+" | "-") prod }
--     prod = sign { ("*" | "/" | "%") sign }
--     sign = "-" sign | base
--     base = "(" or ")" | leaf
--     leaf = NUMBER | NAME | NAME "." NAME
use Rattle.std.specs.Prelude.{◌≡◌, ℕ, true, ◌==◌, if◌then◌else◌, List, [], ◌∷◌, codes, Option, Some, None}
use Rattle.text_tokens.specs.Tok.{Tok}
use Rattle.text_tokens.specs.Tok as tok
use Rattle.text_tokens.specs.declared.sign.Symbol.{Symbol}
use Rattle.text_tokens.specs.declared.sign.Symbol.TheVariants as s
use Rattle.text_forms.specs.Levels.{Level, Chain, Once, Prefix, Syntax, IsWhole}
use Rattle.text_forms.specs.Parse.{begins_with, is_value}
use Rattle.cql_text.specs.Tree.{Scalar, Number, Field, ItemField, Neg, Not, Bin, scalar_depth}
use Rattle.cql_text.specs.Words.{is_keyword, is_keyword_at, is_plain}
use Rattle.cql_text.specs.declared.operator.Operator.{Operator}
use Rattle.cql_text.specs.declared.operator.Operator.TheVariants as op
use Rattle.cql_text.specs.declared.operator.Sign.{Sign}
use Rattle.cql_text.specs.declared.operator.Sign.TheVariants as sign

-- the operator of a symbol or a word
abbrev pub op_of : Symbol → Option Operator
op_of s.Plus = Some op.Add
op_of s.Minus = Some op.Sub
op_of s.Star = Some op.Mul
op_of s.Slash = Some op.Quot
op_of s.Percent = Some op.Rem
op_of s.Assign = Some op.Equal
op_of s.Different = Some op.Different
op_of s.NotEqual = Some op.NotEqual
op_of s.Less = Some op.Less
op_of s.LessEqual = Some op.LessEqual
op_of s.Greater = Some op.Greater
op_of s.GreaterEqual = Some op.GreaterEqual
op_of x = None

abbrev pub word_op : List ℕ → Option Operator
word_op text = if is_keyword (codes "and") text then Some op.And else (if is_keyword (codes "or") text then Some op.Or else None)

abbrev pub op_at : Tok → Option Operator
op_at (tok.name text) = word_op text
op_at (tok.var text) = None
op_at (tok.number n) = None
op_at (tok.symbol x) = op_of x

-- the level of an operator: 1 for prod, 2 for sum, 3 for cmp, 5 for and, 6 for or
abbrev pub rank_of : Operator → ℕ
rank_of op.Mul = 1
rank_of op.Quot = 1
rank_of op.Rem = 1
rank_of op.Add = 2
rank_of op.Sub = 2
rank_of op.Equal = 3
rank_of op.Different = 3
rank_of op.NotEqual = 3
rank_of op.Less = 3
rank_of op.LessEqual = 3
rank_of op.Greater = 3
rank_of op.GreaterEqual = 3
rank_of op.And = 5
rank_of op.Or = 6

-- the operators of a level
abbrev pub of_rank : ℕ → Option Operator → Option Operator
of_rank rank None = None
of_rank rank (Some o) = if rank_of o == rank then Some o else None

abbrev pub ranked : ℕ → Tok → Option Operator
ranked rank x = of_rank rank (op_at x)

-- the signs: a minus, and `Not`
abbrev pub minus : Tok → Option Sign
minus x = if begins_with s.Minus (x ∷ []) then Some sign.Minus else None

abbrev pub negation : Tok → Option Sign
negation x = if is_keyword_at (codes "not") (x ∷ []) then Some sign.Not else None

-- no word stands before a value in brackets
abbrev pub no_call : Tok → Option Sign
no_call x = None

abbrev pub signed : Sign → Scalar → Scalar
signed sign.Minus t = Neg t
signed sign.Not t = Not t

-- the levels, the tightest first
abbrev pub seven : List (Level Operator Sign)
seven = Prefix minus ∷ Chain (ranked 1) ∷ Chain (ranked 2) ∷ Once (ranked 3) ∷ Prefix negation ∷ Chain (ranked 5) ∷ Chain (ranked 6) ∷ []

abbrev pub syntax : Syntax Scalar Operator Sign
syntax = record { levels = seven; call = no_call; join = λ o a b. Bin o a b; mark = signed; depth = scalar_depth }

-- the tokens are this leaf, wherever it stands
pub data IsLeaf : (n : ℕ) (t : Scalar) (ts : List Tok) → Type 0 where
  number : (n v : ℕ) → is_value v ≡ true → IsLeaf n (Number v) (tok.number v ∷ [])
  field : (n : ℕ) (f : List ℕ) → is_plain f ≡ true → IsLeaf n (Field f) (tok.name f ∷ [])
  of_item : (n : ℕ) (a f : List ℕ) → is_plain a ≡ true → is_plain f ≡ true → IsLeaf n (ItemField a f) (tok.name a ∷ tok.symbol s.Dot ∷ tok.name f ∷ [])

-- a value, where `n` more brackets may be open: at most 64 deep
abbrev pub IsScalar : ℕ → Scalar → List Tok → Type 0
IsScalar n t ts = IsWhole syntax IsLeaf n t ts
