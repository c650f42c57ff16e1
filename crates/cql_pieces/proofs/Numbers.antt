-- The numbers of a text's program are values of 64 bits, by induction on what the tokens spell.
use Rattle.std.proofs.Common.{◌≡◌, ℕ, suc, pos, List, [], ◌∷◌, true, sym, subst, arith, ⊎_elim}
use Rattle.std.specs.List.{AllByRecursion}
use Rattle.river_base.specs.Number.{IsValue}
use Rattle.text_tokens.specs.Tok.{Tok}
use Rattle.text_tokens.specs.Cut.{units_of}
use Rattle.text_tokens.specs.Tok.{toks}
use Rattle.text_tokens.specs.declared.sign.Symbol.TheVariants as s
use Rattle.text_forms.specs.Forms as form
use Rattle.text_forms.specs.Levels as levels
use Rattle.text_forms.specs.Parse.{is_value}
use Rattle.cql_text.specs.Grammar.{IsColumn, IsColumns, IsUnit, IsQueryUnit, IsStreamUnit, AreUnits}
use Rattle.cql_text.specs.Tree.{Scalar, Column, Columns, UnitForm, Register, AQuery, Program}
use Rattle.cql_text.specs.Values.{IsLeaf, IsScalar, syntax, signed}
use Rattle.cql_text.specs.Values as rule
use Rattle.cql_text.specs.declared.operator.Sign.{Sign}
use Rattle.cql_text.specs.declared.operator.Sign.TheVariants as sign
use Rattle.cql_pieces.specs.Numbers.{TextsHaveNumbers}
use Rattle.cql_pieces.specs.Values.{HasNumbers, ColumnsHaveNumbers, AreNumbers}

-- EXPRESSIONS

value_fits : (n : ℕ) → is_value n ≡ true → IsValue (pos n)
value_fits n h = grind (arith, h)

leaf_fits : (n : ℕ) (e : Scalar) (ts : List Tok) → IsLeaf n e ts → HasNumbers e
leaf_fits n e ts (rule.number m v h) = value_fits v h
leaf_fits n e ts (rule.field m f h) = tt
leaf_fits n e ts (rule.of_item m a f h g) = tt

signed_fits : (p : Sign) (e : Scalar) → HasNumbers e → HasNumbers (signed p e)
signed_fits sign.Minus e h = h
signed_fits sign.Not e h = h

spelled_fits : (n rank : ℕ) (e : Scalar) (ts : List Tok) → levels.Spells syntax IsLeaf n rank e ts → HasNumbers e
spelled_fits n rank e ts (levels.leaf m t us l) = leaf_fits m t us l
spelled_fits n rank e ts (levels.bracket m t us h) = spelled_fits m 7 t us h
spelled_fits n rank e ts (levels.call m x p t us c h) = signed_fits p t (spelled_fits m 7 t us h)
spelled_fits n rank e ts (levels.tighter m k t us h) = spelled_fits m k t us h
spelled_fits n rank e ts (levels.chain m k x o a b us vs f g h i) = (spelled_fits m (suc k) a us h, spelled_fits m k b vs i)
spelled_fits n rank e ts (levels.once m k x o a b us vs f g h i) = (spelled_fits m k a us h, spelled_fits m k b vs i)
spelled_fits n rank e ts (levels.prefix m k x p t us f h) = signed_fits p t (spelled_fits m (suc k) t us h)

-- COLUMNS

column_fits : (c : Column) (ts : List Tok) → IsColumn c ts → HasNumbers c.value
column_fits c ts h =
    subst (λ (d : Column). HasNumbers d.value) (sym h.is) (spelled_fits 127 7 h.value.0 h.formed.front h.formed.first.0)

more_columns : (cs : List Column) (ts : List Tok) → form.Many (form.After (s.Comma ∷ []) IsColumn) cs ts → AllByRecursion (λ c. HasNumbers c.value) cs
more_columns [] ts h = tt
more_columns (c ∷ cs) ts h = (column_fits c h.3.back h.3.formed, more_columns cs h.1 h.4)

columns_fit : (cs : Columns) (ts : List Tok) → IsColumns cs ts → ColumnsHaveNumbers cs
columns_fit cs ts h =
    ⊎_elim (λ a. subst ColumnsHaveNumbers (sym a.formed.0) tt)
    (λ b.
    subst ColumnsHaveNumbers (sym b.is)
    (subst (λ (ds : List Column). AllByRecursion (λ c. HasNumbers c.value) ds) (sym b.formed.is)
    (column_fits b.formed.value.0 b.formed.formed.front b.formed.formed.first, more_columns b.formed.value.1 b.formed.formed.back b.formed.formed.second))) h

-- UNITS

abbrev UnitFits : UnitForm → Type 0
UnitFits u = AreNumbers (u ∷ [])

stream_fits : (u : UnitForm) (ts : List Tok) → IsStreamUnit u ts → UnitFits u
stream_fits u ts h = subst UnitFits (sym h.formed.formed.is) tt

query_fits : (u : UnitForm) (ts : List Tok) → IsQueryUnit u ts → UnitFits u
query_fits u ts h =
    let seen = h.formed in
    let selected = seen.formed.second.formed.formed in
    let round = selected.second.first in
    subst UnitFits (sym seen.is) (columns_fit seen.value.1.1.0 round.formed.front round.formed.formed, tt)

unit_fits : (u : UnitForm) (ts : List Tok) → IsUnit u ts → UnitFits u
unit_fits u ts h = ⊎_elim (stream_fits u ts) (query_fits u ts) h

units_fit : (p : Program) (units : List (List Tok)) → AreUnits p units → AreNumbers p
units_fit [] units h = tt
units_fit (u ∷ ps) [] h = absurd h
units_fit (Register name fields ∷ ps) (ts ∷ units) h = units_fit ps units h.1
units_fit (AQuery q ∷ ps) (ts ∷ units) h = ((unit_fits (AQuery q) ts h.0).0, units_fit ps units h.1)

-- The law: whatever text stands for a program, its numbers are values.
pub texts_have_numbers : TextsHaveNumbers
texts_have_numbers text p h = units_fit p (units_of (toks h.marks)) h.formed
