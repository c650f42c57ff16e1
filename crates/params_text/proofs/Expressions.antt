-- Expressions that are written out are read as themselves.
use Rattle.std.proofs.Common.{◌≡◌, ℕ, zero, suc, ◌<◌, ◌≤◌, Some, true, List, [], ◌∷◌, ◌++◌, length, refl, arith}
use Rattle.std.specs.Prelude.{codes, ◌&&◌, nat_le}
use Rattle.std.specs.List.{list_all}
use Rattle.std.proofs.lemmas.Bool.{and_parts}
use Rattle.text_forms.proofs.Symbols.{value_is}
use Rattle.work_code.specs.declared.expr.BinOp.{BinOp}
use Rattle.work_code.specs.declared.expr.BinOp.TheVariants as op
use Rattle.text_tokens.specs.declared.sign.Symbol.{Symbol}
use Rattle.text_tokens.specs.declared.sign.Symbol.TheVariants as s
use Rattle.text_tokens.specs.Tok.{Tok, name, symbol}
use Rattle.text_tokens.specs.Lexis as lexis
use Rattle.text_tokens.proofs.Spelled.{is_name_text}
use Rattle.river_base.specs.Name.{is_name}
use Rattle.river_base.specs.Name as river
use Rattle.streamit_text.specs.Tree.{Expression, depth_of}
use Rattle.streamit_text.specs.Tree as tree
use Rattle.text_forms.specs.Levels.{level_of, form_of, operator}
use Rattle.text_forms.specs.Levels as levels
use Rattle.text_forms.specs.declared.form.Form.TheVariants as form
use Rattle.text_blocks.specs.Seven as grammar
use Rattle.streamit_text.specs.Expressions.{sign_before, marked, syntax, IsExpression}
use Rattle.streamit_text.specs.Leaves.{IsLeaf}
use Rattle.streamit_text.specs.Leaves as rule
use Rattle.streamit_text.specs.Words.{is_plain}
use Rattle.streamit_text.specs.declared.term.Sign.{Sign}
use Rattle.streamit_text.specs.declared.term.Sign.TheVariants as sign
use Rattle.text_tokens.proofs.Insides.{IsPlain, plain-Open, plain-Close, plain-Minus, plain-Not}
use Rattle.params_text.specs.Toks.{expr_toks}
use Rattle.params_text.specs.Told.{IsOwnName, IsToldTree, IsToldExpr}
use Rattle.text_tokens.proofs.Good.{IsPiece, piece-nothing, piece-then, piece-symbol, piece-name, piece-number, piece-last}

-- a name of a program
pub own_plain : (n : List ℕ) → IsOwnName n → is_plain n ≡ true
own_plain n h = (and_parts (is_plain n) (is_name n) h).0

-- it is a word of at most 63 bytes
pub own_name : (n : List ℕ) → IsOwnName n → is_name n ≡ true
own_name n h = (and_parts (is_plain n) (is_name n) h).1

name-text : (v : List ℕ) → is_name v ≡ true → is_name_text v ≡ true
name-text [] h = cc
name-text (b ∷ bs) h =
    let x = and_parts (river.is_letter b) (list_all river.is_word bs && nat_le (length bs) 63) h in
    let y = and_parts (list_all river.is_word bs) (nat_le (length bs) 63) x.1 in
    rw (x.0, y.0) refl

-- a name of a program is the text of a word
pub own_text : (n : List ℕ) → IsOwnName n → is_name_text n ≡ true
own_text n h = name-text n (own_name n h)

-- `peek` is a word
pub peek_is : is_name_text (codes "peek") ≡ true
unfolding lexis.is_letter lexis.is_word lexis.is_digit
peek_is = refl

-- `pop` is a word
pub pop_is : is_name_text (codes "pop") ≡ true
unfolding lexis.is_letter lexis.is_word lexis.is_digit
pop_is = refl

plain-sign : (o : BinOp) → IsPlain (grammar.sign_of o)
plain-sign op.Add = record { no_open = refl; no_close = refl }
plain-sign op.Sub = record { no_open = refl; no_close = refl }
plain-sign op.Mul = record { no_open = refl; no_close = refl }
plain-sign op.Quot = record { no_open = refl; no_close = refl }
plain-sign op.Rem = record { no_open = refl; no_close = refl }
plain-sign op.Eq = record { no_open = refl; no_close = refl }
plain-sign op.Ne = record { no_open = refl; no_close = refl }
plain-sign op.Lt = record { no_open = refl; no_close = refl }
plain-sign op.Le = record { no_open = refl; no_close = refl }
plain-sign op.Gt = record { no_open = refl; no_close = refl }
plain-sign op.Ge = record { no_open = refl; no_close = refl }
plain-sign op.And = record { no_open = refl; no_close = refl }
plain-sign op.Or = record { no_open = refl; no_close = refl }

-- ITS TOKENS ARE A PIECE

-- round brackets around a piece
pub round : (ts : List Tok) → IsPiece ts → IsPiece (symbol s.Open ∷ (ts ++ symbol s.Close ∷ []))
round ts h = piece-symbol s.Open plain-Open (ts ++ symbol s.Close ∷ []) (piece-last s.Close plain-Close ts h)

-- the tokens of an expression that a text can stand for are a piece
pub told-piece : (t : Expression) → IsToldTree t → IsPiece (expr_toks t)
told-piece (tree.Number v) h = piece-number v h [] piece-nothing
told-piece (tree.Name n) h = piece-name n (own_text n h) [] piece-nothing
told-piece (tree.Peek t) h = piece-name (codes "peek") peek_is (symbol s.Open ∷ (expr_toks t ++ symbol s.Close ∷ [])) (round (expr_toks t) (told-piece t h))
told-piece tree.Pop h = piece-name (codes "pop") pop_is (symbol s.Open ∷ symbol s.Close ∷ []) (round [] piece-nothing)
told-piece (tree.Neg t) h = round (symbol s.Minus ∷ expr_toks t) (piece-symbol s.Minus plain-Minus (expr_toks t) (told-piece t h))
told-piece (tree.Not t) h = round (symbol s.Not ∷ expr_toks t) (piece-symbol s.Not plain-Not (expr_toks t) (told-piece t h))
told-piece (tree.Bin o a b) h =
    round (expr_toks a ++ symbol (grammar.sign_of o) ∷ expr_toks b)
    (piece-then (expr_toks a) (symbol (grammar.sign_of o) ∷ expr_toks b) (told-piece a h.0)
    (piece-symbol (grammar.sign_of o) (plain-sign o) (expr_toks b) (told-piece b h.1)))

-- IT IS IN THE GRAMMAR

some_depth : (t : Expression) → 0 < depth_of t
some_depth (tree.Number v) = omega arith
some_depth (tree.Name n) = omega arith
some_depth (tree.Peek t) = omega arith
some_depth tree.Pop = omega arith
some_depth (tree.Neg t) = omega arith
some_depth (tree.Not t) = omega arith
some_depth (tree.Bin o l r) = omega arith

abbrev Says : ℕ → ℕ → Expression → List Tok → Type 0
Says n k t ts = levels.Spells syntax IsLeaf n k t ts

abbrev higher : ℕ → ℕ → ℕ
higher zero k = k
higher (suc j) k = suc (higher j k)

up : (n j k : ℕ) (t : Expression) (ts : List Tok) → Says n k t ts → Says n (higher j k) t ts
up n zero k t ts h = h
up n (suc j) k t ts h = levels.tighter n (higher j k) t ts (up n j k t ts h)

looser : (n : ℕ) (t : Expression) (ts : List Tok) → Says n 0 t ts → (k : ℕ) → Says n k t ts
looser n t ts h zero = h
looser n t ts h (suc k) = levels.tighter n k t ts (looser n t ts h k)

chained : (n k : ℕ) (o : BinOp) (a b : Expression) (ts us : List Tok) → form_of (level_of syntax.levels k) ≡ form.Chain
    → operator (level_of syntax.levels k) (symbol (grammar.sign_of o)) ≡ Some o → Says n 0 a ts → Says n 0 b us
    → Says n (suc k) (tree.Bin o a b) (ts ++ symbol (grammar.sign_of o) ∷ us)
chained n k o a b ts us many is x y = levels.chain n k (symbol (grammar.sign_of o)) o a b ts us many is (looser n a ts x (suc k)) (looser n b us y k)

operation : (n : ℕ) (o : BinOp) (a b : Expression) (ts us : List Tok) → Says n 0 a ts → Says n 0 b us
    → Says n 7 (tree.Bin o a b) (ts ++ symbol (grammar.sign_of o) ∷ us)
operation n op.Add a b ts us x y = up n 4 3 (tree.Bin op.Add a b) (ts ++ symbol (grammar.sign_of op.Add) ∷ us) (chained n 2 op.Add a b ts us refl refl x y)
operation n op.Sub a b ts us x y = up n 4 3 (tree.Bin op.Sub a b) (ts ++ symbol (grammar.sign_of op.Sub) ∷ us) (chained n 2 op.Sub a b ts us refl refl x y)
operation n op.Mul a b ts us x y = up n 5 2 (tree.Bin op.Mul a b) (ts ++ symbol (grammar.sign_of op.Mul) ∷ us) (chained n 1 op.Mul a b ts us refl refl x y)
operation n op.Quot a b ts us x y = up n 5 2 (tree.Bin op.Quot a b) (ts ++ symbol (grammar.sign_of op.Quot) ∷ us) (chained n 1 op.Quot a b ts us refl refl x y)
operation n op.Rem a b ts us x y = up n 5 2 (tree.Bin op.Rem a b) (ts ++ symbol (grammar.sign_of op.Rem) ∷ us) (chained n 1 op.Rem a b ts us refl refl x y)
operation n op.Eq a b ts us x y = up n 2 5 (tree.Bin op.Eq a b) (ts ++ symbol (grammar.sign_of op.Eq) ∷ us) (chained n 4 op.Eq a b ts us refl refl x y)
operation n op.Ne a b ts us x y = up n 2 5 (tree.Bin op.Ne a b) (ts ++ symbol (grammar.sign_of op.Ne) ∷ us) (chained n 4 op.Ne a b ts us refl refl x y)
operation n op.Lt a b ts us x y = up n 3 4 (tree.Bin op.Lt a b) (ts ++ symbol (grammar.sign_of op.Lt) ∷ us) (chained n 3 op.Lt a b ts us refl refl x y)
operation n op.Le a b ts us x y = up n 3 4 (tree.Bin op.Le a b) (ts ++ symbol (grammar.sign_of op.Le) ∷ us) (chained n 3 op.Le a b ts us refl refl x y)
operation n op.Gt a b ts us x y = up n 3 4 (tree.Bin op.Gt a b) (ts ++ symbol (grammar.sign_of op.Gt) ∷ us) (chained n 3 op.Gt a b ts us refl refl x y)
operation n op.Ge a b ts us x y = up n 3 4 (tree.Bin op.Ge a b) (ts ++ symbol (grammar.sign_of op.Ge) ∷ us) (chained n 3 op.Ge a b ts us refl refl x y)
operation n op.And a b ts us x y = up n 1 6 (tree.Bin op.And a b) (ts ++ symbol (grammar.sign_of op.And) ∷ us) (chained n 5 op.And a b ts us refl refl x y)
operation n op.Or a b ts us x y = up n 0 7 (tree.Bin op.Or a b) (ts ++ symbol (grammar.sign_of op.Or) ∷ us) (chained n 6 op.Or a b ts us refl refl x y)

signed : (n : ℕ) (x : Symbol) (p : Sign) (t : Expression) (ts : List Tok) → sign_before x ≡ Some p → Says n 0 t ts
    → Says n 7 (marked p t) (symbol x ∷ ts)
signed n x p t ts is h = up n 6 1 (marked p t) (symbol x ∷ ts) (levels.prefix n 0 (symbol x) p t ts is (looser n t ts h 1))

told-says : (t : Expression) (n : ℕ) → IsToldTree t → depth_of t ≤ n → Says n 0 t (expr_toks t)
told-says t zero h d = absurd (let e = some_depth t in omega arith)
told-says (tree.Number v) (suc n) h d = levels.leaf (suc n) (tree.Number v) (expr_toks (tree.Number v)) (rule.number (suc n) v (value_is v h))
told-says (tree.Name w) (suc n) h d = levels.leaf (suc n) (tree.Name w) (expr_toks (tree.Name w)) (rule.name (suc n) w h)
told-says (tree.Peek t) (suc n) h d =
    levels.call n (name (codes "peek")) sign.Peek t (expr_toks t) refl (looser n t (expr_toks t) (told-says t n h (omega arith)) 7)
told-says tree.Pop (suc n) h d = levels.leaf (suc n) tree.Pop (expr_toks tree.Pop) (rule.pop n)
told-says (tree.Neg t) (suc n) h d =
    levels.bracket n (tree.Neg t) (symbol s.Minus ∷ expr_toks t) (signed n s.Minus sign.Neg t (expr_toks t) refl (told-says t n h (omega arith)))
told-says (tree.Not t) (suc n) h d =
    levels.bracket n (tree.Not t) (symbol s.Not ∷ expr_toks t) (signed n s.Not sign.Not t (expr_toks t) refl (told-says t n h (omega arith)))
told-says (tree.Bin o a b) (suc n) h d =
    levels.bracket n (tree.Bin o a b) (expr_toks a ++ symbol (grammar.sign_of o) ∷ expr_toks b)
    (operation n o a b (expr_toks a) (expr_toks b) (told-says a n h.0 (omega arith)) (told-says b n h.1 (omega arith)))

-- an expression that a text can stand for is in the grammar, by its tokens
pub told-formed : (n : ℕ) (t : Expression) → 64 ≤ n → IsToldExpr t → IsExpression IsLeaf n t (expr_toks t)
told-formed n t room h = (looser n t (expr_toks t) (told-says t n h.0 (let d = h.1 in omega (arith, d, room))) 7, h.1)
