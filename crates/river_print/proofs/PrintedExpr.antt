-- Printed expressions: their text has tokens that stand for the expression.
use Rattle.std.proofs.Common.{◌≡◌, ℕ, zero, suc, ◌<◌, ◌≤◌, Some, true, List, [], ◌∷◌, ◌++◌, refl, ap, ◌∙◌, arith, append_assoc, subst}
use Rattle.std.specs.Prelude.{ℤ, pos, negsuc, codes}
use Rattle.std.proofs.lemmas.Bool.Decides.{nat_tests}
use Rattle.std.specs.Fmt.{decimal}
use Rattle.text_forms.proofs.Symbols.{value_is}
use Rattle.work_code.specs.declared.expr.BinOp.{BinOp}
use Rattle.work_code.specs.declared.expr.BinOp.TheVariants as op
use Rattle.text_tokens.specs.declared.sign.Symbol.{Symbol}
use Rattle.text_tokens.specs.declared.sign.Symbol.TheVariants as s
use Rattle.work_code.specs.Term.{Term, Const, Input, Slot, Neg, Not, Bin, depth_of}
use Rattle.work_code.specs.Printed.{text_of, sign_text}
use Rattle.text_tokens.specs.Lexis.{is_blank, first_is, is_word, is_letter, is_digit}
use Rattle.text_tokens.specs.Symbols.{symbol_bytes}
use Rattle.text_tokens.specs.Tok.{Tok, name, number, symbol}
use Rattle.text_tokens.proofs.Spelled.{Spells, Anything, NoWord, NoSign, MayFollow, is_name_text, spells-then, spells-less, spells-blank, spells-symbol}
use Rattle.text_tokens.proofs.Spelled.{spells-name, spells-number, blank_follows, minus_follows, not_follows, decimal-first}
use Rattle.text_forms.specs.Levels.{level_of, form_of, operator}
use Rattle.text_forms.specs.Levels as levels
use Rattle.text_forms.specs.Parse.{is_count}
use Rattle.text_forms.specs.declared.form.Form.TheVariants as form
use Rattle.text_blocks.specs.Seven as grammar
use Rattle.text_blocks.specs.declared.sign.Sign.{Sign}
use Rattle.text_blocks.specs.declared.sign.Sign.TheVariants as sign
use Rattle.river_text.specs.Expressions.{marked, syntax, IsLeaf, IsTerm}
use Rattle.river_text.specs.Expressions as rule
use Rattle.river_print.specs.Writable.{IsSpoken}

-- a value from 0 on as a number
abbrev pub natural : ℤ → ℕ
natural (pos n) = n
natural (negsuc n) = 0

-- the tokens of the printed text of an expression
abbrev pub printed : Term → List Tok
printed (Const z) = number (natural z) ∷ []
printed (Input place) = name (codes "input") ∷ symbol s.OpenBracket ∷ number place ∷ symbol s.CloseBracket ∷ []
printed (Slot slot) = name (codes "slot") ∷ symbol s.OpenBracket ∷ number slot ∷ symbol s.CloseBracket ∷ []
printed (Neg t) = symbol s.Open ∷ ((symbol s.Minus ∷ printed t) ++ symbol s.Close ∷ [])
printed (Not t) = symbol s.Open ∷ ((symbol s.Not ∷ printed t) ++ symbol s.Close ∷ [])
printed (Bin o l r) = symbol s.Open ∷ ((printed l ++ symbol (grammar.sign_of o) ∷ printed r) ++ symbol s.Close ∷ [])

some_depth : (t : Term) → 0 < depth_of t
some_depth (Const z) = omega arith
some_depth (Input place) = omega arith
some_depth (Slot slot) = omega arith
some_depth (Neg t) = omega arith
some_depth (Not t) = omega arith
some_depth (Bin o l r) = omega arith

-- a number below 2^32 counts something
pub is_count-below : (n : ℕ) → n < 4294967296 → is_count n ≡ true
is_count-below n lt = grind (arith, nat_tests)

-- the tokens stand for the expression, on the level above `rank` others
abbrev Stands : (n rank : ℕ) → Term → List Tok → Type 0
Stands n rank t ts = levels.Spells syntax IsLeaf n rank t ts

-- what is on a level of the grammar is on each looser level
looser : (n : ℕ) (t : Term) (ts : List Tok) → Stands n 0 t ts → (k : ℕ) → Stands n k t ts
looser n t ts h zero = h
looser n t ts h (suc k) = levels.tighter n k t ts (looser n t ts h k)

abbrev higher : ℕ → ℕ → ℕ
higher zero k = k
higher (suc j) k = suc (higher j k)

up : (n j k : ℕ) (t : Term) (ts : List Tok) → Stands n k t ts → Stands n (higher j k) t ts
up n zero k t ts h = h
up n (suc j) k t ts h = levels.tighter n (higher j k) t ts (up n j k t ts h)

chained : (n k : ℕ) (o : BinOp) (a b : Term) (ts us : List Tok) → form_of (level_of syntax.levels k) ≡ form.Chain
    → operator (level_of syntax.levels k) (symbol (grammar.sign_of o)) ≡ Some o → Stands n 0 a ts → Stands n 0 b us
    → Stands n (suc k) (Bin o a b) (ts ++ symbol (grammar.sign_of o) ∷ us)
chained n k o a b ts us many is x y = levels.chain n k (symbol (grammar.sign_of o)) o a b ts us many is (looser n a ts x (suc k)) (looser n b us y k)

operation : (n : ℕ) (o : BinOp) (a b : Term) (ts us : List Tok) → Stands n 0 a ts → Stands n 0 b us
    → Stands n 7 (Bin o a b) (ts ++ symbol (grammar.sign_of o) ∷ us)
operation n op.Add a b ts us x y = up n 4 3 (Bin op.Add a b) (ts ++ symbol (grammar.sign_of op.Add) ∷ us) (chained n 2 op.Add a b ts us refl refl x y)
operation n op.Sub a b ts us x y = up n 4 3 (Bin op.Sub a b) (ts ++ symbol (grammar.sign_of op.Sub) ∷ us) (chained n 2 op.Sub a b ts us refl refl x y)
operation n op.Mul a b ts us x y = up n 5 2 (Bin op.Mul a b) (ts ++ symbol (grammar.sign_of op.Mul) ∷ us) (chained n 1 op.Mul a b ts us refl refl x y)
operation n op.Quot a b ts us x y = up n 5 2 (Bin op.Quot a b) (ts ++ symbol (grammar.sign_of op.Quot) ∷ us) (chained n 1 op.Quot a b ts us refl refl x y)
operation n op.Rem a b ts us x y = up n 5 2 (Bin op.Rem a b) (ts ++ symbol (grammar.sign_of op.Rem) ∷ us) (chained n 1 op.Rem a b ts us refl refl x y)
operation n op.Eq a b ts us x y = up n 2 5 (Bin op.Eq a b) (ts ++ symbol (grammar.sign_of op.Eq) ∷ us) (chained n 4 op.Eq a b ts us refl refl x y)
operation n op.Ne a b ts us x y = up n 2 5 (Bin op.Ne a b) (ts ++ symbol (grammar.sign_of op.Ne) ∷ us) (chained n 4 op.Ne a b ts us refl refl x y)
operation n op.Lt a b ts us x y = up n 3 4 (Bin op.Lt a b) (ts ++ symbol (grammar.sign_of op.Lt) ∷ us) (chained n 3 op.Lt a b ts us refl refl x y)
operation n op.Le a b ts us x y = up n 3 4 (Bin op.Le a b) (ts ++ symbol (grammar.sign_of op.Le) ∷ us) (chained n 3 op.Le a b ts us refl refl x y)
operation n op.Gt a b ts us x y = up n 3 4 (Bin op.Gt a b) (ts ++ symbol (grammar.sign_of op.Gt) ∷ us) (chained n 3 op.Gt a b ts us refl refl x y)
operation n op.Ge a b ts us x y = up n 3 4 (Bin op.Ge a b) (ts ++ symbol (grammar.sign_of op.Ge) ∷ us) (chained n 3 op.Ge a b ts us refl refl x y)
operation n op.And a b ts us x y = up n 1 6 (Bin op.And a b) (ts ++ symbol (grammar.sign_of op.And) ∷ us) (chained n 5 op.And a b ts us refl refl x y)
operation n op.Or a b ts us x y = up n 0 7 (Bin op.Or a b) (ts ++ symbol (grammar.sign_of op.Or) ∷ us) (chained n 6 op.Or a b ts us refl refl x y)

-- a sign before an expression
signed : (n : ℕ) (x : Symbol) (p : Sign) (t : Term) (ts : List Tok) → grammar.sign_before x ≡ Some p → Stands n 0 t ts
    → Stands n 7 (marked p t) (symbol x ∷ ts)
signed n x p t ts is h = up n 6 1 (marked p t) (symbol x ∷ ts) (levels.prefix n 0 (symbol x) p t ts is (looser n t ts h 1))

-- the tokens of the printed text stand for the expression
printed-stands : (t : Term) (n : ℕ) → IsSpoken t → depth_of t ≤ n → Stands n 0 t (printed t)
printed-stands t zero w d = absurd (let e = some_depth t in omega arith)
printed-stands (Const z) (suc n) w d = rw w.1 (levels.leaf (suc n) (Const (pos w.0)) (number w.0 ∷ []) (rule.number (suc n) w.0 (value_is w.0 w.2)))
printed-stands (Input place) (suc n) w d = levels.leaf (suc n) (Input place) (printed (Input place)) (rule.input n place (is_count-below place w))
printed-stands (Slot slot) (suc n) w d = levels.leaf (suc n) (Slot slot) (printed (Slot slot)) (rule.slot n slot (is_count-below slot w))
printed-stands (Neg t) (suc n) w d =
    levels.bracket n (Neg t) (symbol s.Minus ∷ printed t) (signed n s.Minus sign.Neg t (printed t) refl (printed-stands t n w (omega arith)))
printed-stands (Not t) (suc n) w d =
    levels.bracket n (Not t) (symbol s.Not ∷ printed t) (signed n s.Not sign.Not t (printed t) refl (printed-stands t n w (omega arith)))
printed-stands (Bin o l r) (suc n) w d =
    levels.bracket n (Bin o l r) (printed l ++ symbol (grammar.sign_of o) ∷ printed r)
    (operation n o l r (printed l) (printed r) (printed-stands l n w.0 (omega arith)) (printed-stands r n w.1 (omega arith)))

-- so they are an expression, where so many more brackets may be open as the expression is deep
pub printed-is : (t : Term) (n : ℕ) → IsSpoken t → depth_of t ≤ 64 → depth_of t ≤ n → IsTerm n t (printed t)
printed-is t n w d m = (looser n t (printed t) (printed-stands t n w m) 7, d)

-- ---- the bytes of the text have these tokens

pub symbol-then : {ok : List ℕ → Type 0} (x : Symbol) (u : List ℕ) (us : List Tok) → Spells u us ok → ((rest : List ℕ) → ok rest → MayFollow x (u ++ rest))
    → Spells (symbol_bytes x ++ u) (symbol x ∷ us) ok
symbol-then x u us h follows = spells-then (symbol_bytes x) (symbol x ∷ []) u us (spells-symbol x) h follows

-- no word goes on at these
pub close_is_no_word : (rest : List ℕ) → Anything rest → NoWord (codes ")" ++ rest)
unfolding first_is is_word is_letter is_digit
close_is_no_word rest any = refl

pub square_is_no_word : (rest : List ℕ) → Anything rest → NoWord (codes "]" ++ rest)
unfolding first_is is_word is_letter is_digit
square_is_no_word rest any = refl

square_open_is_no_word : (u rest : List ℕ) → NoWord ((codes "[" ++ u) ++ rest)
unfolding first_is is_word is_letter is_digit
square_open_is_no_word u rest = refl

blank_is_no_word : (u rest : List ℕ) → NoWord ((codes " " ++ u) ++ rest)
unfolding first_is is_word is_letter is_digit
blank_is_no_word u rest = refl

-- a text in brackets
in_brackets : (u : List ℕ) (us : List Tok) → Spells u us NoWord → Spells (codes "(" ++ (u ++ codes ")")) (symbol s.Open ∷ (us ++ symbol s.Close ∷ [])) Anything
in_brackets u us h =
    symbol-then s.Open (u ++ codes ")") (us ++ symbol s.Close ∷ [])
    (spells-then u us (codes ")") (symbol s.Close ∷ []) h (spells-symbol s.Close) close_is_no_word) (λ rest any. tt)

-- a word before a number in square brackets
indexed : (word : List ℕ) (n : ℕ) → is_name_text word ≡ true → n < 4294967296
    → Spells (word ++ (codes "[" ++ (decimal n ++ codes "]"))) (name word ∷ symbol s.OpenBracket ∷ number n ∷ symbol s.CloseBracket ∷ []) Anything
indexed word n is fits =
    spells-then word (name word ∷ []) (codes "[" ++ (decimal n ++ codes "]")) (symbol s.OpenBracket ∷ number n ∷ symbol s.CloseBracket ∷ [])
    (spells-name word is)
    (symbol-then s.OpenBracket (decimal n ++ codes "]") (number n ∷ symbol s.CloseBracket ∷ [])
    (spells-then (decimal n) (number n ∷ []) (codes "]") (symbol s.CloseBracket ∷ []) (spells-number n (omega arith))
    (spells-symbol s.CloseBracket) square_is_no_word) (λ rest any. tt))
    (λ rest any. square_open_is_no_word (decimal n ++ codes "]") rest)

input_is : is_name_text (codes "input") ≡ true
unfolding is_letter is_word is_digit
input_is = refl

slot_is : is_name_text (codes "slot") ≡ true
unfolding is_letter is_word is_digit
slot_is = refl

pub blank_is : is_blank 32 ≡ true
unfolding is_blank
blank_is = refl

-- a blank before a text
pub blank-then : {ok : List ℕ → Type 0} (u : List ℕ) (us : List Tok) → Spells u us ok → Spells (codes " " ++ u) us ok
blank-then u us h = spells-then (codes " ") [] u us (spells-blank 32 blank_is) h (λ rest any. tt)

sign_text-is : (o : BinOp) → symbol_bytes (grammar.sign_of o) ≡ sign_text o
sign_text-is op.Add = refl
sign_text-is op.Sub = refl
sign_text-is op.Mul = refl
sign_text-is op.Quot = refl
sign_text-is op.Rem = refl
sign_text-is op.Eq = refl
sign_text-is op.Ne = refl
sign_text-is op.Lt = refl
sign_text-is op.Le = refl
sign_text-is op.Gt = refl
sign_text-is op.Ge = refl
sign_text-is op.And = refl
sign_text-is op.Or = refl

-- an operator between blanks
operator-then : (o : BinOp) (u : List ℕ) (us : List Tok) → Spells u us NoWord
    → Spells (codes " " ++ (sign_text o ++ (codes " " ++ u))) (symbol (grammar.sign_of o) ∷ us) NoWord
operator-then o u us h =
    subst (λ (l : List ℕ). Spells (codes " " ++ (l ++ (codes " " ++ u))) (symbol (grammar.sign_of o) ∷ us) NoWord) (sign_text-is o)
    (blank-then (symbol_bytes (grammar.sign_of o) ++ (codes " " ++ u)) (symbol (grammar.sign_of o) ∷ us)
    (symbol-then (grammar.sign_of o) (codes " " ++ u) us (blank-then u us h) (λ rest no. blank_follows (grammar.sign_of o) (u ++ rest))))

-- an expression begins with no sign
pub begins : (t : Term) (rest : List ℕ) → IsSpoken t → NoSign (text_of t ++ rest)
begins (Const z) rest w = rw w.1 (decimal-first w.0 rest w.2)
begins (Input place) rest w = (refl, refl)
begins (Slot slot) rest w = (refl, refl)
begins (Neg t) rest w = (refl, refl)
begins (Not t) rest w = (refl, refl)
begins (Bin o l r) rest w = (refl, refl)

pub bracketed : {ok : List ℕ → Type 0} (u v : List ℕ) (us : List Tok) → u ≡ v → Spells u us ok → Spells v us ok
bracketed {ok} u v us same h = subst (λ (l : List ℕ). Spells l us ok) same h

-- the printed text of an expression has its tokens
pub spells-term : (t : Term) → IsSpoken t → Spells (text_of t) (printed t) NoWord
spells-term (Const z) w = rw w.1 (spells-number w.0 w.2)
spells-term (Input place) w = spells-less (text_of (Input place)) (printed (Input place)) (indexed (codes "input") place input_is w) (λ rest no. tt)
spells-term (Slot slot) w = spells-less (text_of (Slot slot)) (printed (Slot slot)) (indexed (codes "slot") slot slot_is w) (λ rest no. tt)
spells-term (Neg t) w =
    spells-less (text_of (Neg t)) (printed (Neg t))
    (in_brackets (codes "-" ++ text_of t) (symbol s.Minus ∷ printed t)
    (symbol-then s.Minus (text_of t) (printed t) (spells-term t w) (λ rest no. minus_follows (text_of t ++ rest) (begins t rest w)))) (λ rest no. tt)
spells-term (Not t) w =
    spells-less (text_of (Not t)) (printed (Not t))
    (in_brackets (codes "!" ++ text_of t) (symbol s.Not ∷ printed t)
    (symbol-then s.Not (text_of t) (printed t) (spells-term t w) (λ rest no. not_follows (text_of t ++ rest) (begins t rest w)))) (λ rest no. tt)
spells-term (Bin o l r) w =
    let inner : List ℕ = codes " " ++ (sign_text o ++ (codes " " ++ text_of r)) in
    let regroup : codes "(" ++ ((text_of l ++ inner) ++ codes ")") ≡ text_of (Bin o l r) =
    ap (λ (x : List ℕ). codes "(" ++ x)
    (append_assoc (text_of l) inner (codes ")")
    ∙ ap (λ (x : List ℕ). text_of l ++ (codes " " ++ x)) (append_assoc (sign_text o) (codes " " ++ text_of r) (codes ")"))) in
    bracketed (codes "(" ++ ((text_of l ++ inner) ++ codes ")")) (text_of (Bin o l r)) (printed (Bin o l r)) regroup
    (spells-less (codes "(" ++ ((text_of l ++ inner) ++ codes ")")) (printed (Bin o l r))
    (in_brackets (text_of l ++ inner) (printed l ++ symbol (grammar.sign_of o) ∷ printed r)
    (spells-then (text_of l) (printed l) inner (symbol (grammar.sign_of o) ∷ printed r) (spells-term l w.0)
    (operator-then o (text_of r) (printed r) (spells-term r w.1)) (λ rest no. blank_is_no_word (sign_text o ++ (codes " " ++ text_of r)) rest)))
    (λ rest no. tt))
