-- The expressions of StreamIt, or of a language that has other leaves: the seven levels above the leaves, with `peek`.
use Rattle.std.specs.Prelude.{◌≡◌, ℕ, suc, List, Option, None, Some, codes, if◌then◌else◌, refl}
use Rattle.std.specs.Str.{bytes_eq}
use Rattle.text_tokens.specs.Tok.{Tok, name, var, number, symbol}
use Rattle.work_code.specs.declared.expr.BinOp.{BinOp}
use Rattle.text_tokens.specs.declared.sign.Symbol.{Symbol}
use Rattle.text_tokens.specs.declared.sign.Symbol.TheVariants as s
use Rattle.text_forms.specs.Deep.{IsDeeper}
use Rattle.text_forms.specs.Levels.{Syntax}
use Rattle.text_forms.specs.Parse.{Parse}
use Rattle.text_blocks.specs.Seven.{Marks, with_seven, IsTerm}
use Rattle.text_blocks.specs.Seven as seven
use Rattle.text_blocks.proofs.Clear.{AreApart}
use Rattle.streamit_text.specs.Tree.{Expression, Peek, Neg, Not, Bin, depth_of}
use Rattle.streamit_text.specs.declared.term.Sign.{Sign}
use Rattle.streamit_text.specs.declared.term.Sign.TheVariants as sign

abbrev pub sign_before : Symbol → Option Sign
sign_before s.Minus = Some sign.Neg
sign_before s.Not = Some sign.Not
sign_before x = None

abbrev pub sign_at : Tok → Option Sign
sign_at (name text) = None
sign_at (var text) = None
sign_at (number n) = None
sign_at (symbol x) = sign_before x

-- `peek` stands before brackets
abbrev pub call_at : Tok → Option Sign
call_at (name text) = if bytes_eq text (codes "peek") then Some sign.Peek else None
call_at (var text) = None
call_at (number n) = None
call_at (symbol x) = None

abbrev pub marked : Sign → Expression → Expression
marked sign.Neg t = Neg t
marked sign.Not t = Not t
marked sign.Peek t = Peek t

abbrev pub marks : Marks Expression Sign
marks = record { sign = sign_at; call = call_at; join = λ o a b. Bin o a b; mark = marked; depth = depth_of }

abbrev pub syntax : Syntax Expression BinOp Sign
syntax = with_seven marks

marked-deeper : (p : Sign) (t : Expression) → depth_of (marked p t) ≡ suc (depth_of t)
marked-deeper sign.Neg t = refl
marked-deeper sign.Not t = refl
marked-deeper sign.Peek t = refl

pub is_deeper : IsDeeper syntax
is_deeper = record { join = λ o a b. refl; mark = marked-deeper }

-- what a language shows of its leaves
abbrev pub AreLeaves : (ℕ → Expression → List Tok → Type 0) → (ℕ → Parse Expression) → Type 0
AreLeaves Leaf leaf = AreApart marks Leaf leaf

-- e, at most 64 deep
abbrev pub IsExpression : (ℕ → Expression → List Tok → Type 0) → ℕ → Expression → List Tok → Type 0
IsExpression Leaf n = IsTerm marks Leaf n

abbrev pub expr_at : (ℕ → Parse Expression) → ℕ → Parse Expression
expr_at leaf = seven.term_at marks leaf
