-- The expressions of River text: the seven levels with the leaves NUMBER, "input" "[" N "]" and "slot" "[" N "]".
use Rattle.std.specs.Prelude.{◌≡◌, ℕ, suc, true, pos, List, [], ◌∷◌, None, codes, if◌then◌else◌, refl}
use Rattle.std.specs.Str.{bytes_eq}
use Rattle.work_code.specs.Term.{Term, Const, Input, Slot, Neg, Not, Bin, depth_of}
use Rattle.text_tokens.specs.Tok.{Tok}
use Rattle.text_tokens.specs.Tok as tok
use Rattle.work_code.specs.declared.expr.BinOp.{BinOp}
use Rattle.text_tokens.specs.declared.sign.Symbol.TheVariants as s
use Rattle.text_forms.specs.Deep.{IsDeeper}
use Rattle.text_forms.specs.Levels.{Syntax}
use Rattle.text_forms.specs.Parse.{Parse, is_count, is_value, count_at, value_at, seen}
use Rattle.text_blocks.specs.Parts.{square_at}
use Rattle.text_blocks.specs.Seven.{sign_at, no_call, Marks, with_seven}
use Rattle.text_blocks.specs.Seven as seven
use Rattle.text_blocks.specs.declared.sign.Sign.{Sign}
use Rattle.text_blocks.specs.declared.sign.Sign.TheVariants as sign

abbrev pub marked : Sign → Term → Term
marked sign.Neg t = Neg t
marked sign.Not t = Not t

abbrev pub marks : Marks Term Sign
marks = record { sign = sign_at; call = no_call; join = λ o a b. Bin o a b; mark = marked; depth = depth_of }

abbrev pub syntax : Syntax Term BinOp Sign
syntax = with_seven marks

marked-deeper : (p : Sign) (t : Term) → depth_of (marked p t) ≡ suc (depth_of t)
marked-deeper sign.Neg t = refl
marked-deeper sign.Not t = refl

pub deepest : IsDeeper syntax
deepest = record { join = λ o a b. refl; mark = marked-deeper }

-- the tokens are this leaf, where `n` more brackets may be open
pub data IsLeaf : (n : ℕ) (t : Term) (ts : List Tok) → Type 0 where
  number : (n v : ℕ) → is_value v ≡ true → IsLeaf n (Const (pos v)) (tok.number v ∷ [])
  input : (n k : ℕ) → is_count k ≡ true
      → IsLeaf (suc n) (Input k) (tok.name (codes "input") ∷ tok.symbol s.OpenBracket ∷ tok.number k ∷ tok.symbol s.CloseBracket ∷ [])
  slot : (n k : ℕ) → is_count k ≡ true
      → IsLeaf (suc n) (Slot k) (tok.name (codes "slot") ∷ tok.symbol s.OpenBracket ∷ tok.number k ∷ tok.symbol s.CloseBracket ∷ [])

-- e, at most 64 deep
abbrev pub IsTerm : ℕ → Term → List Tok → Type 0
IsTerm n = seven.IsTerm marks IsLeaf n

-- HOW THEY ARE READ

-- a number as it is written
unfoldable pub constant_at : Parse Term
constant_at ts = seen Const value_at ts

-- a leaf that begins with a name
unfoldable pub named : ℕ → List ℕ → Parse Term
named n text ts =
    if bytes_eq text (codes "input") then seen Input (square_at (λ m. count_at) n) ts
    else if bytes_eq text (codes "slot") then seen Slot (square_at (λ m. count_at) n) ts
    else None

abbrev pub leaf_at : ℕ → Parse Term
leaf_at n [] = None
leaf_at n (tok.name text ∷ ts) = named n text ts
leaf_at n (tok.var text ∷ ts) = None
leaf_at n (tok.number v ∷ ts) = constant_at (tok.number v ∷ ts)
leaf_at n (tok.symbol x ∷ ts) = None

abbrev pub term_at : ℕ → Parse Term
term_at = seven.term_at marks leaf_at
