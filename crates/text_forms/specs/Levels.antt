-- Ladders: the grammar of the expressions of a language, as a list of levels above its leaves.
--
-- A level stands above another, which is `below` and binds tighter, and is of one of three forms:
--
--     chain     below { OPERATOR below }
--     once      below [ OPERATOR below ]
--     prefix    SIGN prefix | below
--
-- Chains group to the left. Below the first level are
--
--     leaf | "(" last ")" | CALL "(" last ")"
--
-- where `last` is the last level, which binds least. Brackets make no node; a call does, as a sign does.
use Rattle.std.specs.Prelude.{◌≡◌, ◌≤◌, ℕ, zero, suc, List, [], ◌∷◌, ◌++◌, length, Option, None, Some}
use Rattle.text_tokens.specs.Tok.{Tok, symbol}
use Rattle.text_tokens.specs.declared.sign.Symbol.TheVariants as s
use Rattle.text_forms.specs.declared.form.Form.{Form}
use Rattle.text_forms.specs.declared.form.Form.TheVariants as form

-- a level, by the tokens that are its operators or its signs
pub data Level (O P : Type 0) : Type 0 where
  Chain : (Tok → Option O) → Level O P
  Once : (Tok → Option O) → Level O P
  Prefix : (Tok → Option P) → Level O P

-- a language of expressions: T are its trees, O its operators, and P what stands before an expression
pub record Syntax (T O P : Type 0) : Type 0 where
  -- the tightest first
  pub levels : List (Level O P)
  -- the tokens before an expression in brackets, as `peek`
  pub call : Tok → Option P
  pub join : O → T → T → T
  pub mark : P → T → T
  -- how deep a tree is; a leaf is 1 deep
  pub depth : T → ℕ

-- the level above so many others; above the last is none, as no token is its operator
abbrev pub level_of : {O P : Type 0} → List (Level O P) → ℕ → Level O P
level_of [] k = Once (λ x. None)
level_of (l ∷ ls) zero = l
level_of (l ∷ ls) (suc k) = level_of ls k

abbrev pub form_of : {O P : Type 0} → Level O P → Form
form_of (Chain op) = form.Chain
form_of (Once op) = form.Once
form_of (Prefix sign) = form.Prefix

-- the operator, and the sign, that a token is on a level
abbrev pub operator : {O P : Type 0} → Level O P → Tok → Option O
operator (Chain op) x = op x
operator (Once op) x = op x
operator (Prefix sign) x = None

abbrev pub sign : {O P : Type 0} → Level O P → Tok → Option P
sign (Chain op) x = None
sign (Once op) x = None
sign (Prefix p) x = p x

-- The tokens stand for the tree, on a level above `rank` others (0 is below the first), where `n` more brackets may be open.
-- `Leaf` says which tokens stand for a leaf, where so many more may be open.
pub data Spells {T O P : Type 0} (S : Syntax T O P) (Leaf : ℕ → T → List Tok → Type 0) : (n rank : ℕ) (t : T) (ts : List Tok) → Type 0 where
  leaf : (n : ℕ) (t : T) (ts : List Tok) → Leaf n t ts → Spells S Leaf n 0 t ts
  bracket : (n : ℕ) (t : T) (ts : List Tok) → Spells S Leaf n (length S.levels) t ts → Spells S Leaf (suc n) 0 t (symbol s.Open ∷ (ts ++ symbol s.Close ∷ []))
  call : (n : ℕ) (x : Tok) (p : P) (t : T) (ts : List Tok) → S.call x ≡ Some p → Spells S Leaf n (length S.levels) t ts
      → Spells S Leaf (suc n) 0 (S.mark p t) (x ∷ symbol s.Open ∷ (ts ++ symbol s.Close ∷ []))
  tighter : (n k : ℕ) (t : T) (ts : List Tok) → Spells S Leaf n k t ts → Spells S Leaf n (suc k) t ts
  chain : (n k : ℕ) (x : Tok) (o : O) (a b : T) (ts us : List Tok) → form_of (level_of S.levels k) ≡ form.Chain → operator (level_of S.levels k) x ≡ Some o
      → Spells S Leaf n (suc k) a ts → Spells S Leaf n k b us → Spells S Leaf n (suc k) (S.join o a b) (ts ++ x ∷ us)
  once : (n k : ℕ) (x : Tok) (o : O) (a b : T) (ts us : List Tok) → form_of (level_of S.levels k) ≡ form.Once → operator (level_of S.levels k) x ≡ Some o
      → Spells S Leaf n k a ts → Spells S Leaf n k b us → Spells S Leaf n (suc k) (S.join o a b) (ts ++ x ∷ us)
  prefix : (n k : ℕ) (x : Tok) (p : P) (t : T) (ts : List Tok) → sign (level_of S.levels k) x ≡ Some p → Spells S Leaf n (suc k) t ts
      → Spells S Leaf n (suc k) (S.mark p t) (x ∷ ts)

-- the tokens stand for the tree, which is at most `room` deep
abbrev pub IsTermWithin : {T O P : Type 0} → Syntax T O P → (ℕ → T → List Tok → Type 0) → (n rank room : ℕ) → T → List Tok → Type 0
IsTermWithin S Leaf n rank room t ts = Spells S Leaf n rank t ts × (S.depth t ≤ room)

-- an expression of the language, where `n` more brackets may be open: its tree is at most 64 deep
abbrev pub IsWhole : {T O P : Type 0} → Syntax T O P → (ℕ → T → List Tok → Type 0) → ℕ → T → List Tok → Type 0
IsWhole S Leaf n t ts = IsTermWithin S Leaf n (length S.levels) 64 t ts
