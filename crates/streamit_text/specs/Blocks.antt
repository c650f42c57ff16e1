-- StreamIt's statements: the grammar of those without blocks and of the heads of loops, and how they are read.
-- `n` is how many more brackets may be open; `F` says which tokens are an expression, and `e` reads one.
use Rattle.std.specs.Prelude.{ℕ, Bool, true, false, List, [], ◌∷◌, Option, None, codes, if◌then◌else◌}
use Rattle.std.specs.Str.{bytes_eq}
use Rattle.text_tokens.specs.Tok.{Tok}
use Rattle.text_tokens.specs.declared.sign.Symbol.TheVariants as s
use Rattle.text_forms.specs.Forms.{NameToken, Nothing, Never, Both, After, Before, AfterWord, Tested, Seen, Merged, Choose, Headed}
use Rattle.text_forms.specs.Parse.{Parse, begins_with, name_at, nothing_at, both, after, before, after_word, tested, seen, merged, headed}
use Rattle.text_blocks.specs.Statements.{Style, Holes}
use Rattle.text_blocks.specs.Parts.{Round, Ended, FirstValue, round_at, ended_at, first_value_at}
use Rattle.text_blocks.specs.declared.opening.Opening.{Opening}
use Rattle.text_blocks.specs.declared.opening.Opening.TheVariants as opens
use Rattle.streamit_text.specs.Tree.{Expression, Statement, Declare, Assign, Push, Discard, If, For, Block, in_turn, or_unwritten}
use Rattle.streamit_text.specs.Words.{is_own}

abbrev pub Own : List ℕ → List Tok → Type 0
Own = Tested is_own NameToken

unfoldable pub own_at : Parse (List ℕ)
own_at ts = tested is_own name_at ts

-- "(" ")"
abbrev pub Empty : ℕ → Unit {0} → List Tok → Type 0
Empty = Round (λ m. Nothing tt)

unfoldable pub empty_at : ℕ → Parse (Unit {0})
empty_at n ts = round_at (λ m. nothing_at tt) n ts

abbrev pub made_declare : List ℕ × Option Expression → Statement
made_declare v = Declare v.0 v.1

abbrev pub discarding : Unit {0} → Statement
discarding u = Discard

-- "=" e ";" NAME ("<" | "<=") e ";" NAME "++", where both names are this one
pub record Head : Type 0 where
  pub name : List ℕ
  pub low : Expression
  pub upto : Bool
  pub high : Expression

abbrev pub made_head : List ℕ → Expression × (Bool × (Expression × Unit {0})) → Head
made_head name v = record { name = name; low = v.0; upto = v.1.0; high = v.1.1.0 }

-- "<" or "<=", which stands for one turn more
abbrev pub Upto : Bool → List Tok → Type 0
Upto = Merged (After (s.Less ∷ []) (Nothing false)) (After (s.LessEqual ∷ []) (Nothing true))

unfoldable pub upto_at : Parse Bool
upto_at ts = merged (begins_with s.Less) (after (s.Less ∷ []) (nothing_at false)) (after (s.LessEqual ∷ []) (nothing_at true)) ts

-- NAME "++"
unfoldable pub step_at : List ℕ → Parse (Unit {0})
step_at name ts = after_word name (after (s.Increment ∷ []) (nothing_at tt)) ts

module _ (F : ℕ → Expression → List Tok → Type 0) where
  -- NAME ["=" e] ";", behind "int"
  abbrev pub IsDeclare : ℕ → Statement → List Tok → Type 0
  IsDeclare n = Seen made_declare (Both Own (Before (FirstValue F n) (s.Semicolon ∷ [])))

  -- "=" e ";", behind the name
  abbrev pub IsAssign : List ℕ → ℕ → Statement → List Tok → Type 0
  IsAssign name n = Seen (Assign name) (After (s.Assign ∷ []) (Ended F n))

  -- "(" e ")" ";", behind "push"
  abbrev pub IsPush : ℕ → Statement → List Tok → Type 0
  IsPush n = Seen Push (Before (Round F n) (s.Semicolon ∷ []))

  -- "(" ")" ";", behind "pop"
  abbrev pub IsDiscard : ℕ → Statement → List Tok → Type 0
  IsDiscard n = Seen discarding (Before (Empty n) (s.Semicolon ∷ []))

  -- what stands behind the first word of a statement that is no `if` and no `for`
  abbrev pub IsPlain : ℕ → List ℕ → Statement → List Tok → Type 0
  IsPlain n w =
      Choose (bytes_eq w (codes "int")) (IsDeclare n)
      (Choose (bytes_eq w (codes "push")) (IsPush n)
      (Choose (bytes_eq w (codes "pop")) (IsDiscard n)
      (Choose (is_own w) (IsAssign w n) Never)))

  abbrev pub HeadAfter : ℕ → List ℕ → Head → List Tok → Type 0
  HeadAfter n name =
      Seen (made_head name) (After (s.Assign ∷ []) (Both (Ended F n) (AfterWord name (Both Upto
      (Both (Ended F n) (AfterWord name (After (s.Increment ∷ []) (Nothing tt))))))))

  -- "int" NAME "=" e ";" NAME ("<" | "<=") e ";" NAME "++", where the three names are the same
  abbrev pub IsHead : ℕ → Head → List Tok → Type 0
  IsHead n = AfterWord (codes "int") (Headed (λ name. Choose (is_own name) (HeadAfter n name) Never))

  abbrev pub holes : Holes Expression Head Statement
  holes = record { Condition = Round F; Head = λ n w. Round IsHead n; Plain = IsPlain }

unfoldable pub declare_at : (ℕ → Parse Expression) → ℕ → Parse Statement
declare_at e n ts = seen made_declare (both own_at (before (first_value_at e n) (s.Semicolon ∷ []))) ts

unfoldable pub assign_at : (ℕ → Parse Expression) → List ℕ → ℕ → Parse Statement
assign_at e name n ts = seen (Assign name) (after (s.Assign ∷ []) (ended_at e n)) ts

unfoldable pub push_at : (ℕ → Parse Expression) → ℕ → Parse Statement
push_at e n ts = seen Push (before (round_at e n) (s.Semicolon ∷ [])) ts

unfoldable pub discard_at : ℕ → Parse Statement
discard_at n ts = seen discarding (before (empty_at n) (s.Semicolon ∷ [])) ts

unfoldable pub plain_at : (ℕ → Parse Expression) → ℕ → List ℕ → Parse Statement
plain_at e n w ts =
    if bytes_eq w (codes "int") then declare_at e n ts
    else if bytes_eq w (codes "push") then push_at e n ts
    else if bytes_eq w (codes "pop") then discard_at n ts
    else if is_own w then assign_at e w n ts
    else None

-- NAME ("<" | "<=") e ";" NAME "++"
unfoldable pub upper_at : (ℕ → Parse Expression) → ℕ → List ℕ → Parse (Bool × (Expression × Unit {0}))
upper_at e n name ts = after_word name (both upto_at (both (ended_at e n) (step_at name))) ts

unfoldable pub head_after : (ℕ → Parse Expression) → ℕ → List ℕ → Parse Head
head_after e n name ts = seen (made_head name) (after (s.Assign ∷ []) (both (ended_at e n) (upper_at e n name))) ts

-- a name that users may give, and what stands behind it
unfoldable pub named_head_at : (ℕ → Parse Expression) → ℕ → List ℕ → Parse Head
named_head_at e n name ts = if is_own name then head_after e n name ts else None

unfoldable pub head_at : (ℕ → Parse Expression) → ℕ → Parse Head
head_at e n ts = after_word (codes "int") (headed (named_head_at e n)) ts

unfoldable pub round_head_at : (ℕ → Parse Expression) → ℕ → Parse Head
round_head_at e n ts = round_at (head_at e) n ts

-- STATEMENTS WITH BLOCKS

abbrev pub opening : List ℕ → Opening
opening w = if bytes_eq w (codes "if") then opens.Branch else if bytes_eq w (codes "for") then opens.Loop else opens.Plain

abbrev pub looped : Head → Block → Statement
looped h b = For h.name h.low h.upto h.high b

abbrev pub style : (ℕ → Parse Expression) → Style Expression Head Statement Block
style e = record {
  opening = opening;
  branch = λ c a b. If c a (or_unwritten b);
  loop = looped;
  block = in_turn;
  condition = round_at e;
  head = λ n w. round_head_at e n;
  plain = plain_at e;
}
