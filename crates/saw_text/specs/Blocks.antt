-- Sawzall's statements: the grammar of those without blocks, how they are read, and what the only ones with blocks are, those of `if`.
-- `n` is how many more brackets may be open.
use Rattle.std.specs.Prelude.{ℕ, Bool, not, List, [], ◌∷◌, Option, None, codes, if◌then◌else◌}
use Rattle.std.specs.Str.{bytes_eq}
use Rattle.text_tokens.specs.Tok.{Tok}
use Rattle.text_tokens.specs.declared.sign.Symbol.TheVariants as s
use Rattle.text_forms.specs.Forms.{NameToken, Never, Both, After, Before, AfterWord, Tested, Seen, Merged, Maybe, Many, Choose}
use Rattle.text_forms.specs.Parse.{Parse, begins_with, is_word_at, name_at, both, after, before, after_word, tested, seen, merged, maybe, many, nowhere}
use Rattle.text_blocks.specs.Statements.{Style, Holes}
use Rattle.text_blocks.specs.Parts.{Round, Square, Ended, FirstValue, round_at, square_at, ended_at, first_value_at}
use Rattle.text_blocks.specs.declared.opening.Opening.{Opening}
use Rattle.text_blocks.specs.declared.opening.Opening.TheVariants.{Branch, Plain}
use Rattle.saw_text.specs.Expressions.{IsExpression, term_at}
use Rattle.saw_text.specs.Tree.{Expression, Statement, Declare, Assign, Emit, If, Block, in_turn, or_unwritten}
use Rattle.saw_text.specs.Words.{is_user}

-- THE GRAMMAR

abbrev pub UserName : List ℕ → List Tok → Type 0
UserName = Tested is_user NameToken

-- ["=" e] ";", behind NAME ":" "int"
abbrev pub IsDeclare : List ℕ → ℕ → Statement → List Tok → Type 0
IsDeclare name n = Seen (Declare name) (Before (FirstValue IsExpression n) (s.Semicolon ∷ []))

-- "=" e ";", behind NAME
abbrev pub IsAssign : List ℕ → ℕ → Statement → List Tok → Type 0
IsAssign name n = Seen (Assign name) (After (s.Assign ∷ []) (Ended IsExpression n))

-- NAME { "[" e "]" } "<-" e ["weight" e] ";", behind "emit"
abbrev pub made_emit : List ℕ × (List Expression × (Expression × Option Expression)) → Statement
made_emit v = Emit v.0 v.1.0 v.1.1.0 v.1.1.1

abbrev pub Weighted : ℕ → Option Expression → List Tok → Type 0
Weighted n = Before (Maybe (AfterWord (codes "weight") (IsExpression n))) (s.Semicolon ∷ [])

abbrev pub IsEmit : ℕ → Statement → List Tok → Type 0
IsEmit n = Seen made_emit (Both UserName (Both (Many (Square IsExpression n)) (After (s.Less ∷ s.Minus ∷ []) (Both (IsExpression n) (Weighted n)))))

-- what stands behind the name of a local
abbrev pub NamedAfter : List ℕ → ℕ → Statement → List Tok → Type 0
NamedAfter w n = Merged (After (s.Colon ∷ []) (AfterWord (codes "int") (IsDeclare w n))) (IsAssign w n)

-- what stands behind the first word of a statement that is no `if`
abbrev pub PlainAfter : ℕ → List ℕ → Statement → List Tok → Type 0
PlainAfter n w = Choose (bytes_eq w (codes "emit")) (IsEmit n) (Choose (is_user w) (NamedAfter w n) Never)

-- HOW THEY ARE READ

unfoldable pub user_name_at : Parse (List ℕ)
user_name_at ts = tested is_user name_at ts

unfoldable pub declare_at : List ℕ → ℕ → Parse Statement
declare_at name n ts = seen (Declare name) (before (first_value_at term_at n) (s.Semicolon ∷ [])) ts

unfoldable pub assign_at : List ℕ → ℕ → Parse Statement
assign_at name n ts = seen (Assign name) (after (s.Assign ∷ []) (ended_at term_at n)) ts

abbrev pub no_bracket : List Tok → Bool
no_bracket ts = not (begins_with s.OpenBracket ts)

unfoldable pub indexes_at : ℕ → Parse (List Expression)
indexes_at n ts = many no_bracket (square_at term_at n) ts

-- "weight" and an expression, or nothing
unfoldable pub weight_at : ℕ → Parse (Option Expression)
weight_at n ts = maybe (is_word_at (codes "weight")) (after_word (codes "weight") (term_at n)) ts

unfoldable pub emit_at : ℕ → Parse Statement
emit_at n ts =
    seen made_emit (both user_name_at (both (indexes_at n) (after (s.Less ∷ s.Minus ∷ []) (both (term_at n) (before (weight_at n) (s.Semicolon ∷ [])))))) ts

-- what stands behind the name of a local
unfoldable pub named_after : List ℕ → ℕ → Parse Statement
named_after w n ts = merged (begins_with s.Colon) (after (s.Colon ∷ []) (after_word (codes "int") (declare_at w n))) (assign_at w n) ts

-- what stands behind the first word of a statement that is no `if`
unfoldable pub plain_at : ℕ → List ℕ → Parse Statement
plain_at n w ts =
    if bytes_eq w (codes "emit") then emit_at n ts
    else if is_user w then named_after w n ts
    else None

-- STATEMENTS WITH BLOCKS

abbrev pub opening : List ℕ → Opening
opening w = if bytes_eq w (codes "if") then Branch else Plain

abbrev pub condition_at : ℕ → Parse Expression
condition_at n = round_at term_at n

-- No word opens a loop, and no text is the head of one; what would be made of one is its head.
abbrev pub style : Style Expression Statement Statement Block
style = record {
  opening = opening;
  branch = λ c a b. If c a (or_unwritten b);
  loop = λ head body. head;
  block = in_turn;
  condition = condition_at;
  head = λ n w ts. nowhere ts;
  plain = plain_at;
}

abbrev pub holes : Holes Expression Statement Statement
holes = record { Condition = Round IsExpression; Head = λ n w. Never; Plain = PlainAfter }
