-- The statements of River text: the grammar of those without blocks, how they are read, and what the only ones with blocks are,
-- those of `if`. `n` is how many more brackets may be open.
use Rattle.std.specs.Prelude.{ℕ, List, [], ◌∷◌, Option, None, Some, codes, if◌then◌else◌}
use Rattle.std.specs.Str.{bytes_eq}
use Rattle.work_code.specs.Steps.{Step, Steps, Set, Push, If, Done, in_turn}
use Rattle.work_code.specs.Term.{Term}
use Rattle.text_tokens.specs.Tok.{Tok}
use Rattle.text_tokens.specs.declared.sign.Symbol.TheVariants as s
use Rattle.text_forms.specs.Forms.{Count, Never, Both, After, Before, Seen, Commas, Choose}
use Rattle.text_forms.specs.Parse.{Parse, count_at, both, after, before, seen, commas, nowhere}
use Rattle.text_blocks.specs.Parts.{Round, Square, Ended, round_at, square_at, ended_at}
use Rattle.text_blocks.specs.Reading as blocks
use Rattle.text_blocks.specs.Statements.{Style, Holes}
use Rattle.text_blocks.specs.Statements as statements
use Rattle.text_blocks.specs.declared.opening.Opening.{Opening}
use Rattle.text_blocks.specs.declared.opening.Opening.TheVariants.{Branch, Plain}
use Rattle.river_text.specs.Expressions.{IsTerm, term_at}

-- THE GRAMMAR

-- "[" N "]" "=" e ";", behind "slot"
abbrev pub made_set : ℕ × Term → Step
made_set v = Set v.0 v.1

abbrev pub IsSet : ℕ → Step → List Tok → Type 0
IsSet n = Seen made_set (Both (Square (λ m. Count) n) (After (s.Assign ∷ []) (Ended IsTerm n)))

-- N "(" e {"," e} ")" ";", behind "push"
abbrev pub made_push : ℕ × List Term → Step
made_push v = Push v.0 v.1

abbrev pub IsPush : ℕ → Step → List Tok → Type 0
IsPush n = Seen made_push (Both Count (Before (Round (λ m. Commas (IsTerm m)) n) (s.Semicolon ∷ [])))

-- what stands behind the first word of a statement that is no `if`
abbrev pub PlainAfter : ℕ → List ℕ → Step → List Tok → Type 0
PlainAfter n w = Choose (bytes_eq w (codes "slot")) (IsSet n) (Choose (bytes_eq w (codes "push")) (IsPush n) Never)

-- HOW THEY ARE READ

unfoldable pub set_at : ℕ → Parse Step
set_at n ts = seen made_set (both (square_at (λ m. count_at) n) (after (s.Assign ∷ []) (ended_at term_at n))) ts

unfoldable pub some_terms_at : ℕ → Parse (List Term)
some_terms_at n ts = commas (term_at n) ts

unfoldable pub terms_at : ℕ → Parse (List Term)
terms_at n ts = round_at some_terms_at n ts

unfoldable pub push_at : ℕ → Parse Step
push_at n ts = seen made_push (both count_at (before (terms_at n) (s.Semicolon ∷ []))) ts

unfoldable pub plain_at : ℕ → List ℕ → Parse Step
plain_at n w ts =
    if bytes_eq w (codes "slot") then set_at n ts
    else if bytes_eq w (codes "push") then push_at n ts
    else None

-- STATEMENTS WITH BLOCKS

abbrev pub opening : List ℕ → Opening
opening w = if bytes_eq w (codes "if") then Branch else Plain

-- a missing `else` is an empty one
abbrev pub or_done : Option Steps → Steps
or_done None = Done
or_done (Some steps) = steps

-- "(" e ")"
abbrev pub condition_at : ℕ → Parse Term
condition_at n = round_at term_at n

-- No word opens a loop, and no text is the head of one; what would be made of one is its head.
abbrev pub style : Style Term Step Step Steps
style = record {
  opening = opening;
  branch = λ c a b. If c a (or_done b);
  loop = λ head body. head;
  block = in_turn;
  condition = condition_at;
  head = λ n w ts. nowhere ts;
  plain = plain_at;
}

abbrev pub holes : Holes Term Step Step
holes = record { Condition = Round IsTerm; Head = λ n w. Never; Plain = PlainAfter }

-- stmt, and body = "{" { stmt } "}", in which `if` nests at most so deep
abbrev pub IsStmt : (nest n : ℕ) → Step → List Tok → Type 0
IsStmt = statements.IsStatement style holes

abbrev pub IsBody : (nest n : ℕ) → Steps → List Tok → Type 0
IsBody = statements.IsBlock style holes

-- a body, in which `if` nests at most 16 deep
unfoldable pub body_at : ℕ → Parse Steps
body_at n ts = blocks.block_at style 16 n ts
