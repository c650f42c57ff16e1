-- Constants, parameters and steps: the grammar, and how they are read. `n` is how many more brackets may be open.
use Rattle.std.specs.Prelude.{ℕ, ◌&&◌, Bool, List, [], ◌∷◌, Option, Some, None, codes, if◌then◌else◌}
use Rattle.std.specs.Str.{bytes_eq}
use Rattle.text_tokens.specs.Tok.{Tok}
use Rattle.text_tokens.specs.declared.sign.Symbol.TheVariants as s
use Rattle.text_forms.specs.Forms.{Never, Both, Before, AfterWord, Tested, Seen, Maybe, Listing, Choose}
use Rattle.text_forms.specs.Parse.{Parse, is_short, nowhere, begins_with, both, before, after_word, tested, seen, maybe, commas, listing}
use Rattle.text_blocks.specs.Parts.{Round, round_at}
use Rattle.text_blocks.specs.Statements.{Style, Holes}
use Rattle.text_blocks.specs.declared.opening.Opening.{Opening}
use Rattle.text_blocks.specs.declared.opening.Opening.TheVariants as opens
use Rattle.streamit_text.specs.Blocks.{Own, own_at, Head, IsHead, round_head_at}
use Rattle.streamit_text.specs.Expressions.{IsExpression, expr_at}
use Rattle.streamit_text.specs.Grammar.{is_still}
use Rattle.streamit_text.specs.Leaves.{IsLeaf, leaf_at}
use Rattle.streamit_text.specs.Tree.{Expression}
use Rattle.params_text.specs.Program.{Step, Add, Loop, Steps, steps_in_turn}

-- c
abbrev pub Constant : ℕ → Expression → List Tok → Type 0
Constant n = Tested is_still (IsExpression IsLeaf n)

-- the name of a stream: at most 32 bytes
abbrev pub is_brief : List ℕ → Bool
is_brief text = is_short 32 text

abbrev pub StreamName : List ℕ → List Tok → Type 0
StreamName = Tested is_brief Own

abbrev pub or_none : {A : Type 0} → Option (List A) → List A
or_none None = []
or_none (Some xs) = xs

-- [params]
abbrev pub IsParam : List ℕ → List Tok → Type 0
IsParam = AfterWord (codes "int") Own

abbrev pub Params : ℕ → List (List ℕ) → List Tok → Type 0
Params n = Seen or_none (Maybe (Round (λ m. Listing IsParam) n))

-- [ "(" [ c { "," c } ] ")" ]
abbrev pub Constants : ℕ → Option (List Expression) → List Tok → Type 0
Constants n = Maybe (Round (λ m. Listing (Constant m)) n)

-- STEPS

-- NAME [ "(" [ c { "," c } ] ")" ] ";", behind "add"
abbrev pub made_add : List ℕ × Option (List Expression) → Step
made_add v = Add v.0 (or_none v.1)

abbrev pub IsAdd : ℕ → Step → List Tok → Type 0
IsAdd n = Seen made_add (Both StreamName (Before (Constants n) (s.Semicolon ∷ [])))

abbrev pub has_still : Head → Bool
has_still h = is_still h.low && is_still h.high

-- the head of a loop, behind "for"
abbrev pub StepHead : ℕ → Head → List Tok → Type 0
StepHead n = Tested has_still (Round (IsHead (IsExpression IsLeaf)) n)

abbrev pub StepAfter : ℕ → List ℕ → Step → List Tok → Type 0
StepAfter n w = Choose (bytes_eq w (codes "add")) (IsAdd n) Never

-- `for` opens a loop, and no word a branch, which has no condition
abbrev pub holes : Holes Step Head Step
holes = record { Condition = λ n. Never; Head = λ n w. StepHead n; Plain = StepAfter }

-- HOW THEY ARE READ

unfoldable pub constant_at : ℕ → Parse Expression
constant_at n ts = tested is_still (expr_at leaf_at n) ts

unfoldable pub stream_name_at : Parse (List ℕ)
stream_name_at ts = tested is_brief own_at ts

unfoldable pub param_at : Parse (List ℕ)
param_at ts = after_word (codes "int") own_at ts

unfoldable pub some_params_at : Parse (List (List ℕ))
some_params_at ts = commas param_at ts

unfoldable pub round_params_at : ℕ → Parse (List (List ℕ))
round_params_at n ts = round_at (λ m. listing s.Close param_at) n ts

unfoldable pub params_at : ℕ → Parse (List (List ℕ))
params_at n ts = seen or_none (maybe (begins_with s.Open) (round_params_at n)) ts

unfoldable pub some_constants_at : ℕ → Parse (List Expression)
some_constants_at n ts = commas (constant_at n) ts

unfoldable pub round_constants_at : ℕ → Parse (List Expression)
round_constants_at n ts = round_at (λ m. listing s.Close (constant_at m)) n ts

unfoldable pub constants_at : ℕ → Parse (Option (List Expression))
constants_at n ts = maybe (begins_with s.Open) (round_constants_at n) ts

unfoldable pub add_at : ℕ → Parse Step
add_at n ts = seen made_add (both stream_name_at (before (constants_at n) (s.Semicolon ∷ []))) ts

unfoldable pub step_head_at : ℕ → Parse Head
step_head_at n ts = tested has_still (round_head_at (expr_at leaf_at) n) ts

-- what stands behind the first word of a step that is no loop
unfoldable pub step_after : ℕ → List ℕ → Parse Step
step_after n w ts = if bytes_eq w (codes "add") then add_at n ts else None

abbrev pub opening : List ℕ → Opening
opening w = if bytes_eq w (codes "for") then opens.Loop else opens.Plain

abbrev pub looped : Head → Steps → Step
looped h ss = Loop h.name h.low h.upto h.high ss

-- No word opens a branch, and no text is the condition of one; what would be made of one is its condition.
abbrev pub style : Style Step Head Step Steps
style = record {
  opening = opening;
  branch = λ c a b. c;
  loop = looped;
  block = steps_in_turn;
  condition = λ n ts. nowhere ts;
  head = λ n w. step_head_at n;
  plain = step_after;
}
