-- The grammar of programs with parameters, line by line: that of StreamIt with these lines changed.
--
--     unit   = "int" "->" "int" ( "filter" NAME [params] filter | "pipeline" NAME [params] pipe | "splitjoin" NAME [params] both )
--     params = "(" [ "int" NAME { "," "int" NAME } ] ")"
--     rates  = "push" c, "pop" c, "peek" c, each at most once, in any order
--     pipe   = "{" { step } "}"
--     both   = "{" "split" ( "duplicate" ["(" ")"] | rr ) ";" { step } "join" rr ";" "}"
--     rr     = "roundrobin" [ "(" [ c { "," c } ] ")" ]
--     step   = "add" NAME [ "(" [ c { "," c } ] ")" ] ";"
--            | "for" "(" "int" NAME "=" c ";" NAME ("<" | "<=") c ";" NAME "++" ")" "{" { step } "}"
--
-- c is an expression without push, pop and peek. The three names of a `for` are the same, and loops of steps nest at most 16 deep.
-- In the blocks of a filter a parameter asks for one more bracket (Parameters) and counts as 3 deep (Params). `n` is how many more
-- brackets may be open.
use Rattle.std.specs.Prelude.{◌≡◌, ℕ, List, [], ◌∷◌, Option, Some, None, Ok, codes}
use Rattle.std.specs.Str.{bytes_eq}
use Rattle.text_tokens.specs.Cut.{units_of}
use Rattle.text_tokens.specs.Lexis.{tokens_in}
use Rattle.text_tokens.specs.Tok.{Tok, Mark, toks}
use Rattle.text_tokens.specs.declared.sign.Symbol.TheVariants as s
use Rattle.text_forms.specs.Texts.{AllFormed}
use Rattle.text_forms.specs.Forms.{Never, Both, After, Before, AfterWord, Tested, Seen, Known, Maybe, Many, Choose, Headed}
use Rattle.text_blocks.specs.Statements as statements
use Rattle.streamit_text.specs.Blocks as streamit
use Rattle.streamit_text.specs.Expressions.{IsExpression, expr_at}
use Rattle.streamit_text.specs.Grammar.{stay, IsField, on_some, Parens, Braces}
use Rattle.streamit_text.specs.Tree.{Expression, Block, Optional, or_unwritten}
use Rattle.params_text.specs.Chained.{Chained}
use Rattle.params_text.specs.Parameters.{IsLeafWith, leaf_with}
use Rattle.params_text.specs.Params.{low}
use Rattle.params_text.specs.Steps.{Constant, StreamName, Params, Constants, style, holes}
use Rattle.params_text.specs.Program.{ParamWork, ParamFilter, Step, Steps, steps_in_turn, Dealing, Copies, Turns, Body, AFilter, APipeline, ASplitJoin, UnitForm, ParamProgram}

-- a step, in which loops nest at most 16 deep, and steps in braces
abbrev pub IsStep : ℕ → Step → List Tok → Type 0
IsStep = statements.IsStatement style holes 16

abbrev pub IsPipe : ℕ → Steps → List Tok → Type 0
IsPipe = statements.IsBlock style holes 16

-- RATES

-- "push" c, "pop" c or "peek" c
pub data Rate : Type 0 where
  push : Expression → Rate
  pop : Expression → Rate
  peek : Expression → Rate

abbrev pub RateAfter : ℕ → List ℕ → Rate → List Tok → Type 0
RateAfter n w =
    Choose (bytes_eq w (codes "push")) (Seen push (Constant n))
    (Choose (bytes_eq w (codes "pop")) (Seen pop (Constant n))
    (Choose (bytes_eq w (codes "peek")) (Seen peek (Constant n)) Never))

abbrev pub IsRate : ℕ → Rate → List Tok → Type 0
IsRate n = Headed (RateAfter n)

-- each at most once, in any order
pub record Rates : Type 0 where
  pub push : Option Expression
  pub pop : Option Expression
  pub peek : Option Expression

abbrev pub unwritten : Rates
unwritten = record { push = None; pop = None; peek = None }

abbrev pub fresh : {A B : Type 0} → Option B → A → Option A
fresh None r = Some r
fresh (Some c) r = None

abbrev pub with_rate : Rates → Rate → Option Rates
with_rate r (push c) = fresh r.push (record r { push = Some c })
with_rate r (pop c) = fresh r.pop (record r { pop = Some c })
with_rate r (peek c) = fresh r.peek (record r { peek = Some c })

abbrev pub rates_in : Rates → List Rate → Option Rates
rates_in r [] = Some r
rates_in r (x ∷ xs) = on_some (with_rate r x) (λ q. rates_in q xs)

abbrev pub AreRates : ℕ → Rates → List Tok → Type 0
AreRates n = Known (rates_in unwritten) (Many (IsRate n))

-- FILTERS WITH THESE PARAMETERS

-- a block, where `if` and `for` together nest at most 16 deep
abbrev pub IsBlock : List (List ℕ) → ℕ → Block → List Tok → Type 0
IsBlock ps n = Tested (low ps) (statements.IsBlock (streamit.style (expr_at (leaf_with ps))) (streamit.holes (IsExpression (IsLeafWith ps))) 16 n)

-- ["init" block]
abbrev pub IsInit : List (List ℕ) → ℕ → Optional → List Tok → Type 0
IsInit ps n = Seen or_unwritten (Maybe (AfterWord (codes "init") (Tested stay (IsBlock ps n))))

-- rates block
abbrev pub made_work : Rates × Block → ParamWork
made_work v = record { push = v.0.push; pop = v.0.pop; peek = v.0.peek; block = v.1 }

abbrev pub IsWork : List (List ℕ) → ℕ → ParamWork → List Tok → Type 0
IsWork ps n = Seen made_work (Both (AreRates n) (IsBlock ps n))

-- ["prework" rates block] "work" rates block
abbrev pub IsPrework : List (List ℕ) → ℕ → Option ParamWork → List Tok → Type 0
IsPrework ps n = Maybe (AfterWord (codes "prework") (IsWork ps n))

abbrev pub AreWorks : List (List ℕ) → ℕ → Option ParamWork × ParamWork → List Tok → Type 0
AreWorks ps n = Both (IsPrework ps n) (AfterWord (codes "work") (IsWork ps n))

-- { "int" NAME ";" } ["init" block] ["prework" rates block] "work" rates block
abbrev pub made_filter : List (List ℕ) × (Optional × (Option ParamWork × ParamWork)) → ParamFilter
made_filter v = record { fields = v.0; init = v.1.0; prework = v.1.1.0; work = v.1.1.1 }

abbrev pub InFilter : List (List ℕ) → ℕ → ParamFilter → List Tok → Type 0
InFilter ps n = Seen made_filter (Both (Many IsField) (Both (IsInit ps n) (AreWorks ps n)))

-- SPLIT-JOINS

abbrev pub copying : Unit {0} → Dealing
copying u = Copies

abbrev pub SplitAfter : ℕ → List ℕ → Dealing → List Tok → Type 0
SplitAfter n w =
    Choose (bytes_eq w (codes "duplicate")) (Seen copying (Parens n))
    (Choose (bytes_eq w (codes "roundrobin")) (Seen Turns (Constants n)) Never)

abbrev pub IsSplit : ℕ → Dealing → List Tok → Type 0
IsSplit n = AfterWord (codes "split") (Before (Headed (SplitAfter n)) (s.Semicolon ∷ []))

abbrev pub IsJoin : ℕ → Option (List Expression) → List Tok → Type 0
IsJoin n = AfterWord (codes "join") (AfterWord (codes "roundrobin") (Before (Constants n) (s.Semicolon ∷ [])))

abbrev pub made_both : Dealing × (List Step × Option (List Expression)) → Body
made_both v = ASplitJoin v.0 (steps_in_turn v.1.0) v.1.1

abbrev pub InBoth : ℕ → Body → List Tok → Type 0
InBoth n = Seen made_both (Both (IsSplit n) (Both (Many (IsStep n)) (IsJoin n)))

-- UNITS

-- what stands behind the name and the parameters of a stream of this kind
abbrev pub BodyAfter : ℕ → List ℕ → List (List ℕ) → Body → List Tok → Type 0
BodyAfter n w ps =
    Choose (bytes_eq w (codes "filter")) (Seen AFilter (Braces (InFilter ps) n))
    (Choose (bytes_eq w (codes "pipeline")) (Seen APipeline (IsPipe n))
    (Choose (bytes_eq w (codes "splitjoin")) (Braces InBoth n) Never))

-- "filter" NAME [params] filter, and so on
abbrev pub made_unit : List ℕ × (List (List ℕ) × Body) → UnitForm
made_unit v = record { name = v.0; params = v.1.0; body = v.1.1 }

abbrev pub KindAfter : ℕ → List ℕ → UnitForm → List Tok → Type 0
KindAfter n w = Seen made_unit (Both StreamName (Chained (Params n) (BodyAfter n w)))

-- unit = "int" "->" "int" .., where 128 brackets may be open
abbrev pub IsUnit : UnitForm → List Tok → Type 0
IsUnit = AfterWord (codes "int") (After (s.Arrow ∷ []) (AfterWord (codes "int") (Headed (KindAfter 128))))

-- no unit depends on those before it
abbrev pub IsUnitAt : Unit {0} → UnitForm → List Tok → Type 0
IsUnitAt u = IsUnit

abbrev pub next_unit : Unit {0} → UnitForm → Unit {0}
next_unit u d = tt

abbrev pub AreUnits : ParamProgram → List (List Tok) → Type 0
AreUnits p units = AllFormed IsUnitAt next_unit tt p units

-- one unit or more
abbrev pub IsSome : ParamProgram → Type 0
IsSome [] = ⊥
IsSome (d ∷ ds) = Unit {0}

-- the text stands for the program: it has tokens, and their units, of which there are some, stand for what is declared
pub record IsText (text : List ℕ) (p : ParamProgram) : Type 0 where
  pub marks : List Mark
  pub lexed : tokens_in text ≡ Ok marks
  pub formed : AreUnits p (units_of (toks marks))
  pub some : IsSome p
