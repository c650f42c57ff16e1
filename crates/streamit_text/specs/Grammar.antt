-- The grammar of StreamIt's units, line by line (the StreamIt language of Thies, Karczmarek and Amarasinghe, cut to filters on whole
-- numbers, pipelines and split-joins). `n` is how many more brackets may be open. Expressions stand in Leaves and Expressions,
-- statements and blocks in Blocks.
use Rattle.std.specs.Prelude.{◌≡◌, ℕ, ◌&&◌, Bool, true, false, List, [], ◌∷◌, Option, Some, None, Ok, codes}
use Rattle.std.specs.Str.{bytes_eq}
use Rattle.text_tokens.specs.Cut.{units_of}
use Rattle.text_tokens.specs.Lexis.{tokens_in}
use Rattle.text_tokens.specs.Tok.{Tok, Mark, toks}
use Rattle.text_tokens.specs.declared.sign.Symbol.TheVariants as s
use Rattle.text_forms.specs.Parse.{is_value}
use Rattle.text_forms.specs.Texts.{AllFormed}
use Rattle.text_forms.specs.Forms.{Count, Number, Never, Both, After, Before, AfterWord, Tested, Seen, Known, Maybe, Many, Listing, Choose, Headed, Enclosed}
use Rattle.text_blocks.specs.Parts.{Round}
use Rattle.text_blocks.specs.Statements as statements
use Rattle.streamit_text.specs.Blocks.{Own, Empty, style, holes}
use Rattle.streamit_text.specs.Expressions.{IsExpression, expr_at}
use Rattle.streamit_text.specs.Leaves.{IsLeaf, leaf_at}
use Rattle.streamit_text.specs.Program.{WorkTree, FilterTree, Dealing, Copies, Turns, Adds, Body, AFilter, APipeline, ASplitJoin, UnitForm, Program}
use Rattle.streamit_text.specs.Tree.{Expression, Statement, Declare, Assign, Push, Discard, If, For, Block, End, Then, Optional, Unwritten, Written}
use Rattle.streamit_text.specs.Tree.{or_unwritten}
use Rattle.streamit_text.specs.Tree as tree

-- N that is a weight: at most 9223372036854775807
abbrev pub Weight : ℕ → List Tok → Type 0
Weight = Tested is_value Number

-- a block of a filter, where `if` and `for` together nest at most 16 deep
abbrev pub IsBlock : ℕ → Block → List Tok → Type 0
IsBlock = statements.IsBlock (style (expr_at leaf_at)) (holes (IsExpression IsLeaf)) 16

-- no push, pop or peek stands in an expression or a block
abbrev pub is_still : Expression → Bool
is_still (tree.Number v) = true
is_still (tree.Name text) = true
is_still (tree.Peek t) = false
is_still tree.Pop = false
is_still (tree.Neg t) = is_still t
is_still (tree.Not t) = is_still t
is_still (tree.Bin o a b) = is_still a && is_still b

abbrev pub is_still_first : Option Expression → Bool
is_still_first None = true
is_still_first (Some t) = is_still t

abbrev mutual
  pub stays : Statement → Bool
  stays (Declare name value) = is_still_first value
  stays (Assign name value) = is_still value
  stays (Push value) = false
  stays Discard = false
  stays (If cond a b) = is_still cond && (stay a && stay_optional b)
  stays (For name low upto high b) = is_still low && (is_still high && stay b)

  pub stay : Block → Bool
  stay End = true
  stay (Then c b) = stays c && stay b

  pub stay_optional : Optional → Bool
  stay_optional Unwritten = true
  stay_optional (Written b) = stay b

-- ["init" block]
abbrev pub IsInit : ℕ → Optional → List Tok → Type 0
IsInit n = Seen or_unwritten (Maybe (AfterWord (codes "init") (Tested stay (IsBlock n))))

-- { "int" NAME ";" }
abbrev pub IsField : List ℕ → List Tok → Type 0
IsField = AfterWord (codes "int") (Before Own (s.Semicolon ∷ []))

-- "push" N, "pop" N or "peek" N
pub data Rate : Type 0 where
  push : ℕ → Rate
  pop : ℕ → Rate
  peek : ℕ → Rate

abbrev pub RateAfter : List ℕ → Rate → List Tok → Type 0
RateAfter w =
    Choose (bytes_eq w (codes "push")) (Seen push Count)
    (Choose (bytes_eq w (codes "pop")) (Seen pop Count)
    (Choose (bytes_eq w (codes "peek")) (Seen peek Count) Never))

abbrev pub IsRate : Rate → List Tok → Type 0
IsRate = Headed RateAfter

-- each at most once, in any order
pub record Rates : Type 0 where
  pub push : Option ℕ
  pub pop : Option ℕ
  pub peek : Option ℕ

abbrev pub unwritten : Rates
unwritten = record { push = None; pop = None; peek = None }

abbrev pub fresh : {A : Type 0} → Option ℕ → A → Option A
fresh None r = Some r
fresh (Some n) r = None

abbrev pub with_rate : Rates → Rate → Option Rates
with_rate r (push n) = fresh r.push (record r { push = Some n })
with_rate r (pop n) = fresh r.pop (record r { pop = Some n })
with_rate r (peek n) = fresh r.peek (record r { peek = Some n })

abbrev pub on_some : {A B : Type 0} → Option A → (A → Option B) → Option B
on_some None f = None
on_some (Some a) f = f a

abbrev pub rates_in : Rates → List Rate → Option Rates
rates_in r [] = Some r
rates_in r (x ∷ xs) = on_some (with_rate r x) (λ q. rates_in q xs)

abbrev pub AreRates : Rates → List Tok → Type 0
AreRates = Known (rates_in unwritten) (Many IsRate)

-- rates block
abbrev pub made_work : Rates × Block → WorkTree
made_work v = record { push = v.0.push; pop = v.0.pop; peek = v.0.peek; block = v.1 }

abbrev pub IsWork : ℕ → WorkTree → List Tok → Type 0
IsWork n = Seen made_work (Both AreRates (IsBlock n))

-- ["prework" rates block] "work" rates block
abbrev pub IsPrework : ℕ → Option WorkTree → List Tok → Type 0
IsPrework n = Maybe (AfterWord (codes "prework") (IsWork n))

abbrev pub AreWorks : ℕ → Option WorkTree × WorkTree → List Tok → Type 0
AreWorks n = Both (IsPrework n) (AfterWord (codes "work") (IsWork n))

-- filter = "{" { "int" NAME ";" } ["init" block] ["prework" rates block] "work" rates block "}"
abbrev pub made_filter : List (List ℕ) × (Optional × (Option WorkTree × WorkTree)) → FilterTree
made_filter v = record { fields = v.0; init = v.1.0; prework = v.1.1.0; work = v.1.1.1 }

abbrev pub InFilter : ℕ → FilterTree → List Tok → Type 0
InFilter n = Seen made_filter (Both (Many IsField) (Both (IsInit n) (AreWorks n)))

abbrev pub Braces : {A : Type 0} → (ℕ → A → List Tok → Type 0) → ℕ → A → List Tok → Type 0
Braces F = Enclosed s.OpenBrace s.CloseBrace F

-- ["(" ")"]
abbrev pub none_there : Option (Unit {0}) → Unit {0}
none_there o = tt

abbrev pub Parens : ℕ → Unit {0} → List Tok → Type 0
Parens n = Seen none_there (Maybe (Empty n))

-- NAME ["(" ")"]
abbrev pub the_name : List ℕ × Unit {0} → List ℕ
the_name v = v.0

abbrev pub Called : ℕ → List ℕ → List Tok → Type 0
Called n = Seen the_name (Both Own (Parens n))

-- "add" NAME ["(" ")"] ";"
abbrev pub IsAdd : ℕ → List ℕ → List Tok → Type 0
IsAdd n = AfterWord (codes "add") (Before (Called n) (s.Semicolon ∷ []))

-- add { add }
abbrev pub made_adds : List ℕ × List (List ℕ) → Adds
made_adds v = record { first = v.0; others = v.1 }

abbrev pub AreAdds : ℕ → Adds → List Tok → Type 0
AreAdds n = Seen made_adds (Both (IsAdd n) (Many (IsAdd n)))

-- rr = "roundrobin" [ "(" [ N {"," N} ] ")" ]
abbrev pub Weights : ℕ → Option (List ℕ) → List Tok → Type 0
Weights n = Maybe (Round (λ m. Listing Weight) n)

abbrev pub copying : Unit {0} → Dealing
copying u = Copies

abbrev pub SplitAfter : ℕ → List ℕ → Dealing → List Tok → Type 0
SplitAfter n w =
    Choose (bytes_eq w (codes "duplicate")) (Seen copying (Parens n))
    (Choose (bytes_eq w (codes "roundrobin")) (Seen Turns (Weights n)) Never)

-- both = "{" "split" ( "duplicate" ["(" ")"] | rr ) ";" add { add } "join" rr ";" "}"
abbrev pub IsSplit : ℕ → Dealing → List Tok → Type 0
IsSplit n = AfterWord (codes "split") (Before (Headed (SplitAfter n)) (s.Semicolon ∷ []))

abbrev pub IsJoin : ℕ → Option (List ℕ) → List Tok → Type 0
IsJoin n = AfterWord (codes "join") (AfterWord (codes "roundrobin") (Before (Weights n) (s.Semicolon ∷ [])))

abbrev pub made_both : Dealing × (Adds × Option (List ℕ)) → Body
made_both v = ASplitJoin v.0 v.1.0 v.1.1

abbrev pub InBoth : ℕ → Body → List Tok → Type 0
InBoth n = Seen made_both (Both (IsSplit n) (Both (AreAdds n) (IsJoin n)))

-- what stands behind the name of a stream of this kind
abbrev pub BodyAfter : ℕ → List ℕ → Body → List Tok → Type 0
BodyAfter n w =
    Choose (bytes_eq w (codes "filter")) (Seen AFilter (Braces InFilter n))
    (Choose (bytes_eq w (codes "pipeline")) (Seen APipeline (Braces AreAdds n))
    (Choose (bytes_eq w (codes "splitjoin")) (Braces InBoth n) Never))

-- "filter" NAME ["(" ")"] filter, and so on
abbrev pub made_unit : List ℕ × Body → UnitForm
made_unit v = record { name = v.0; body = v.1 }

abbrev pub KindAfter : ℕ → List ℕ → UnitForm → List Tok → Type 0
KindAfter n w = Seen made_unit (Both (Called n) (BodyAfter n w))

-- unit = "int" "->" "int" .., where 128 brackets may be open
abbrev pub IsUnit : UnitForm → List Tok → Type 0
IsUnit = AfterWord (codes "int") (After (s.Arrow ∷ []) (AfterWord (codes "int") (Headed (KindAfter 128))))

-- no unit depends on those before it
abbrev pub IsUnitAt : Unit {0} → UnitForm → List Tok → Type 0
IsUnitAt u = IsUnit

abbrev pub next_unit : Unit {0} → UnitForm → Unit {0}
next_unit u d = tt

abbrev pub AreUnits : Program → List (List Tok) → Type 0
AreUnits p units = AllFormed IsUnitAt next_unit tt p units

-- one unit or more
abbrev pub IsSome : Program → Type 0
IsSome [] = ⊥
IsSome (d ∷ ds) = Unit {0}

-- the text stands for the program: it has tokens, and their units, of which there are some, stand for what is declared
pub record IsText (text : List ℕ) (p : Program) : Type 0 where
  pub marks : List Mark
  pub lexed : tokens_in text ≡ Ok marks
  pub formed : AreUnits p (units_of (toks marks))
  pub some : IsSome p
