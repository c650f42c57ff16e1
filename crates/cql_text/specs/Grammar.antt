-- The grammar of units:
--
--     unit   = "Register" "Stream" NAME "(" NAME {"," NAME} ")" ";"
--            | "Query" NAME ":" "Select" kind "(" cols ")" "From" item {"," item} ["Where" cor] ";"
--     kind   = "Istream" | "Dstream" | "Rstream"
--     cols   = "*" | col {"," col}
--     col    = cor ["As" NAME]
--     item   = NAME "[" window "]" [["As"] NAME]
--     window = "Now" | "Range" N ["Second" | "Seconds"] | "Range" "Unbounded" | "Rows" N
--
-- Keywords stand in any letter case, and `cor` is the grammar of values.
use Rattle.std.specs.Prelude.{◌≡◌, ℕ, List, [], ◌∷◌, codes, Option, Some, None, Ok, if◌then◌else◌}
use Rattle.text_tokens.specs.Cut.{units_of}
use Rattle.text_tokens.specs.Lexis.{tokens_in}
use Rattle.text_tokens.specs.Tok.{Tok, Mark, toks}
use Rattle.text_tokens.specs.declared.sign.Symbol.TheVariants as s
use Rattle.text_forms.specs.Forms as form
use Rattle.text_forms.specs.Parse.{is_value, is_count}
use Rattle.text_forms.specs.Texts.{AllFormed}
use Rattle.cql_text.specs.Tree.{Name, Scalar, Window, Now, Range, Unbounded, Latest, Source, Column, Columns, Star, Chosen, UnitForm, Register, AQuery}
use Rattle.cql_text.specs.Values.{IsScalar}
use Rattle.cql_text.specs.Words.{is_keyword, Keyword, Plain}
use Rattle.cql_text.specs.declared.tree.Kind.{Kind}
use Rattle.cql_text.specs.declared.tree.Kind.TheVariants as kind
use Rattle.cql_text.specs.declared.tree.TimeUnit.{TimeUnit}
use Rattle.cql_text.specs.declared.tree.TimeUnit.TheVariants as time

-- KINDS AND WINDOWS

abbrev pub kind_named : List ℕ → Option Kind
kind_named text =
    if is_keyword (codes "istream") text then Some kind.Istream
    else (if is_keyword (codes "dstream") text then Some kind.Dstream
    else (if is_keyword (codes "rstream") text then Some kind.Rstream else None))

abbrev pub IsKind : Kind → List Tok → Type 0
IsKind = form.Known kind_named form.NameToken

-- a unit of time
abbrev pub time_named : List ℕ → Option TimeUnit
time_named text = if is_keyword (codes "second") text then Some time.Second else (if is_keyword (codes "seconds") text then Some time.Seconds else None)

abbrev pub Numeral : ℕ → List Tok → Type 0
Numeral = form.Tested is_value form.Number

abbrev pub made_span : ℕ × Option TimeUnit → Window
made_span v = Range v.0 v.1

abbrev pub IsSpan : Window → List Tok → Type 0
IsSpan = form.Seen made_span (form.Both Numeral (form.Maybe (form.Known time_named form.NameToken)))

-- what stands behind "Range"
abbrev pub IsRange : Window → List Tok → Type 0
IsRange = form.Merged (Keyword (codes "unbounded") (form.Nothing Unbounded)) IsSpan

-- what stands behind "Rows"
abbrev pub IsRows : Window → List Tok → Type 0
IsRows = form.Seen Latest (form.Tested is_count form.Number)

-- what the first word of a window says
abbrev pub WindowAfter : List ℕ → Window → List Tok → Type 0
WindowAfter text =
    form.Choose (is_keyword (codes "now") text) (form.Nothing Now)
    (form.Choose (is_keyword (codes "range") text) IsRange
    (form.Choose (is_keyword (codes "rows") text) IsRows form.Never))

abbrev pub IsWindow : Window → List Tok → Type 0
IsWindow = form.Headed WindowAfter

-- ITEMS

abbrev pub IsAlias : Name → List Tok → Type 0
IsAlias = form.Merged (Keyword (codes "as") Plain) Plain

abbrev pub InBrackets : Window → List Tok → Type 0
InBrackets = form.After (s.OpenBracket ∷ []) (form.Before IsWindow (s.CloseBracket ∷ []))

abbrev pub made_source : Name × (Window × Option Name) → Source
made_source v = record { stream = v.0; window = v.1.0; alias = v.1.1 }

abbrev pub IsSource : Source → List Tok → Type 0
IsSource = form.Seen made_source (form.Both Plain (form.Both InBrackets (form.Maybe IsAlias)))

-- COLUMNS; of 128 brackets one is open

abbrev pub made_column : Scalar × Option Name → Column
made_column v = record { value = v.0; alias = v.1 }

abbrev pub IsColumn : Column → List Tok → Type 0
IsColumn = form.Seen made_column (form.Both (IsScalar 127) (form.Maybe (Keyword (codes "as") Plain)))

abbrev pub IsColumns : Columns → List Tok → Type 0
IsColumns = form.Merged (form.After (s.Star ∷ []) (form.Nothing Star)) (form.Seen Chosen (form.Commas IsColumn))

abbrev pub InRound : Columns → List Tok → Type 0
InRound = form.After (s.Open ∷ []) (form.Before IsColumns (s.Close ∷ []))

-- UNITS

abbrev pub IsWhere : Option Scalar → List Tok → Type 0
IsWhere = form.Maybe (Keyword (codes "where") (IsScalar 128))

-- what stands behind "From"
abbrev pub Behind : Type 0
Behind = List Source × Option Scalar

abbrev pub IsBehindColumns : Behind → List Tok → Type 0
IsBehindColumns = form.Both (form.Commas IsSource) (form.Before IsWhere (s.Semicolon ∷ []))

-- what stands behind "Select"
abbrev pub Selected : Type 0
Selected = Kind × (Columns × Behind)

abbrev pub IsSelected : Selected → List Tok → Type 0
IsSelected = form.Both IsKind (form.Both InRound (Keyword (codes "from") IsBehindColumns))

abbrev pub made_query : Name × Selected → UnitForm
made_query v = AQuery (record { name = v.0; kind = v.1.0; columns = v.1.1.0; items = v.1.1.1.0; condition = v.1.1.1.1 })

abbrev pub IsQueryUnit : UnitForm → List Tok → Type 0
IsQueryUnit = Keyword (codes "query") (form.Seen made_query (form.Both Plain (form.After (s.Colon ∷ []) (Keyword (codes "select") IsSelected))))

abbrev pub Fields : List Name → List Tok → Type 0
Fields = form.After (s.Open ∷ []) (form.Before (form.Commas Plain) (s.Close ∷ s.Semicolon ∷ []))

abbrev pub made_stream : Name × List Name → UnitForm
made_stream v = Register v.0 v.1

abbrev pub IsStreamUnit : UnitForm → List Tok → Type 0
IsStreamUnit = Keyword (codes "register") (Keyword (codes "stream") (form.Seen made_stream (form.Both Plain Fields)))

abbrev pub IsUnit : UnitForm → List Tok → Type 0
IsUnit = form.Merged IsStreamUnit IsQueryUnit

-- no unit depends on those before it
abbrev pub IsUnitAt : Unit {0} → UnitForm → List Tok → Type 0
IsUnitAt u = IsUnit

abbrev pub next_unit : Unit {0} → UnitForm → Unit {0}
next_unit u p = tt

-- each unit stands for its part
abbrev pub AreUnits : List UnitForm → List (List Tok) → Type 0
AreUnits p units = AllFormed IsUnitAt next_unit tt p units

-- the text stands for the program: it has tokens, and their units stand for the parts
pub record IsText (text : List ℕ) (p : List UnitForm) : Type 0 where
  pub marks : List Mark
  pub lexed : tokens_in text ≡ Ok marks
  pub formed : AreUnits p (units_of (toks marks))
