-- How units are read: the grammar in the words of reading functions.
use Rattle.std.specs.Prelude.{ℕ, Bool, false, ◌||◌, List, [], ◌∷◌, codes, Option, Result, None, if◌then◌else◌}
use Rattle.text_tokens.specs.Tok.{Tok, name, var, number, symbol}
use Rattle.text_tokens.specs.declared.sign.Symbol.TheVariants as s
use Rattle.text_forms.specs.Parse.{Parse, begins_with, both, after, before, seen, known, merged, maybe, headed, commas, nothing_at, name_at, count_at}
use Rattle.text_forms.specs.AllUnits.{all_units, by_units, text_by}
use Rattle.text_forms.specs.declared.text_fault.TextFault.{TextFault}
use Rattle.cql_text.specs.Grammar.{kind_named, time_named, made_span, made_source, made_column, Behind, Selected, made_query, made_stream}
use Rattle.cql_text.specs.Tree.{Name, Scalar, Window, Now, Unbounded, Latest, Source, Column, Columns, Star, Chosen, UnitForm}
use Rattle.cql_text.specs.ValueReading.{numeral_at, scalar_at}
use Rattle.cql_text.specs.Words.{is_keyword, is_keyword_at, is_plain, keyword, plain_at}
use Rattle.cql_text.specs.declared.tree.Kind.{Kind}
use Rattle.cql_text.specs.declared.tree.TimeUnit.{TimeUnit}

-- KINDS AND WINDOWS

unfoldable pub kind_at : Parse Kind
kind_at ts = known kind_named name_at ts

abbrev pub is_time : List ℕ → Bool
is_time text = is_keyword (codes "second") text || is_keyword (codes "seconds") text

abbrev pub is_time_at : List Tok → Bool
is_time_at [] = false
is_time_at (name text ∷ ts) = is_time text
is_time_at (var text ∷ ts) = false
is_time_at (number n ∷ ts) = false
is_time_at (symbol x ∷ ts) = false

-- a unit of time, or nothing
unfoldable pub time_at : Parse (Option TimeUnit)
time_at ts = maybe is_time_at (known time_named name_at) ts

unfoldable pub span_at : Parse Window
span_at ts = seen made_span (both numeral_at time_at) ts

unfoldable pub range_at : Parse Window
range_at ts = merged (is_keyword_at (codes "unbounded")) (keyword (codes "unbounded") (nothing_at Unbounded)) span_at ts

unfoldable pub rows_at : Parse Window
rows_at ts = seen Latest count_at ts

unfoldable pub window_after : List ℕ → Parse Window
window_after text ts =
    if is_keyword (codes "now") text then nothing_at Now ts
    else if is_keyword (codes "range") text then range_at ts
    else if is_keyword (codes "rows") text then rows_at ts
    else None

unfoldable pub window_at : Parse Window
window_at ts = headed window_after ts

-- ITEMS

unfoldable pub in_brackets_at : Parse Window
in_brackets_at ts = after (s.OpenBracket ∷ []) (before window_at (s.CloseBracket ∷ [])) ts

unfoldable pub alias_at : Parse Name
alias_at ts = merged (is_keyword_at (codes "as")) (keyword (codes "as") plain_at) plain_at ts

abbrev pub is_alias_at : List Tok → Bool
is_alias_at [] = false
is_alias_at (name text ∷ ts) = is_keyword (codes "as") text || is_plain text
is_alias_at (var text ∷ ts) = false
is_alias_at (number n ∷ ts) = false
is_alias_at (symbol x ∷ ts) = false

unfoldable pub called_at : Parse (Option Name)
called_at ts = maybe is_alias_at alias_at ts

unfoldable pub source_at : Parse Source
source_at ts = seen made_source (both plain_at (both in_brackets_at called_at)) ts

unfoldable pub sources_at : Parse (List Source)
sources_at ts = commas source_at ts

-- COLUMNS

unfoldable pub as_at : Parse (Option Name)
as_at ts = maybe (is_keyword_at (codes "as")) (keyword (codes "as") plain_at) ts

unfoldable pub column_at : Parse Column
column_at ts = seen made_column (both (scalar_at 127) as_at) ts

unfoldable pub chosen_at : Parse (List Column)
chosen_at ts = commas column_at ts

unfoldable pub columns_at : Parse Columns
columns_at ts = merged (begins_with s.Star) (after (s.Star ∷ []) (nothing_at Star)) (seen Chosen chosen_at) ts

unfoldable pub in_round_at : Parse Columns
in_round_at ts = after (s.Open ∷ []) (before columns_at (s.Close ∷ [])) ts

-- UNITS

unfoldable pub where_at : Parse (Option Scalar)
where_at ts = maybe (is_keyword_at (codes "where")) (keyword (codes "where") (scalar_at 128)) ts

unfoldable pub behind_at : Parse Behind
behind_at ts = both sources_at (before where_at (s.Semicolon ∷ [])) ts

unfoldable pub selected_at : Parse Selected
selected_at ts = both kind_at (both in_round_at (keyword (codes "from") behind_at)) ts

unfoldable pub query_at : Parse UnitForm
query_at ts = keyword (codes "query") (seen made_query (both plain_at (after (s.Colon ∷ []) (keyword (codes "select") selected_at)))) ts

unfoldable pub names_at : Parse (List Name)
names_at ts = commas plain_at ts

unfoldable pub fields_at : Parse (List Name)
fields_at ts = after (s.Open ∷ []) (before names_at (s.Close ∷ s.Semicolon ∷ [])) ts

unfoldable pub stream_at : Parse UnitForm
stream_at ts = keyword (codes "register") (keyword (codes "stream") (seen made_stream (both plain_at fields_at))) ts

unfoldable pub unit_at : Parse UnitForm
unit_at ts = merged (is_keyword_at (codes "register")) stream_at query_at ts

-- the units of a text
abbrev pub units_in : List (List Tok) → Result (List UnitForm) ℕ
units_in units = all_units unit_at units

-- what is read of a text
abbrev pub program_in : List ℕ → Result (List UnitForm) TextFault
program_in text = text_by (by_units units_in) text
