-- The reading of units is exact.
use Rattle.std.proofs.Common.{◌≡◌, ℕ, suc, List, [], ◌∷◌, ◌++◌, Bool, true, false, cond, Option, Some, None, refl, sym, ap, ◌∙◌, subst, inl, inr, append_assoc}
use Rattle.std.specs.Prelude.{codes, ◌||◌}
use Rattle.std.proofs.lemmas.Bool.{or_right, or_left}
use Rattle.text_tokens.specs.Tok.{Tok, name, symbol}
use Rattle.text_tokens.specs.declared.sign.Symbol.TheVariants as s
use Rattle.text_forms.specs.Parse as parse
use Rattle.text_forms.specs.Forms as form
use Rattle.text_forms.proofs.Choices.{exact-never, exact-choose, exact-headed, exact-known}
use Rattle.text_forms.proofs.Exact.{Exact, Any, exact-less, exact-name, exact-number, exact-nothing, exact-both, exact-after, exact-before, exact-tested}
use Rattle.text_forms.proofs.Exact.{exact-maybe, exact-seen, exact-merged}
use Rattle.text_forms.proofs.Many.{exact-commas}
use Rattle.cql_text.specs.Tree.{Name, Scalar, Window, Now, Unbounded, Latest, Column, Columns, Star, Chosen, UnitForm}
use Rattle.text_forms.specs.Levels as levels
use Rattle.cql_text.specs.Grammar.{kind_named, IsKind, time_named, made_span, IsSpan, IsRange, IsRows, IsWindow, IsAlias, InBrackets, made_source, IsSource}
use Rattle.cql_text.specs.Grammar.{made_column, IsColumn, IsColumns, InRound, IsWhere, IsBehindColumns, IsSelected, made_query, IsQueryUnit, Fields, made_stream, IsStreamUnit}
use Rattle.cql_text.specs.Grammar.{IsUnit, IsUnitAt}
use Rattle.cql_text.specs.Reading.{kind_at, is_time, is_time_at, time_at, span_at, range_at, rows_at, window_after, window_at, in_brackets_at, alias_at}
use Rattle.cql_text.specs.Reading.{is_alias_at, called_at, source_at, sources_at, as_at, column_at, chosen_at, columns_at, in_round_at, where_at, behind_at}
use Rattle.cql_text.specs.Reading.{selected_at, query_at, names_at, fields_at, stream_at, unit_at}
use Rattle.cql_text.specs.Values.{word_op, of_rank, IsLeaf, IsScalar, syntax}
use Rattle.cql_text.specs.Values as rule
use Rattle.cql_text.specs.Words.{is_keyword, is_keyword_at, is_plain, Plain, Keyword}
use Rattle.cql_text.specs.declared.tree.TimeUnit.{TimeUnit}
use Rattle.cql_text.specs.declared.tree.TimeUnit.TheVariants as time
use Rattle.cql_text.proofs.Seven.{sign-no_star}
use Rattle.cql_text.proofs.Values.{Ends, exact-numeral, exact-scalar}
use Rattle.cql_text.proofs.Words.{exact-plain, exact-keyword, keyword-at, other_word, plain-as, where-not_plain}

-- the tokens stand for the value, on the level above `rank` others, where `n` more brackets may be open
abbrev pub Spells : (n rank : ℕ) → Scalar → List Tok → Type 0
Spells n rank t ts = levels.Spells syntax IsLeaf n rank t ts

-- WINDOWS

exact-kind : Exact IsKind kind_at Any
unfolding kind_at
exact-kind = exact-known kind_named exact-name

time-word : (text : List ℕ) (u : TimeUnit) → time_named text ≡ Some u → is_time text ≡ true
time-word text u e = by (is_keyword (codes "second") text) (is_keyword (codes "seconds") text) e where
  by : (a b : Bool) → cond a (Some time.Second) (cond b (Some time.Seconds) None) ≡ Some u → (a || b) ≡ true
  by true b f = refl
  by false true f = refl
  by false false f = cc

time-comes : (u : TimeUnit) (ts rest : List Tok) → form.Known time_named form.NameToken u ts → is_time_at (ts ++ rest) ≡ true
time-comes u ts rest h = rw h.formed (time-word h.value u h.is)

abbrev pub NoTime : List Tok → Type 0
NoTime rest = is_time_at rest ≡ false

exact-time : Exact (form.Maybe (form.Known time_named form.NameToken)) time_at NoTime
unfolding time_at
exact-time = exact-less (exact-maybe is_time_at (exact-known time_named exact-name) time-comes) (λ rest d. (tt, d))

exact-span : Exact IsSpan span_at NoTime
unfolding span_at
exact-span = exact-seen made_span (exact-both exact-numeral exact-time (λ y ts rest h d. tt))

span-begins : (v : Window) (ts rest : List Tok) → IsSpan v ts → is_keyword_at (codes "unbounded") (ts ++ rest) ≡ false
span-begins v ts rest h =
    let b = h.formed in
    ap (is_keyword_at (codes "unbounded")) (ap (λ (l : List Tok). l ++ rest) (b.is ∙ ap (λ (l : List Tok). l ++ b.back) b.first.formed))

exact-range : Exact IsRange range_at NoTime
unfolding range_at
exact-range =
    exact-less (exact-merged (is_keyword_at (codes "unbounded")) (exact-keyword (codes "unbounded") (exact-nothing Unbounded)) exact-span
    (λ v ts rest h d. keyword-at (form.Nothing Unbounded) (codes "unbounded") v ts rest h) (λ v ts rest h d. span-begins v ts rest h)) (λ rest d. (tt, d))

exact-rows : Exact IsRows rows_at Any
unfolding rows_at
exact-rows = exact-seen Latest (exact-tested parse.is_count exact-number)

exact-window : Exact IsWindow window_at NoTime
unfolding window_at window_after
exact-window =
    exact-headed (λ text. exact-choose (is_keyword (codes "now") text) (exact-less (exact-nothing Now) (λ rest d. tt))
    (exact-choose (is_keyword (codes "range") text) exact-range
    (exact-choose (is_keyword (codes "rows") text) (exact-less exact-rows (λ rest d. tt)) exact-never)))

-- ITEMS

exact-in_brackets : Exact InBrackets in_brackets_at Any
unfolding in_brackets_at
exact-in_brackets = exact-after (s.OpenBracket ∷ []) (exact-before (s.CloseBracket ∷ []) exact-window (λ rest. refl))

exact-alias : Exact IsAlias alias_at Any
unfolding alias_at
exact-alias =
    exact-less (exact-merged (is_keyword_at (codes "as")) (exact-keyword (codes "as") exact-plain) exact-plain
    (λ v ts rest h d. keyword-at Plain (codes "as") v ts rest h) (λ v ts rest h d. rw h.formed (plain-as v h.passes))) (λ rest d. (tt, tt))

alias-begins : (v : Name) (ts rest : List Tok) → IsAlias v ts → is_alias_at (ts ++ rest) ≡ true
alias-begins v ts rest (inl h) = rw h.is (or_left (is_keyword (codes "as") h.spelled) (is_plain h.spelled) h.same)
alias-begins v ts rest (inr h) = rw h.formed (or_right (is_keyword (codes "as") v) (is_plain v) h.passes)

abbrev pub NoAlias : List Tok → Type 0
NoAlias rest = is_alias_at rest ≡ false

exact-called : Exact (form.Maybe IsAlias) called_at NoAlias
unfolding called_at
exact-called = exact-less (exact-maybe is_alias_at exact-alias alias-begins) (λ rest d. (tt, d))

-- items are read exactly, where no alias follows
pub exact-source : Exact IsSource source_at NoAlias
unfolding source_at
exact-source = exact-seen made_source (exact-both exact-plain (exact-both exact-in_brackets exact-called (λ y ts rest h d. tt)) (λ y ts rest h d. tt))

-- behind an item a comma is no alias
pub comma-source : (rest : List Tok) → NoAlias (symbol s.Comma ∷ rest)
comma-source rest = refl

abbrev pub AfterSources : List Tok → Type 0
AfterSources rest = NoAlias rest × (parse.no_comma rest ≡ true)

exact-sources : Exact (form.Commas IsSource) sources_at AfterSources
unfolding sources_at
exact-sources = exact-commas exact-source comma-source

-- COLUMNS

as-ends : (text : List ℕ) (rest : List Tok) → is_keyword (codes "as") text ≡ true → Ends 6 (name text ∷ rest)
as-ends text rest e =
    let none : word_op text ≡ None = rw (other_word (codes "as") (codes "and") text e refl, other_word (codes "as") (codes "or") text e refl) refl in
    ((λ j le. ap (of_rank j) none), refl)

abbrev pub NoAs : List Tok → Type 0
NoAs rest = is_keyword_at (codes "as") rest ≡ false

exact-as_name : Exact (form.Maybe (Keyword (codes "as") Plain)) as_at NoAs
unfolding as_at
exact-as_name =
    exact-less (exact-maybe (is_keyword_at (codes "as")) (exact-keyword (codes "as") exact-plain) (λ v ts rest h. keyword-at Plain (codes "as") v ts rest h))
    (λ rest d. (tt, d))

-- behind a column comes no operator, no dot and no `As`
abbrev pub AfterColumn : List Tok → Type 0
AfterColumn rest = Ends 6 rest × NoAs rest

column-follows : (y : Option Name) (ts rest : List Tok) → form.Maybe (Keyword (codes "as") Plain) y ts → AfterColumn rest → Ends 6 (ts ++ rest)
column-follows None ts rest h d = subst (λ (l : List Tok). Ends 6 (l ++ rest)) (sym h) d.0
column-follows (Some v) ts rest h d = subst (λ (l : List Tok). Ends 6 (l ++ rest)) (sym h.is) (as-ends h.spelled (h.back ++ rest) h.same)

-- columns are read exactly, where neither an operator nor `As` follows
pub exact-column : Exact IsColumn column_at AfterColumn
unfolding column_at
exact-column = exact-seen made_column (exact-both (exact-scalar 127) (exact-less exact-as_name (λ rest (d : Ends 6 rest × NoAs rest). d.1)) column-follows)

-- behind a column a comma is neither
pub comma-column : (rest : List Tok) → AfterColumn (symbol s.Comma ∷ rest)
comma-column rest = (((λ j le. refl), refl), refl)

abbrev pub AfterColumns : List Tok → Type 0
AfterColumns rest = AfterColumn rest × (parse.no_comma rest ≡ true)

exact-chosen : Exact (form.Commas IsColumn) chosen_at AfterColumns
unfolding chosen_at
exact-chosen = exact-commas exact-column comma-column

-- no value begins with a star
leaf-no_star : (n : ℕ) (t : Scalar) (ts : List Tok) → IsLeaf n t ts → (rest : List Tok) → parse.begins_with s.Star (ts ++ rest) ≡ false
leaf-no_star n t ts (rule.number p v q) rest = refl
leaf-no_star n t ts (rule.field p f h) rest = refl
leaf-no_star n t ts (rule.of_item p a f g h) rest = refl

no_star : (n k : ℕ) (t : Scalar) (ts : List Tok) → Spells n k t ts → (rest : List Tok) → parse.begins_with s.Star (ts ++ rest) ≡ false
no_star n k t ts (levels.leaf p u us h) rest = leaf-no_star p u us h rest
no_star n k t ts (levels.bracket p u us g) rest = refl
no_star n k t ts (levels.call p y q u us c g) rest = absurd (cc c)
no_star n k t ts (levels.tighter p j u us g) rest = no_star p j u us g rest
no_star n k t ts (levels.chain p j y o a b us vs f c g h) rest =
    ap (parse.begins_with s.Star) (append_assoc us (y ∷ vs) rest) ∙ no_star p (suc j) a us g (y ∷ (vs ++ rest))
no_star n k t ts (levels.once p j y o a b us vs f c g h) rest =
    ap (parse.begins_with s.Star) (append_assoc us (y ∷ vs) rest) ∙ no_star p j a us g (y ∷ (vs ++ rest))
no_star n k t ts (levels.prefix p j y q u us c h) rest = sign-no_star j y q (us ++ rest) c

column-star : (v : Column) (us rest : List Tok) → IsColumn v us → parse.begins_with s.Star (us ++ rest) ≡ false
column-star v us rest h =
    let b = h.formed in
    ap (parse.begins_with s.Star) (ap (λ (l : List Tok). l ++ rest) b.is ∙ append_assoc b.front b.back rest)
    ∙ no_star 127 7 h.value.0 b.front b.first.0 (b.back ++ rest)

columns-star : (v : Columns) (us rest : List Tok) → form.Seen Chosen (form.Commas IsColumn) v us → parse.begins_with s.Star (us ++ rest) ≡ false
columns-star v us rest h =
    let b = h.formed.formed in
    ap (parse.begins_with s.Star) (ap (λ (l : List Tok). l ++ rest) b.is ∙ append_assoc b.front b.back rest)
    ∙ column-star h.formed.value.0 b.front (b.back ++ rest) b.first

star-begins : (v : Columns) (us rest : List Tok) → form.After (s.Star ∷ []) (form.Nothing Star) v us → parse.begins_with s.Star (us ++ rest) ≡ true
star-begins v us rest h = rw h.is refl

exact-columns : Exact IsColumns columns_at AfterColumns
unfolding columns_at
exact-columns =
    exact-less (exact-merged (parse.begins_with s.Star) (exact-after (s.Star ∷ []) (exact-nothing Star)) (exact-seen Chosen exact-chosen)
    (λ v ts rest h d. star-begins v ts rest h) (λ v ts rest h d. columns-star v ts rest h)) (λ rest d. (tt, d))

exact-in_round : Exact InRound in_round_at Any
unfolding in_round_at
exact-in_round = exact-after (s.Open ∷ []) (exact-before (s.Close ∷ []) exact-columns (λ rest. ((((λ j le. refl), refl), refl), refl)))

-- QUERIES

abbrev pub AfterWhere : List Tok → Type 0
AfterWhere rest = Ends 6 rest × (is_keyword_at (codes "where") rest ≡ false)

exact-where : Exact IsWhere where_at AfterWhere
unfolding where_at
exact-where =
    exact-maybe (is_keyword_at (codes "where")) (exact-keyword (codes "where") (exact-scalar 128))
    (λ v ts rest h. keyword-at (IsScalar 128) (codes "where") v ts rest h)

abbrev IsEnd : Option Scalar → List Tok → Type 0
IsEnd = form.Before IsWhere (s.Semicolon ∷ [])

end-follows : (y : Option Scalar) (us rest : List Tok) → IsEnd y us → Any rest → AfterSources (us ++ rest)
end-follows None us rest h d =
    subst (λ (l : List Tok). (is_alias_at (l ++ rest) ≡ false) × (parse.no_comma (l ++ rest) ≡ true))
    (sym (h.is ∙ ap (λ (l : List Tok). l ++ symbol s.Semicolon ∷ []) h.formed)) (refl, refl)
end-follows (Some v) us rest h d =
    let w = h.formed in
    let not_as : is_keyword (codes "as") w.spelled ≡ false = other_word (codes "where") (codes "as") w.spelled w.same refl in
    let none : (is_keyword (codes "as") w.spelled || is_plain w.spelled) ≡ false = rw (not_as, where-not_plain w.spelled w.same) refl in
    subst (λ (l : List Tok). (is_alias_at (l ++ rest) ≡ false) × (parse.no_comma (l ++ rest) ≡ true))
    (sym (h.is ∙ ap (λ (l : List Tok). l ++ symbol s.Semicolon ∷ []) w.is)) (none, refl)

exact-behind : Exact IsBehindColumns behind_at Any
unfolding behind_at
exact-behind = exact-both exact-sources (exact-before (s.Semicolon ∷ []) exact-where (λ rest. (((λ j le. refl), refl), refl))) end-follows

exact-selected : Exact IsSelected selected_at Any
unfolding selected_at
exact-selected = exact-both exact-kind (exact-both exact-in_round (exact-keyword (codes "from") exact-behind) (λ y ts rest h d. tt)) (λ y ts rest h d. tt)

exact-query : Exact IsQueryUnit query_at Any
unfolding query_at
exact-query =
    exact-keyword (codes "query")
    (exact-seen made_query (exact-both exact-plain (exact-after (s.Colon ∷ []) (exact-keyword (codes "select") exact-selected)) (λ y ts rest h d. tt)))

-- STREAMS

exact-names : Exact (form.Commas Plain) names_at (λ rest. Any rest × (parse.no_comma rest ≡ true))
unfolding names_at
exact-names = exact-commas exact-plain (λ rest. tt)

exact-fields : Exact Fields fields_at Any
unfolding fields_at
exact-fields = exact-after (s.Open ∷ []) (exact-before (s.Close ∷ s.Semicolon ∷ []) exact-names (λ rest. (tt, refl)))

exact-stream : Exact IsStreamUnit stream_at Any
unfolding stream_at
exact-stream =
    exact-keyword (codes "register") (exact-keyword (codes "stream") (exact-seen made_stream (exact-both exact-plain exact-fields (λ y ts rest h d. tt))))

query-begins : (v : UnitForm) (ts rest : List Tok) → IsQueryUnit v ts → is_keyword_at (codes "register") (ts ++ rest) ≡ false
query-begins v ts rest h = rw h.is (other_word (codes "query") (codes "register") h.spelled h.same refl)

-- a unit is read exactly
pub exact-part : Exact IsUnit unit_at Any
unfolding unit_at
exact-part =
    exact-less (exact-merged (is_keyword_at (codes "register")) exact-stream exact-query
    (λ v ts rest h d. keyword-at _ (codes "register") v ts rest h) (λ v ts rest h d. query-begins v ts rest h)) (λ rest d. (tt, tt))

-- units are read exactly, wherever they stand
pub exact-part_from : (u : Unit {0}) → Exact (IsUnitAt u) unit_at Any
exact-part_from u = exact-part
