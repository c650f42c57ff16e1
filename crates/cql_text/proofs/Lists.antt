-- The steps by which code reads lists with commas.
use Rattle.std.proofs.Common.{◌≡◌, ◌≤◌, ◌+◌, List, [], ◌∷◌, ◌++◌, length, true, Some, ap, ◌∙◌, arith, length-append}
use Rattle.text_tokens.specs.Tok.{Tok}
use Rattle.text_tokens.specs.declared.sign.Symbol.TheVariants as s
use Rattle.text_forms.specs.Parse as parse
use Rattle.text_forms.specs.Repeat.{repeated}
use Rattle.text_forms.specs.Tail.{tail}
use Rattle.text_forms.proofs.Exact.{Exact}
use Rattle.text_forms.proofs.Many.{comma-next, comma-stop, comma-bad}
use Rattle.text_forms.proofs.Symbols.{taken-shorter}
use Rattle.cql_text.specs.Reading.{source_at, column_at}
use Rattle.cql_text.specs.Tree.{Name, Source, Column}
use Rattle.cql_text.specs.Words.{plain_at}
use Rattle.cql_text.proofs.Units.{exact-source, comma-source, exact-column, comma-column}
use Rattle.cql_text.proofs.Words.{exact-plain}

-- what is read exactly leaves no more tokens than there were
shorter : {A : Type 0} {F : A → List Tok → Type 0} {p : parse.Parse A} {E : List Tok → Type 0} → Exact F p E → (ts us : List Tok) (v : A) → p ts ≡ Some (v, us)
    → length us ≤ length ts
shorter x ts us v e =
    let f = x.sound ts v us e in
    let size : length ts ≡ length f.front + length us = ap length f.is ∙ length-append f.front us in
    omega arith

-- a name behind a comma is one name more
pub names-next : (done : List Name) (ts us : List Tok) (v : Name) → parse.begins_with s.Comma ts ≡ true → plain_at (tail ts) ≡ Some (v, us)
    → repeated (parse.comma_turn plain_at) (done ++ v ∷ []) us ≡ repeated (parse.comma_turn plain_at) done ts
names-next = comma-next exact-plain (λ rest. tt)

-- a name that is read leaves no more tokens
pub name-shorter : (ts us : List Tok) (v : Name) → plain_at ts ≡ Some (v, us) → length us ≤ length ts
name-shorter = shorter exact-plain

pub ruleset names = (names-next, name-shorter, taken-shorter, comma-stop, comma-bad)

pub sources-next : (done : List Source) (ts us : List Tok) (v : Source) → parse.begins_with s.Comma ts ≡ true → source_at (tail ts) ≡ Some (v, us)
    → repeated (parse.comma_turn source_at) (done ++ v ∷ []) us ≡ repeated (parse.comma_turn source_at) done ts
sources-next = comma-next exact-source comma-source

-- an item that is read leaves no more tokens
pub source-shorter : (ts us : List Tok) (v : Source) → source_at ts ≡ Some (v, us) → length us ≤ length ts
source-shorter = shorter exact-source

pub ruleset sources = (source-shorter, taken-shorter, comma-stop, comma-bad)

pub columns-next : (done : List Column) (ts us : List Tok) (v : Column) → parse.begins_with s.Comma ts ≡ true → column_at (tail ts) ≡ Some (v, us)
    → repeated (parse.comma_turn column_at) (done ++ v ∷ []) us ≡ repeated (parse.comma_turn column_at) done ts
columns-next = comma-next exact-column comma-column

-- a column that is read leaves no more tokens
pub column-shorter : (ts us : List Tok) (v : Column) → column_at ts ≡ Some (v, us) → length us ≤ length ts
column-shorter = shorter exact-column

pub ruleset columns = (column-shorter, taken-shorter, comma-stop, comma-bad)
