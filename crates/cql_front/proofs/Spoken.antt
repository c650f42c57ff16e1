-- What the grammar gives of programs: names without `@` and of at most 40 bytes, lists that are not empty, values that are not
-- too deep.
use Rattle.std.proofs.Common.{◌≡◌, ◌<◌, ◌≤◌, true, Option, Some, None, List, [], ◌∷◌, ◌++◌, length, refl, sym, ap, ◌∙◌, subst, arith, inl, inr}
use Rattle.std.proofs.lemmas.Bool.{and_parts}
use Rattle.std.proofs.Common.{append-nil}
use Rattle.std.specs.Prelude.{IsTrue}
use Rattle.std.specs.List.{AllByRecursion}
use Rattle.text_tokens.specs.Tok.{Tok}
use Rattle.text_tokens.specs.declared.sign.Symbol.TheVariants as sign
use Rattle.text_forms.specs.Forms as form
use Rattle.text_forms.specs.Parse.{is_short}
use Rattle.cql_model.specs.Plannable.{has_no_at, AreShallowColumns, IsShallowCondition, declared_names}
use Rattle.cql_model.specs.Judged.{has_columns, AreSpoken, IsShortName, HaveShortNames}
use Rattle.cql_model.specs.Program.{streams_of, all_uses}
use Rattle.cql_text.specs.Grammar.{IsColumn, IsColumns, IsSource, IsStreamUnit, IsQueryUnit, IsUnit, IsWhere, AreUnits}
use Rattle.cql_text.specs.Tree.{Name, Scalar, scalar_depth, Source, Column, Columns, Chosen, Register, AQuery, UnitForm, Program}
use Rattle.cql_text.specs.Words.{is_plain}
use Rattle.cql_text.proofs.Words.{plain-parts}

-- NAMES

no_at : (text : Name) → is_plain text ≡ true → IsTrue (has_no_at text)
no_at text h =
    let a = and_parts (is_short 40 text) _ (plain-parts text h).1 in
    (and_parts (has_no_at text) _ a.1).0

short : (text : Name) → is_plain text ≡ true → length text ≤ 40
short text h = let a = (and_parts (is_short 40 text) _ (plain-parts text h).1).0 in grind (arith, a)

-- COLUMNS AND CONDITIONS

abbrev Shallow : Column → Type 0
Shallow c = scalar_depth c.value ≤ 64

column_shallow : (c : Column) (ts : List Tok) → IsColumn c ts → Shallow c
column_shallow c ts h = subst Shallow (sym h.is) h.formed.first.1

more_shallow : (cs : List Column) (ts : List Tok) → form.Many (form.After (sign.Comma ∷ []) IsColumn) cs ts → AllByRecursion Shallow cs
more_shallow [] ts h = tt
more_shallow (c ∷ cs) ts h = (column_shallow c h.3.back h.3.formed, more_shallow cs h.1 h.4)

some_columns : (c : Column) (cs : List Column) → has_columns (Chosen (c ∷ cs)) ≡ true
some_columns c cs = grind arith

-- columns are there, and not too deep
columns_spoken : (cs : Columns) (ts : List Tok) → IsColumns cs ts → (has_columns cs ≡ true) × AreShallowColumns cs
columns_spoken cs ts (inl h) = subst (λ (x : Columns). (has_columns x ≡ true) × AreShallowColumns x) (sym h.formed.0) (refl, tt)
columns_spoken cs ts (inr h) =
    let list = h.formed in
    let b = list.formed in
    subst (λ (x : Columns). (has_columns x ≡ true) × AreShallowColumns x) (sym (h.is ∙ ap Chosen list.is))
    (some_columns list.value.0 list.value.1, (column_shallow list.value.0 b.front b.first, more_shallow list.value.1 b.back b.second))

condition_spoken : (o : Option Scalar) (ts : List Tok) → IsWhere o ts → IsShallowCondition o
condition_spoken None ts h = tt
condition_spoken (Some e) ts h = h.formed.1

-- UNITS

abbrev PartSpoken : UnitForm → Type 0
PartSpoken p = AreSpoken (p ∷ [])

query_spoken : (p : UnitForm) (ts : List Tok) → IsQueryUnit p ts → PartSpoken p
query_spoken p ts h =
    let v = h.formed.value in
    let both = h.formed.formed in
    let parts = both.second.formed.formed in
    let columns = parts.second.first.formed in
    let behind = parts.second.second.formed in
    let items = behind.first in
    let c = columns_spoken v.1.1.0 columns.front columns.formed in
    subst PartSpoken (sym h.formed.is) (
      no_at v.0 both.first.passes,
      record {
        items = subst (λ (l : List Source). 0 < length l) (sym items.is) (omega arith);
        columns = c.0;
        values = c.1;
        condition = condition_spoken v.1.1.1.1 behind.second.front behind.second.formed;
      },
      tt,
    )

stream_spoken : (p : UnitForm) (ts : List Tok) → IsStreamUnit p ts → PartSpoken p
stream_spoken p ts h =
    let made = h.formed.formed in
    let v = made.value in
    let fields = made.formed.second.formed.formed in
    subst PartSpoken (sym made.is) (no_at v.0 made.formed.first.passes, subst (λ (l : List Name). 0 < length l) (sym fields.is) (omega arith), tt)

part_spoken : (p : UnitForm) (ts : List Tok) → IsUnit p ts → PartSpoken p
part_spoken p ts (inl h) = stream_spoken p ts h
part_spoken p ts (inr h) = query_spoken p ts h

join : (p : UnitForm) (ps : Program) → AreSpoken (p ∷ []) → AreSpoken ps → AreSpoken (p ∷ ps)
join (Register name fields) ps a b = (a.0, a.1, b)
join (AQuery q) ps a b = (a.0, a.1, b)

-- the units of a program are as the grammar says
pub spoken : (p : List UnitForm) (units : List (List Tok)) → AreUnits p units → AreSpoken p
spoken [] [] h = tt
spoken [] (u ∷ us) h = absurd h
spoken (p ∷ ps) [] h = absurd h
spoken (p ∷ ps) (u ∷ us) h = join p ps (part_spoken p u h.0) (spoken ps us h.1)

-- SHORT NAMES

source_short : (i : Source) (ts : List Tok) → IsSource i ts → IsShortName i.stream
source_short i ts h = subst (λ (j : Source). IsShortName j.stream) (sym h.is) (short h.value.0 h.formed.first.passes)

more_short : (is : List Source) (ts : List Tok) → form.Many (form.After (sign.Comma ∷ []) IsSource) is ts
    → AllByRecursion IsShortName (streams_of is)
more_short [] ts h = tt
more_short (i ∷ is) ts h = (source_short i h.3.back h.3.formed, more_short is h.1 h.4)

abbrev PartShort : UnitForm → Type 0
PartShort p = AllByRecursion IsShortName (declared_names (p ∷ [])) × AllByRecursion IsShortName (all_uses (p ∷ []))

both_all : {A : Type 0} (P : A → Type 0) (xs ys : List A) → AllByRecursion P xs → AllByRecursion P ys → AllByRecursion P (xs ++ ys)
both_all P [] ys a b = b
both_all P (x ∷ xs) ys a b = (a.0, both_all P xs ys a.1 b)

query_short : (p : UnitForm) (ts : List Tok) → IsQueryUnit p ts → PartShort p
query_short p ts h =
    let v = h.formed.value in
    let both = h.formed.formed in
    let items = both.second.formed.formed.second.second.formed.first in
    let used : AllByRecursion IsShortName (streams_of v.1.1.1.0) =
    subst (λ (l : List Source). AllByRecursion IsShortName (streams_of l)) (sym items.is)
    (source_short items.value.0 items.formed.front items.formed.first, more_short items.value.1 items.formed.back items.formed.second) in
    subst PartShort (sym h.formed.is) ((short v.0 both.first.passes, tt), both_all IsShortName (streams_of v.1.1.1.0) [] used tt)

stream_short : (p : UnitForm) (ts : List Tok) → IsStreamUnit p ts → PartShort p
stream_short p ts h = let made = h.formed.formed in subst PartShort (sym made.is) ((short made.value.0 made.formed.first.passes, tt), tt)

part_short : (p : UnitForm) (ts : List Tok) → IsUnit p ts → PartShort p
part_short p ts (inl h) = stream_short p ts h
part_short p ts (inr h) = query_short p ts h

join_short : (p : UnitForm) (ps : Program) → AllByRecursion IsShortName (declared_names (p ∷ [])) → AllByRecursion IsShortName (all_uses (p ∷ []))
    → HaveShortNames ps → HaveShortNames (p ∷ ps)
join_short (Register name fields) ps a b s = record { names = (a.0, s.names); uses = s.uses }
join_short (AQuery q) ps a b s =
    record {
      names = (a.0, s.names);
      uses =
          both_all IsShortName (streams_of q.items) (all_uses ps)
          (subst (λ (l : List Name). AllByRecursion IsShortName l) (append-nil (streams_of q.items)) b) s.uses;
    }

-- its names are short
pub shortened : (p : List UnitForm) (units : List (List Tok)) → AreUnits p units → HaveShortNames p
shortened [] [] h = record { names = tt; uses = tt }
shortened [] (u ∷ us) h = absurd h
shortened (p ∷ ps) [] h = absurd h
shortened (p ∷ ps) (u ∷ us) h = let f = part_short p u h.0 in join_short p ps f.0 f.1 (shortened ps us h.1)
