-- How programs are read: the grammar in the words of reading functions.
use Rattle.std.specs.Prelude.{ℕ, List, [], ◌∷◌, Option, None, Result, codes, if◌then◌else◌}
use Rattle.std.specs.Str.{bytes_eq}
use Rattle.text_tokens.specs.Tok.{Tok}
use Rattle.text_tokens.specs.declared.sign.Symbol.TheVariants as s
use Rattle.text_forms.specs.AllUnits.{all_units, by_units, text_by}
use Rattle.text_forms.specs.declared.text_fault.TextFault.{TextFault}
use Rattle.text_forms.specs.Parse.{Parse, begins_with, is_word_at, count_at, nothing_at, both, after, before, after_word, tested, seen, merged, maybe}
use Rattle.text_forms.specs.Parse.{many, headed}
use Rattle.saw_text.specs.declared.tree.Kind.{Kind}
use Rattle.saw_text.specs.declared.tree.Kind.TheVariants.{Sum, Collection, Maximum}
use Rattle.saw_text.specs.declared.tree.Field.{Field}
use Rattle.text_blocks.specs.Reading.{rest_at}
use Rattle.text_blocks.specs.Parts.{round_at, square_at}
use Rattle.saw_text.specs.Blocks.{no_bracket, declare_at, assign_at, style}
use Rattle.saw_text.specs.Words.{is_user}
use Rattle.saw_text.specs.Tree.{TableForm, UnitForm, TableUnit, StatementUnit}
use Rattle.saw_text.specs.Grammar.{nameless, field_named, is_fitting, made_table}

-- TABLES

unfoldable pub named_field_at : List ℕ → Parse Field
named_field_at w ts = seen (field_named w) (after (s.Colon ∷ []) (after_word (codes "int") (nothing_at tt))) ts

unfoldable pub field_after : List ℕ → Parse Field
field_after w ts =
    if bytes_eq w (codes "int") then nothing_at nameless ts
    else if is_user w then named_field_at w ts
    else None

unfoldable pub field_at : Parse Field
field_at ts = headed field_after ts

-- a field in square brackets
unfoldable pub column_at : ℕ → Parse Field
column_at n ts = square_at (λ m. field_at) n ts

unfoldable pub columns_at : ℕ → Parse (List Field)
columns_at n ts = many no_bracket (column_at n) ts

unfoldable pub best_at : ℕ → Parse ℕ
best_at n ts = round_at (λ m. count_at) n ts

unfoldable pub kind_after : ℕ → List ℕ → Parse Kind
kind_after n w ts =
    if bytes_eq w (codes "sum") then nothing_at Sum ts
    else if bytes_eq w (codes "collection") then nothing_at Collection ts
    else if bytes_eq w (codes "maximum") then seen Maximum (best_at n) ts
    else None

unfoldable pub kind_at : ℕ → Parse Kind
kind_at n ts = headed (kind_after n) ts

-- "weight" and a field, or nothing
unfoldable pub weight_field_at : Parse (Option Field)
weight_field_at ts = maybe (is_word_at (codes "weight")) (after_word (codes "weight") field_at) ts

unfoldable pub in_table_at : List ℕ → ℕ → Parse TableForm
in_table_at name n ts =
    seen (made_table name) (both (kind_at n) (both (columns_at n) (after_word (codes "of") (both field_at (before weight_field_at (s.Semicolon ∷ [])))))) ts

unfoldable pub table_at : List ℕ → ℕ → Parse TableForm
table_at name n ts = tested is_fitting (in_table_at name n) ts

-- UNITS

unfoldable pub typed_after : List ℕ → ℕ → List ℕ → Parse UnitForm
typed_after name n w ts =
    if bytes_eq w (codes "table") then seen TableUnit (table_at name n) ts
    else if bytes_eq w (codes "int") then seen StatementUnit (declare_at name n) ts
    else None

unfoldable pub typed_at : List ℕ → ℕ → Parse UnitForm
typed_at name n ts = headed (typed_after name n) ts

unfoldable pub unit_named : List ℕ → ℕ → Parse UnitForm
unit_named w n ts = merged (begins_with s.Colon) (after (s.Colon ∷ []) (typed_at w n)) (seen StatementUnit (assign_at w n)) ts

unfoldable pub unit_after : ℕ → List ℕ → Parse UnitForm
unit_after n w ts = if is_user w then unit_named w n ts else seen StatementUnit (rest_at style 16 n w) ts

unfoldable pub unit_at : Parse UnitForm
unit_at ts = headed (unit_after 128) ts

abbrev pub unit_from : Unit {0} → Parse UnitForm
unit_from u = unit_at

-- the units of a text
abbrev pub units_in : List (List Tok) → Result (List UnitForm) ℕ
units_in us = all_units unit_at us

-- what is read of a text
abbrev pub program_in : List ℕ → Result (List UnitForm) TextFault
program_in text = text_by (by_units units_in) text
