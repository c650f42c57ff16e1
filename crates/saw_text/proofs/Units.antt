-- The reading of units is exact.
use Rattle.std.proofs.Common.{◌≡◌, ℕ, List, [], ◌∷◌, true, false, refl}
use Rattle.std.specs.Prelude.{codes}
use Rattle.std.specs.Str.{bytes_eq}
use Rattle.text_forms.specs.Forms.{Count}
use Rattle.text_tokens.specs.declared.sign.Symbol.TheVariants as s
use Rattle.text_forms.specs.Parse as parse
use Rattle.text_forms.specs.Forms as form
use Rattle.text_forms.proofs.Exact.{Exact, Any, exact-less, exact-both, exact-after, exact-before, exact-after_word, exact-tested, exact-seen, exact-merged}
use Rattle.text_forms.proofs.Exact.{exact-maybe, exact-number, exact-nothing}
use Rattle.text_forms.proofs.Many.{exact-many}
use Rattle.text_forms.proofs.Choices.{exact-never, exact-choose, exact-headed}
use Rattle.saw_text.specs.declared.tree.Kind.TheVariants.{Sum, Collection, Maximum}
use Rattle.saw_text.specs.Tree.{TableUnit, StatementUnit}
use Rattle.saw_text.specs.Grammar.{nameless, field_named, IsField, IsKind, is_fitting, made_table, IsTable, TypedAfter, UnitNamed}
use Rattle.saw_text.specs.Grammar.{IsUnit, IsUnitAt}
use Rattle.saw_text.specs.Reading.{named_field_at, field_after, field_at, column_at, columns_at, best_at, kind_after, kind_at}
use Rattle.saw_text.specs.Reading.{weight_field_at, in_table_at, table_at, typed_after, typed_at, unit_named, unit_after, unit_at, unit_from}
use Rattle.text_blocks.proofs.Statements.{NoElse}
use Rattle.text_blocks.specs.Parts.{Round, Square}
use Rattle.text_blocks.proofs.Parts.{exact-round, exact-square}
use Rattle.text_blocks.proofs.Statements.{exact-rest}
use Rattle.saw_text.specs.Blocks.{no_bracket}
use Rattle.saw_text.specs.Words.{is_user}
use Rattle.saw_text.specs.ExactStatements.{exact-declare, exact-assign, listed-squares, exact-sawzall}

exact-named_field : (w : List ℕ)
    → Exact (form.Seen (field_named w) (form.After (s.Colon ∷ []) (form.AfterWord (codes "int") (form.Nothing tt)))) (named_field_at w) Any
unfolding named_field_at
exact-named_field w = exact-seen (field_named w) (exact-after (s.Colon ∷ []) (exact-after_word (codes "int") (exact-nothing tt)))

pub exact-field : Exact IsField field_at Any
unfolding field_at field_after
exact-field = exact-headed (λ w. exact-choose (bytes_eq w (codes "int")) (exact-nothing nameless) (exact-choose (is_user w) (exact-named_field w) exact-never))

-- an index in square brackets is read exactly
pub exact-column : (n : ℕ) → Exact (Square (λ m. IsField) n) (column_at n) Any
unfolding column_at
exact-column n = exact-square (λ m. exact-field) (λ rest. tt) n

exact-columns : (n : ℕ) → Exact (form.Many (Square (λ m. IsField) n)) (columns_at n) (λ rest. no_bracket rest ≡ true)
unfolding columns_at
exact-columns n = exact-less (exact-many no_bracket (exact-column n) (listed-squares (λ m. IsField) n)) (λ rest d. (tt, d))

exact-best : (n : ℕ) → Exact (Round (λ m. Count) n) (best_at n) Any
unfolding best_at
exact-best n = exact-round (λ m. exact-tested parse.is_count exact-number) (λ rest. tt) n

exact-kind : (n : ℕ) → Exact (IsKind n) (kind_at n) Any
unfolding kind_at kind_after
exact-kind n =
    exact-headed (λ w. exact-choose (bytes_eq w (codes "sum")) (exact-nothing Sum)
    (exact-choose (bytes_eq w (codes "collection")) (exact-nothing Collection)
    (exact-choose (bytes_eq w (codes "maximum")) (exact-seen Maximum (exact-best n)) exact-never)))

exact-weight_field : Exact (form.Maybe (form.AfterWord (codes "weight") IsField)) weight_field_at (λ rest. parse.is_word_at (codes "weight") rest ≡ false)
unfolding weight_field_at
exact-weight_field =
    exact-less (exact-maybe (parse.is_word_at (codes "weight")) (exact-after_word (codes "weight") exact-field) (λ v ts rest h. rw h.is refl))
    (λ rest d. (tt, d))

pub exact-table : (w : List ℕ) (n : ℕ) → Exact (IsTable w n) (table_at w n) Any
unfolding table_at in_table_at
exact-table w n =
    exact-tested is_fitting (exact-seen (made_table w) (exact-both (exact-kind n) (exact-both (exact-columns n) (exact-after_word (codes "of")
    (exact-both exact-field (exact-before (s.Semicolon ∷ []) exact-weight_field (λ rest. refl)) (λ y ts rest g d. tt))) (λ y ts rest g d. rw g.is refl))
    (λ y ts rest g d. tt)))

exact-typed : (w : List ℕ) (n : ℕ) → Exact (form.Headed (TypedAfter w n)) (typed_at w n) Any
unfolding typed_at typed_after
exact-typed w n =
    exact-headed (λ v. exact-choose (bytes_eq v (codes "table")) (exact-seen TableUnit (exact-table w n))
    (exact-choose (bytes_eq v (codes "int")) (exact-seen StatementUnit (exact-declare w n)) exact-never))

exact-unit_named : (w : List ℕ) (n : ℕ) → Exact (UnitNamed w n) (unit_named w n) Any
unfolding unit_named
exact-unit_named w n =
    exact-less (exact-merged (parse.begins_with s.Colon) (exact-after (s.Colon ∷ []) (exact-typed w n)) (exact-seen StatementUnit (exact-assign w n))
    (λ v ts rest h d. rw h.is refl) (λ v ts rest h d. rw h.formed.formed.is refl)) (λ rest d. (tt, tt))

-- a unit
pub exact-unit : Exact IsUnit unit_at NoElse
unfolding unit_at unit_after
exact-unit =
    exact-headed (λ w. exact-choose (is_user w) (exact-less (exact-unit_named w 128) (λ rest d. tt))
    (exact-seen StatementUnit (exact-rest exact-sawzall 16 128 w)))

-- a unit is read exactly, wherever it stands
pub exact-unit_from : (u : Unit {0}) → Exact (IsUnitAt u) (unit_from u) NoElse
exact-unit_from u = exact-unit
